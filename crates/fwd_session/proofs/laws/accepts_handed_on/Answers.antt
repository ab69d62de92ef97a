use Rattle.fwd_session.proofs.Accepting.{acknowledged, joins, keeps_room}
use Rattle.fwd_session.proofs.laws.accepts_handed_on.Goals as goal

pub returns-clause-acknowledged : goal.returns-clause-acknowledged
returns-clause-acknowledged c s bytes = acknowledged s bytes

pub returns-clause-joins : goal.returns-clause-joins
returns-clause-joins c s bytes up = joins s bytes up

pub returns-clause-room : goal.returns-clause-room
returns-clause-room c s bytes = keeps_room s bytes
