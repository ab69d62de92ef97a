use Rattle.fwd_session.proofs.Following.{fault-down, late-down}
use Rattle.fwd_session.proofs.laws.faults_put_down.Goals as goal

pub returns-clause-fault : goal.returns-clause-fault
returns-clause-fault c s bytes fault e = fault-down s bytes fault e

pub returns-clause-late : goal.returns-clause-late
returns-clause-late c s now e = late-down s now e
