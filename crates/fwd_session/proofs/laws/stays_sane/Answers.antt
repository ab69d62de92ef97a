use Rattle.fwd_session.proofs.Following.{begins-sane, loads-sane, sends-sane, hears-sane, unloads-sane, looks-sane}
use Rattle.fwd_session.proofs.laws.stays_sane.Goals as goal

pub returns-clause-begins : goal.returns-clause-begins
returns-clause-begins c setup = begins-sane setup

pub returns-clause-loads : goal.returns-clause-loads
returns-clause-loads c s chunk now sane = loads-sane s chunk now sane

pub returns-clause-sends : goal.returns-clause-sends
returns-clause-sends c s count sane up few = sends-sane s count sane up few

pub returns-clause-hears : goal.returns-clause-hears
returns-clause-hears c s bytes sane = hears-sane s bytes sane

pub returns-clause-unloads : goal.returns-clause-unloads
returns-clause-unloads c s sane = unloads-sane s sane

pub returns-clause-looks : goal.returns-clause-looks
returns-clause-looks c s now sane up = looks-sane s now sane up
