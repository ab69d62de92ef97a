use Rattle.fwd_monitor.proofs.ReplyLemmas.{begins-good, begun-few, due-one, must-none}
use Rattle.fwd_monitor.proofs.laws.one_reply.Goals as goal

pub returns-clause-one : goal.returns-clause-one
returns-clause-one c heard is_draining reports text other due x =
    due-one heard is_draining reports text other due x

pub returns-clause-apart : goal.returns-clause-apart
returns-clause-apart c heard h x bad = begins-good heard h x bad

pub returns-clause-early : goal.returns-clause-early
returns-clause-early c heard must due = must-none heard must due

pub returns-clause-few : goal.returns-clause-few
returns-clause-few c heard more h x many = begun-few heard more h x many
