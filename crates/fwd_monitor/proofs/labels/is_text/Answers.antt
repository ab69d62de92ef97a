use Rattle.fwd_monitor.proofs.TextLemmas.{utf8-false, utf8-true}
use Rattle.fwd_monitor.proofs.labels.is_text.Goals as goal

pub returns-in-Ok : goal.returns-in-Ok
returns-in-Ok c = utf8-true c.args.bytes.now c.in-Ok.ensures.cases.1

pub returns-in-Err : goal.returns-in-Err
returns-in-Err c = utf8-false c.args.bytes.now c.in-Err.ensures.cases.0
