use Rattle.fwd_script.proofs.FirstBad.{bad_line-first}
use Rattle.fwd_script.proofs.stepping.bad_line_is_first.Goals as goal

pub returns : goal.returns
returns c = bad_line-first
