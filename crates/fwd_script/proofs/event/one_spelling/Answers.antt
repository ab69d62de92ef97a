use Rattle.fwd_script.proofs.Spelling.{event_of-some}
use Rattle.fwd_script.proofs.event.one_spelling.Goals as goal

pub returns : goal.returns
returns c = event_of-some
