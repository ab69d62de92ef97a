use Rattle.fwd_modes.proofs.KeptLemmas.{request_kept}
use Rattle.fwd_modes.proofs.laws.entries_are_kept.Goals as goal

pub returns : goal.returns
returns c = request_kept
