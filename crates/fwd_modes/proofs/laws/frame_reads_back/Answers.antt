use Rattle.fwd_modes.proofs.FrameLemmas.{back}
use Rattle.fwd_modes.proofs.laws.frame_reads_back.Goals as goal

pub returns : goal.returns
returns c = back
