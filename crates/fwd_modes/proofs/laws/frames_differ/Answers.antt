use Rattle.fwd_modes.proofs.FrameLemmas.{differ}
use Rattle.fwd_modes.proofs.laws.frames_differ.Goals as goal

pub returns : goal.returns
returns c = differ
