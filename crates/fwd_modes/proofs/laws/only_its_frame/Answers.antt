use Rattle.fwd_modes.proofs.FrameLemmas.{only}
use Rattle.fwd_modes.proofs.laws.only_its_frame.Goals as goal

pub returns : goal.returns
returns c = only
