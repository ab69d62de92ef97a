use Rattle.std.proofs.Common.{arith}
use Rattle.fwd_modes.proofs.FrameLemmas.{frame_value}
use Rattle.fwd_modes.proofs.laws.frame_is_value.Goals as goal

pub returns : goal.returns
returns c = λ deep frame is. frame_value deep frame.tag frame.entries frame.name is.tag is.name is.entries (omega (arith, is.size))
