use Rattle.fwd_chunks.proofs.Runs.{reached-sound}
use Rattle.fwd_chunks.proofs.laws.reached_is_sound.Goals as goal

pub returns : goal.returns
returns c setting h first fits is = reached-sound setting h first fits is
