use Rattle.std.specs.Vec.Iter.{into_iter_len}
use Rattle.relay_scripts.proofs.outputs.drop_chunks.Given as goal

abbrev pub decreases-loop-chunk : goal.decreases-loop-chunk
decreases-loop-chunk l = into_iter_len l.rest
