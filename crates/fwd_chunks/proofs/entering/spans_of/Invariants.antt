use Rattle.std.proofs.Common.{◌≡◌, ◌++◌, take, map}
use Rattle.std.specs.Prelude.{option_to_list}
use Rattle.fwd_chunks.specs.Filling.{span_of}
use Rattle.fwd_chunks.proofs.entering.spans_of.Given as goal

abbrev pub invariant-loop-chunk : goal.invariant-loop-chunk
invariant-loop-chunk l = l.spans ≡ option_to_list l.fn.joined ++ map span_of (take l.chunk-index l.fresh)
