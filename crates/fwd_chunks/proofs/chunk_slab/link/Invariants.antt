use Rattle.fwd_chunks.proofs.Shelving.{Linking}
use Rattle.fwd_chunks.proofs.chunk_slab.link.Given as goal

abbrev pub invariant-loop-place : goal.invariant-loop-place
invariant-loop-place l = Linking l.place l.places l.fn.kept l.kept
