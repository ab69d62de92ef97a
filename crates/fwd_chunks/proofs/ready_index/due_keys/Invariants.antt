use Rattle.std.proofs.Common.{◌≡◌, map, take}
use Rattle.fwd_chunks.specs.Slots.{present, due_key}
use Rattle.fwd_chunks.proofs.ready_index.due_keys.Given as goal

abbrev pub invariant-loop-place : goal.invariant-loop-place
invariant-loop-place l = l.keys.items ≡ map due_key (present (take l.place l.slab.slots))
