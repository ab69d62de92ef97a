use Rattle.std.proofs.Common.{◌≡◌, map, take}
use Rattle.fwd_chunks.specs.Slots.{present, ready_key}
use Rattle.fwd_chunks.proofs.ready_index.ready_keys.Given as goal

abbrev pub invariant-loop-place : goal.invariant-loop-place
invariant-loop-place l = l.keys.items ≡ map (ready_key l.retry) (present (take l.place l.slab.slots))
