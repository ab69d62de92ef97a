use Rattle.std.proofs.Common.{◌+◌, ◌*◌, ◌<◌, ◌≤◌, length}
use Rattle.fwd_msgpack.specs.Flat.{AreInARow}
use Rattle.fwd_msgpack.proofs.flat.pairs_end.Given as goal

-- so many pairs end at the place, if it is within the bytes
abbrev pub invariant-loop-place : goal.invariant-loop-place
invariant-loop-place l = record {
  near : l.used < length l.bytes + 258;
  row : l.used ≤ length l.bytes
      → AreInARow l.fn.limits.depth (2 * l.place) l.bytes l.fn.from l.used;
}
