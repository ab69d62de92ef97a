use Rattle.std.proofs.Common.{◌-◌, ◌≤◌, length}
use Rattle.fwd_msgpack.proofs.Counts.{Stands}
use Rattle.fwd_msgpack.proofs.counting.counted_len.Given as goal

abbrev pub invariant-loop-most : goal.invariant-loop-most
invariant-loop-most l = record {
  inside : l.end ≤ length l.bytes;
  fits : l.end ≤ l.fn.limits.bytes;
  most : l.most ≤ l.end;
  room : l.used ≤ l.most;
  stands : Stands l.fn.limits.bytes l.fn.limits.depth l.bytes l.used (l.end - l.most) l.heads;
}

abbrev pub decreases-loop-most : goal.decreases-loop-most
decreases-loop-most l = length l.bytes - l.used
