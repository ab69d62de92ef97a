use Rattle.std.proofs.Common.{◌≡◌, ◌+◌, ◌-◌, ◌<◌, ◌≤◌, ◌^◌, length, sum}
use Rattle.fwd_msgpack.specs.Extents.{scan_behind}
use Rattle.fwd_msgpack.proofs.scan.scan_items.Given as goal

abbrev pub invariant-loop-lacking : goal.invariant-loop-lacking
invariant-loop-lacking l = record {
  inside : l.used ≤ length l.bytes;
  owed : sum l.stack < 2 ^ 32;
  fits : l.used + sum l.stack ≤ l.limits.bytes;
  same : scan_behind l.limits.bytes l.limits.depth l.used l.stack l.bytes
      ≡ scan_behind l.limits.bytes l.limits.depth 0 l.fn.stack l.bytes;
}

abbrev pub decreases-loop-lacking : goal.decreases-loop-lacking
decreases-loop-lacking l = length l.bytes - l.used
