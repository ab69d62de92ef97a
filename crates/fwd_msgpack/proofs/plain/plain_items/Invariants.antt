use Rattle.std.proofs.Common.{◌≡◌, ◌-◌, ◌<◌, ◌≤◌, length}
use Rattle.fwd_msgpack.specs.Plain.{AreMembers}
use Rattle.fwd_msgpack.proofs.plain.plain_items.Given as goal

abbrev pub invariant-loop-left : goal.invariant-loop-left
invariant-loop-left l = record {
  most : l.left ≤ l.most;
  inside : l.used < length l.bytes;
  none : l.left ≡ l.most → l.used ≡ 0;
  same : AreMembers l.bytes (l.most - l.left) l.used;
}

abbrev pub decreases-loop-left : goal.decreases-loop-left
decreases-loop-left l = l.left
