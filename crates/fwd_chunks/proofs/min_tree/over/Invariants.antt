use Rattle.fwd_chunks.proofs.min_tree.over.Given as goal
use Rattle.std.proofs.Common.{◌≡◌, ◌+◌, ◌*◌, ◌<◌, ℕ, length, vec_capacity}
use Rattle.fwd_chunks.specs.Levels.{key_at, lesser}

abbrev pub invariant-loop-place : goal.invariant-loop-place
invariant-loop-place l = record {
  count : length l.above.items ≡ l.place;
  room : vec_capacity l.above ≡ l.count;
  keys : (k : ℕ) → k < l.place
      → key_at l.above.items k ≡ lesser (key_at l.below (2 * k)) (key_at l.below (2 * k + 1));
}
