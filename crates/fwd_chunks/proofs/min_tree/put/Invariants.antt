use Rattle.fwd_chunks.proofs.min_tree.put.Given as goal
use Rattle.std.proofs.Common.{◌≡◌, ◌-◌, ◌≤◌, ℕ}
use Rattle.std.proofs.Math.ListN.{set}
use Rattle.fwd_chunks.specs.Levels.{keys_at}
use Rattle.fwd_chunks.proofs.Halves.{DiffersAt}
use Rattle.fwd_chunks.proofs.Towers.{AreOver}

abbrev pub invariant-loop-level : goal.invariant-loop-level
invariant-loop-level l = record {
  over : AreOver l.levels l.level;
  last : DiffersAt l.place (keys_at l.fn.levels (l.level - 1)) (keys_at l.levels (l.level - 1));
  rest : (i : ℕ) → l.level ≤ i → keys_at l.levels i ≡ keys_at l.fn.levels i;
  first : keys_at l.levels 0 ≡ set (keys_at l.fn.levels 0) l.fn.place l.fn.key;
}
