use Rattle.fwd_chunks.proofs.min_tree.tower.Given as goal
use Rattle.std.proofs.Common.{◌≡◌, ◌++◌, [], ◌∷◌, length}
use Rattle.fwd_chunks.specs.Levels.{keys_at}
use Rattle.fwd_chunks.proofs.Towers.{AreOver}

abbrev pub invariant-loop-alloc : goal.invariant-loop-alloc
invariant-loop-alloc l = record {
  over : AreOver (l.levels.items ++ l.top ∷ []) (length (l.levels.items ++ l.top ∷ []));
  first : keys_at (l.levels.items ++ l.top ∷ []) 0 ≡ l.fn.keys.items;
}

abbrev pub decreases-loop-alloc : goal.decreases-loop-alloc
decreases-loop-alloc l = length l.top.items
