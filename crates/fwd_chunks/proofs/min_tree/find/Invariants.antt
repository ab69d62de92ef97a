use Rattle.fwd_chunks.proofs.min_tree.find.Given as goal
use Rattle.std.proofs.Common.{◌<◌, length}
use Rattle.fwd_chunks.specs.Levels.{keys_at}
use Rattle.fwd_chunks.proofs.Descent.{IsFirst}

abbrev pub invariant-loop-level : goal.invariant-loop-level
invariant-loop-level l = record {
  inside : l.level < length l.levels;
  first : IsFirst l.limit (keys_at l.levels l.level) l.place;
}
