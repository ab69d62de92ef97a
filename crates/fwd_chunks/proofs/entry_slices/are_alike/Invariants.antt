use Rattle.std.proofs.Common.{◌≡◌, length}
use Rattle.fwd_chunks.proofs.entry_slices.are_alike.Given as goal

-- where what is left is the same, all is
abbrev pub invariant-loop-first : goal.invariant-loop-first
invariant-loop-first l = record { same : l.left ≡ l.right → l.fn.left ≡ l.fn.right }

abbrev pub decreases-loop-first : goal.decreases-loop-first
decreases-loop-first l = length l.left
