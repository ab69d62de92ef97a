use Rattle.std.proofs.Common.{◌≡◌, ◌≤◌, ◌+◌, ℕ, Some, cond, length, take}
use Rattle.std.specs.Prelude.{◌==◌}
use Rattle.std.specs.List.{list_any}
use Rattle.fwd_book.specs.ChunkRefs.{note_at, used_more}
use Rattle.fwd_book.proofs.book.use_all.Given as goal

-- the numbers of the runs so far are noted, and there is room for the others
abbrev pub invariant-loop-span : goal.invariant-loop-span
invariant-loop-span l = record {
  noted : (n : ℕ) → note_at n l.chunk_refs.notes ≡ cond (list_any (λ s. s.number == n) (take l.span-index l.spans)) (Some (used_more (note_at n l.fn.chunk_refs.notes))) (note_at n l.fn.chunk_refs.notes);
  room : length l.spans ≤ l.chunk_refs.room + l.span-index;
}
