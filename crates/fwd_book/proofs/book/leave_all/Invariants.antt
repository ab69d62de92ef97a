use Rattle.std.proofs.Common.{◌≡◌, ◌≤◌, ℕ, cond, take}
use Rattle.std.specs.Prelude.{◌==◌}
use Rattle.std.specs.List.{list_any}
use Rattle.fwd_book.specs.ChunkRefs.{note_at, used_less}
use Rattle.fwd_book.proofs.book.leave_all.Given as goal

-- the numbers of the runs so far are noted, and no room is lost
abbrev pub invariant-loop-span : goal.invariant-loop-span
invariant-loop-span l = record {
  noted : (n : ℕ) → note_at n l.chunk_refs.notes ≡ cond (list_any (λ s. s.number == n) (take l.span-index l.spans)) (used_less (note_at n l.fn.chunk_refs.notes)) (note_at n l.fn.chunk_refs.notes);
  room : l.fn.chunk_refs.room ≤ l.chunk_refs.room;
}
