use Rattle.std.proofs.Common.{◌≡◌, ℕ, List, subst}
use Rattle.fwd_book.specs.History.{Entered, evidence_of}
use Rattle.fwd_book.specs.Live.{BookState, found_for, evidence_for}
use Rattle.fwd_book.specs.ChunkRefs.{ChunkRef, found_at}
use Rattle.fwd_book.proofs.Found.{for-alike}
use Rattle.fwd_book.proofs.Keeping.{shown-found}
use Rattle.fwd_book.proofs.book.Book.is_sound.Goals as goal

pub returns-clause-kept : goal.returns-clause-kept
returns-clause-kept c =
    let notes : List (ℕ × ChunkRef) = c.self.inside.chunk_refs.notes in
    let qs : List Entered = c.self.inside.requests.items in
    subst (λ (s : BookState). evidence_for s.live.requests s.live.settled ≡ s.live.settled) c.self.view_is
    (for-alike (evidence_of (found_for (found_at notes) qs)) (found_at notes) qs (λ n some. shown-found notes qs c.self.invariant.0 n))
