use Rattle.std.proofs.Common.{◌≡◌, ℕ, List, ap, ◌∙◌}
use Rattle.std.specs.Prelude.{is_some}
use Rattle.std.specs.List.{list_all}
use Rattle.fwd_book.specs.History.{Entered, is_settled}
use Rattle.fwd_book.specs.Live.{BookState, found_for, settled_if, live_is_settled}
use Rattle.fwd_book.specs.ChunkRefs.{ChunkRef, found_at}
use Rattle.fwd_book.proofs.Keeping.{settled-alike}
use Rattle.fwd_book.proofs.book.Book.is_settled.Goals as goal

pub returns-in-Some : goal.returns-in-Some
returns-in-Some c =
    let notes : List (ℕ × ChunkRef) = c.self.inside.chunk_refs.notes in
    let qs : List Entered = c.self.inside.requests.items in
    let q : Entered = c.in-Some.kept.now in
    let all : c.has_all.result ≡ is_settled (found_for (found_at notes) qs) q =
    c.has_all.ensures ∙ ap (list_all (λ s. is_some (found_at notes s.number))) c.spans.ensures ∙ settled-alike notes qs q c.self.invariant.0 in
    all ∙ ap (settled_if (found_for (found_at notes) qs)) c.in-Some.ensures
    ∙ ap (λ (s : BookState). live_is_settled s.live c.args.origin) c.self.view_is
