use Rattle.std.proofs.Common.{◌≡◌, ℕ, List, ap, ◌∙◌}
use Rattle.std.specs.Prelude.{map, filter, ◌&&◌}
use Rattle.fwd_book.specs.History.{Entered, is_of}
use Rattle.fwd_book.specs.Live.{BookState, live_due}
use Rattle.fwd_book.specs.ChunkRefs.{ChunkRef, are_found}
use Rattle.fwd_book.proofs.Keeping.{settled-alike}
use Rattle.fwd_book.proofs.book.Book.due.Goals as goal

pub returns-clause-due : goal.returns-clause-due
returns-clause-due c =
    let notes : List (ℕ × ChunkRef) = c.self.inside.chunk_refs.notes in
    let qs : List Entered = c.self.inside.requests.items in
    let found : map (λ q. q.origin) (filter (λ q. is_of c.args.conn q && are_found notes q) qs) ≡ map (λ q. q.origin) (live_due c.args.self.now.live c.args.conn) =
    (λ i. map (λ (q : Entered). q.origin) (filter (λ q. is_of c.args.conn q && settled-alike notes qs q c.self.invariant.0 i) qs))
    ∙ ap (λ (s : BookState). map (λ (q : Entered). q.origin) (live_due s.live c.args.conn)) c.self.view_is in
    rw found at c.origins.ensures.asked

pub returns-clause-none : goal.returns-clause-none
returns-clause-none c = λ none.
    let notes : List (ℕ × ChunkRef) = c.self.inside.chunk_refs.notes in
    let qs : List Entered = c.self.inside.requests.items in
    c.origins.ensures.none
    ((λ i. filter (λ q. is_of c.args.conn q && settled-alike notes qs q c.self.invariant.0 i) qs)
    ∙ ap (λ (s : BookState). live_due s.live c.args.conn) c.self.view_is ∙ none)
