use Rattle.std.proofs.Common.{◌≡◌, Bool, true, false, List, refl, ap, ◌∙◌}
use Rattle.std.specs.Prelude.{map, filter, ◌&&◌}
use Rattle.fwd_book.specs.History.{Entered, is_of}
use Rattle.fwd_book.specs.Live.{BookState}
use Rattle.fwd_book.proofs.Following.{filter-alike}
use Rattle.fwd_book.proofs.book.Book.untold.Goals as goal

and-true : (a : Bool) → (a && true) ≡ a
and-true true = refl
and-true false = refl

pub returns : goal.returns
returns c =
    let qs : List Entered = c.self.inside.requests.items in
    let all : map (λ q. q.origin) (filter (λ q. is_of c.args.conn q && true) qs) ≡ map (λ q. q.origin) (filter (is_of c.args.conn) c.args.self.now.live.requests) =
    ap (map (λ (q : Entered). q.origin)) (filter-alike (λ q. is_of c.args.conn q && true) (is_of c.args.conn) qs (λ i q at. and-true (is_of c.args.conn q)))
    ∙ ap (λ (s : BookState). map (λ (q : Entered). q.origin) (filter (is_of c.args.conn) s.live.requests)) c.self.view_is in
    rw all at c.origins.ensures.asked
