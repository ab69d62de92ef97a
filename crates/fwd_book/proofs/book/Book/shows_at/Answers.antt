use Rattle.std.proofs.Common.{◌≡◌, List, Some, sym, ap, ◌∙◌}
use Rattle.fwd_book.specs.History.{Entered, entered_as, request_at, is_origin}
use Rattle.fwd_book.specs.Live.{BookState}
use Rattle.fwd_book.proofs.Facts.{origin-is}
use Rattle.fwd_book.proofs.Right.{found_stands}
use Rattle.fwd_book.proofs.book.Book.shows_at.Goals as goal

pub returns-in-Some-clause-shown : goal.returns-in-Some-clause-shown
returns-in-Some-clause-shown c = λ yes.
    let qs : List Entered = c.self.inside.requests.items in
    let stands = found_stands (λ q. is_origin c.args.origin q.origin) qs c.in-Some.kept.now (sym c.in-Some.ensures) in
    let origin : c.in-Some.kept.now.origin ≡ c.args.origin = origin-is c.args.origin c.in-Some.kept.now.origin stands.passes in
    ap (λ (s : BookState). request_at s.live.requests c.args.origin) (sym c.self.view_is) ∙ sym c.in-Some.ensures
    ∙ ap Some (c.is_of.ensures.same yes ∙ ap (λ o. entered_as c.args.batch.now o c.args.spans.now) origin)
