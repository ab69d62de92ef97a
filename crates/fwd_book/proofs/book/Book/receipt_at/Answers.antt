use Rattle.std.proofs.Common.{◌≡◌, List, Some, sym, ap, ◌∙◌}
use Rattle.std.specs.Prelude.{option_to_list}
use Rattle.fwd_session.specs.ServerAcks.{ServerAck}
use Rattle.fwd_book.specs.History.{Entered, entered_as, is_origin, is_settled, request_at}
use Rattle.fwd_book.specs.Receipts.{receipt_of}
use Rattle.fwd_book.specs.Live.{BookState}
use Rattle.fwd_book.proofs.Facts.{origin-is}
use Rattle.fwd_book.proofs.Gathering.{when-given}
use Rattle.fwd_book.proofs.Right.{found_stands}
use Rattle.fwd_book.proofs.book.Book.receipt_at.Goals as goal

pub receipt_of-requires : goal.receipt_of-requires
receipt_of-requires c = record {
  held = (c.args.origin, sym (c.in-Some.ensures ∙ ap (λ (s : BookState). request_at s.live.requests c.args.origin) c.self.view_is));
}

pub returns-in-Some-2-clause-given : goal.returns-in-Some-2-clause-given
returns-in-Some-2-clause-given c =
    let qs : List Entered = c.self.inside.requests.items in
    let settled : List ServerAck = c.args.self.now.live.settled in
    let q : Entered = c.in-Some.kept.now in
    let stands = found_stands (λ r. is_origin c.args.origin r.origin) qs q (sym c.in-Some.ensures) in
    let origin : q.origin ≡ c.args.origin = origin-is c.args.origin q.origin stands.passes in
    let same : q ≡ entered_as c.args.batch.now c.args.origin c.args.spans.now = c.is_of.ensures.same c.if-is_of.true ∙ ap (λ o. entered_as c.args.batch.now o c.args.spans.now) origin in
    let given = when-given (is_settled settled q) c.in-Some-2.receipt (receipt_of settled q) (sym (ap option_to_list c.in-Some-2.is) ∙ c.in_ok-receipt.ensures.given) in (
      sym (c.in-Some.ensures ∙ ap (λ (s : BookState). request_at s.live.requests c.args.origin) c.self.view_is) ∙ ap Some same,
      ap (is_settled settled) (sym same) ∙ given.0,
      given.1 ∙ ap (receipt_of settled) same,
    )
