use Rattle.std.proofs.Common.{◌≡◌, ◌∙◌, Option}
use Rattle.std.specs.Prelude.{IfNone, IfSome}
use Rattle.std.proofs.lemmas.Result.{IfOk-weaker}
use Rattle.fwd_book.specs.History.{Entered, entered_as}
use Rattle.fwd_book.specs.Receipts.{Receipt}
use Rattle.fwd_output.specs.Tickets.{IsDue, entered, receipt_for}
use Rattle.fwd_output.proofs.HandingOut.{due-given, not-given}
use Rattle.fwd_output.proofs.collecting.receipt_of.Goals as goal

pub returns-clause-due : goal.returns-clause-due
returns-clause-due c =
    let b = c.args.state.now.book in
    let t = c.args.ticket.now in
    let q : Entered = entered_as c.batch.result.now c.origin.result c.spans.result.now in
    let same : q ≡ entered t = λ i. entered_as (c.batch.ensures i) (c.origin.ensures i) (c.spans.ensures i) in
    IfOk-weaker c.receipt_at.result _ (λ (x : Option Receipt). IfSome x (λ r. IsDue b t × (r ≡ receipt_for b t)))
    (λ x given. due-given b t c.origin.result q x c.origin.ensures same (c.is_here.ensures.here c.if-not-is_here.false) given)
    c.receipt_at.ensures.given

pub returns-clause-other : goal.returns-clause-other
returns-clause-other c =
    let b = c.args.state.now.book in
    let t = c.args.ticket.now in
    let q : Entered = entered_as c.batch.result.now c.origin.result c.spans.result.now in
    let same : q ≡ entered t = λ i. entered_as (c.batch.ensures i) (c.origin.ensures i) (c.spans.ensures i) in
    IfOk-weaker c.receipt_at.result _ (λ (x : Option Receipt). IfNone x (¬ (IsDue b t)))
    (λ x none. not-given b t c.origin.result q x c.origin.ensures same none)
    c.receipt_at.ensures.none
