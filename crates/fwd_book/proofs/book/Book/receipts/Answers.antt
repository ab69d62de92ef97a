use Rattle.std.proofs.Common.{◌≡◌, List, [], ◌∷◌, get_or, sym, ap, ◌∙◌}
use Rattle.std.specs.Prelude.{option_to_list}
use Rattle.fwd_modes.specs.declared.origin.Origin.{Origin}
use Rattle.fwd_book.specs.History.{request_at}
use Rattle.fwd_book.specs.Receipts.{Receipt, receipt_if}
use Rattle.fwd_book.specs.Live.{LiveBook}
use Rattle.fwd_book.proofs.Facts.{apart}
use Rattle.fwd_book.proofs.Gathering.{given-some, none-settled}
use Rattle.fwd_book.proofs.book.Book.receipts.Goals as goal

abbrev d : Origin
d = record { conn = 0; request = 0 }

pub returns-in_err-receipt-clause-none : goal.returns-in_err-receipt-clause-none
returns-in_err-receipt-clause-none c = λ none.
    absurd (apart (c.in_err-receipt.ensures.none (none-settled c.args.self.now.live c.args.origins.now c.loop-origin.origin-index d c.loop-origin-test.true none)))

pub returns-in_err-reserve-clause-none : goal.returns-in_err-reserve-clause-none
returns-in_err-reserve-clause-none c = λ none.
    let b : LiveBook = c.args.self.now.live in
    let f : Origin → List Receipt = λ o. receipt_if b.settled (request_at b.requests o) in
    let one : f (get_or c.args.origins.now c.loop-origin.origin-index d) ≡ c.in-Some.receipt ∷ [] = sym c.in_ok-receipt.ensures.given ∙ ap option_to_list c.in-Some.is in
    absurd (given-some f c.args.origins.now c.loop-origin.origin-index d c.in-Some.receipt c.loop-origin-test.true one none)

pub returns-in_err-push-clause-none : goal.returns-in_err-push-clause-none
returns-in_err-push-clause-none c = λ none.
    let b : LiveBook = c.args.self.now.live in
    let f : Origin → List Receipt = λ o. receipt_if b.settled (request_at b.requests o) in
    let one : f (get_or c.args.origins.now c.loop-origin.origin-index d) ≡ c.in-Some.receipt ∷ [] = sym c.in_ok-receipt.ensures.given ∙ ap option_to_list c.in-Some.is in
    absurd (given-some f c.args.origins.now c.loop-origin.origin-index d c.in-Some.receipt c.loop-origin-test.true one none)
