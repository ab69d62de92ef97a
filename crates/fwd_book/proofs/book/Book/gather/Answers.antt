use Rattle.std.proofs.Common.{◌≡◌, sym, ap, ◌∙◌}
use Rattle.std.specs.Prelude.{slice_get}
use Rattle.fwd_book.specs.Gathering.{receipts_at}
use Rattle.fwd_book.specs.Live.{LiveBook}
use Rattle.fwd_book.proofs.Facts.{apart}
use Rattle.fwd_book.proofs.Dues.{none-given, none-settled}
use Rattle.fwd_book.proofs.Gathering.{ok-then}
use Rattle.fwd_book.proofs.book.Book.gather.Goals as goal

pub returns-clause-right : goal.returns-clause-right
returns-clause-right c =
    let b : LiveBook = c.args.self.now.live in
    ok-then c.receipts-2.result (λ v. v.items ≡ receipts_at b.settled b.requests c.deref.result.now) _ (λ v given i r at.
    c.receipts_are_right.ensures b c.args.origins.now i r c.is_sound.ensures.sound
    (ap (λ rs. slice_get rs i) (sym (given ∙ ap (receipts_at b.settled b.requests) (c.deref.ensures.value ∙ c.in_ok-once.ensures))) ∙ at)) c.receipts-2.ensures.given

pub returns-then-not-has_settled-clause-given : goal.returns-then-not-has_settled-clause-given
returns-then-not-has_settled-clause-given c = c.new.ensures.items ∙ sym (none-given c.args.self.now.live c.args.origins.now (sym c.if-not-has_settled.ensures))

pub returns-in_err-once-clause-none : goal.returns-in_err-once-clause-none
returns-in_err-once-clause-none c = λ none.
    absurd (apart (sym (none-settled c.args.self.now.live c.args.origins.now none) ∙ sym c.if-not-has_settled.ensures))
