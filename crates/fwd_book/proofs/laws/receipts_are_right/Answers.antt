use Rattle.fwd_book.proofs.Right.{right}
use Rattle.fwd_book.proofs.laws.receipts_are_right.Goals as goal

pub returns : goal.returns
returns c = λ b origins i r sound here. right b origins i r sound here
