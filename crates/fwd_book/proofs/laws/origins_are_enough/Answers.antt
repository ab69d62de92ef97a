use Rattle.fwd_book.proofs.Whose.{leaves-passed, receipts-passed}
use Rattle.fwd_book.proofs.laws.origins_are_enough.Goals as goal

pub returns-clause-receipts : goal.returns-clause-receipts
returns-clause-receipts c = λ b test sound. receipts-passed b test sound.apart

pub returns-clause-leaves : goal.returns-clause-leaves
returns-clause-leaves c = λ b test sound. leaves-passed b test sound.apart
