use Rattle.fwd_book.proofs.Dues.{due-found, due-receipts}
use Rattle.fwd_book.proofs.laws.due_is_found.Goals as goal

pub returns-clause-requests : goal.returns-clause-requests
returns-clause-requests c = λ b conn sound. due-found b conn sound.apart

pub returns-clause-receipts : goal.returns-clause-receipts
returns-clause-receipts c = λ b conn sound. due-receipts b conn sound.apart
