use Rattle.fwd_book.proofs.Following.{follows-opening, follows-enters, follows-settles, follows-tells, follows-forgets, follows-receipts, follows-owed, follows-due, follows-tells_due, follows-forgets_of, follows-owed_of}
use Rattle.fwd_book.proofs.laws.live_follows.Goals as goal

pub returns-clause-opening : goal.returns-clause-opening
returns-clause-opening c = λ setting. follows-opening setting

pub returns-clause-enters : goal.returns-clause-enters
returns-clause-enters c = λ b q fresh. follows-enters b q fresh

pub returns-clause-settles : goal.returns-clause-settles
returns-clause-settles c = λ b e. follows-settles b e

pub returns-clause-tells : goal.returns-clause-tells
returns-clause-tells c = λ b origins can. follows-tells b origins can

pub returns-clause-forgets : goal.returns-clause-forgets
returns-clause-forgets c = λ b origins. follows-forgets b origins

pub returns-clause-receipts : goal.returns-clause-receipts
returns-clause-receipts c = λ b origins. follows-receipts b origins

pub returns-clause-owed : goal.returns-clause-owed
returns-clause-owed c = λ b origins. follows-owed b origins

pub returns-clause-due : goal.returns-clause-due
returns-clause-due c = λ b conn. follows-due b conn

pub returns-clause-tells_due : goal.returns-clause-tells_due
returns-clause-tells_due c = λ b conn. follows-tells_due b conn

pub returns-clause-forgets_of : goal.returns-clause-forgets_of
returns-clause-forgets_of c = λ b conn. follows-forgets_of b conn

pub returns-clause-owed_of : goal.returns-clause-owed_of
returns-clause-owed_of c = λ b conn. follows-owed_of b conn
