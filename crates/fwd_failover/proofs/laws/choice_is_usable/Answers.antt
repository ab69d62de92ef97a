use Rattle.fwd_failover.proofs.Firsts.{choice-usable, choice-none, choice-standby}
use Rattle.fwd_failover.proofs.laws.choice_is_usable.Goals as goal

pub returns-clause-usable : goal.returns-clause-usable
returns-clause-usable c = λ s h worker moment server e. choice-usable s h worker moment server e

pub returns-clause-none : goal.returns-clause-none
returns-clause-none c = λ s h worker moment e server lt. choice-none s h worker moment e server lt

pub returns-clause-standby : goal.returns-clause-standby
returns-clause-standby c = λ s h worker moment server e is_standby primary is_primary. choice-standby s h worker moment server e is_standby primary is_primary
