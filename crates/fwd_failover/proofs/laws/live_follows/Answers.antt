use Rattle.fwd_failover.proofs.Kept.{live-looked, live-lost, live-settled}
use Rattle.fwd_failover.proofs.laws.live_follows.Goals as goal

pub returns-clause-looked : goal.returns-clause-looked
returns-clause-looked c = λ s h now. live-looked s h now

pub returns-clause-lost : goal.returns-clause-lost
returns-clause-lost c = λ s h server now fits. live-lost s h server now fits

pub returns-clause-settled : goal.returns-clause-settled
returns-clause-settled c = λ s h server. live-settled s h server
