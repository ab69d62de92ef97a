use Rattle.fwd_failover.proofs.Orders.{choice_kept}
use Rattle.fwd_failover.proofs.laws.choice_by_live_part.Goals as goal

pub returns : goal.returns
returns c = λ s h worker moment fits. choice_kept s h worker moment fits
