use Rattle.fwd_failover.specs.Choices.{primaries, standbys}
use Rattle.fwd_failover.proofs.Turns.{order_round, order_then}
use Rattle.fwd_failover.proofs.laws.order_goes_round.Goals as goal

pub returns-clause-primaries : goal.returns-clause-primaries
returns-clause-primaries c = λ s worker turn lt. order_round (primaries s) (standbys s) worker turn lt

pub returns-clause-standbys : goal.returns-clause-standbys
returns-clause-standbys c = λ s worker turn some. order_then (primaries s) (standbys s) worker turn some
