use Rattle.std.proofs.Common.{arith}
use Rattle.std.proofs.lemmas.Grind.{common_steps}
use Rattle.fwd_failover.proofs.Histories.{settled_on}
use Rattle.fwd_failover.proofs.servers.Servers.settled.Goals as goal

pub returns-clause-after : goal.returns-clause-after
returns-clause-after c = grind (arith, common_steps)

pub returns-clause-history : goal.returns-clause-history
returns-clause-history c = λ s h shows. settled_on s h _ _ c.args.server (returns-clause-after c) shows
