use Rattle.std.proofs.Common.{arith}
use Rattle.std.proofs.lemmas.Grind.{common_steps}
use Rattle.fwd_failover.proofs.Histories.{lost_on}
use Rattle.fwd_failover.proofs.servers.Servers.failed.Goals as goal

pub returns-clause-after : goal.returns-clause-after
returns-clause-after c = grind (arith, common_steps)

pub returns-clause-history : goal.returns-clause-history
returns-clause-history c = λ s h shows. lost_on s h _ _ c.args.server c.args.now (rw (← c.self.view_is) (omega arith)) (returns-clause-after c) shows

pub returns-in_default-clause-after : goal.returns-in_default-clause-after
returns-in_default-clause-after c = grind (arith, common_steps)

pub returns-in_default-clause-history : goal.returns-in_default-clause-history
returns-in_default-clause-history c = λ s h shows. lost_on s h _ _ c.args.server c.args.now (rw (← c.self.view_is) (omega arith)) (returns-in_default-clause-after c) shows
