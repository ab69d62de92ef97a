use Rattle.std.proofs.Common.{map, sym, subst, ◌∙◌}
use Rattle.fwd_history.specs.Histories.{Comes}
use Rattle.fwd_reader.specs.OpenConnections.{sources_in}
use Rattle.fwd_reader.specs.OpenTickets.{all_due}
use Rattle.fwd_reader.specs.Promises.{TellsPromised}
use Rattle.fwd_reader.specs.Rounds.{CollectsTimes}
use Rattle.fwd_reader.proofs.Answering as answering
use Rattle.fwd_reader.proofs.Collecting.{another_time, no_times}
use Rattle.fwd_reader.proofs.Told.{further, no_further, nothing, on}
use Rattle.fwd_reader.proofs.router.Router.collect_all.Goals as goal

pub loop-init : goal.loop-init
loop-init g c = (
  c.settle_all.ensures.routes,
  nothing c.args.self.now.routes c.settle_all.new.self.reached
      (sources_in c.args.connections.now),
  subst
      (λ stores. CollectsTimes 0 (map all_due c.args.self.now.stores)
      (sources_in c.args.connections.now) stores (sources_in c.args.connections.now))
      (sym c.settle_all.ensures.due)
      (no_times (map all_due c.args.self.now.stores) (sources_in c.args.connections.now)),
  answering.no_times c.args.self.now c.settle_all.new.self (sources_in c.args.connections.now)
      c.settle_all.ensures.due c.settle_all.ensures.owed,
  subst (λ past. Comes c.args.self.now.reached past) (sym c.settle_all.ensures.reached)
      (no_further c.args.self.now.reached),
)

pub loop-preserved : goal.loop-preserved
loop-preserved g c = (
  c.collect.ensures.routes ∙ c.loop.invariant.0,
  on c.args.self.now.routes c.loop.self.reached c.collect.new.self.reached
      (sources_in c.args.connections.now) (sources_in c.loop.connections)
      (sources_in c.collect.new.connections) c.loop.invariant.1 c.collect.ensures.onward
      (subst
      (λ routes. TellsPromised routes c.collect.new.self.reached
      (sources_in c.loop.connections) (sources_in c.collect.new.connections))
      c.loop.invariant.0 c.collect.ensures.promised),
  another_time c.loop.counter (map all_due c.args.self.now.stores) c.loop.self.stores
      c.collect.new.self.stores (sources_in c.args.connections.now)
      (sources_in c.loop.connections) (sources_in c.collect.new.connections) c.collect.result
      c.loop.invariant.2 (c.is_due.ensures.due c.if-not-is_due.false) c.collect.ensures.each,
  answering.another_time c.loop.counter
      (record c.args.self.now { stores = map all_due c.args.self.now.stores }) c.loop.self
      c.collect.new.self (sources_in c.args.connections.now) (sources_in c.loop.connections)
      (sources_in c.collect.new.connections) c.loop.invariant.3 c.collect.ensures.answers,
  further c.args.self.now.reached c.loop.self.reached c.collect.new.self.reached
      c.loop.invariant.4 c.collect.ensures.onward,
)
