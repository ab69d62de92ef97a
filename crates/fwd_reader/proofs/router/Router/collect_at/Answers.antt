use Rattle.std.proofs.Common.{◌≡◌, ◌∙◌, ap, subst}
use Rattle.fwd_history.specs.Histories.{Comes}
use Rattle.fwd_reader.specs.OpenConnections.{sources_in}
use Rattle.fwd_reader.specs.Owing.{owed_at_each}
use Rattle.fwd_reader.specs.Promises.{TellsPromised}
use Rattle.fwd_reader.specs.Routers.{RouterShown, stores_of}
use Rattle.fwd_reader.proofs.Answering.{then_again}
use Rattle.fwd_reader.proofs.Collecting.{then_full, then_part}
use Rattle.fwd_reader.proofs.Told.{on, further}
use Rattle.fwd_reader.proofs.router.Router.collect_at.Goals as goal

pub returns-in-Ok-try_collect-clause-once : goal.returns-in-Ok-try_collect-clause-once
returns-in-Ok-try_collect-clause-once g c = λ within.
    then_full (sources_in c.args.connections.now) (sources_in c.try_collect.new.connections)
    (sources_in c.try_collect-2.new.connections) c.in-Ok-try_collect.is_more
    c.args.self.now.stores c.try_collect-2.new.self.stores
    (record {
      routes = c.self.inside.routes.now;
      stores = stores_of c.self.inside.all.items;
      owed = owed_at_each c.self.inside.admission;
      reached = c.self.inside.reached;
    })
    c.try_collect.new.self c.args.number c.self.view_is within
    (c.in_default.ensures.part within) c.in-Ok-try_collect.ensures.whole

pub returns-in-Err-clause-once : goal.returns-in-Err-clause-once
returns-in-Err-clause-once g c = λ within.
    then_part (sources_in c.args.connections.now) (sources_in c.try_collect.new.connections)
    (sources_in c.try_collect-2.new.connections)
    c.args.self.now.stores c.try_collect-2.new.self.stores
    (record {
      routes = c.self.inside.routes.now;
      stores = stores_of c.self.inside.all.items;
      owed = owed_at_each c.self.inside.admission;
      reached = c.self.inside.reached;
    })
    c.try_collect.new.self c.args.number c.self.view_is within
    (c.in_default.ensures.part within) c.in-Err.ensures.part

pub returns-in-Ok-try_collect-clause-answers : goal.returns-in-Ok-try_collect-clause-answers
returns-in-Ok-try_collect-clause-answers g c = λ within.
    then_again (sources_in c.args.connections.now) (sources_in c.try_collect.new.connections)
    (sources_in c.try_collect-2.new.connections) c.args.answered.now
    c.try_collect.new.answered c.try_collect-2.new.answered
    c.args.self.now.stores c.try_collect-2.new.self.stores
    (record {
      routes = c.self.inside.routes.now;
      stores = stores_of c.self.inside.all.items;
      owed = owed_at_each c.self.inside.admission;
      reached = c.self.inside.reached;
    })
    c.try_collect.new.self c.args.number c.self.view_is within
    (c.in_default.ensures.answers within) c.in-Ok-try_collect.ensures.answers

pub returns-in-Err-clause-answers : goal.returns-in-Err-clause-answers
returns-in-Err-clause-answers g c = λ within.
    then_again (sources_in c.args.connections.now) (sources_in c.try_collect.new.connections)
    (sources_in c.try_collect-2.new.connections) c.args.answered.now
    c.try_collect.new.answered c.try_collect-2.new.answered
    c.args.self.now.stores c.try_collect-2.new.self.stores
    (record {
      routes = c.self.inside.routes.now;
      stores = stores_of c.self.inside.all.items;
      owed = owed_at_each c.self.inside.admission;
      reached = c.self.inside.reached;
    })
    c.try_collect.new.self c.args.number c.self.view_is within
    (c.in_default.ensures.answers within) c.in-Err.ensures.answers

pub returns-in-Ok-try_collect-clause-promised : goal.returns-in-Ok-try_collect-clause-promised
returns-in-Ok-try_collect-clause-promised g c =
    on c.args.self.now.routes c.try_collect.new.self.reached c.try_collect-2.new.self.reached
    (sources_in c.args.connections.now) (sources_in c.try_collect.new.connections)
    (sources_in c.try_collect-2.new.connections) c.try_collect.ensures.promised
    (subst (λ old. Comes old c.try_collect-2.new.self.reached)
    (ap (λ (o : RouterShown). o.reached) c.self.view_is) c.try_collect-2.ensures.onward)
    (subst
    (λ routes. TellsPromised routes c.try_collect-2.new.self.reached
    (sources_in c.try_collect.new.connections) (sources_in c.try_collect-2.new.connections))
    (ap (λ (o : RouterShown). o.routes) c.self.view_is ∙ c.try_collect.ensures.routes)
    c.try_collect-2.ensures.promised)

pub returns-in-Ok-try_collect-clause-onward : goal.returns-in-Ok-try_collect-clause-onward
returns-in-Ok-try_collect-clause-onward g c =
    further c.args.self.now.reached c.try_collect.new.self.reached
    c.try_collect-2.new.self.reached c.try_collect.ensures.onward
    (subst (λ old. Comes old c.try_collect-2.new.self.reached)
    (ap (λ (o : RouterShown). o.reached) c.self.view_is) c.try_collect-2.ensures.onward)

pub returns-in-Err-clause-promised : goal.returns-in-Err-clause-promised
returns-in-Err-clause-promised g c =
    on c.args.self.now.routes c.try_collect.new.self.reached c.try_collect-2.new.self.reached
    (sources_in c.args.connections.now) (sources_in c.try_collect.new.connections)
    (sources_in c.try_collect-2.new.connections) c.try_collect.ensures.promised
    (subst (λ old. Comes old c.try_collect-2.new.self.reached)
    (ap (λ (o : RouterShown). o.reached) c.self.view_is) c.try_collect-2.ensures.onward)
    (subst
    (λ routes. TellsPromised routes c.try_collect-2.new.self.reached
    (sources_in c.try_collect.new.connections) (sources_in c.try_collect-2.new.connections))
    (ap (λ (o : RouterShown). o.routes) c.self.view_is ∙ c.try_collect.ensures.routes)
    c.try_collect-2.ensures.promised)

pub returns-in-Err-clause-onward : goal.returns-in-Err-clause-onward
returns-in-Err-clause-onward g c =
    further c.args.self.now.reached c.try_collect.new.self.reached
    c.try_collect-2.new.self.reached c.try_collect.ensures.onward
    (subst (λ old. Comes old c.try_collect-2.new.self.reached)
    (ap (λ (o : RouterShown). o.reached) c.self.view_is) c.try_collect-2.ensures.onward)
