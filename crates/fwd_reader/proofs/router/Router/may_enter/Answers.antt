use Rattle.std.proofs.Common.{◌∙◌}
use Rattle.fwd_reader.specs.Routers.{stores_of}
use Rattle.fwd_reader.proofs.router.Router.may_enter.Goals as goal

pub returns-clause-this : goal.returns-clause-this
returns-clause-this g c =
    (λ i. record {
      routes = c.self.inside.routes.now;
      stores = stores_of c.self.inside.all.items;
      owed = c.ask.ensures.owed i;
      reached = c.self.inside.reached;
    })
    ∙ c.self.view_is
