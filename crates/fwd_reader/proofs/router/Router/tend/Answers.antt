use Rattle.std.proofs.Common.{◌∙◌}
use Rattle.fwd_reader.specs.Routers.{stores_of}
use Rattle.fwd_reader.proofs.router.Router.tend.Goals as goal

pub returns : goal.returns
returns g c =
    (λ i. record {
      routes = c.self.inside.routes.now;
      stores = stores_of c.self.inside.all.items;
      owed = c.tend.ensures i;
      reached = c.self.inside.reached;
    })
    ∙ c.self.view_is
