use Rattle.std.proofs.Common.{◌-◌}
use Rattle.fwd_reader.specs.Owing.{owed_at_each}
use Rattle.fwd_reader.specs.Routers.{stores_of}
use Rattle.fwd_reader.proofs.Owing.{changes}
use Rattle.fwd_reader.proofs.router.Router.note_answered.Goals as goal

pub returns : goal.returns
returns g c =
    changes c.self.inside.routes.now (stores_of c.self.inside.all.items) c.args.number (λ owed. owed - c.args.bytes)
    (owed_at_each c.self.inside.admission) (owed_at_each c.answered.new.self)
    c.self.inside.reached c.args.self.now c.answered.ensures c.self.view_is
