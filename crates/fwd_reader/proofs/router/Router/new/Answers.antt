use Rattle.std.proofs.Common.{sym, subst}
use Rattle.std.specs.Prelude.{All}
use Rattle.fwd_reader.specs.Routers.{stores_of}
use Rattle.fwd_reader.specs.Promises.{HoldsRouted}
use Rattle.fwd_reader.proofs.Admitting.{push_place}
use Rattle.fwd_reader.proofs.router.Router.new.Goals as goal

pub loop-output-preserved : goal.loop-output-preserved
loop-output-preserved g c =
    subst (λ xs. All (HoldsRouted c.args.parts.routes.now) (stores_of xs))
    (sym c.in_default.ensures.items)
    (push_place c.args.parts.routes.now c.loop-output.all.items c.new-output_route.result
    (c.new-output_route.ensures c.args.parts.routes.now) c.loop-output.invariant)
