use Rattle.std.specs.Prelude.{All}
use Rattle.fwd_reader.specs.Routers.{stores_of}
use Rattle.fwd_reader.specs.Promises.{HoldsRouted}
use Rattle.fwd_reader.proofs.router.Router.new.Given as goal

-- no route gave a ticket yet
abbrev pub invariant-loop-output : goal.invariant-loop-output
invariant-loop-output g l = All (HoldsRouted l.fn.parts.routes.now) (stores_of l.all.items)
