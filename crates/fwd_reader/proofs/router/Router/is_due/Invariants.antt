use Rattle.std.proofs.Common.{take}
use Rattle.std.specs.Prelude.{All}
use Rattle.fwd_reader.specs.OpenTickets.{AreQuiet}
use Rattle.fwd_reader.proofs.router.Router.is_due.Given as goal

-- nothing is to be handed in at the outputs so far
abbrev pub invariant-loop-output_route : goal.invariant-loop-output_route
invariant-loop-output_route g l = All AreQuiet (take l.output_route-index l.self.stores)
