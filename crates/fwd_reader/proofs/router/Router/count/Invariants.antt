use Rattle.std.proofs.Common.{◌≡◌}
use Rattle.fwd_reader.proofs.router.Router.count.Given as goal

abbrev pub invariant-loop-number : goal.invariant-loop-number
invariant-loop-number g l = l.self ≡ l.fn.self
