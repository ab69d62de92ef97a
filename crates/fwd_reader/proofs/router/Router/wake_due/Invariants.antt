use Rattle.std.proofs.Common.{◌≡◌}
use Rattle.fwd_reader.proofs.router.Router.wake_due.Given as goal

abbrev pub invariant-loop-place : goal.invariant-loop-place
invariant-loop-place g l = l.self ≡ l.fn.self
