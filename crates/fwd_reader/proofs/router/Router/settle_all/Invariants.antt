use Rattle.std.proofs.Common.{◌≡◌}
use Rattle.fwd_reader.proofs.Settling.{due_to}
use Rattle.fwd_reader.proofs.router.Router.settle_all.Given as goal

abbrev pub invariant-loop-place : goal.invariant-loop-place
invariant-loop-place g l =
    (l.self.routes ≡ l.fn.self.routes) × (l.self.stores ≡ due_to l.place l.fn.self.stores)
    × (l.self.owed ≡ l.fn.self.owed) × (l.self.reached ≡ l.fn.self.reached)
