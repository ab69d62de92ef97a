use Rattle.std.specs.Prelude.{◌≡◌, ◌≤◌}
use Rattle.fwd_workers.specs.Placed.{Becomes, held}
use Rattle.fwd_workers.specs.Working.{IsEarned}
use Rattle.fwd_workers.proofs.worker.Worker.run.Given as goal

-- the seat's parts are the same, and its count is no less, and no more than what was acknowledged
-- over links; and the worker's page knows what it has
abbrev pub invariant-loop-turn : goal.invariant-loop-turn
invariant-loop-turn g l =
    (g.S.Tally.count l.fn.seat ≤ g.S.Tally.count l.seat)
    × (g.S.Tally.parts l.seat ≡ g.S.Tally.parts l.fn.seat)
    × ∥ IsEarned g.H.Line.Link.calls g.S.Tally.kept (g.S.Tally.count l.fn.seat) (g.S.Tally.count l.seat) ∥₁
    × Becomes l.fn.self.page l.self.page (held l.state)
    × (l.self.terms ≡ l.fn.self.terms)
