use Rattle.std.specs.Prelude.{◌≡◌}
use Rattle.relay_threads.proofs.turns.admits.Given as goal

-- the seat keeps its parts
abbrev pub invariant-loop : goal.invariant-loop
invariant-loop g l = g.A.Tally.parts l.seat ≡ g.A.Tally.parts l.fn.asking.0
