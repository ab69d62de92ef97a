use Rattle.std.specs.Prelude.{◌≡◌, ◌+◌, ◌-◌}
use Rattle.fwd_run.proofs.opening.skip.Given as goal

-- so many were taken
abbrev pub invariant-loop : goal.invariant-loop
invariant-loop g l = l.pages ≡ (l.fn.pages.0 + l.counter, l.fn.pages.1 - l.counter)
