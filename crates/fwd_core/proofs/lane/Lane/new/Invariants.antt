use Rattle.std.proofs.Common.{◌≡◌, ◌≤◌, replicate}
use Rattle.std.specs.Prelude.{vec_capacity, vec_len}
use Rattle.fwd_core.specs.Lanes.{no_work}
use Rattle.fwd_core.proofs.lane.Lane.new.Given as goal

-- the workers so far have nothing, and there is room for the others
abbrev pub invariant-loop : goal.invariant-loop
invariant-loop l =
    (l.workers.items ≡ replicate l.counter no_work)
    × (vec_len l.workers ≡ l.counter)
    × (l.config-inside.workers ≤ vec_capacity l.workers)
