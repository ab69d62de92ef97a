use Rattle.std.specs.Prelude.{◌≡◌, ◌+◌, ◌-◌, vec_len}
use Rattle.relay_threads.proofs.paging.workers_of.Given as goal

-- so many pages were taken, and each is a worker's
abbrev pub invariant-loop-number : goal.invariant-loop-number
invariant-loop-number g l =
    (l.pages ≡ (l.fn.pages.0 + l.number, l.fn.pages.1 - l.number)) × (vec_len l.workers ≡ l.number)
