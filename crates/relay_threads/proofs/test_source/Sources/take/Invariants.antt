use Rattle.std.specs.Prelude.{◌≡◌, vec_len}
use Rattle.relay_threads.proofs.test_source.Sources.take.Given as goal

-- so many sources came
abbrev pub invariant-loop : goal.invariant-loop
invariant-loop g l = vec_len l.sources ≡ l.counter
