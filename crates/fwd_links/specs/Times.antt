-- What a run's clock tells.
use Rattle.std.specs.Prelude.{ℕ, ◌-◌, ◌/◌, ◌^◌, max, min}
use Rattle.std.specs.Duration.{as_nanos}
use Rattle.std.specs.declared.time.Duration.{Duration}

-- a span in whole milliseconds, as far as 64 bits tell them: some 584 million years
abbrev pub millis_in : Duration → ℕ
millis_in passed = min (as_nanos passed / 1_000_000) (2 ^ 64 - 1)

-- the moment a span behind the start, where an earlier look told one: time never goes back
abbrev pub moment_after : (latest : ℕ) → (passed : Duration) → ℕ
moment_after latest passed = max latest (millis_in passed)
