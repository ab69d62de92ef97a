-- How long what was lost is left alone, in milliseconds.
use Rattle.std.specs.Prelude.{ℕ, zero, suc, ◌*◌, ◌^◌, min}

-- after so many losses: not at all after none, retry_wait after the first, twice as long after each
-- further one, and never longer than retry_max
unfoldable pub wait_after : ℕ → ℕ → ℕ → ℕ
wait_after retry_wait retry_max zero = 0
wait_after retry_wait retry_max (suc n) = min (retry_wait * 2 ^ n) retry_max
