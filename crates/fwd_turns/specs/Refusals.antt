-- For how long memory counts as short once it was refused.
use Rattle.std.specs.Prelude.{◌+◌, ◌-◌, ◌^◌, ℕ, Bool, true, nat_le, min, Option, Some, None}

-- so long has passed at a moment since another one (all in milliseconds), if there was one: where
-- no 64-bit number says when that is over, it is at the last moment
abbrev pub is_past : (since : Option ℕ) → (pause now : ℕ) → Bool
is_past None pause now = true
is_past (Some since) pause now = nat_le (min (since + pause) (2 ^ 64 - 1)) now
