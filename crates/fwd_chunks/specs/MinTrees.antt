-- What is asked of keys at places. A key is a number or `None`.
use Rattle.std.specs.Prelude.{ℕ, Bool, false, nat_le, List, Option, Some, None, position}

-- whether a key is at most the limit; no key never is
abbrev pub is_within : ℕ → Option ℕ → Bool
is_within limit None = false
is_within limit (Some m) = nat_le m limit

-- the first place whose key is within the limit
abbrev pub first_within : ℕ → List (Option ℕ) → Option ℕ
first_within limit keys = position (is_within limit) keys
