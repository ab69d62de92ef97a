-- How old something is.
use Rattle.std.specs.Prelude.{ℕ, ◌-◌, ◌/◌, Option, Some, None}

-- how many whole seconds ago it began, at a moment (both in milliseconds), and 0 where there is no
-- such thing
abbrev pub age_at : (now : ℕ) → (since : Option ℕ) → ℕ
age_at now None = 0
age_at now (Some since) = (now - since) / 1000
