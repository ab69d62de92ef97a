-- The ids of sources.
use Rattle.std.specs.Prelude.{◌≡◌, ◌≤◌, ℕ, Option, Some, None, ⊤}

-- the next id never falls, and where none is left none is later: so no id is given twice
abbrev pub IsNoLess : (before after : Option ℕ) → Type 0
IsNoLess None after = after ≡ None
IsNoLess (Some id) None = ⊤
IsNoLess (Some id) (Some next) = id ≤ next
