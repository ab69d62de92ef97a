-- Whose turn it is where readers stand in line. It only describes the code.
use Rattle.std.specs.Prelude.{ℕ, ◌==◌, Bool, true, false, List, [], ◌∷◌}
use Rattle.std.specs.List.{list_any}

-- nobody stands there, or this reader is the first
abbrev pub has_turn : List ℕ → ℕ → Bool
has_turn [] reader = true
has_turn (first ∷ others) reader = first == reader

-- somebody stands there
abbrev pub are_some : List ℕ → Bool
are_some [] = false
are_some (first ∷ others) = true

-- this reader stands there
abbrev pub stands : List ℕ → ℕ → Bool
stands readers reader = list_any (λ other. other == reader) readers
