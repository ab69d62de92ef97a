-- A stack that lies in an array, from the outermost place.
use Rattle.std.specs.Prelude.{ℕ, zero, suc, ◌-◌, List, [], ◌∷◌, slice_index}

-- the first so many places, the last of them first
abbrev pub from_last : ℕ → List ℕ → List ℕ
from_last zero places = []
from_last (suc n) places = slice_index places n ∷ from_last n places

-- how many members the innermost container lacks after the one in progress
abbrev pub innermost : List ℕ → ℕ
innermost [] = 0
innermost (lacking ∷ stack) = lacking

-- the open containers after so many members of the innermost one
abbrev pub less_by : ℕ → List ℕ → List ℕ
less_by items [] = []
less_by items (lacking ∷ stack) = (lacking - items) ∷ stack
