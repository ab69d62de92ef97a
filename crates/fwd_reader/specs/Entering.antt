-- Who may enter an output: how much a source may be owed, and whose turn it is.
use Rattle.std.specs.Prelude.{◌≡◌, ◌*◌, ◌-◌, ◌/◌, ◌^◌, ℕ, Bool, List, [], ◌∷◌, max, min, nat_lt}

-- The bytes that a reader's unanswered requests may take beside their entries, at an output that
-- holds so many bytes of entries at most: twice as many, and 2 MiB at least. A 64-bit count holds
-- them.
abbrev pub owed_limit : (total : ℕ) → ℕ
owed_limit total = max (min (total * 2) (2 ^ 64 - 1)) 2097152

-- of so much as may be owed, and so much as is, a source that is owed so much itself may be owed
-- more: that is less than half of what is still free
abbrev pub may_owe : (limit owed own : ℕ) → Bool
may_owe limit owed own = nat_lt own ((limit - owed) / 2)

-- a source of this id enters in its turn: nobody stood in line, or it was the first, who leaves
abbrev pub EntersInTurn : (line : List ℕ) → (id : ℕ) → (after : List ℕ) → Type 0
EntersInTurn [] id after = after ≡ []
EntersInTurn (first ∷ others) id after = (first ≡ id) × (after ≡ others)
