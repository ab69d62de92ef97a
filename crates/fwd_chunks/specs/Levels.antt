-- How the levels of keys stand over each other.
use Rattle.std.specs.Prelude.{
  ◌≡◌,
  ℕ,
  ◌+◌,
  ◌-◌,
  ◌*◌,
  ◌/◌,
  ◌<◌,
  ◌≤◌,
  min,
  List,
  [],
  map,
  length,
  slice_index_or,
  Option,
  Some,
  None,
  Vec,
}
use Rattle.std.specs.declared.alloc.Global.{Global}

-- the levels as the code keeps them
abbrev pub Levels : Type 0
Levels = List (Vec (Option ℕ) Global)

-- the keys of a level, and none past the last level
abbrev pub keys_at : Levels → ℕ → List (Option ℕ)
keys_at levels i = slice_index_or (map (λ v. v.items) levels) i []

-- the key at a place, and `None` past the last place
abbrev pub key_at : List (Option ℕ) → ℕ → Option ℕ
key_at keys i = slice_index_or keys i None

-- the lesser of two keys
abbrev pub lesser : Option ℕ → Option ℕ → Option ℕ
lesser None second = second
lesser (Some m) None = Some m
lesser (Some m) (Some n) = Some (min m n)

-- a level over another: the lesser of each two neighbours, and the last key alone if it has none
pub record IsOver (below above : List (Option ℕ)) : Type 0 where
  pub count : length above ≡ (length below + 1) / 2
  pub keys : (i : ℕ)
      → key_at above i ≡ lesser (key_at below (2 * i)) (key_at below (2 * i + 1))

-- each level stands over the one before it, and the last has at most one key
pub record IsTower (levels : Levels) : Type 0 where
  pub over : (i : ℕ) → i + 1 < length levels
      → IsOver (keys_at levels i) (keys_at levels (i + 1))
  pub top : length (keys_at levels (length levels - 1)) ≤ 1
