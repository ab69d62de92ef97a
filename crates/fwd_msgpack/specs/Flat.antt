-- An array of two in one byte, whose second value is a map, at the front of some bytes.
use Rattle.std.specs.Prelude.{◌≡◌, ℕ, ◌-◌, ◌<◌, ◌≤◌, List, [], ◌∷◌, ◌++◌, length, take, drop, Some}
use Rattle.fwd_msgpack.specs.declared.head.Head.TheVariants.{Map}
use Rattle.fwd_msgpack.specs.Scans.{Whole, first_of, elements_of, head_of}
use Rattle.fwd_msgpack.specs.Values.{InARow, IsValue}

-- from a place in the bytes to another stand so many values, one after the other
abbrev pub AreInARow : (deep count : ℕ) → List ℕ → (from end : ℕ) → Type 0
AreInARow deep count bytes from end =
    (from ≤ end) × InARow (IsValue deep) count (take (end - from) (drop from bytes))

-- The bytes begin, within the limits, with a value of so many bytes: `92`, this first value, and a
-- map. The value's elements are just these two.
pub record BeginsWithPair (limit deep : ℕ) (bytes first : List ℕ) (len : ℕ) : Type 0 where
  pub second : List ℕ
  pub pairs : ℕ
  pub whole : first_of limit deep bytes ≡ Whole len
  pub spelled : take len bytes ≡ 0x92 ∷ first ++ second
  pub members : elements_of (take len bytes) ≡ Some (first ∷ second ∷ [])
  pub map : head_of second ≡ Some (Map pairs)
  pub some : 0 < len
  pub within : len ≤ length bytes

-- The bytes begin with a value of so many bytes, at most so deep: a map.
pub record BeginsWithMap (deep : ℕ) (bytes : List ℕ) (len : ℕ) : Type 0 where
  pub pairs : ℕ
  pub map : head_of (take len bytes) ≡ Some (Map pairs)
  pub value : IsValue deep (take len bytes)
  pub within : len ≤ length bytes
