-- Values in a row within some bytes, and the entries of a request among them.
use Rattle.std.specs.Prelude.{◌≡◌, ℕ, ◌-◌, ◌≤◌, List, [], ◌∷◌, ◌++◌, length, take, drop, Some}
use Rattle.std.specs.List.{concat, AllByRecursion}
use Rattle.fwd_msgpack.specs.Values.{IsValue}
use Rattle.fwd_modes.specs.declared.borrowed_entries.Laid.{Laid}
use Rattle.fwd_modes.specs.declared.borrowed_entries.Laid.TheVariants.{One, Row}
use Rattle.fwd_modes.specs.Entries.{AreCut, cut_at, entry_of}
use Rattle.fwd_modes.specs.Readings.{kept}
use Rattle.fwd_modes.specs.Requests.{parts_in, with_option}

-- From a place in the bytes to another stand these values, one after the other, each at most so
-- deep.
pub record StandAt (deep : ℕ) (bytes : List ℕ) (at end : ℕ) (values : List (List ℕ)) : Type 0 where
  pub on : at ≤ end
  pub within : end ≤ length bytes
  pub spelled : take (end - at) (drop at bytes) ≡ concat values
  pub each : AllByRecursion (IsValue deep) values

-- a value at most so deep that is an entry, spelled as it is kept
abbrev pub IsKept : (deep : ℕ) → List ℕ → Type 0
IsKept deep bytes = IsValue deep bytes × (entry_of bytes ≡ Some bytes)

-- The bytes begin with so many entries, each spelled as it is kept, which have these ends, and
-- together so many bytes.
pub record AreKeptInARow (deep count : ℕ) (bytes ends : List ℕ) (size : ℕ) : Type 0 where
  pub within : size ≤ length bytes
  pub cut : AreCut 0 ends (take size bytes)
  pub count_is : length ends ≡ count
  pub each : AllByRecursion (IsKept deep) (cut_at 0 ends (take size bytes))

-- From a place in the bytes to another stand so many values, which are these entries of a request,
-- whatever stands before and behind them in its array.
pub record HoldEntries (deep : ℕ) (bytes : List ℕ) (at end count : ℕ) (entries : List (List ℕ))
    : Type 0 where
  pub values : List (List ℕ)
  pub stand : StandAt deep bytes at end values
  pub count_is : length values ≡ count
  pub parts : (most : ℕ) (tag : List ℕ) (others : List (List ℕ))
      → parts_in most (tag ∷ values ++ others) ≡ with_option tag (Some entries) others

-- The same, where packed entries are at most so deep.
pub record HoldWithin (most deep : ℕ) (bytes : List ℕ) (at end count : ℕ)
    (entries : List (List ℕ)) : Type 0 where
  pub values : List (List ℕ)
  pub stand : StandAt deep bytes at end values
  pub count_is : length values ≡ count
  pub parts : (tag : List ℕ) (others : List (List ℕ))
      → parts_in most (tag ∷ values ++ others) ≡ with_option tag (Some entries) others

-- the entries that lie somewhere, as they are kept
abbrev pub laid_shown : Laid → List (List ℕ)
laid_shown (One entry) = kept entry ∷ []
laid_shown (Row row) = cut_at 0 row.ends.items row.bytes.now
