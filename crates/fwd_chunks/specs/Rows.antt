-- Rows of entries, one after the other, and what is left of their bytes.
use Rattle.std.specs.Prelude.{◌≡◌, ◌<◌, ◌≤◌, ◌^◌, ℕ, List, [], ◌∷◌, ◌++◌, length, map, drop}
use Rattle.std.specs.List.{concat, AllByRecursion}

-- rows of entries, one after the other
abbrev pub joined : List (List (List ℕ)) → List (List ℕ)
joined [] = []
joined (row ∷ rows) = row ++ joined rows

-- each row has a byte
abbrev pub AreLong : List (List (List ℕ)) → Type 0
AreLong rows = AllByRecursion (λ row. 0 < length (concat row)) rows

-- the bytes of each row
abbrev pub bytes_each : List (List (List ℕ)) → List (List ℕ)
bytes_each rows = map concat rows

-- the bytes behind so many rows, and so many bytes of the next
abbrev pub bytes_behind : (passed sent : ℕ) → List (List (List ℕ)) → List ℕ
bytes_behind passed sent rows = drop sent (concat (joined (drop passed rows)))

-- the next row has a byte that is not sent, or there is none
abbrev pub IsBegun : (sent : ℕ) → List (List (List ℕ)) → Type 0
IsBegun sent [] = sent ≡ 0
IsBegun sent (row ∷ rows) = sent < length (concat row)

-- so many bytes are left, of rows of which each has one, and all have less than 2^32
pub record StandsIn (passed sent count : ℕ) (rows : List (List (List ℕ))) : Type 0 where
  pub long : AreLong rows
  pub small : length (concat (joined rows)) < 2 ^ 32
  pub within : passed ≤ length rows
  pub begun : IsBegun sent (drop passed rows)
  pub left : count ≡ length (bytes_behind passed sent rows)
