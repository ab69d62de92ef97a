-- Bytes that are lent, in pieces.
use Rattle.std.specs.Prelude.{◌≡◌, ◌<◌, ◌-◌, ℕ, List, ◌++◌, length, take}
use Rattle.std.specs.List.{concat, AllByRecursion}
use Rattle.fwd_chunks.specs.declared.write_slices.TheConstants.{PIECE_LIMIT}

-- each piece has a byte
abbrev pub AreSome : List (List ℕ) → Type 0
AreSome pieces = AllByRecursion (λ piece. 0 < length piece) pieces

-- these bytes lie in pieces of which each has a byte, and the first of them are behind those
-- before, as many as there is place for
pub record IsLent (before : List (List ℕ)) (bytes : List ℕ) (after : List (List ℕ)) : Type 0 where
  pub parts : List (List ℕ)
  pub some : AreSome parts
  pub whole : concat parts ≡ bytes
  pub is : after ≡ before ++ take (PIECE_LIMIT - length before) parts
