-- What is true of every live buffer.
use Rattle.std.specs.Prelude.{
  ◌≡◌,
  ◌≤◌,
  ◌<◌,
  ℕ,
  ◌+◌,
  ◌^◌,
  ◌||◌,
  ◌==◌,
  nat_le,
  true,
  false,
  List,
  [],
  ◌∷◌,
  length,
  None,
}
use Rattle.std.specs.List.{AllByRecursion}
use Rattle.std.specs.Str.{bytes_eq}
use Rattle.fwd_chunks.specs.declared.chunk.Chunk.{Chunk}
use Rattle.fwd_chunks.specs.Cells.{size_of}
use Rattle.fwd_chunks.specs.Live.{LiveBuffer, is_open, held_in, bytes_in, live_next_number}

-- a chunk before another: its number is lower, and it is not open where the other has its tag
pub record IsBefore (c d : Chunk) : Type 0 where
  pub lower : c.number < d.number
  pub shut : bytes_eq c.tag d.tag ≡ true → is_open c.stage ≡ false

-- Each chunk is before all later ones. So each number has one chunk, and with it one tag and at
-- most one worker; and a tag has at most one open number, which is its greatest.
abbrev pub AreInOrder : List Chunk → Type 0
AreInOrder [] = Unit {0}
AreInOrder (c ∷ chunks) = AllByRecursion (IsBefore c) chunks × AreInOrder chunks

-- a chunk has entries, and is within the chunk limit or has one entry
pub record IsWithin (limit : ℕ) (c : Chunk) : Type 0 where
  pub some : 0 < length c.entries
  pub within : (nat_le (size_of c.entries) limit || (length c.entries == 1)) ≡ true

-- an open chunk was never lost
abbrev pub IsFresh : Chunk → Type 0
IsFresh c = is_open c.stage ≡ true → c.losses ≡ None

-- what is true of every live buffer
pub record IsSound (b : LiveBuffer) : Type 0 where
  pub in_order : AreInOrder b.chunks
  -- no number is above the greatest
  pub below : AllByRecursion (λ c. c.number < live_next_number b) b.chunks
  pub within : AllByRecursion (IsWithin b.setting.limits.chunk) b.chunks
  pub fresh : AllByRecursion IsFresh b.chunks
  pub total : bytes_in b.chunks ≤ b.setting.limits.total
  -- accepted = settled + held
  pub counted : b.accepted ≡ b.settled + held_in b.chunks
  -- the counts fit 64 bits
  pub accepted : b.accepted < 2 ^ 64
  pub numbers : live_next_number b ≤ 2 ^ 64
