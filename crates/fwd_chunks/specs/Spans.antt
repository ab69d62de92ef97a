-- Runs of a request's entries in chunks: what they cut, and that the chunks hold them.
use Rattle.std.specs.Prelude.{
  ◌≡◌,
  ◌<◌,
  ◌≤◌,
  ℕ,
  ◌+◌,
  List,
  [],
  ◌∷◌,
  length,
  take,
  drop,
  find,
  Some,
  None,
  slice_get,
}
use Rattle.fwd_chunks.specs.declared.chunk.Chunk.{Chunk}
use Rattle.fwd_chunks.specs.declared.span.Span.{Span}
use Rattle.fwd_chunks.specs.Live.{LiveBuffer, is_at, live_next_number}

-- the entries of a run in a chunk
abbrev pub run_in : List (List ℕ) → Span → List (List ℕ)
run_in entries s = take s.count (drop s.from entries)

-- numbers rise strictly
abbrev pub AreRising : List ℕ → Type 0
AreRising ns = (i : ℕ) (j : ℕ) (m n : ℕ) → i < j → slice_get ns i ≡ Some m
    → slice_get ns j ≡ Some n → m < n

-- runs cut entries to the last, and each has one
abbrev pub AreCutBy : List Span → (own : List (List ℕ)) → Type 0
AreCutBy [] own = own ≡ []
AreCutBy (s ∷ spans) own =
    (0 < s.count) × (s.count ≤ length own) × AreCutBy spans (drop s.count own)

-- a run of entries, of a tag, stands in the chunk of its number: the entries that are left begin
-- with it
pub record IsHeld (chunks : List Chunk) (tag : List ℕ) (s : Span) (own : List (List ℕ)) : Type 0
  where
    pub chunk : Chunk
    pub here : find (is_at s.number) chunks ≡ Some chunk
    pub tagged : chunk.tag ≡ tag
    pub within : s.from + s.count ≤ length chunk.entries
    pub run : run_in chunk.entries s ≡ take s.count own

-- each of the runs does, one behind the other
abbrev pub AreHeld : List Chunk → (tag : List ℕ) → List Span → (own : List (List ℕ)) → Type 0
AreHeld chunks tag [] own = Unit {0}
AreHeld chunks tag (s ∷ spans) own =
    IsHeld chunks tag s own × AreHeld chunks tag spans (drop s.count own)

-- the number had a chunk, which is settled
pub record IsGone (b : LiveBuffer) (number : ℕ) : Type 0 where
  pub none : find (is_at number) b.chunks ≡ None
  pub given : number < live_next_number b
