-- How the code cuts a request's entries into chunks, which the proofs tie to joining entry by
-- entry.
use Rattle.std.specs.Prelude.{
  ℕ,
  suc,
  ◌+◌,
  nat_le,
  List,
  [],
  ◌∷◌,
  ◌++◌,
  length,
  map,
  find,
  Option,
  Some,
  None,
  Bool,
  true,
  false,
  if◌then◌else◌,
}
use Rattle.fwd_chunks.specs.declared.chunk.Chunk.{Chunk}
use Rattle.fwd_chunks.specs.declared.span.Span.{Span}
use Rattle.fwd_chunks.specs.declared.chunk_state.ChunkState.{ChunkState}
use Rattle.fwd_chunks.specs.declared.chunk_state.ChunkState.TheVariants.{Open, Closed}
use Rattle.fwd_chunks.specs.Cells.{size_of}
use Rattle.fwd_chunks.specs.Live.{LiveBuffer, staged, changed, is_at, is_open_of, live_next_number}

-- how many of the entries fit, one after the other, where so many bytes are used
abbrev pub fitting : ℕ → ℕ → List (List ℕ) → ℕ
fitting limit used [] = 0
fitting limit used (e ∷ entries) =
    if nat_le (used + length e) limit then suc (fitting limit (used + length e) entries) else 0

-- an open chunk
abbrev pub open_chunk : List ℕ → ℕ → ℕ → List (List ℕ) → Chunk
open_chunk tag since number entries = record {
  number = number;
  tag = tag;
  entries = entries;
  since = since;
  stage = Open;
  losses = None;
}

-- the chunks of entries that come behind those of the current chunk
abbrev pub fresh_from : ℕ → List ℕ → ℕ → ℕ → List (List ℕ) → List (List ℕ)
    → List Chunk
fresh_from limit tag since number current [] = open_chunk tag since number current ∷ []
fresh_from limit tag since number current (e ∷ entries) =
    if nat_le (size_of current + length e) limit
    then fresh_from limit tag since number (current ++ e ∷ []) entries
    else staged Closed (open_chunk tag since number current)
    ∷ fresh_from limit tag since (number + 1) (e ∷ []) entries

-- the chunks of entries that begin with a new one
abbrev pub fresh_of : ℕ → List ℕ → ℕ → ℕ → List (List ℕ) → List Chunk
fresh_of limit tag since number [] = []
fresh_of limit tag since number (e ∷ entries) =
    fresh_from limit tag since number (e ∷ []) entries

-- where a chunk stands before the chunks of these entries
abbrev pub stage_before : List (List ℕ) → ChunkState
stage_before [] = Open
stage_before (e ∷ entries) = Closed

-- where a chunk stands, which is closed where another one follows
abbrev pub stage_last : Bool → ChunkState
stage_last true = Open
stage_last false = Closed

-- how many chunks more there are
abbrev pub extra : ℕ → ℕ → List (List ℕ) → ℕ
extra limit used [] = 0
extra limit used (e ∷ entries) =
    if nat_le (used + length e) limit then extra limit (used + length e) entries
    else suc (extra limit (length e) entries)

-- a chunk that is one run
abbrev pub span_of : Chunk → Span
span_of c = record { number = c.number; from = 0; count = length c.entries }

-- how many chunks entries need that begin with a new one
abbrev pub needed : ℕ → List (List ℕ) → ℕ
needed limit [] = 0
needed limit (e ∷ entries) = suc (extra limit (length e) entries)

-- how many of the entries the first of these chunks takes
abbrev pub cut_count : ℕ → List (List ℕ) → ℕ
cut_count limit [] = 0
cut_count limit (e ∷ entries) = suc (fitting limit (length e) entries)

-- how many of the entries go to the tag's open chunk, if it has one
abbrev pub joining_to : ℕ → Option Chunk → List (List ℕ) → ℕ
joining_to limit None entries = 0
joining_to limit (Some c) entries = fitting limit (size_of c.entries) entries

-- the open chunk with entries more, closed where others follow
abbrev pub joined_by : List (List ℕ) → ChunkState → Chunk → Chunk
joined_by front stage c = record c { entries = c.entries ++ front; stage = stage }

-- the chunks once entries went to the tag's open chunk, and others begin new ones
abbrev pub joined_chunks : Option Chunk → List (List ℕ) → List (List ℕ) → List Chunk
    → List Chunk
joined_chunks None front back chunks = chunks
joined_chunks (Some c) front back chunks =
    changed (is_at c.number) (joined_by front (stage_before back)) chunks

-- the run of the entries that went to the open chunk, if there are some
abbrev pub joined_span : Option Chunk → List (List ℕ) → List Span
joined_span None front = []
joined_span (Some c) [] = []
joined_span (Some c) (e ∷ front) =
    record { number = c.number; from = length c.entries; count = suc (length front) } ∷ []

-- the greatest number afterwards
abbrev pub greatest_with : LiveBuffer → List (List ℕ) → Option ℕ
greatest_with b [] = b.greatest
greatest_with b (e ∷ back) =
    Some (live_next_number b + extra b.setting.limits.chunk (length e) back)

-- the buffer once entries went to the tag's open chunk, and others into new ones
abbrev pub filled : LiveBuffer → List ℕ → List (List ℕ) → List (List ℕ) → LiveBuffer
filled b tag front back = record b {
  chunks = joined_chunks (find (is_open_of tag) b.chunks) front back b.chunks
      ++ fresh_of b.setting.limits.chunk tag b.moment (live_next_number b) back;
  greatest = greatest_with b back;
  accepted = b.accepted + (length front + length back);
}

-- its runs
abbrev pub filled_spans : LiveBuffer → List ℕ → List (List ℕ) → List (List ℕ)
    → List Span
filled_spans b tag front back =
    joined_span (find (is_open_of tag) b.chunks) front
    ++ map span_of (fresh_of b.setting.limits.chunk tag b.moment (live_next_number b) back)

-- the chunks once entries went to the open chunk of a number, if there is one
abbrev pub filled_in : Option ℕ → List (List ℕ) → ChunkState → List Chunk → List Chunk
filled_in None front stage chunks = chunks
filled_in (Some number) front stage chunks = changed (is_at number) (joined_by front stage) chunks
