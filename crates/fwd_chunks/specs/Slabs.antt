-- How the code keeps slots: their numbers and keys by rising number, and the chunks in a slab.
use Rattle.std.specs.Prelude.{◌≡◌, ℕ, ◌==◌, List, map, length, slice_get, Option, Some, None, if◌then◌else◌}
use Rattle.slab.specs.Slab.{Slab, get, slab_len}
use Rattle.fwd_chunks.specs.declared.chunk.Chunk.{Chunk}
use Rattle.fwd_chunks.specs.declared.chunk_slab.ChunkPlace.{ChunkPlace}
use Rattle.fwd_chunks.specs.declared.chunk_slab.KeptChunk.{KeptChunk}
use Rattle.fwd_chunks.specs.Slots.{Slot, present}

-- slots by rising number, for how many there is memory, and for how many chunks more
pub record SlabShown : Type 0 where
  pub slots : List Slot
  pub cap : ℕ
  pub spare : ℕ

-- the chunk that lies at a key
abbrev pub chunk_of : Option KeptChunk → Option Chunk
chunk_of None = None
chunk_of (Some k) = Some k.chunk

-- the chunk, if it has the number
abbrev pub numbered : ℕ → Option Chunk → Option Chunk
numbered number None = None
numbered number (Some c) = if c.number == number then Some c else None

-- the slot of a place: its chunk lies at the place's key
abbrev pub slot_by : Slab KeptChunk → ChunkPlace → Slot
slot_by kept p = record { number = p.number; chunk = numbered p.number (chunk_of (get kept p.key)) }

-- the slots of places
abbrev pub slots_by : Slab KeptChunk → List ChunkPlace → List Slot
slots_by kept places = map (slot_by kept) places

-- the place of the chunk at a key
abbrev pub place_by : ℕ → KeptChunk → ChunkPlace
place_by key k = record { number = k.chunk.number; key = key }

-- the chunk at the key stands at the place
abbrev pub StandsAt : List ChunkPlace → Slab KeptChunk → (i key : ℕ) → Type 0
StandsAt places kept i key =
    (k : KeptChunk) × (get kept key ≡ Some k) × (slice_get places i ≡ Some (place_by key k))

-- each chunk knows where its place stands
abbrev pub AreLinked : List ChunkPlace → Slab KeptChunk → Type 0
AreLinked places kept =
    (key : ℕ) (k : KeptChunk) → get kept key ≡ Some k
    → slice_get places k.place ≡ Some (place_by key k)

-- each chunk has a place
abbrev pub IsThere : List ChunkPlace → Slab KeptChunk → Type 0
IsThere places kept =
    (key : ℕ) (k : KeptChunk) → get kept key ≡ Some k
    → (i : ℕ) × (slice_get places i ≡ Some (place_by key k))

-- what holds of places and chunks
pub record IsSlab (places : List ChunkPlace) (kept : Slab KeptChunk) : Type 0 where
  pub linked : AreLinked places kept
  pub counted : slab_len kept ≡ length (present (slots_by kept places))
