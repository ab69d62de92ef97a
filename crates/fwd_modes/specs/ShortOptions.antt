-- Options that have a short chunk, alone or beside a size, by their bytes.
use Rattle.std.specs.Prelude.{◌≡◌, ℕ, ◌+◌, ◌<◌, ◌≤◌, false, List, ◌∷◌, ◌++◌, length, Some, codes}
use Rattle.fwd_msgpack.specs.Scans.{Whole, first_of, most_bytes, most_deep}
use Rattle.fwd_modes.specs.declared.limits.TheConstants.{CHUNK_LIMIT}
use Rattle.fwd_modes.specs.Options.{chunk_of, is_bad_option, is_compressed}

-- The option has no fault, names no compression, and has this chunk.
pub record HasChunk (option chunk : List ℕ) : Type 0 where
  pub good : is_bad_option (Some option) ≡ false
  pub chunk_is : chunk_of (Some option) ≡ Some chunk
  pub plain : is_compressed (Some option) ≡ false
  pub bound : length chunk ≤ CHUNK_LIMIT + 5

-- the key of the chunk, as it is mostly spelled
abbrev pub chunk_key : List ℕ
chunk_key = 0xa5 ∷ codes "chunk"

-- the key of the size, as it is mostly spelled
abbrev pub size_key : List ℕ
size_key = 0xa4 ∷ codes "size"

-- The value begins as a str whose head is one byte, and is no longer than a chunk may be.
pub record IsShortText (value : List ℕ) : Type 0 where
  pub first : ℕ
  pub body : List ℕ
  pub is : value ≡ first ∷ body
  pub low : 0xa0 ≤ first
  pub high : first < 0xc0
  pub fits : length value ≤ CHUNK_LIMIT

-- The bytes are the chunk behind its key.
pub record IsChunkAlone (pairs chunk : List ℕ) : Type 0 where
  pub spelled : pairs ≡ chunk_key ++ chunk
  pub short : IsShortText chunk

-- The bytes are a size, and the chunk.
pub record IsChunkBehindSize (pairs chunk : List ℕ) : Type 0 where
  pub size : List ℕ
  pub spelled : pairs ≡ size_key ++ (size ++ (chunk_key ++ chunk))
  pub value : first_of most_bytes most_deep (size ++ (chunk_key ++ chunk)) ≡ Whole (length size)
  pub short : IsShortText chunk

-- The bytes are the chunk, and a size.
pub record IsChunkBeforeSize (pairs chunk : List ℕ) : Type 0 where
  pub size : List ℕ
  pub spelled : pairs ≡ chunk_key ++ (chunk ++ (size_key ++ size))
  pub value : first_of most_bytes most_deep (chunk ++ (size_key ++ size)) ≡ Whole (length chunk)
  pub short : IsShortText chunk
