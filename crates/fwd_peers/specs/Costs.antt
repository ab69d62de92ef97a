-- What a request costs that is not answered yet.
use Rattle.std.specs.Prelude.{◌+◌, ◌*◌, ◌-◌, ◌^◌, ℕ, List, length, Option, Some, None, min}

-- so many bytes, or as many as a 64-bit number can say
abbrev pub bounded : (bytes : ℕ) → ℕ
bounded bytes = min bytes (2 ^ 64 - 1)

-- how many bytes a `chunk` value has, if there is one
abbrev pub chunk_bytes : Option (List ℕ) → ℕ
chunk_bytes None = 0
chunk_bytes (Some chunk) = length chunk

-- What a request of this tag and this `chunk` value takes beside its entries until it is answered,
-- in bytes: 512 for its places in tables and its piece of memory, its tag in four places, and that
-- value.
abbrev pub upkeep : (tag : List ℕ) → (chunk : Option (List ℕ)) → ℕ
upkeep tag chunk = bounded (512 + 4 * length tag + chunk_bytes chunk)
