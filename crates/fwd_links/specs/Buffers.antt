-- Pieces of bytes, as the buffers of one write.
use Rattle.std.specs.Prelude.{ℕ, List, [], Option, Some, None, slice_get}
use Rattle.std.specs.Borrow.{Bor}

-- the bytes of a piece, and none of none
abbrev pub bytes_of : Option (Bor (List ℕ)) → List ℕ
bytes_of None = []
bytes_of (Some piece) = piece.now

-- the bytes of the piece at a place
abbrev pub piece_at : List (Bor (List ℕ)) → (place : ℕ) → List ℕ
piece_at pieces place = bytes_of (slice_get pieces place)
