-- What one read gave, and what was read where a read to the end did not come to it.
use Rattle.std.specs.Prelude.{◌≡◌, ◌⊎◌, ℕ, ◌<◌, ◌≤◌, List, length, take, Option, Some, None}
use Rattle.std.specs.Io.KnownBytes.{Consumes, IsAtEnd, Keeps}
use Rattle.fwd_script.specs.declared.input.InputError.{InputError}
use Rattle.fwd_script.specs.declared.input.InputError.TheVariants.{Memory, Failed}

-- One read that did not fail: so many bytes came to the front of the buffer, none only at the end,
-- or it was interrupted.
abbrev pub Gives : Option ℕ → Option (List ℕ) → Option (List ℕ) → List ℕ → Type 0
Gives (Some count) old new buffer =
    (count ≤ length buffer) × Consumes old new (take count buffer)
    × (count ≡ 0 → 0 < length buffer → IsAtEnd new)
Gives None old new buffer = Keeps old new

-- a front of the known bytes was read, and where it was memory that ran out, not an empty one
abbrev pub Unread : InputError → Option (List ℕ) → Option (List ℕ) → Type 0
Unread Memory old new = (front : List ℕ) × Consumes old new front × (0 < length front)
Unread (Failed failed) old new = (front : List ℕ) × Consumes old new front

-- some of the known bytes were read, or the end was come to
abbrev pub ReadsSome : Option (List ℕ) → Option (List ℕ) → Type 0
ReadsSome old new =
    (front : List ℕ) × Consumes old new front × ((0 < length front) ⊎ IsAtEnd new)
