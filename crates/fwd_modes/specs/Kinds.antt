-- What a whole value is.
use Rattle.std.specs.Prelude.{ℕ, Bool, true, false, List, length, Option, Some, None, nat_le, if◌then◌else◌}
use Rattle.fwd_msgpack.specs.declared.head.Head.{Head}
use Rattle.fwd_msgpack.specs.declared.head.Head.TheVariants.{Map}
use Rattle.fwd_msgpack.specs.Scans.{text_of, head_of}

-- the head of a map (MessagePack specification, "map format family")
abbrev pub is_map_head : Option Head → Bool
is_map_head (Some (Map n)) = true
is_map_head _ = false

-- the value is a map
abbrev pub is_map : List ℕ → Bool
is_map bytes = is_map_head (head_of bytes)

-- the text, if it has at most so many bytes
abbrev pub fitting_text : ℕ → Option (List ℕ) → Option (List ℕ)
fitting_text most None = None
fitting_text most (Some text) = if nat_le (length text) most then Some text else None

-- the payload of a str or a bin of at most so many bytes
abbrev pub text_within : ℕ → List ℕ → Option (List ℕ)
text_within most bytes = fitting_text most (text_of bytes)
