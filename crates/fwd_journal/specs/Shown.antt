-- How bytes that a peer sent stand in the journal.
use Rattle.std.specs.Prelude.{ℕ, Bool, ◌&&◌, List, nat_le}
use Rattle.std.specs.List.{list_all}

-- a byte is a printable character of ASCII
abbrev pub is_plain : ℕ → Bool
is_plain byte = nat_le 32 byte && nat_le byte 126

-- bytes are a text that can stand on a line as it is
abbrev pub are_plain : List ℕ → Bool
are_plain bytes = list_all is_plain bytes
