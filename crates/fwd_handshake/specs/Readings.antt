-- What the values of a handshake's messages say. Texts are taken as str or bin, but for the word
-- that names a message, which is a str.
use Rattle.std.specs.Prelude.{ℕ, Bool, true, false, ◌&&◌, List, [], ◌∷◌, Option, Some, None, option_and_then, if◌then◌else◌}
use Rattle.fwd_msgpack.specs.declared.head.Head.{Head}
use Rattle.fwd_msgpack.specs.declared.head.Head.TheVariants.{Bool as Boolean, Str}
use Rattle.fwd_msgpack.specs.Scans.{text_of, head_of, elements_of}
use Rattle.fwd_msgpack.specs.Texts.{is_text, last_under}

-- the head of a str
abbrev pub is_str_head : Option Head → Bool
is_str_head (Some (Str len)) = true
is_str_head _ = false

-- the value is a str of these bytes
abbrev pub is_word : List ℕ → List ℕ → Bool
is_word word bytes = is_str_head (head_of bytes) && is_text word bytes

-- the bool that a head is (MessagePack specification, "bool format family")
abbrev pub bool_in : Option Head → Option Bool
bool_in (Some (Boolean flag)) = Some flag
bool_in _ = None

-- the bool that a value is
abbrev pub bool_of : List ℕ → Option Bool
bool_of bytes = bool_in (head_of bytes)

-- the payload of the str or bin under a key
abbrev pub text_under : List ℕ → List (List ℕ × List ℕ) → Option (List ℕ)
text_under key pairs = option_and_then text_of (last_under key pairs)

-- the values behind the first, which is this word
abbrev pub behind : List ℕ → List (List ℕ) → Option (List (List ℕ))
behind word (first ∷ rest) = if is_word word first then Some rest else None
behind word [] = None

-- the values behind the word that names a message, which is an array
abbrev pub values_behind : List ℕ → List ℕ → Option (List (List ℕ))
values_behind word bytes = option_and_then (behind word) (elements_of bytes)
