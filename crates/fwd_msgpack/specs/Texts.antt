-- Texts, as they are written and read, and what a map has under a key.
use Rattle.std.specs.Prelude.{ℕ, Bool, List, ◌++◌, length, map, filter, Option, Some, None}
use Rattle.std.specs.List.{last_or}
use Rattle.std.specs.Option.{option_eq}
use Rattle.std.specs.Str.{bytes_eq}
use Rattle.fwd_msgpack.specs.declared.head.Head.TheVariants.{Str}
use Rattle.fwd_msgpack.specs.Heads.{head_bytes}
use Rattle.fwd_msgpack.specs.Scans.{text_of}

-- a str of these bytes, with the shortest head
abbrev pub text : List ℕ → List ℕ
text bytes = head_bytes (Str (length bytes)) ++ bytes

-- the value is a str or a bin of these bytes
abbrev pub is_text : List ℕ → List ℕ → Bool
is_text text bytes = option_eq bytes_eq (text_of bytes) (Some text)

-- the values under a key, in order; keys that are no text are no key
abbrev pub values_under : List ℕ → List (List ℕ × List ℕ) → List (List ℕ)
values_under key pairs = map (λ p. p.1) (filter (λ p. is_text key p.0) pairs)

-- the value under a key: of a key that is given more than once the last counts
abbrev pub last_under : List ℕ → List (List ℕ × List ℕ) → Option (List ℕ)
last_under key pairs = last_or None (values_under key pairs)
