-- The words of a script line, and the numbers and bytes that they spell.
use Rattle.std.specs.Prelude.{ℕ, ◌%◌, ◌==◌, ◌&&◌, ◌^◌, not, Bool, nat_lt, if◌then◌else◌, List, [], ◌∷◌, length, codes, Option, Some, None, Result, Ok, Err, option_and_then, ◌⊎◌, IsSome}
use Rattle.std.specs.Char.{is_ascii_hexdigit, is_ascii_uppercase}
use Rattle.std.specs.List.{list_all, list_any, slice_split}
use Rattle.std.specs.Str.{bytes_eq}
use Rattle.std.specs.Str.Parse.{digits_value}
use Rattle.std.specs.Fmt.{decimal}
use Rattle.hex.specs.Hex.{encode_lower, decode_of}
use Rattle.hex.specs.declared.error.FromHexError.{FromHexError}

infixl 10 ◌>>=◌
-- the second step, where the first gave something
abbrev pub ◌>>=◌ : {A B : Type 0} → Option A → (A → Option B) → Option B
o >>= f = option_and_then f o

-- the words of a line: what stands before, between and after its spaces
abbrev pub words : List ℕ → List (List ℕ)
words line = slice_split (λ b. b == 32) line

-- bytes as pairs of lower-case hexadecimal digits, or `-` for no bytes
abbrev pub hex_text : List ℕ → List ℕ
hex_text [] = codes "-"
hex_text (b ∷ bytes) = encode_lower (b ∷ bytes)

-- pairs of hexadecimal digits, with no letter in upper case
abbrev pub is_hex : List ℕ → Bool
is_hex word =
    (length word % 2 == 0)
    && (not (list_any is_ascii_uppercase word) && list_all is_ascii_hexdigit word)

-- the number that a word's digits stand for, where it is below the limit and the word is its one
-- decimal spelling
unfoldable pub number_of : ℕ → List ℕ → Option ℕ
number_of limit word =
    let n = digits_value 10 word in
    if nat_lt n limit && bytes_eq word (decimal n) then Some n else None

-- the bytes, where the word is their one spelling
abbrev pub spelled : List ℕ → Result (List ℕ) FromHexError → Option (List ℕ)
spelled word (Ok bytes) = if bytes_eq word (hex_text bytes) then Some bytes else None
spelled word (Err e) = None

-- the bytes that a word spells
unfoldable pub bytes_of : List ℕ → Option (List ℕ)
bytes_of word = if bytes_eq word (codes "-") then Some [] else spelled word (decode_of word)

-- one of some words spells bytes
abbrev pub HasBytes : List (List ℕ) → Type 0
HasBytes [] = ⊥
HasBytes (word ∷ words) = IsSome (bytes_of word) ⊎ HasBytes words

-- the sixteen bytes that a word spells
unfoldable pub sixteen_of : List ℕ → Option (List ℕ)
sixteen_of word = do
  bytes ← bytes_of word
  if length bytes == 16 then Some bytes else None

-- the bytes that a word spells, where a PING can hold them as its salt
unfoldable pub salt_of : List ℕ → Option (List ℕ)
salt_of word = do
  bytes ← bytes_of word
  if nat_lt (length bytes) (2 ^ 32) then Some bytes else None
