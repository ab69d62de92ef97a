-- The heads of MessagePack: the table of first bytes, what
-- a front of bytes reads as, and the shortest spelling.
use Rattle.std.specs.Prelude.{◌≡◌, ◌⊎◌, ℕ, ◌+◌, ◌-◌, ◌*◌, ◌^◌, ◌<◌, ◌≤◌, ◌==◌, Bool, true, false, if◌then◌else◌, nat_lt, nat_le, List, [], ◌∷◌, ◌++◌, length, take, slice_index, slice_index_or, Option, Some, None, FitsSigned}
use Rattle.std.specs.Int.{Width, w8, w16, w32, w64, byte_len, from_be_bytes, to_be_bytes, cast_signed, cast_unsigned}
use Rattle.fwd_msgpack.specs.declared.head.Head.{Head}
use Rattle.fwd_msgpack.specs.declared.head.Head.TheVariants.{Nil, Bool as Boolean, Int, Float, Str, Bin, Arr, Map, Ext}
use Rattle.fwd_msgpack.specs.declared.head.HeadRead.{HeadRead}
use Rattle.fwd_msgpack.specs.declared.head.HeadRead.TheVariants.{Whole, Short, Reserved}

-- A row of the table of first bytes: how many bytes of the
-- head follow the first, and the head that they spell.
pub record Row : Type 0 where
  pub more : ℕ
  pub spells : List ℕ → Head

-- the number at the front of the bytes, big-endian
abbrev pub number_at : Width → List ℕ → Option ℕ
number_at w bytes =
    if nat_lt (length bytes) (byte_len w)
    then None
    else Some (from_be_bytes w (take (byte_len w) bytes))

-- the first byte is the whole head
abbrev pub fixed : Head → Option Row
fixed head = Some (record { more = 0; spells = λ _. head })

-- a length follows, big-endian
abbrev pub sized : Width → (ℕ → Head) → Option Row
sized w kind = Some (record { more = byte_len w; spells = λ bytes. kind (from_be_bytes w bytes) })

-- a number that is not negative
abbrev pub unsigned : Width → Option Row
unsigned w = sized w (λ n. Int false n)

-- the integer that the low half of 2 ^ bits spells as
-- itself, and the high half as what it lacks to 2 ^ bits
abbrev pub twos_complement : ℕ → ℕ → Head
twos_complement half n = if nat_lt n half then Int false n else Int true (2 * half - n)

-- a number that may be negative, in twos complement
abbrev pub signed : Width → ℕ → Option Row
signed w half = sized w (twos_complement half)

-- a type byte, which is signed
abbrev pub extended : ℕ → Option Row
extended len =
    Some (record { more = 1; spells = λ bytes. Ext (cast_signed w8 (slice_index bytes 0)) len })

-- a length, and then a type byte
abbrev pub sized_ext : Width → Option Row
sized_ext w =
    Some (record {
      more = byte_len w + 1;
      spells =
          λ bytes. Ext (cast_signed w8 (slice_index bytes (byte_len w))) (from_be_bytes w bytes);
    })

-- the rows of the first bytes c0 to df, in order
unfoldable pub named_rows : List (Option Row)
named_rows =
    fixed Nil ∷ None ∷ fixed (Boolean false) ∷ fixed (Boolean true)
    ∷ sized w8 Bin ∷ sized w16 Bin ∷ sized w32 Bin
    ∷ sized_ext w8 ∷ sized_ext w16 ∷ sized_ext w32
    ∷ fixed (Float 4) ∷ fixed (Float 8)
    ∷ unsigned w8 ∷ unsigned w16 ∷ unsigned w32 ∷ unsigned w64
    ∷ signed w8 0x80 ∷ signed w16 0x8000 ∷ signed w32 0x8000_0000
    ∷ signed w64 0x8000_0000_0000_0000
    ∷ extended 1 ∷ extended 2 ∷ extended 4 ∷ extended 8 ∷ extended 16
    ∷ sized w8 Str ∷ sized w16 Str ∷ sized w32 Str
    ∷ sized w16 Arr ∷ sized w32 Arr
    ∷ sized w16 Map ∷ sized w32 Map
    ∷ []

-- The table: the row of a first byte. c1 has none.
unfoldable pub row_of : ℕ → Option Row
row_of first =
    if nat_lt first 0x80 then fixed (Int false first)
    else if nat_lt first 0x90 then fixed (Map (first - 0x80))
    else if nat_lt first 0xa0 then fixed (Arr (first - 0x90))
    else if nat_lt first 0xc0 then fixed (Str (first - 0xa0))
    else if nat_lt first 0xe0 then slice_index_or named_rows (first - 0xc0) None
    else fixed (Int true (256 - first))

-- what a row makes of the bytes behind the first
abbrev pub row_reading : Option Row → List ℕ → HeadRead
row_reading None rest = Reserved
row_reading (Some row) rest =
    if nat_lt (length rest) row.more
    then Short
    else Whole (row.spells (take row.more rest)) (row.more + 1)

-- the head at the front of the bytes, read through the table, and how many bytes it takes
unfoldable pub reading_of : List ℕ → HeadRead
reading_of [] = Short
reading_of (first ∷ rest) = row_reading (row_of first) rest

-- what is read takes at least one byte, and no more than there are
abbrev pub IsWithin : ℕ → HeadRead → Type 0
IsWithin len (Whole head used) = (0 < used) × (used ≤ len)
IsWithin len read = Unit {0}

-- how many bytes of payload stand behind a head
abbrev pub payload : Head → ℕ
payload (Float len) = len
payload (Str len) = len
payload (Bin len) = len
payload (Ext kind len) = len
payload _ = 0

-- how many values a head opens
abbrev pub members : Head → ℕ
members (Arr n) = n
members (Map n) = 2 * n
members _ = 0

-- an array or a map, empty or not
abbrev pub opens : Head → Bool
opens (Arr n) = true
opens (Map n) = true
opens _ = false

-- what a head can hold: numbers of 64 bits, lengths of 32 bits, types of 8 bits with a sign
abbrev pub IsHead : Head → Type 0
IsHead (Int neg mag) = mag < 2 ^ 64
IsHead (Float len) = len < 2 ^ 8
IsHead (Str len) = len < 2 ^ 32
IsHead (Bin len) = len < 2 ^ 32
IsHead (Arr n) = n < 2 ^ 32
IsHead (Map n) = n < 2 ^ 32
IsHead (Ext kind len) = FitsSigned w8 kind × (len < 2 ^ 32)
IsHead _ = Unit {0}

-- What has a spelling: zero is not negative, 64 bits bound what is, and a float has 4 or 8 bytes.
abbrev pub IsSpelled : Head → Type 0
IsSpelled (Int true mag) = (1 ≤ mag) × (mag ≤ 2 ^ 63)
IsSpelled (Float len) = (len ≡ 4) ⊎ (len ≡ 8)
IsSpelled _ = Unit {0}

-- a number that is not negative (MessagePack specification, "int format family")
abbrev pub unsigned_bytes : ℕ → List ℕ
unsigned_bytes n =
    if nat_lt n 0x80 then n ∷ []
    else if nat_lt n 0x100 then 0xcc ∷ n ∷ []
    else if nat_lt n 0x1_0000 then 0xcd ∷ to_be_bytes w16 n
    else if nat_lt n 0x1_0000_0000 then 0xce ∷ to_be_bytes w32 n
    else 0xcf ∷ to_be_bytes w64 n

-- minus n
abbrev pub negative_bytes : ℕ → List ℕ
negative_bytes n =
    if nat_le n 0x20 then (0x100 - n) ∷ []
    else if nat_le n 0x80 then 0xd0 ∷ (0x100 - n) ∷ []
    else if nat_le n 0x8000 then 0xd1 ∷ to_be_bytes w16 (0x1_0000 - n)
    else if nat_le n 0x8000_0000 then 0xd2 ∷ to_be_bytes w32 (0x1_0000_0000 - n)
    else 0xd3 ∷ to_be_bytes w64 (0x1_0000_0000_0000_0000 - n)

-- the head of a float of 4 or 8 bytes ("float format family")
abbrev pub float_bytes : ℕ → List ℕ
float_bytes len = (if len == 4 then 0xca else 0xcb) ∷ []

-- the head of a str of so many bytes ("str format family")
abbrev pub str_bytes : ℕ → List ℕ
str_bytes len =
    if nat_lt len 0x20 then (0xa0 + len) ∷ []
    else if nat_lt len 0x100 then 0xd9 ∷ len ∷ []
    else if nat_lt len 0x1_0000 then 0xda ∷ to_be_bytes w16 len
    else 0xdb ∷ to_be_bytes w32 len

-- the head of a bin of so many bytes ("bin format family")
abbrev pub bin_bytes : ℕ → List ℕ
bin_bytes len =
    if nat_lt len 0x100 then 0xc4 ∷ len ∷ []
    else if nat_lt len 0x1_0000 then 0xc5 ∷ to_be_bytes w16 len
    else 0xc6 ∷ to_be_bytes w32 len

-- the head of an array of so many members ("array format family")
abbrev pub arr_bytes : ℕ → List ℕ
arr_bytes n =
    if nat_lt n 0x10 then (0x90 + n) ∷ []
    else if nat_lt n 0x1_0000 then 0xdc ∷ to_be_bytes w16 n
    else 0xdd ∷ to_be_bytes w32 n

-- the head of a map of so many pairs ("map format family")
abbrev pub map_bytes : ℕ → List ℕ
map_bytes n =
    if nat_lt n 0x10 then (0x80 + n) ∷ []
    else if nat_lt n 0x1_0000 then 0xde ∷ to_be_bytes w16 n
    else 0xdf ∷ to_be_bytes w32 n

-- an extension's length by its size, without the type byte
abbrev pub ext_sized_bytes : ℕ → List ℕ
ext_sized_bytes len =
    if nat_lt len 0x100 then 0xc7 ∷ len ∷ []
    else if nat_lt len 0x1_0000 then 0xc8 ∷ to_be_bytes w16 len
    else 0xc9 ∷ to_be_bytes w32 len

-- an extension's length, without the type byte
abbrev pub ext_len_bytes : ℕ → List ℕ
ext_len_bytes len =
    if len == 1 then 0xd4 ∷ []
    else if len == 2 then 0xd5 ∷ []
    else if len == 4 then 0xd6 ∷ []
    else if len == 8 then 0xd7 ∷ []
    else if len == 16 then 0xd8 ∷ []
    else ext_sized_bytes len

-- the shortest spelling of a head
unfoldable pub head_bytes : Head → List ℕ
head_bytes Nil = 0xc0 ∷ []
head_bytes (Boolean false) = 0xc2 ∷ []
head_bytes (Boolean true) = 0xc3 ∷ []
head_bytes (Int false mag) = unsigned_bytes mag
head_bytes (Int true mag) = negative_bytes mag
head_bytes (Float len) = float_bytes len
head_bytes (Str len) = str_bytes len
head_bytes (Bin len) = bin_bytes len
head_bytes (Arr n) = arr_bytes n
head_bytes (Map n) = map_bytes n
head_bytes (Ext kind len) = ext_len_bytes len ++ cast_unsigned w8 kind ∷ []
