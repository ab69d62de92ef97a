-- Entries (Forward Protocol Specification v1, "Message Modes"):
-- what is one, how it is kept, and where many of them stand.
use Rattle.std.specs.Prelude.{◌≡◌, ℕ, ◌+◌, ◌-◌, ◌<◌, ◌≤◌, ◌&&◌, List, [], ◌∷◌, ◌++◌, length, take, drop, Option, Some, None, option_and_then, if◌then◌else◌}
use Rattle.std.specs.List.{concat, AllByRecursion}
use Rattle.std.specs.Option.{option_map}
use Rattle.fwd_msgpack.specs.Scans.{Whole, Split, Open, Broken, first_of, split_of, most_bytes, elements_of}
use Rattle.fwd_modes.specs.Kinds.{is_map}
use Rattle.fwd_modes.specs.Times.{is_time}

-- each has a byte
abbrev pub AreFull : List (List ℕ) → Type 0
AreFull entries = AllByRecursion (λ e. 0 < length e) entries

-- an entry as it is kept: an array of two, the time and the fields as they are spelled
abbrev pub kept_entry : (time fields : List ℕ) → List ℕ
kept_entry time fields = 0x92 ∷ time ++ fields

-- a time and fields, which are a map, as they are kept
abbrev pub kept_if : (time fields : List ℕ) → Option (List ℕ)
kept_if time fields =
    if is_time time && is_map fields then Some (kept_entry time fields) else None

-- an array of exactly two
abbrev pub entry_in : List (List ℕ) → Option (List ℕ)
entry_in (time ∷ fields ∷ []) = kept_if time fields
entry_in _ = None

-- the entry that a whole value is, as it is kept
unfoldable pub entry_of : List ℕ → Option (List ℕ)
entry_of bytes = option_and_then entry_in (elements_of bytes)

-- something put before a list, if both are there
abbrev pub before : Option (List ℕ) → Option (List (List ℕ)) → Option (List (List ℕ))
before None others = None
before (Some entry) others = option_map (λ entries. entry ∷ entries) others

-- the entries that whole values are, if each of them is one
abbrev pub entries_of : List (List ℕ) → Option (List (List ℕ))
entries_of [] = Some []
entries_of (value ∷ values) = before (entry_of value) (entries_of values)

-- the values of a stream that ends with the last of them
abbrev pub values_to_the_end : Split → Option (List (List ℕ))
values_to_the_end (Open values []) = Some values
values_to_the_end (Open values (byte ∷ rest)) = None
values_to_the_end (Broken values fault) = None

-- The bytes begin, within the limits, with a value of so many bytes that is an entry, spelled as it
-- is kept.
pub record BeginsKept (limit deep : ℕ) (bytes : List ℕ) (len : ℕ) : Type 0 where
  pub whole : first_of limit deep bytes ≡ Whole len
  pub kept : entry_of (take len bytes) ≡ Some (take len bytes)
  pub some : 0 < len
  pub within : len ≤ length bytes

-- the members of an array, if each is an entry
unfoldable pub listed_entries : List ℕ → Option (List (List ℕ))
listed_entries bytes = option_and_then entries_of (elements_of bytes)

-- Packed bytes: whole entries one after the other to the
-- last byte, each at most deep deep from its own array.
unfoldable pub packed_entries : (deep : ℕ) → List ℕ → Option (List (List ℕ))
packed_entries deep packed =
    option_and_then entries_of (values_to_the_end (split_of most_bytes deep packed))

-- where the entries end that stand one after the other from a place on, in bytes
abbrev pub ends_from : ℕ → List (List ℕ) → List ℕ
ends_from place [] = []
ends_from place (entry ∷ entries) =
    (place + length entry) ∷ ends_from (place + length entry) entries

-- where each entry ends, in bytes from the front of the first
abbrev pub ends_of : List (List ℕ) → List ℕ
ends_of entries = ends_from 0 entries

-- the bytes from a place on, cut at these ends
abbrev pub cut_at : (place : ℕ) (ends bytes : List ℕ) → List (List ℕ)
cut_at place [] bytes = []
cut_at place (end ∷ ends) bytes =
    take (end - place) bytes ∷ cut_at end ends (drop (end - place) bytes)

-- the bytes from a place on have these ends, and nothing behind the last
pub record AreCut (place : ℕ) (ends bytes : List ℕ) : Type 0 where
  pub joined : concat (cut_at place ends bytes) ≡ bytes
  pub ending : ends_from place (cut_at place ends bytes) ≡ ends
