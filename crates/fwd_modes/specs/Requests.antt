-- What a whole value asks for (Forward Protocol Specification v1, "Message Modes").
use Rattle.std.specs.Prelude.{ℕ, Bool, List, [], ◌∷◌, Option, Some, None, is_none, find, unwrap_or, option_and_then, if◌then◌else◌}
use Rattle.std.specs.Option.{option_map}
use Rattle.fwd_msgpack.specs.declared.head.Head.{Head}
use Rattle.fwd_msgpack.specs.declared.head.Head.TheVariants.{Int, Ext, Arr, Str, Bin}
use Rattle.fwd_msgpack.specs.Scans.{elements_of, text_of, head_of, is_nil}
use Rattle.fwd_modes.specs.declared.fault.InputFault.{InputFault}
use Rattle.fwd_modes.specs.declared.fault.InputFault.TheVariants.{BadShape, BadTag, BadEntry, BadOption, Compressed}
use Rattle.fwd_modes.specs.declared.limits.TheConstants.{TAG_LIMIT}
use Rattle.fwd_modes.specs.Kinds.{text_within}
use Rattle.fwd_modes.specs.Entries.{kept_if, listed_entries, packed_entries}
use Rattle.fwd_modes.specs.Options.{is_bad_option, is_compressed, chunk_of}

-- what a source asks for: its tag, the entries as they are
-- kept, and the value that its acknowledgement is to carry
pub record Request : Type 0 where
  pub tag : List ℕ
  pub entries : List (List ℕ)
  pub chunk : Option (List ℕ)

-- what a whole value says
pub data Reading : Type 0 where
  Heartbeat : Reading
  Asks : (r : Request) → Reading
  Fails : (f : InputFault) → Reading

-- A request by its parts: the tag's value, the entries as they are kept if each is one, and the
-- option's value if it is there.
pub record RequestFields : Type 0 where
  pub tag : List ℕ
  pub entries : Option (List (List ℕ))
  pub option : Option (List ℕ)

-- how the entries of a request are given
pub data Mode : Type 0 where
  Message : Mode
  Forward : Mode
  PackedForward : Mode

-- The second element tells the mode: an integer or an extension is the
-- time of a Message, an array has the entries of Forward mode, and a
-- str or a bin those of PackedForward mode. No other kind stands there.
abbrev pub mode_by : Option Head → Option Mode
mode_by (Some (Int neg mag)) = Some Message
mode_by (Some (Ext kind len)) = Some Message
mode_by (Some (Arr n)) = Some Forward
mode_by (Some (Str len)) = Some PackedForward
mode_by (Some (Bin len)) = Some PackedForward
mode_by _ = None

-- the one entry of a Message, if it is one
abbrev pub one_entry : Option (List ℕ) → Option (List (List ℕ))
one_entry entry = option_map (λ e. e ∷ []) entry

-- packed bytes, behind the head of a str or a bin
abbrev pub unpacked : (deep : ℕ) → List ℕ → Option (List (List ℕ))
unpacked deep bytes = option_and_then (packed_entries deep) (text_of bytes)

-- the rest of a request behind its entries is an option, or nothing
abbrev pub with_option : (tag : List ℕ) → Option (List (List ℕ)) → List (List ℕ)
    → Option RequestFields
with_option tag entries [] = Some (record { tag = tag; entries = entries; option = None })
with_option tag entries (option ∷ []) =
    Some (record { tag = tag; entries = entries; option = Some option })
with_option tag entries _ = None

-- a Message has its fields behind its time
abbrev pub message : (tag time : List ℕ) → List (List ℕ) → Option RequestFields
message tag time (fields ∷ others) = with_option tag (one_entry (kept_if time fields)) others
message tag time [] = None

-- the parts by the mode
abbrev pub parts_by : (deep : ℕ) → Option Mode → (tag second : List ℕ) → List (List ℕ)
    → Option RequestFields
parts_by deep None tag second others = None
parts_by deep (Some Message) tag time others = message tag time others
parts_by deep (Some Forward) tag entries others = with_option tag (listed_entries entries) others
parts_by deep (Some PackedForward) tag packed others = with_option tag (unpacked deep packed) others

-- the parts of an array, if it has the shape of a request
abbrev pub parts_in : (deep : ℕ) → List (List ℕ) → Option RequestFields
parts_in deep (tag ∷ second ∷ others) =
    parts_by deep (mode_by (head_of second)) tag second others
parts_in deep _ = None

-- a tag is a str or a bin within the limit
abbrev pub tag_of : List ℕ → Option (List ℕ)
tag_of bytes = text_within TAG_LIMIT bytes

-- what can be wrong with the parts, in the order in which it counts
abbrev pub faults_of : RequestFields → List (Bool × InputFault)
faults_of parts =
    (is_none (tag_of parts.tag), BadTag)
    ∷ (is_bad_option parts.option, BadOption)
    ∷ (is_compressed parts.option, Compressed)
    ∷ (is_none parts.entries, BadEntry)
    ∷ []

-- the first fault whose condition holds
abbrev pub first_fault : List (Bool × InputFault) → Option InputFault
first_fault faults = option_map (λ f. f.1) (find (λ f. f.0) faults)

-- what parts without a fault ask for
abbrev pub asked : RequestFields → Request
asked parts = record {
  tag = unwrap_or (text_of parts.tag) [];
  entries = unwrap_or parts.entries [];
  chunk = chunk_of parts.option;
}

-- the fault, or what the parts ask for where there is none
abbrev pub unless_fault : Option InputFault → RequestFields → Reading
unless_fault (Some fault) parts = Fails fault
unless_fault None parts = Asks (asked parts)

-- the shape comes before all that can be wrong with the parts
abbrev pub of_parts : Option RequestFields → Reading
of_parts None = Fails BadShape
of_parts (Some parts) = unless_fault (first_fault (faults_of parts)) parts

-- What a whole value says: nil is a heartbeat, and everything else is a request or has a first
-- fault. Packed entries are at most deep deep.
unfoldable pub request_of : (deep : ℕ) → List ℕ → Reading
request_of deep bytes =
    if is_nil bytes
    then Heartbeat
    else of_parts (option_and_then (parts_in deep) (elements_of bytes))
