-- The first value of a stream of bytes, or the first fault, as
-- a fold over the bytes; and what a whole value consists of.
use Rattle.std.specs.Prelude.{◌≡◌, ℤ, ℕ, zero, suc, ◌+◌, ◌-◌, ◌&&◌, Bool, true, false, if◌then◌else◌, nat_lt, nat_le, List, [], ◌∷◌, ◌++◌, length, drop, fold, sum, Option, Some, None, option_and_then}
use Rattle.std.specs.Option.{option_map}
use Rattle.fwd_msgpack.specs.declared.fault.ScanFault.{ScanFault}
use Rattle.fwd_msgpack.specs.declared.fault.ScanFault.TheVariants.{Reserved, TooDeep, TooLong}
use Rattle.fwd_msgpack.specs.declared.head.Head.{Head}
use Rattle.fwd_msgpack.specs.declared.head.Head.TheVariants.{Nil, Int, Str, Bin, Arr, Map, Ext}
use Rattle.fwd_msgpack.specs.declared.head.HeadRead.{HeadRead}
use Rattle.fwd_msgpack.specs.declared.head.HeadRead.TheVariants as read
use Rattle.fwd_msgpack.specs.declared.limits.TheConstants.{MAX_DEPTH}
use Rattle.fwd_msgpack.specs.Heads.{reading_of, payload, members, opens}

-- what stands at the front of the bytes: a value of n bytes, less than one, or a fault
pub data Verdict : Type 0 where
  Whole : (n : ℕ) → Verdict
  Short : Verdict
  Bad : (fault : ScanFault) → Verdict

-- what part of an item comes next: more of its head, behind
-- what came of it, or so many bytes of its payload
pub data Item : Type 0 where
  InHead : (pending : List ℕ) → Item
  InPayload : (left : ℕ) → Item

-- The state of a scan behind some bytes. The stack has, for each open container from the innermost,
-- how many members it still lacks after the one in progress.
pub data State : Type 0 where
  Going : (used : ℕ) (stack : List ℕ) (item : Item) → State
  Ended : (used : ℕ) → State
  Failed : (fault : ScanFault) → State

-- The open containers after a value in the innermost one,
-- or none: those that lack nothing end with it.
abbrev pub after_value : List ℕ → Option (List ℕ)
after_value [] = None
after_value (zero ∷ stack) = after_value stack
after_value (suc lacking ∷ stack) = Some (lacking ∷ stack)

-- a value has ended, or the next item begins inside these containers
abbrev pub goes_on : ℕ → Option (List ℕ) → State
goes_on used None = Ended used
goes_on used (Some stack) = Going used stack (InHead [])

-- behind a value in the innermost container
abbrev pub value_ended : ℕ → List ℕ → State
value_ended used stack = goes_on used (after_value stack)

-- behind a head within the limits and its payload
unfoldable pub payload_ended : ℕ → List ℕ → Head → State
payload_ended used stack head =
    if nat_lt 0 (members head)
    then Going used ((members head - 1) ∷ stack) (InHead [])
    else value_ended used stack

-- behind a head within the limits
unfoldable pub item_begun : ℕ → List ℕ → Head → State
item_begun used stack head =
    if nat_lt 0 (payload head)
    then Going used stack (InPayload (payload head))
    else payload_ended used stack head

-- What is wrong with a complete head, whose last byte is the used-th, if anything is: an open
-- container more than deep, or what is used and what is owed beyond the limit.
unfoldable pub fault_at : (limit deep used : ℕ) → List ℕ → Head → Option ScanFault
fault_at limit deep used stack head =
    if opens head && nat_le deep (length stack) then Some TooDeep
    else if nat_lt limit (used + (payload head + members head + sum stack)) then Some TooLong
    else None

-- the fault, or the state where there is none
abbrev pub unless_faulty : Option ScanFault → State → State
unless_faulty None state = state
unless_faulty (Some fault) state = Failed fault

-- behind a complete head
abbrev pub head_found : (limit deep used : ℕ) → List ℕ → Head → State
head_found limit deep used stack head =
    unless_faulty (fault_at limit deep used stack head) (item_begun used stack head)

-- behind one byte more of a head, by what its bytes read as
abbrev pub head_heard : (limit deep used : ℕ) → List ℕ → List ℕ → HeadRead → State
head_heard limit deep used stack front read.Short = Going used stack (InHead front)
head_heard limit deep used stack front read.Reserved = Failed Reserved
head_heard limit deep used stack front (read.Whole head n) = head_found limit deep used stack head

-- behind one byte more of an item
abbrev pub scan_item : (limit deep used : ℕ) → List ℕ → Item → ℕ → State
scan_item limit deep used stack (InHead pending) byte =
    head_heard limit deep (used + 1) stack (pending ++ byte ∷ [])
    (reading_of (pending ++ byte ∷ []))
scan_item limit deep used stack (InPayload left) byte =
    if nat_lt 1 left
    then Going (used + 1) stack (InPayload (left - 1))
    else value_ended (used + 1) stack

-- One more byte. What ended or failed stays so.
abbrev pub scan_byte : (limit deep : ℕ) → State → ℕ → State
scan_byte limit deep (Going used stack item) byte = scan_item limit deep used stack item byte
scan_byte limit deep (Ended used) byte = Ended used
scan_byte limit deep (Failed fault) byte = Failed fault

-- what a state says of the bytes behind which it stands
abbrev pub verdict_of : State → Verdict
verdict_of (Going used stack item) = Short
verdict_of (Ended used) = Whole used
verdict_of (Failed fault) = Bad fault

-- where a scan begins
abbrev pub start : State
start = Going 0 [] (InHead [])

-- the first value of the bytes, at most deep deep and limit bytes long, or the first fault
unfoldable pub first_of : (limit deep : ℕ) → List ℕ → Verdict
first_of limit deep bytes = verdict_of (fold (scan_byte limit deep) start bytes)

-- A stream so far: the values, and the bytes behind the last
-- one; or the values before the first fault, and the fault.
pub data Split : Type 0 where
  Open : (values : List (List ℕ)) (rest : List ℕ) → Split
  Broken : (values : List (List ℕ)) (fault : ScanFault) → Split

-- what the bytes behind the last value make of the stream
abbrev pub judged : List (List ℕ) → List ℕ → Verdict → Split
judged values rest (Whole n) = Open (values ++ rest ∷ []) []
judged values rest Short = Open values rest
judged values rest (Bad fault) = Broken values fault

-- One more byte: the bytes since the last value are judged. Behind a fault nothing counts.
abbrev pub hear_byte : (limit deep : ℕ) → Split → ℕ → Split
hear_byte limit deep (Open values rest) byte =
    judged values (rest ++ byte ∷ []) (first_of limit deep (rest ++ byte ∷ []))
hear_byte limit deep (Broken values fault) byte = Broken values fault

-- the whole stream
unfoldable pub split_of : (limit deep : ℕ) → List ℕ → Split
split_of limit deep bytes = fold (hear_byte limit deep) (Open [] []) bytes

-- a stream behind these values
abbrev pub with_front : List (List ℕ) → Split → Split
with_front front (Open values rest) = Open (front ++ values) rest
with_front front (Broken values fault) = Broken (front ++ values) fault

-- more bytes of a stream: they are judged together with the
-- bytes behind the last value, and behind a fault nothing counts
abbrev pub continued : (limit deep : ℕ) → Split → List ℕ → Split
continued limit deep (Open values rest) more =
    with_front values (split_of limit deep (rest ++ more))
continued limit deep (Broken values fault) more = Broken values fault

-- the values of a stream
abbrev pub values_of : Split → List (List ℕ)
values_of (Open values rest) = values
values_of (Broken values fault) = values

-- how many bytes a value has at most
abbrev pub most_bytes : ℕ
most_bytes = 0xffff_ffff

-- how deep a value is at most
abbrev pub most_deep : ℕ
most_deep = MAX_DEPTH

-- the values that stand one after the other in the bytes
unfoldable pub row_of_values : List ℕ → List (List ℕ)
row_of_values bytes = values_of (split_of most_bytes most_deep bytes)

-- the pairs of neighbours
abbrev pub pair_up : List (List ℕ) → List (List ℕ × List ℕ)
pair_up [] = []
pair_up (key ∷ []) = []
pair_up (key ∷ value ∷ others) = (key, value) ∷ pair_up others

-- the head that was read, and the bytes behind it
abbrev pub parts_read : HeadRead → List ℕ → Option (Head × List ℕ)
parts_read (read.Whole head used) bytes = Some (head, drop used bytes)
parts_read _ bytes = None

-- the head that the bytes begin with, and the bytes behind it
unfoldable pub parts_of : List ℕ → Option (Head × List ℕ)
parts_of bytes = parts_read (reading_of bytes) bytes

-- the members behind a head, if it is that of an array
abbrev pub elements_in : Head → List ℕ → Option (List (List ℕ))
elements_in (Arr n) body = Some (row_of_values body)
elements_in _ body = None

-- the members of a whole value that is an array, as their bytes
abbrev pub elements_of : List ℕ → Option (List (List ℕ))
elements_of bytes = option_and_then (λ parts. elements_in parts.0 parts.1) (parts_of bytes)

-- the keys and values behind a head, if it is that of a map
abbrev pub pairs_in : Head → List ℕ → Option (List (List ℕ × List ℕ))
pairs_in (Map n) body = Some (pair_up (row_of_values body))
pairs_in _ body = None

-- the keys and values of a whole value that is a map
abbrev pub pairs_of : List ℕ → Option (List (List ℕ × List ℕ))
pairs_of bytes = option_and_then (λ parts. pairs_in parts.0 parts.1) (parts_of bytes)

-- the payload behind a head, if it is that of a str or a bin
abbrev pub text_in : Head → List ℕ → Option (List ℕ)
text_in (Str len) body = Some body
text_in (Bin len) body = Some body
text_in _ body = None

-- the payload of a whole value that is a str or a bin
abbrev pub text_of : List ℕ → Option (List ℕ)
text_of bytes = option_and_then (λ parts. text_in parts.0 parts.1) (parts_of bytes)

-- the type and the payload behind a head, if it is that of an extension
abbrev pub ext_in : Head → List ℕ → Option (ℤ × List ℕ)
ext_in (Ext kind len) body = Some (kind, body)
ext_in _ body = None

-- the type and the payload of a whole value that is an extension
abbrev pub ext_of : List ℕ → Option (ℤ × List ℕ)
ext_of bytes = option_and_then (λ parts. ext_in parts.0 parts.1) (parts_of bytes)

-- the sign and the size of a head, if it is that of an integer
abbrev pub integer_in : Head → Option (Bool × ℕ)
integer_in (Int neg mag) = Some (neg, mag)
integer_in _ = None

-- whether an integer is below zero, and how far it is from zero
abbrev pub integer_of : List ℕ → Option (Bool × ℕ)
integer_of bytes = option_and_then (λ parts. integer_in parts.0) (parts_of bytes)

-- the head of a whole value
abbrev pub head_of : List ℕ → Option Head
head_of bytes = option_map (λ parts. parts.0) (parts_of bytes)

-- the head of nil (MessagePack specification, "nil format")
abbrev pub is_nil_head : Option Head → Bool
is_nil_head (Some Nil) = true
is_nil_head _ = false

-- the value is nil
abbrev pub is_nil : List ℕ → Bool
is_nil bytes = is_nil_head (head_of bytes)

-- how long the value is, if there is one
abbrev pub whole_len : Verdict → Option ℕ
whole_len (Whole n) = Some n
whole_len Short = None
whole_len (Bad fault) = None

-- the bytes are one whole value, at most most_deep deep and most_bytes long
abbrev pub IsWhole : List ℕ → Type 0
IsWhole bytes = whole_len (first_of most_bytes most_deep bytes) ≡ Some (length bytes)

-- the bytes behind the last value, if there is no fault
abbrev pub rest_of : Split → Option (List ℕ)
rest_of (Open values rest) = Some rest
rest_of (Broken values fault) = None

-- the bytes are whole values one after the other, to the last byte
abbrev pub IsRow : List ℕ → Type 0
IsRow bytes = rest_of (split_of most_bytes most_deep bytes) ≡ Some []
