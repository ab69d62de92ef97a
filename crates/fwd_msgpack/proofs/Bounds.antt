-- A value that a scan ends is within the limit, and the
-- values of a stream are no longer than its bytes.
use Rattle.std.proofs.Common.{◌≡◌, ℕ, ◌+◌, ◌-◌, ◌^◌, ◌<◌, ◌≤◌, Bool, true, false, cond, ◌&&◌, List, [], ◌∷◌, ◌++◌, length, drop, Option, Some, None, refl, ap, fold, sum, arith}
use Rattle.std.specs.Prelude.{nat_le, nat_lt, option_and_then}
use Rattle.std.specs.List.{concat}
use Rattle.std.proofs.lemmas.Bool.{ltb-false}
use Rattle.std.proofs.lemmas.Bool.Decides.{nat_tests}
use Rattle.std.proofs.lemmas.List.{length-append, length-drop}
use Rattle.fwd_msgpack.specs.declared.fault.ScanFault.TheVariants.{TooDeep, TooLong}
use Rattle.fwd_msgpack.specs.declared.head.Head.{Head}
use Rattle.fwd_msgpack.specs.declared.head.Head.TheVariants.{Nil, Bool as Boolean, Int, Float, Str, Bin, Arr, Map, Ext}
use Rattle.fwd_msgpack.specs.declared.head.HeadRead.{HeadRead}
use Rattle.fwd_msgpack.specs.declared.head.HeadRead.TheVariants as read
use Rattle.fwd_msgpack.specs.Heads.{IsWithin, reading_of, payload, members, opens}
use Rattle.fwd_msgpack.specs.Scans.{Verdict, Whole, Short, Bad, Item, InHead, InPayload, State, Going, Ended, Failed, after_value, goes_on, value_ended, payload_ended, item_begun, fault_at, unless_faulty, head_found, head_heard, scan_item, scan_byte, verdict_of, start, first_of, most_bytes, most_deep, IsWhole, Split, Open, Broken, judged, hear_byte, split_of, values_of, row_of_values, parts_read, parts_of, elements_in, elements_of}
use Rattle.fwd_msgpack.proofs.Fronts.{reading_within}
use Rattle.fwd_msgpack.proofs.Parts.{whole_first}

abbrev IsBounded : ℕ → State → Type 0
IsBounded limit (Going used stack (InHead pending)) = Unit {0}
IsBounded limit (Going used stack (InPayload left)) = (1 ≤ left) × (used + left ≤ limit)
IsBounded limit (Ended used) = used ≤ limit
IsBounded limit (Failed fault) = Unit {0}

goes_on_bounded : (limit used : ℕ) (o : Option (List ℕ)) → used ≤ limit
    → IsBounded limit (goes_on used o)
goes_on_bounded limit used None le = le
goes_on_bounded limit used (Some stack) le = tt

payload_bounded : (limit used : ℕ) (stack : List ℕ) (head : Head) → used ≤ limit
    → IsBounded limit (payload_ended used stack head)
unfolding payload_ended
payload_bounded limit used stack head le = at (nat_lt 0 (members head))
  where
    at : (b : Bool)
        → IsBounded limit
        (cond b (Going used ((members head - 1) ∷ stack) (InHead []))
        (value_ended used stack))
    at true = tt
    at false = goes_on_bounded limit used (after_value stack) le

begun_bounded : (limit used : ℕ) (stack : List ℕ) (head : Head)
    → used + payload head ≤ limit → IsBounded limit (item_begun used stack head)
unfolding item_begun
begun_bounded limit used stack head le = at (nat_lt 0 (payload head)) refl
  where
    at : (b : Bool) → nat_lt 0 (payload head) ≡ b
        → IsBounded limit
        (cond b (Going used stack (InPayload (payload head))) (payload_ended used stack head))
    at true e = (some (payload head) e, le)
      where
        some : (n : ℕ) → nat_lt 0 n ≡ true → 1 ≤ n
        some n h = grind (arith, nat_tests)
    at false e = payload_bounded limit used stack head (omega arith)

found_bounded : (limit deep used : ℕ) (stack : List ℕ) (head : Head)
    → IsBounded limit (head_found limit deep used stack head)
unfolding fault_at
found_bounded limit deep used stack head = at (opens head && nat_le deep (length stack)) (nat_lt limit (used + (payload head + members head + sum stack))) refl
  where
    at : (a b : Bool) → nat_lt limit (used + (payload head + members head + sum stack)) ≡ b
        → IsBounded limit
        (unless_faulty (cond a (Some TooDeep) (cond b (Some TooLong) None))
        (item_begun used stack head))
    at true b e = tt
    at false true e = tt
    at false false e =
        let within : used + (payload head + members head + sum stack) ≤ limit = ltb-false _ _ e in
        begun_bounded limit used stack head (omega arith)

heard_bounded : (limit deep used : ℕ) (stack front : List ℕ) (r : HeadRead)
    → IsBounded limit (head_heard limit deep used stack front r)
heard_bounded limit deep used stack front read.Short = tt
heard_bounded limit deep used stack front read.Reserved = tt
heard_bounded limit deep used stack front (read.Whole head n) = found_bounded limit deep used stack head

item_bounded : (limit deep used : ℕ) (stack : List ℕ) (item : Item) (byte : ℕ)
    → IsBounded limit (Going used stack item)
    → IsBounded limit (scan_item limit deep used stack item byte)
item_bounded limit deep used stack (InHead pending) byte h = heard_bounded limit deep (used + 1) stack (pending ++ byte ∷ []) (reading_of (pending ++ byte ∷ []))
item_bounded limit deep used stack (InPayload left) byte h = at (nat_lt 1 left) refl
  where
    more : (n : ℕ) → nat_lt 1 n ≡ true → 1 < n
    more n e = grind (arith, nat_tests)

    at : (b : Bool) → nat_lt 1 left ≡ b
        → IsBounded limit
        (cond b (Going (used + 1) stack (InPayload (left - 1))) (value_ended (used + 1) stack))
    at true e = (omega (arith, more left e), omega (arith, h.0, h.1, more left e))
    at false e = goes_on_bounded limit (used + 1) (after_value stack) (omega (arith, h.0, h.1))

byte_bounded : (limit deep : ℕ) (state : State) (byte : ℕ) → IsBounded limit state
    → IsBounded limit (scan_byte limit deep state byte)
byte_bounded limit deep (Going used stack item) byte h = item_bounded limit deep used stack item byte h
byte_bounded limit deep (Ended used) byte h = h
byte_bounded limit deep (Failed fault) byte h = tt

all_bounded : (limit deep : ℕ) (state : State) (bytes : List ℕ) → IsBounded limit state
    → IsBounded limit (fold (scan_byte limit deep) state bytes)
all_bounded limit deep state [] h = h
all_bounded limit deep state (b ∷ bytes) h = all_bounded limit deep (scan_byte limit deep state b) bytes (byte_bounded limit deep state b h)

ended_bounded : (limit n : ℕ) (state : State) → IsBounded limit state
    → verdict_of state ≡ Whole n → n ≤ limit
ended_bounded limit n (Going used stack item) h e = absurd cc
ended_bounded limit n (Ended used) h e = let same : used ≡ n = cc in omega (arith, same, h)
ended_bounded limit n (Failed fault) h e = absurd cc

-- a first value is within the limit
pub first_bounded : (limit deep : ℕ) (bytes : List ℕ) (n : ℕ)
    → first_of limit deep bytes ≡ Whole n → n ≤ limit
unfolding first_of
first_bounded limit deep bytes n e = ended_bounded limit n (fold (scan_byte limit deep) start bytes) (all_bounded limit deep start bytes tt) e

-- a whole value has less than 2^32 bytes
pub whole_bounded : (bytes : List ℕ) → IsWhole bytes → length bytes < 2 ^ 32
whole_bounded bytes whole = omega (arith, first_bounded most_bytes most_deep bytes (length bytes) (whole_first bytes whole))

-- ---- the values of a stream

abbrev size_of : Split → ℕ
size_of (Open values rest) = length (concat values) + length rest
size_of (Broken values fault) = length (concat values)

concat_push : (xs : List (List ℕ)) (x : List ℕ)
    → length (concat (xs ++ x ∷ [])) ≡ length (concat xs) + length x
concat_push [] x = omega (arith, length-append x [])
concat_push (y ∷ xs) x = omega (arith, length-append y (concat (xs ++ x ∷ [])), length-append y (concat xs), concat_push xs x)

judged_size : (values : List (List ℕ)) (rest : List ℕ) (v : Verdict)
    → size_of (judged values rest v) ≤ length (concat values) + length rest
judged_size values rest (Whole n) = omega (arith, concat_push values rest)
judged_size values rest Short = omega arith
judged_size values rest (Bad fault) = omega arith

hear_size : (limit deep : ℕ) (s : Split) (b : ℕ)
    → size_of (hear_byte limit deep s b) ≤ size_of s + 1
hear_size limit deep (Open values rest) b =
    omega (arith, judged_size values (rest ++ b ∷ []) (first_of limit deep (rest ++ b ∷ [])), length-append rest (b ∷ []))
hear_size limit deep (Broken values fault) b = omega arith

fold_size : (limit deep : ℕ) (s : Split) (bytes : List ℕ)
    → size_of (fold (hear_byte limit deep) s bytes) ≤ size_of s + length bytes
fold_size limit deep s [] = omega arith
fold_size limit deep s (b ∷ bytes) = omega (arith, fold_size limit deep (hear_byte limit deep s b) bytes, hear_size limit deep s b)

values_size : (s : Split) → length (concat (values_of s)) ≤ size_of s
values_size (Open values rest) = omega arith
values_size (Broken values fault) = omega arith

row_bounded : (bytes : List ℕ) → length (concat (row_of_values bytes)) ≤ length bytes
unfolding row_of_values split_of
row_bounded bytes =
    omega (arith, values_size (fold (hear_byte most_bytes most_deep) (Open [] []) bytes), fold_size most_bytes most_deep (Open [] []) bytes)

elements_at : (bytes : List ℕ) (es : List (List ℕ)) (r : HeadRead) → IsWithin (length bytes) r
    → option_and_then (λ parts. elements_in parts.0 parts.1) (parts_read r bytes) ≡ Some es
    → length (concat es) < length bytes
elements_at bytes es (read.Whole (Arr n) used) within e =
    let same : row_of_values (drop used bytes) ≡ es = cc in
    omega (arith, ap (λ xs. length (concat xs)) same, row_bounded (drop used bytes), length-drop used bytes, within)
elements_at bytes es (read.Whole (Map n) used) within e = absurd cc
elements_at bytes es (read.Whole Nil used) within e = absurd cc
elements_at bytes es (read.Whole (Boolean b) used) within e = absurd cc
elements_at bytes es (read.Whole (Int neg mag) used) within e = absurd cc
elements_at bytes es (read.Whole (Float len) used) within e = absurd cc
elements_at bytes es (read.Whole (Str len) used) within e = absurd cc
elements_at bytes es (read.Whole (Bin len) used) within e = absurd cc
elements_at bytes es (read.Whole (Ext kind len) used) within e = absurd cc
elements_at bytes es read.Short within e = absurd cc
elements_at bytes es read.Reserved within e = absurd cc

-- the members of an array are shorter than it, all together
pub elements_bounded : (bytes : List ℕ) (es : List (List ℕ)) → elements_of bytes ≡ Some es
    → length (concat es) < length bytes
unfolding parts_of
elements_bounded bytes es e = elements_at bytes es (reading_of bytes) (reading_within bytes) e
