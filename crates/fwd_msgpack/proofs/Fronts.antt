-- A scan goes over a head, and over a payload, in one step each.
use Rattle.std.proofs.Common.{◌≡◌, ℕ, zero, suc, ◌+◌, ◌-◌, ◌<◌, ◌≤◌, Bool, true, false, cond, ltb, List, [], ◌∷◌, ◌++◌, length, take, drop, Option, Some, None, refl, sym, ap, ◌∙◌, arith, append_assoc, add-zero, sub-one}
use Rattle.std.specs.Prelude.{fold}
use Rattle.std.proofs.lemmas.Bool.{ltb-true, ltb-false, le-ltb, lt-ltb, cond_both}
use Rattle.std.proofs.lemmas.List.{append-nil, length-append, take_all, length-take-le, take-append-drop, drop_at}
use Rattle.fwd_msgpack.specs.declared.fault.ScanFault.{ScanFault}
use Rattle.fwd_msgpack.specs.declared.fault.ScanFault.TheVariants.{Reserved}
use Rattle.fwd_msgpack.specs.declared.head.Head.{Head}
use Rattle.fwd_msgpack.specs.declared.head.Head.TheVariants.{Nil, Bool as Boolean, Int, Float, Str, Bin, Arr, Map, Ext}
use Rattle.fwd_msgpack.specs.declared.head.HeadRead.{HeadRead}
use Rattle.fwd_msgpack.specs.declared.head.HeadRead.TheVariants as read
use Rattle.fwd_msgpack.specs.Heads.{Row, IsWithin, row_of, row_reading, reading_of, payload, members}
use Rattle.fwd_msgpack.specs.Scans.{InHead, InPayload, State, Going, Ended, Failed, value_ended, payload_ended, item_begun, fault_at, unless_faulty, head_found, head_heard, scan_byte}

-- the state behind more bytes
abbrev pub scanned : (limit deep : ℕ) → State → List ℕ → State
scanned limit deep state bytes = fold (scan_byte limit deep) state bytes

pub scanned-Failed : (limit deep : ℕ) (fault : ScanFault) (bytes : List ℕ)
    → scanned limit deep (Failed fault) bytes ≡ Failed fault
scanned-Failed limit deep fault [] = refl
scanned-Failed limit deep fault (b ∷ bytes) = scanned-Failed limit deep fault bytes

pub scanned-Ended : (limit deep used : ℕ) (bytes : List ℕ)
    → scanned limit deep (Ended used) bytes ≡ Ended used
scanned-Ended limit deep used [] = refl
scanned-Ended limit deep used (b ∷ bytes) = scanned-Ended limit deep used bytes

-- the state behind more bytes of a scan at the start of an item inside these containers
abbrev pub from_item : (limit deep used : ℕ) → List ℕ → List ℕ → State
from_item limit deep used stack bytes = scanned limit deep (Going used stack (InHead [])) bytes

-- ---- a payload

pub payload-short : (limit deep used : ℕ) (stack : List ℕ) (left : ℕ) (bytes : List ℕ)
    → length bytes < left
    → scanned limit deep (Going used stack (InPayload left)) bytes
    ≡ Going (used + length bytes) stack (InPayload (left - length bytes))
payload-short limit deep used stack left [] lt =
    let all : left ≡ left - 0 = omega arith in
    ap (λ (n : ℕ). Going n stack (InPayload left)) (sym (add-zero used))
    ∙ ap (λ (n : ℕ). Going (used + 0) stack (InPayload n)) all
payload-short limit deep used stack left (b ∷ bytes) lt =
    let more : ltb 1 left ≡ true = lt-ltb 1 left (omega arith) in
    let place : used + 1 + length bytes ≡ used + suc (length bytes) = omega arith in
    let less : left - 1 - length bytes ≡ left - suc (length bytes) = omega arith in
    rw more (payload-short limit deep (used + 1) stack (left - 1) bytes (omega arith)
    ∙ ap (λ (n : ℕ). Going n stack (InPayload (left - 1 - length bytes))) place
    ∙ ap (λ (n : ℕ). Going (used + suc (length bytes)) stack (InPayload n)) less)

pub payload-whole : (limit deep used : ℕ) (stack : List ℕ) (left : ℕ) (bytes : List ℕ)
    → suc left ≤ length bytes
    → scanned limit deep (Going used stack (InPayload (suc left))) bytes
    ≡ scanned limit deep (value_ended (used + suc left) stack) (drop (suc left) bytes)
payload-whole limit deep used stack left [] le = absurd (omega arith)
payload-whole limit deep used stack zero (b ∷ bytes) le = refl
payload-whole limit deep used stack (suc left) (b ∷ bytes) le =
    let moved : used + 1 + suc left ≡ used + suc (suc left) = omega arith in
    let more : ltb 1 (suc (suc left)) ≡ true = lt-ltb 1 (suc (suc left)) (omega arith) in
    rw (more, sub-one) (payload-whole limit deep (used + 1) stack left bytes (omega arith) ∙ ap (λ (n : ℕ). scanned limit deep (value_ended n stack) (drop (suc left) bytes)) moved)

-- ---- a head

pub row_within : (row : Option Row) (rest : List ℕ)
    → IsWithin (suc (length rest)) (row_reading row rest)
row_within None rest = tt
row_within (Some row) rest =
    cond_both (ltb (length rest) row.more) read.Short (read.Whole (row.spells (take row.more rest)) (row.more + 1)) (λ (r : HeadRead). IsWithin (suc (length rest)) r)
    (λ short. tt) (λ long. let enough = ltb-false (length rest) row.more long in (omega arith, omega arith))

-- what is read lies within the bytes
pub reading_within : (bytes : List ℕ) → IsWithin (length bytes) (reading_of bytes)
unfolding reading_of
reading_within [] = tt
reading_within (first ∷ rest) = row_within (row_of first) rest

-- what a whole head at the front is, by its row
pub record Reads (bytes : List ℕ) (head : Head) (used : ℕ) : Type 0 where
  pub first : ℕ
  pub row : Row
  pub front : List ℕ
  pub after : List ℕ
  pub parts : bytes ≡ first ∷ (front ++ after)
  pub row_is : row_of first ≡ Some row
  pub len : length front ≡ row.more
  pub head_is : head ≡ row.spells front
  pub used_is : used ≡ row.more + 1

pub reading_full : (first : ℕ) (row : Row) (front : List ℕ) → row_of first ≡ Some row
    → length front ≡ row.more
    → reading_of (first ∷ front) ≡ read.Whole (row.spells front) (row.more + 1)
unfolding reading_of
reading_full first row front e len =
    rw (e, le-ltb (length front) row.more (omega arith), take_all row.more front (omega arith)) refl

pub reading_short : (first : ℕ) (row : Row) (front : List ℕ) → row_of first ≡ Some row
    → length front < row.more → reading_of (first ∷ front) ≡ read.Short
unfolding reading_of
reading_short first row front e lt = rw (e, lt-ltb (length front) row.more lt) refl

whole_read : (row : Row) (rest : List ℕ) (b : Bool) (head : Head) (used : ℕ)
    → cond b read.Short (read.Whole (row.spells (take row.more rest)) (row.more + 1))
    ≡ read.Whole head used
    → (b ≡ false) × (row.spells (take row.more rest) ≡ head) × (row.more + 1 ≡ used)
whole_read row rest true head used e = absurd cc
whole_read row rest false head used e = (refl, cc, cc)

Reads-by_row : (first : ℕ) (rest : List ℕ) (o : Option Row) (head : Head) (used : ℕ)
    → row_of first ≡ o → row_reading o rest ≡ read.Whole head used
    → Reads (first ∷ rest) head used
Reads-by_row first rest None head used e h = absurd cc
Reads-by_row first rest (Some row) head used e h =
    let w = whole_read row rest (ltb (length rest) row.more) head used h in
    let enough = ltb-false (length rest) row.more w.0 in
    record {
      first = first;
      row = row;
      front = take row.more rest;
      after = drop row.more rest;
      parts = ap (λ (xs : List ℕ). first ∷ xs) (sym (take-append-drop row.more rest));
      row_is = e;
      len = length-take-le row.more rest enough;
      head_is = sym w.1;
      used_is = sym w.2;
    }

pub Reads-from : (bytes : List ℕ) (head : Head) (used : ℕ)
    → reading_of bytes ≡ read.Whole head used → Reads bytes head used
unfolding reading_of
Reads-from [] head used h = absurd cc
Reads-from (first ∷ rest) head used h = Reads-by_row first rest (row_of first) head used refl h

-- the bytes behind the first one complete the head
pub front_scanned :
    (limit deep used : ℕ) (stack : List ℕ) (first : ℕ) (row : Row) (seen : List ℕ) (b : ℕ)
    (front after : List ℕ)
    → row_of first ≡ Some row → length seen + suc (length front) ≡ row.more
    → scanned limit deep (Going used stack (InHead (first ∷ seen))) (b ∷ (front ++ after))
    ≡ scanned limit deep
    (head_found limit deep (used + suc (length front)) stack (row.spells (seen ++ b ∷ front)))
    after
front_scanned limit deep used stack first row seen b [] after e len =
    ap (λ (r : HeadRead). scanned limit deep (head_heard limit deep (used + 1) stack (first ∷ (seen ++ b ∷ [])) r) after) (reading_full first row (seen ++ b ∷ []) e (length-append seen (b ∷ []) ∙ len))
front_scanned limit deep used stack first row seen b (c ∷ front) after e len =
    let short = reading_short first row (seen ++ b ∷ []) e (omega (arith, length-append seen (b ∷ []))) in
    let one : scanned limit deep (Going used stack (InHead (first ∷ seen))) (b ∷ c ∷ (front ++ after)) ≡ scanned limit deep (Going (used + 1) stack (InHead (first ∷ (seen ++ b ∷ [])))) (c ∷ (front ++ after)) =
    ap (λ (r : HeadRead). scanned limit deep (head_heard limit deep (used + 1) stack (first ∷ (seen ++ b ∷ [])) r) (c ∷ (front ++ after))) short in
    let step = front_scanned limit deep (used + 1) stack first row (seen ++ b ∷ []) c front after e (omega (arith, length-append seen (b ∷ []))) in
    let count : used + 1 + suc (length front) ≡ used + suc (suc (length front)) = omega arith in
    one ∙ step ∙ ap (λ (n : ℕ). scanned limit deep (head_found limit deep n stack (row.spells ((seen ++ b ∷ []) ++ c ∷ front))) after) count
    ∙ ap (λ (xs : List ℕ). scanned limit deep (head_found limit deep (used + suc (suc (length front))) stack (row.spells xs)) after) (append_assoc seen (b ∷ []) (c ∷ front))

-- less than a head is short
pub front_short :
    (limit deep used : ℕ) (stack : List ℕ) (first : ℕ) (row : Row) (seen bytes : List ℕ)
    → row_of first ≡ Some row → length seen + length bytes < row.more
    → scanned limit deep (Going used stack (InHead (first ∷ seen))) bytes
    ≡ Going (used + length bytes) stack (InHead (first ∷ (seen ++ bytes)))
front_short limit deep used stack first row seen [] e lt =
    ap (λ (n : ℕ). Going n stack (InHead (first ∷ seen))) (sym (add-zero used))
    ∙ ap (λ (xs : List ℕ). Going (used + 0) stack (InHead (first ∷ xs))) (sym (append-nil seen))
front_short limit deep used stack first row seen (b ∷ bytes) e lt =
    let short = reading_short first row (seen ++ b ∷ []) e (omega (arith, length-append seen (b ∷ []))) in
    let place : used + 1 + length bytes ≡ used + suc (length bytes) = omega arith in
    ap (λ (r : HeadRead). scanned limit deep (head_heard limit deep (used + 1) stack (first ∷ (seen ++ b ∷ [])) r) bytes) short
    ∙ front_short limit deep (used + 1) stack first row (seen ++ b ∷ []) bytes e (omega (arith, length-append seen (b ∷ [])))
    ∙ ap (λ (n : ℕ). Going n stack (InHead (first ∷ ((seen ++ b ∷ []) ++ bytes)))) place
    ∙ ap (λ (xs : List ℕ). Going (used + suc (length bytes)) stack (InHead (first ∷ xs))) (append_assoc seen (b ∷ []) bytes)

-- the first byte, and the rest of its head
first_scanned :
    (limit deep used : ℕ) (stack : List ℕ) (first : ℕ) (row : Row) (front after : List ℕ)
    → row_of first ≡ Some row → length front ≡ row.more
    → scanned limit deep (Going used stack (InHead [])) (first ∷ (front ++ after))
    ≡ scanned limit deep (head_found limit deep (used + (row.more + 1)) stack (row.spells front))
    after
first_scanned limit deep used stack first row [] after e len =
    let count : used + 1 ≡ used + (row.more + 1) = omega arith in
    ap (λ (r : HeadRead). scanned limit deep (head_heard limit deep (used + 1) stack (first ∷ []) r) after) (reading_full first row [] e len)
    ∙ ap (λ (n : ℕ). scanned limit deep (head_found limit deep n stack (row.spells [])) after) count
first_scanned limit deep used stack first row (b ∷ front) after e len =
    let count : used + 1 + suc (length front) ≡ used + (row.more + 1) = omega arith in
    ap (λ (r : HeadRead). scanned limit deep (head_heard limit deep (used + 1) stack (first ∷ []) r) (b ∷ (front ++ after))) (reading_short first row [] e (omega arith))
    ∙ front_scanned limit deep (used + 1) stack first row [] b front after e (omega arith)
    ∙ ap (λ (n : ℕ). scanned limit deep (head_found limit deep n stack (row.spells (b ∷ front))) after) count

-- a scan over a whole head
pub head_scanned :
    (limit deep used : ℕ) (stack : List ℕ) (bytes : List ℕ) (head : Head) (n : ℕ)
    → reading_of bytes ≡ read.Whole head n
    → scanned limit deep (Going used stack (InHead [])) bytes
    ≡ scanned limit deep (head_found limit deep (used + n) stack head) (drop n bytes)
head_scanned limit deep used stack bytes head n h =
    let r = Reads-from bytes head n h in
    let behind : drop n bytes ≡ r.after = ap (λ (k : ℕ). drop k bytes) r.used_is ∙ ap (λ (xs : List ℕ). drop (r.row.more + 1) xs) r.parts ∙ drop_at (r.first ∷ r.front) r.after (r.row.more + 1) (omega (arith, r.len)) in
    ap (λ (xs : List ℕ). scanned limit deep (Going used stack (InHead [])) xs) r.parts
    ∙ first_scanned limit deep used stack r.first r.row r.front r.after r.row_is r.len
    ∙ ap (λ (k : ℕ). scanned limit deep (head_found limit deep (used + k) stack (r.row.spells r.front)) r.after) (sym r.used_is)
    ∙ ap (λ (hd : Head). scanned limit deep (head_found limit deep (used + n) stack hd) r.after) (sym r.head_is)
    ∙ ap (λ (xs : List ℕ). scanned limit deep (head_found limit deep (used + n) stack head) xs) (sym behind)

pub short_read : (b : Bool) (head : Head) (used : ℕ)
    → cond b read.Short (read.Whole head used) ≡ read.Short → b ≡ true
short_read true head used e = refl
short_read false head used e = absurd cc

first_short :
    (limit deep used : ℕ) (stack : List ℕ) (first : ℕ) (rest : List ℕ) (o : Option Row)
    → row_of first ≡ o → row_reading o rest ≡ read.Short
    → from_item limit deep used stack (first ∷ rest)
    ≡ Going (used + suc (length rest)) stack (InHead (first ∷ rest))
first_short limit deep used stack first rest None e h = absurd cc
first_short limit deep used stack first rest (Some row) e h =
    let lt = ltb-true (length rest) row.more (short_read (ltb (length rest) row.more) (row.spells (take row.more rest)) (row.more + 1) h) in
    let place : used + 1 + length rest ≡ used + suc (length rest) = omega arith in
    ap (λ (r : HeadRead). scanned limit deep (head_heard limit deep (used + 1) stack (first ∷ []) r) rest) (reading_short first row [] e (omega arith))
    ∙ front_short limit deep (used + 1) stack first row [] rest e (omega arith)
    ∙ ap (λ (n : ℕ). Going n stack (InHead (first ∷ rest))) place

pub short_scanned : (limit deep used : ℕ) (stack : List ℕ) (bytes : List ℕ)
    → reading_of bytes ≡ read.Short
    → from_item limit deep used stack bytes ≡ Going (used + length bytes) stack (InHead bytes)
unfolding reading_of
short_scanned limit deep used stack [] h = ap (λ (n : ℕ). Going n stack (InHead [])) (sym (add-zero used))
short_scanned limit deep used stack (first ∷ rest) h = first_short limit deep used stack first rest (row_of first) refl h

not_reserved : (b : Bool) (head : Head) (used : ℕ)
    → cond b read.Short (read.Whole head used) ≡ read.Reserved → ⊥
not_reserved true head used e = cc
not_reserved false head used e = cc

first_reserved :
    (limit deep used : ℕ) (stack : List ℕ) (first : ℕ) (rest : List ℕ) (o : Option Row)
    → row_of first ≡ o → row_reading o rest ≡ read.Reserved
    → from_item limit deep used stack (first ∷ rest) ≡ Failed Reserved
unfolding reading_of
first_reserved limit deep used stack first rest None e h =
    ap (λ (o : Option Row). scanned limit deep (head_heard limit deep (used + 1) stack (first ∷ []) (row_reading o [])) rest) e
    ∙ scanned-Failed limit deep Reserved rest
first_reserved limit deep used stack first rest (Some row) e h = absurd (not_reserved (ltb (length rest) row.more) (row.spells (take row.more rest)) (row.more + 1) h)

pub reserved_scanned : (limit deep used : ℕ) (stack : List ℕ) (bytes : List ℕ)
    → reading_of bytes ≡ read.Reserved
    → from_item limit deep used stack bytes ≡ Failed Reserved
unfolding reading_of
reserved_scanned limit deep used stack [] h = absurd cc
reserved_scanned limit deep used stack (first ∷ rest) h = first_reserved limit deep used stack first rest (row_of first) refl h

-- ---- an item

-- a head that is faulty
pub fault_scanned :
    (limit deep used : ℕ) (stack : List ℕ) (bytes : List ℕ) (head : Head) (n : ℕ)
    (fault : ScanFault)
    → reading_of bytes ≡ read.Whole head n
    → fault_at limit deep (used + n) stack head ≡ Some fault
    → from_item limit deep used stack bytes ≡ Failed fault
fault_scanned limit deep used stack bytes head n fault h bad =
    head_scanned limit deep used stack bytes head n h
    ∙ ap (λ (o : Option ScanFault). scanned limit deep (unless_faulty o (item_begun (used + n) stack head)) (drop n bytes)) bad
    ∙ scanned-Failed limit deep fault (drop n bytes)

-- a head with a payload opens nothing
pub payload_shut : (head : Head) → 0 < payload head → ltb 0 (members head) ≡ false
payload_shut Nil lt = absurd (omega arith)
payload_shut (Boolean b) lt = absurd (omega arith)
payload_shut (Int neg mag) lt = absurd (omega arith)
payload_shut (Float len) lt = refl
payload_shut (Str len) lt = refl
payload_shut (Bin len) lt = refl
payload_shut (Arr n) lt = absurd (omega arith)
payload_shut (Map n) lt = absurd (omega arith)
payload_shut (Ext kind len) lt = refl

pub ended_shut : (used : ℕ) (stack : List ℕ) (head : Head) → ltb 0 (members head) ≡ false
    → payload_ended used stack head ≡ value_ended used stack
unfolding payload_ended
ended_shut used stack head shut = rw shut refl

pub ended_opened : (used : ℕ) (stack : List ℕ) (head : Head) → ltb 0 (members head) ≡ true
    → payload_ended used stack head ≡ Going used ((members head - 1) ∷ stack) (InHead [])
unfolding payload_ended
ended_opened used stack head opened = rw opened refl

payload_scanned :
    (limit deep used : ℕ) (stack : List ℕ) (head : Head) (left : ℕ) (bytes : List ℕ)
    → payload head ≡ left → left ≤ length bytes
    → scanned limit deep (item_begun used stack head) bytes
    ≡ scanned limit deep (payload_ended (used + left) stack head) (drop left bytes)
unfolding item_begun
payload_scanned limit deep used stack head zero bytes e le =
    ap (λ (b : Bool). scanned limit deep (cond b (Going used stack (InPayload (payload head))) (payload_ended used stack head)) bytes) (le-ltb 0 (payload head) (omega arith))
    ∙ ap (λ (n : ℕ). scanned limit deep (payload_ended n stack head) bytes) (sym (add-zero used))
payload_scanned limit deep used stack head (suc left) bytes e le =
    let ended : payload_ended (used + suc left) stack head ≡ value_ended (used + suc left) stack = ended_shut (used + suc left) stack head (payload_shut head (omega arith)) in
    ap (λ (b : Bool). scanned limit deep (cond b (Going used stack (InPayload (payload head))) (payload_ended used stack head)) bytes) (lt-ltb 0 (payload head) (omega arith))
    ∙ ap (λ (n : ℕ). scanned limit deep (Going used stack (InPayload n)) bytes) e
    ∙ payload-whole limit deep used stack left bytes le
    ∙ ap (λ (s : State). scanned limit deep s (drop (suc left) bytes)) (sym ended)

-- a whole item
pub item_scanned :
    (limit deep used : ℕ) (stack : List ℕ) (bytes : List ℕ) (head : Head) (n : ℕ)
    → reading_of bytes ≡ read.Whole head n
    → fault_at limit deep (used + n) stack head ≡ None
    → payload head ≤ length (drop n bytes)
    → scanned limit deep (Going used stack (InHead [])) bytes
    ≡ scanned limit deep (payload_ended (used + n + payload head) stack head)
    (drop (payload head) (drop n bytes))
item_scanned limit deep used stack bytes head n h good le =
    head_scanned limit deep used stack bytes head n h
    ∙ ap (λ (o : Option ScanFault). scanned limit deep (unless_faulty o (item_begun (used + n) stack head)) (drop n bytes)) good
    ∙ payload_scanned limit deep (used + n) stack head (payload head) (drop n bytes) refl le

-- an item whose payload stops
pub payload_stopped :
    (limit deep used : ℕ) (stack : List ℕ) (bytes : List ℕ) (head : Head) (n : ℕ)
    → reading_of bytes ≡ read.Whole head n
    → fault_at limit deep (used + n) stack head ≡ None → length (drop n bytes) < payload head
    → from_item limit deep used stack bytes
    ≡ Going (used + n + length (drop n bytes)) stack
    (InPayload (payload head - length (drop n bytes)))
unfolding item_begun
payload_stopped limit deep used stack bytes head n h good lt =
    head_scanned limit deep used stack bytes head n h
    ∙ ap (λ (o : Option ScanFault). scanned limit deep (unless_faulty o (item_begun (used + n) stack head)) (drop n bytes)) good
    ∙ ap (λ (b : Bool). scanned limit deep (cond b (Going (used + n) stack (InPayload (payload head))) (payload_ended (used + n) stack head)) (drop n bytes)) (lt-ltb 0 (payload head) (omega arith))
    ∙ payload-short limit deep (used + n) stack (payload head) (drop n bytes) lt
