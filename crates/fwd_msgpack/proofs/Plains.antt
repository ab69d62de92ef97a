-- Items that open nothing, read in one step, and many of them in a row.
use Rattle.std.proofs.Common.{add-one, get_or, ◌≡◌, ℕ, ◌+◌, ◌-◌, ◌<◌, ◌≤◌, Bool, true, false, cond, List, [], ◌∷◌, ◌++◌, length, sum, take, drop, Option, Some, None, refl, sym, ap, ◌∙◌, arith, add-zero}
use Rattle.std.proofs.lemmas.Bool.{le-ltb}
use Rattle.std.proofs.Math.Seq.{drop-cons}
use Rattle.std.proofs.lemmas.List.{take_rest, take-append-drop, drop-append-le, drop-drop, length-drop, length-take}
use Rattle.fwd_msgpack.specs.declared.head.Head.{Head}
use Rattle.fwd_msgpack.specs.declared.head.Head.TheVariants.{Nil, Bool as Boolean, Int, Float, Str, Bin, Arr, Map, Ext}
use Rattle.fwd_msgpack.specs.declared.head.HeadRead.{HeadRead}
use Rattle.fwd_msgpack.specs.declared.head.HeadRead.TheVariants as read
use Rattle.fwd_msgpack.specs.declared.head.HeadRead.TheVariants.{Whole}
use Rattle.fwd_msgpack.specs.Heads.{number_at, named_rows, row_of, row_reading, reading_of, payload, members, opens}
use Rattle.std.specs.Int.{w8, byte_len}
use Rattle.fwd_msgpack.proofs.Readings.{read_whole}
use Rattle.fwd_msgpack.specs.Plain.{plain_len, AreMembers}
use Rattle.fwd_msgpack.specs.Scans.{State, Going, InHead, goes_on, fault_at}
use Rattle.fwd_msgpack.proofs.Fronts.{scanned, item_scanned, ended_shut}
use Rattle.fwd_msgpack.proofs.Places.{sum-cons, after_value-lacking}
use Rattle.fwd_msgpack.proofs.Wholes.{scanned-append}
use Rattle.fwd_msgpack.proofs.Within.{IsGood-none}

-- the head of a plain item at the front
pub record ReadsPlain (bytes : List ℕ) (size : ℕ) : Type 0 where
  pub head : Head
  pub n : ℕ
  pub reads : read.Whole head n ≡ reading_of bytes
  pub len : n + payload head ≡ size
  pub shut : opens head ≡ false

by_opening : (head : Head) (n size : ℕ) (b : Bool) → opens head ≡ b
    → cond b None (Some (n + payload head)) ≡ Some size
    → (opens head ≡ false) × (n + payload head ≡ size)
by_opening head n size true e h = absurd cc
by_opening head n size false e h = (e, cc)

plain_by : (bytes : List ℕ) (size : ℕ) (r : HeadRead) → r ≡ reading_of bytes
    → plain_len r ≡ Some size → ReadsPlain bytes size
plain_by bytes size read.Short e h = absurd cc
plain_by bytes size read.Reserved e h = absurd cc
plain_by bytes size (read.Whole head n) e h =
    let w = by_opening head n size (opens head) refl h in
    record { head = head; n = n; reads = e; len = w.1; shut = w.0 }

pub ReadsPlain-from : (bytes : List ℕ) (size : ℕ) → plain_len (reading_of bytes) ≡ Some size
    → ReadsPlain bytes size
ReadsPlain-from bytes size h = plain_by bytes size (reading_of bytes) refl h

pub no_members : (head : Head) → opens head ≡ false → members head ≤ 0
no_members Nil e = omega arith
no_members (Boolean b) e = omega arith
no_members (Int neg mag) e = omega arith
no_members (Float len) e = omega arith
no_members (Str len) e = omega arith
no_members (Bin len) e = omega arith
no_members (Arr n) e = absurd cc
no_members (Map n) e = absurd cc
no_members (Ext kind len) e = omega arith

not_both : (head : Head) → opens head ≡ false → opens head ≡ true → ⊥
not_both head e f = cc

-- what opens nothing is good where there is room for it
pub shut_good : (limit deep used : ℕ) (stack : List ℕ) (head : Head) → opens head ≡ false
    → used + payload head + sum stack ≤ limit → fault_at limit deep used stack head ≡ None
shut_good limit deep used stack head shut fits =
    let none = no_members head shut in
    IsGood-none limit deep used stack head (record { shallow = λ o. absurd (not_both head shut o); fits = omega arith })

-- a scan over a plain item in a container that lacks more
one_member : (limit deep from lacking : ℕ) (stack bytes : List ℕ) (size : ℕ)
    → ReadsPlain bytes size → size ≤ length bytes → 0 < lacking
    → from + size + (lacking + sum stack) ≤ limit
    → scanned limit deep (Going from (lacking ∷ stack) (InHead [])) bytes
    ≡ scanned limit deep (Going (from + size) ((lacking - 1) ∷ stack) (InHead []))
    (drop size bytes)
one_member limit deep from lacking stack bytes size p le lt fits =
    let len = p.len in
    let total = sum-cons lacking stack in
    let good = shut_good limit deep (from + p.n) (lacking ∷ stack) p.head p.shut (omega (arith, total)) in
    let whole : payload p.head ≤ length (drop p.n bytes) = omega (arith, length-drop p.n bytes) in
    let at : from + p.n + payload p.head ≡ from + size = omega arith in
    let behind : drop (payload p.head) (drop p.n bytes) ≡ drop size bytes = drop-drop (payload p.head) p.n bytes ∙ ap (λ (k : ℕ). drop k bytes) len in
    item_scanned limit deep from (lacking ∷ stack) bytes p.head p.n (sym p.reads) good whole
    ∙ ap (λ (s : State). scanned limit deep s (drop (payload p.head) (drop p.n bytes)))
    (ended_shut (from + p.n + payload p.head) (lacking ∷ stack) p.head (le-ltb 0 (members p.head) (no_members p.head p.shut))
    ∙ ap (λ (o : Option (List ℕ)). goes_on (from + p.n + payload p.head) o) (after_value-lacking lacking stack lt)
    ∙ ap (λ (k : ℕ). Going k ((lacking - 1) ∷ stack) (InHead [])) at)
    ∙ ap (λ (xs : List ℕ). scanned limit deep (Going (from + size) ((lacking - 1) ∷ stack) (InHead [])) xs) behind

-- no items at all
pub members_none : (bytes : List ℕ) → AreMembers bytes 0 0
members_none bytes limit deep from lacking stack most fits =
    let all : lacking ≡ lacking - 0 = omega arith in
    ap (λ (k : ℕ). scanned limit deep (Going k (lacking ∷ stack) (InHead [])) bytes) (sym (add-zero from))
    ∙ ap (λ (k : ℕ). scanned limit deep (Going (from + 0) (k ∷ stack) (InHead [])) bytes) all

-- one item more
pub members_more : (bytes : List ℕ) (items used size : ℕ) → AreMembers bytes items used
    → plain_len (reading_of (drop used bytes)) ≡ Some size → used + size ≤ length bytes
    → AreMembers bytes (items + 1) (used + size)
members_more bytes items used size before plain le limit deep from lacking stack most fits =
    let p = ReadsPlain-from (drop used bytes) size plain in
    let left : lacking - items - 1 ≡ lacking - (items + 1) = omega arith in
    let at : from + used + size ≡ from + (used + size) = omega arith in
    before limit deep from lacking stack (omega arith) (omega arith)
    ∙ one_member limit deep (from + used) (lacking - items) stack (drop used bytes) size p (omega (arith, length-drop used bytes)) (omega arith) (omega arith)
    ∙ ap (λ (xs : List ℕ). scanned limit deep (Going (from + used + size) ((lacking - items - 1) ∷ stack) (InHead [])) xs) (drop-drop size used bytes)
    ∙ ap (λ (k : ℕ). scanned limit deep (Going (from + used + size) (k ∷ stack) (InHead [])) (drop (used + size) bytes)) left
    ∙ ap (λ (k : ℕ). scanned limit deep (Going k ((lacking - (items + 1)) ∷ stack) (InHead [])) (drop (used + size) bytes)) at

-- members of a front are members of all
pub members_within : (bytes : List ℕ) (room items used : ℕ)
    → AreMembers (take room bytes) items used → used ≤ room → room ≤ length bytes
    → AreMembers bytes items used
members_within bytes room items used front le inside limit deep from lacking stack most fits =
    let all : take room bytes ++ drop room bytes ≡ bytes = take-append-drop room bytes in
    let short : used ≤ length (take room bytes) = omega (arith, length-take room bytes) in
    ap (λ (xs : List ℕ). scanned limit deep (Going from (lacking ∷ stack) (InHead [])) xs) (sym all)
    ∙ scanned-append limit deep (Going from (lacking ∷ stack) (InHead [])) (take room bytes) (drop room bytes)
    ∙ ap (λ (s : State). scanned limit deep s (drop room bytes)) (front limit deep from lacking stack most fits)
    ∙ sym (scanned-append limit deep (Going (from + used) ((lacking - items) ∷ stack) (InHead [])) (drop used (take room bytes)) (drop room bytes))
    ∙ ap (λ (xs : List ℕ). scanned limit deep (Going (from + used) ((lacking - items) ∷ stack) (InHead [])) xs) (sym (drop-append-le used (take room bytes) (drop room bytes) short) ∙ ap (λ (xs : List ℕ). drop used xs) all)

-- the item behind a place, whose size its first byte tells
pub told_here : (bytes : List ℕ) (at size : ℕ)
    → ((rest : List ℕ) → size ≤ length rest + 1
    → plain_len (reading_of (get_or bytes at 0 ∷ rest)) ≡ Some size)
    → at < length bytes → at + size ≤ length bytes
    → plain_len (reading_of (drop at bytes)) ≡ Some size
told_here bytes at size told lt le =
    let inside : size ≤ length (drop (at + 1) bytes) + 1 = omega (arith, length-drop (at + 1) bytes) in
    let parts : drop at bytes ≡ get_or bytes at 0 ∷ drop (at + 1) bytes = rw add-one (drop-cons bytes at 0 lt) in
    ap (λ (xs : List ℕ). plain_len (reading_of xs)) parts ∙ told (drop (at + 1) bytes) inside

-- the text behind a place, whose size its second byte tells
pub text_here : (bytes : List ℕ) (at n : ℕ) → at < length bytes → get_or bytes at 0 ≡ 0xd9
    → Some n ≡ number_at w8 (take (length bytes - (at + 1)) (drop (at + 1) bytes))
    → plain_len (reading_of (drop at bytes)) ≡ Some (n + 2)
unfolding reading_of row_of named_rows
text_here bytes at n lt is found =
    let first = get_or bytes at 0 in
    let rest = drop (at + 1) bytes in
    let here : Some n ≡ number_at w8 rest = found ∙ ap (number_at w8) (take_rest bytes (at + 1)) in
    let reads : Whole (Str n) (byte_len w8 + 1) ≡ row_reading (row_of first) rest = read_whole w8 Str 0xd9 first rest n refl is here in
    let size : 2 + n ≡ n + 2 = omega arith in
    let parts : drop at bytes ≡ first ∷ rest = rw add-one (drop-cons bytes at 0 lt) in
    ap (λ (xs : List ℕ). plain_len (reading_of xs)) parts
    ∙ ap plain_len (sym reads)
    ∙ ap Some size
