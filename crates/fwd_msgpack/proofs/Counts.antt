-- A walk over the items of a value that counts the values that are owed.
use Rattle.std.proofs.Common.{◌≡◌, ℕ, zero, suc, ◌+◌, ◌-◌, ◌<◌, ◌≤◌, Bool, true, false, ltb, subst, List, [], ◌∷◌, length, sum, drop, Option, Some, None, refl, sym, ap, ◌∙◌, arith}
use Rattle.std.proofs.lemmas.Bool.{lt-ltb, le-ltb, ltb-true, ltb-false}
use Rattle.std.proofs.lemmas.List.{drop-drop, length-drop}
use Rattle.std.proofs.lemmas.Option.{same_Some}
use Rattle.fwd_msgpack.specs.declared.head.Head.{Head}
use Rattle.fwd_msgpack.specs.declared.head.HeadRead.{HeadRead}
use Rattle.fwd_msgpack.specs.declared.head.HeadRead.TheVariants as read
use Rattle.fwd_msgpack.specs.Heads.{reading_of, payload, members, opens}
use Rattle.fwd_msgpack.specs.Plain.{plain_len, item_size}
use Rattle.fwd_msgpack.specs.Scans.{Whole, State, Going, InHead, after_value, goes_on, payload_ended, start, verdict_of, first_of}
use Rattle.fwd_msgpack.proofs.Fronts.{scanned, scanned-Ended, item_scanned, ended_shut, ended_opened}
use Rattle.fwd_msgpack.proofs.Places.{sum-cons}
use Rattle.fwd_msgpack.proofs.Plains.{ReadsPlain-from, no_members}
use Rattle.fwd_msgpack.proofs.Within.{IsGood-none}

-- how many values are still to come, and how many containers are open, where an item begins inside
-- these containers, or all has ended
abbrev pub owed : Option (List ℕ) → ℕ
owed None = 0
owed (Some stack) = 1 + sum stack

abbrev pub open_now : Option (List ℕ) → ℕ
open_now None = 0
open_now (Some stack) = length stack

owed_after : (stack : List ℕ) → owed (after_value stack) ≡ sum stack
owed_after [] = refl
owed_after (zero ∷ stack) =
    let total = sum-cons 0 stack in
    owed_after stack ∙ omega (arith, total)
owed_after (suc n ∷ stack) =
    let less = sum-cons n stack in
    let total = sum-cons (suc n) stack in
    omega (arith, less, total)

open_after : (stack : List ℕ) → open_now (after_value stack) ≤ length stack
open_after [] = omega arith
open_after (zero ∷ stack) = let on = open_after stack in omega (arith, on)
open_after (suc n ∷ stack) = omega arith

-- a walk stands behind the first used bytes: so many values are
-- still to come, and so many containers more may be opened
pub record Stands (limit deep : ℕ) (bytes : List ℕ) (used left deeper : ℕ) : Type 0 where
  pub next : Option (List ℕ)
  pub same : scanned limit deep (goes_on used next) (drop used bytes)
      ≡ scanned limit deep start bytes
  pub count : owed next ≡ left
  pub shallow : open_now next + deeper ≤ deep

pub stands_first : (limit deep : ℕ) (bytes : List ℕ) → Stands limit deep bytes 0 1 deep
stands_first limit deep bytes =
    record { next = Some []; same = refl; count = refl; shallow = omega arith }

-- behind an item
module _ (limit deep : ℕ) (bytes : List ℕ) (used : ℕ) (stack : List ℕ) (head : Head) (n : ℕ)
    (same : scanned limit deep (Going used stack (InHead [])) (drop used bytes)
    ≡ scanned limit deep start bytes)
    (reads : reading_of (drop used bytes) ≡ read.Whole head n)
    (inside : used + n + payload head ≤ length bytes)
    (fits : used + n + payload head + (sum stack + members head) ≤ limit)
    (deeper : ℕ) (shallow : length stack + deeper ≤ deep)
    (may : opens head ≡ true → 0 < deeper) where
  behind_item : scanned limit deep (payload_ended (used + n + payload head) stack head)
      (drop (used + n + payload head) bytes)
      ≡ scanned limit deep start bytes
  behind_item =
      let whole : payload head ≤ length (drop n (drop used bytes)) = omega (arith, length-drop n (drop used bytes), length-drop used bytes) in
      let good = IsGood-none limit deep (used + n) stack head (record { shallow = λ o. (let some = may o in omega (arith, some)); fits = omega arith }) in
      let behind : drop (payload head) (drop n (drop used bytes)) ≡ drop (used + n + payload head) bytes = ap (λ (ys : List ℕ). drop (payload head) ys) (drop-drop n used bytes) ∙ drop-drop (payload head) (used + n) bytes in
      ap (λ (xs : List ℕ). scanned limit deep (payload_ended (used + n + payload head) stack head) xs) (sym behind)
      ∙ sym (item_scanned limit deep used stack (drop used bytes) head n reads good whole)
      ∙ same

  behind_shut : members head ≤ 0 → (deeper' : ℕ) → deeper' ≤ deeper
      → Stands limit deep bytes (used + n + payload head) (sum stack + members head) deeper'
  behind_shut none deeper' le =
      let owes = owed_after stack in
      let opened = open_after stack in
      record {
        next = after_value stack;
        same = ap (λ (s : State). scanned limit deep s (drop (used + n + payload head) bytes)) (sym (ended_shut (used + n + payload head) stack head (le-ltb 0 (members head) none))) ∙ behind_item;
        count = omega (arith, owes, none);
        shallow = omega (arith, opened);
      }

  behind_opened : 0 < members head → (deeper' : ℕ) → deeper' + 1 ≤ deeper
      → Stands limit deep bytes (used + n + payload head) (sum stack + members head) deeper'
  behind_opened some deeper' le =
      let total = sum-cons (members head - 1) stack in
      record {
        next = Some ((members head - 1) ∷ stack);
        same = ap (λ (s : State). scanned limit deep s (drop (used + n + payload head) bytes)) (sym (ended_opened (used + n + payload head) stack head (lt-ltb 0 (members head) some))) ∙ behind_item;
        count = omega (arith, total, some);
        shallow = omega arith;
      }

-- behind an item that opens nothing
shut_by : (limit deep : ℕ) (bytes : List ℕ) (used left deeper : ℕ) (head : Head) (n : ℕ)
    → (next : Option (List ℕ))
    → scanned limit deep (goes_on used next) (drop used bytes) ≡ scanned limit deep start bytes
    → owed next ≡ left → open_now next + deeper ≤ deep → 0 < left
    → reading_of (drop used bytes) ≡ read.Whole head n → opens head ≡ false
    → used + n + payload head ≤ length bytes → used + n + payload head + (left - 1) ≤ limit
    → Stands limit deep bytes (used + n + payload head) (left - 1) deeper
shut_by limit deep bytes used left deeper head n None same count shallow some reads shut inside fits = absurd (omega arith)
shut_by limit deep bytes used left deeper head n (Some stack) same count shallow some reads shut inside fits =
    let none = no_members head shut in
    let is : sum stack + members head ≡ left - 1 = omega (arith, none, count) in
    subst (λ (k : ℕ). Stands limit deep bytes (used + n + payload head) k deeper) is
    (behind_shut limit deep bytes used stack head n same reads inside (omega (arith, none, count)) deeper shallow (λ o. absurd (both head shut o)) none deeper (omega arith))
  where
    both : (head : Head) → opens head ≡ false → opens head ≡ true → ⊥
    both head e f = cc

pub stands_shut : (limit deep : ℕ) (bytes : List ℕ) (used left deeper : ℕ) (head : Head) (n : ℕ)
    → Stands limit deep bytes used left deeper → 0 < left
    → reading_of (drop used bytes) ≡ read.Whole head n → opens head ≡ false
    → used + n + payload head ≤ length bytes → used + n + payload head + (left - 1) ≤ limit
    → Stands limit deep bytes (used + n + payload head) (left - 1) deeper
stands_shut limit deep bytes used left deeper head n s some reads shut inside fits =
    shut_by limit deep bytes used left deeper head n s.next s.same s.count s.shallow some reads shut inside fits

-- behind any item
head_by : (limit deep : ℕ) (bytes : List ℕ) (used left deeper : ℕ) (head : Head) (n : ℕ)
    → (next : Option (List ℕ))
    → scanned limit deep (goes_on used next) (drop used bytes) ≡ scanned limit deep start bytes
    → owed next ≡ left → open_now next + deeper ≤ deep → 0 < left → 0 < deeper
    → reading_of (drop used bytes) ≡ read.Whole head n
    → used + n + payload head ≤ length bytes
    → used + n + payload head + (left + members head - 1) ≤ limit
    → Stands limit deep bytes (used + n + payload head) (left + members head - 1) (deeper - 1)
head_by limit deep bytes used left deeper head n None same count shallow some room reads inside fits = absurd (omega arith)
head_by limit deep bytes used left deeper head n (Some stack) same count shallow some room reads inside fits =
    let is : sum stack + members head ≡ left + members head - 1 = omega (arith, count) in
    subst (λ (k : ℕ). Stands limit deep bytes (used + n + payload head) k (deeper - 1)) is
    (by (ltb 0 (members head)) refl)
  where
    by : (b : Bool) → ltb 0 (members head) ≡ b
        → Stands limit deep bytes (used + n + payload head) (sum stack + members head) (deeper - 1)
    by true e = behind_opened limit deep bytes used stack head n same reads inside (omega (arith, count)) deeper shallow (λ o. room) (ltb-true 0 (members head) e) (deeper - 1) (omega arith)
    by false e = behind_shut limit deep bytes used stack head n same reads inside (omega (arith, count)) deeper shallow (λ o. room) (ltb-false 0 (members head) e) (deeper - 1) (omega arith)

pub stands_head : (limit deep : ℕ) (bytes : List ℕ) (used left deeper : ℕ) (head : Head) (n : ℕ)
    → Stands limit deep bytes used left deeper → 0 < left → 0 < deeper
    → reading_of (drop used bytes) ≡ read.Whole head n
    → used + n + payload head ≤ length bytes
    → used + n + payload head + (left + members head - 1) ≤ limit
    → Stands limit deep bytes (used + n + payload head) (left + members head - 1) (deeper - 1)
stands_head limit deep bytes used left deeper head n s some room reads inside fits =
    head_by limit deep bytes used left deeper head n s.next s.same s.count s.shallow some room reads inside fits

-- behind an item whose size its first bytes say
pub stands_plain : (limit deep : ℕ) (bytes : List ℕ) (used left deeper size : ℕ)
    → Stands limit deep bytes used left deeper → 0 < left
    → plain_len (reading_of (drop used bytes)) ≡ Some size
    → used + size ≤ length bytes → used + size + (left - 1) ≤ limit
    → Stands limit deep bytes (used + size) (left - 1) deeper
stands_plain limit deep bytes used left deeper size s some plain inside fits =
    let p = ReadsPlain-from (drop used bytes) size plain in
    let len = p.len in
    let at : used + p.n + payload p.head ≡ used + size = omega (arith, len) in
    subst (λ (k : ℕ). Stands limit deep bytes k (left - 1) deeper) at
    (stands_shut limit deep bytes used left deeper p.head p.n s some (sym p.reads) p.shut (omega (arith, len)) (omega (arith, len)))

-- behind an item of this size that opens so many values
item_by : (limit deep : ℕ) (bytes : List ℕ) (used left deeper size count : ℕ) (r : HeadRead)
    → r ≡ reading_of (drop used bytes) → item_size r ≡ Some (size, count)
    → Stands limit deep bytes used left deeper → 0 < left → 0 < deeper
    → used + size ≤ length bytes → used + size + (left + count - 1) ≤ limit
    → Stands limit deep bytes (used + size) (left + count - 1) (deeper - 1)
item_by limit deep bytes used left deeper size count read.Short e is s some room inside fits = absurd cc
item_by limit deep bytes used left deeper size count read.Reserved e is s some room inside fits = absurd cc
item_by limit deep bytes used left deeper size count (read.Whole head n) e is s some room inside fits =
    let both = same_Some (n + payload head, members head) (size, count) is in
    let len : n + payload head ≡ size = ap (λ (p : ℕ × ℕ). p.0) both in
    let all : members head ≡ count = ap (λ (p : ℕ × ℕ). p.1) both in
    let at : used + n + payload head ≡ used + size = omega (arith, len) in
    subst (λ (k : ℕ). Stands limit deep bytes k (left + count - 1) (deeper - 1)) at
    (subst (λ (k : ℕ). Stands limit deep bytes (used + n + payload head) (left + k - 1) (deeper - 1)) all
    (stands_head limit deep bytes used left deeper head n s some room (sym e) (omega (arith, len)) (omega (arith, len, all))))

pub stands_item : (limit deep : ℕ) (bytes : List ℕ) (used left deeper size count : ℕ)
    → Stands limit deep bytes used left deeper → 0 < left → 0 < deeper
    → item_size (reading_of (drop used bytes)) ≡ Some (size, count)
    → used + size ≤ length bytes → used + size + (left + count - 1) ≤ limit
    → Stands limit deep bytes (used + size) (left + count - 1) (deeper - 1)
stands_item limit deep bytes used left deeper size count s some room is inside fits =
    item_by limit deep bytes used left deeper size count (reading_of (drop used bytes)) refl is s some room inside fits

-- where nothing is owed the value has ended
ended_by : (limit deep : ℕ) (bytes : List ℕ) (used : ℕ) (next : Option (List ℕ))
    → scanned limit deep (goes_on used next) (drop used bytes) ≡ scanned limit deep start bytes
    → owed next ≡ 0 → first_of limit deep bytes ≡ Whole used
unfolding first_of
ended_by limit deep bytes used None same count =
    ap verdict_of (sym same ∙ scanned-Ended limit deep used (drop used bytes))
ended_by limit deep bytes used (Some stack) same count = absurd (omega (arith, count))

pub stands_last : (limit deep : ℕ) (bytes : List ℕ) (used left deeper : ℕ)
    → Stands limit deep bytes used left deeper → left ≤ 0
    → first_of limit deep bytes ≡ Whole used
stands_last limit deep bytes used left deeper s none =
    ended_by limit deep bytes used s.next s.same (let count = s.count in omega (arith, count))
