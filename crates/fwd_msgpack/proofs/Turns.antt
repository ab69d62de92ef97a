-- One turn of the loop over items, at a place of the bytes.
use Rattle.std.proofs.Common.{get_or, subst, add-one, ◌≡◌, ℕ, ◌+◌, ◌-◌, ◌<◌, ◌≤◌, List, [], ◌∷◌, length, sum, take, drop, Option, Some, None, refl, sym, ap, ◌∙◌, arith, zero-add}
use Rattle.std.proofs.lemmas.Bool.{lt-ltb, le-ltb}
use Rattle.std.proofs.lemmas.List.{take_rest, drop-drop, length-drop}
use Rattle.fwd_msgpack.specs.declared.fault.ScanFault.{ScanFault}
use Rattle.fwd_msgpack.specs.declared.fault.ScanFault.TheVariants.{Reserved}
use Rattle.fwd_msgpack.specs.declared.head.Head.{Head}
use Rattle.fwd_msgpack.specs.declared.head.HeadRead.{HeadRead}
use Rattle.fwd_msgpack.specs.declared.head.HeadRead.TheVariants as read
use Rattle.fwd_msgpack.specs.Heads.{reading_of, payload, members}
use Rattle.fwd_msgpack.specs.Plain.{plain_len, AreMembers, IsSmallOpening}
use Rattle.fwd_msgpack.proofs.Plains.{ReadsPlain-from, no_members, shut_good}
use Rattle.fwd_msgpack.specs.Stacks.{innermost, less_by}
use Rattle.fwd_msgpack.proofs.Places.{sum-cons}
use Rattle.fwd_msgpack.proofs.Within.{IsGood-none}
use Rattle.std.proofs.Math.Seq.{drop-cons}
use Rattle.fwd_msgpack.specs.Extents.{scan_behind}
use Rattle.fwd_msgpack.specs.Scans.{first_of, Whole, State, Going, Ended, Failed, InHead, InPayload, start, after_value, goes_on, payload_ended, fault_at, verdict_of}
use Rattle.fwd_msgpack.proofs.Fronts.{from_item, scanned, short_scanned, reserved_scanned, fault_scanned, payload_stopped, item_scanned, ended_shut, ended_opened, scanned-Ended}

-- the reading of the bytes from a place on
pub reading_here : (bytes : List ℕ) (used : ℕ) (r : HeadRead)
    → r ≡ reading_of (take (length bytes - used) (drop used bytes))
    → reading_of (drop used bytes) ≡ r
reading_here bytes used r e = sym (e ∙ ap reading_of (take_rest bytes used))

module _ (limit deep : ℕ) (bytes : List ℕ) (used : ℕ) (stack : List ℕ) (total : State)
    (same : from_item limit deep used stack (drop used bytes) ≡ total) where
  pub short_here : used ≤ length bytes
      → read.Short ≡ reading_of (take (length bytes - used) (drop used bytes))
      → Going (length bytes) stack (InHead (drop used bytes)) ≡ total
  short_here le e =
      let all : length bytes ≡ used + length (drop used bytes) = omega (arith, length-drop used bytes) in
      ap (λ (k : ℕ). Going k stack (InHead (drop used bytes))) all
      ∙ sym (short_scanned limit deep used stack (drop used bytes) (reading_here bytes used read.Short e)) ∙ same

  pub reserved_here : read.Reserved ≡ reading_of (take (length bytes - used) (drop used bytes))
      → Failed Reserved ≡ total
  reserved_here e = sym (reserved_scanned limit deep used stack (drop used bytes) (reading_here bytes used read.Reserved e)) ∙ same

  module _ (head : Head) (n : ℕ)
      (e : read.Whole head n ≡ reading_of (take (length bytes - used) (drop used bytes))) where
    pub fault_here : (fault : ScanFault)
        → fault_at limit deep (used + n) stack head ≡ Some fault → Failed fault ≡ total
    fault_here fault bad = sym (fault_scanned limit deep used stack (drop used bytes) head n fault (reading_here bytes used (read.Whole head n) e) bad) ∙ same

    pub payload_here : fault_at limit deep (used + n) stack head ≡ None
        → used + n ≤ length bytes → length bytes - (used + n) < payload head
        → Going (length bytes) stack (InPayload (payload head - (length bytes - (used + n))))
        ≡ total
    payload_here good le lt =
        let left = length (drop n (drop used bytes)) in
        let behind : left ≡ length bytes - (used + n) = omega (arith, length-drop n (drop used bytes), length-drop used bytes) in
        let short : left < payload head = omega arith in
        let all : length bytes ≡ used + n + left = omega arith in
        ap (λ (k : ℕ). Going (length bytes) stack (InPayload (payload head - k))) (sym behind)
        ∙ ap (λ (k : ℕ). Going k stack (InPayload (payload head - left))) all
        ∙ sym (payload_stopped limit deep used stack (drop used bytes) head n (reading_here bytes used (read.Whole head n) e) good short) ∙ same

    module _ (good : fault_at limit deep (used + n) stack head ≡ None)
        (le : payload head ≤ length bytes - (used + n)) where
      item_here : scanned limit deep (Going used stack (InHead [])) (drop used bytes)
          ≡ scanned limit deep (payload_ended (used + n + payload head) stack head)
          (drop (used + n + payload head) bytes)
      item_here =
          let whole : payload head ≤ length (drop n (drop used bytes)) = omega (arith, length-drop n (drop used bytes), length-drop used bytes) in
          item_scanned limit deep used stack (drop used bytes) head n (reading_here bytes used (read.Whole head n) e) good whole
          ∙ ap (λ (xs : List ℕ). scanned limit deep (payload_ended (used + n + payload head) stack head) xs) (ap (λ (ys : List ℕ). drop (payload head) ys) (drop-drop n used bytes) ∙ drop-drop (payload head) (used + n) bytes)

      pub opened_here : 0 < members head
          → from_item limit deep (used + n + payload head) ((members head - 1) ∷ stack)
          (drop (used + n + payload head) bytes)
          ≡ total
      opened_here lt =
          sym (item_here ∙ ap (λ (s : State). scanned limit deep s (drop (used + n + payload head) bytes)) (ended_opened (used + n + payload head) stack head (lt-ltb 0 (members head) lt))) ∙ same

      ended_here : members head ≤ 0
          → scanned limit deep (Going used stack (InHead [])) (drop used bytes)
          ≡ scanned limit deep (goes_on (used + n + payload head) (after_value stack))
          (drop (used + n + payload head) bytes)
      ended_here le = item_here ∙ ap (λ (s : State). scanned limit deep s (drop (used + n + payload head) bytes)) (ended_shut (used + n + payload head) stack head (le-ltb 0 (members head) le))

      pub next_here : members head ≤ 0 → (next : List ℕ) → after_value stack ≡ Some next
          → from_item limit deep (used + n + payload head) next
          (drop (used + n + payload head) bytes)
          ≡ total
      next_here le next e =
          sym (ended_here le ∙ ap (λ (o : Option (List ℕ)). scanned limit deep (goes_on (used + n + payload head) o) (drop (used + n + payload head) bytes)) e) ∙ same

      pub whole_here : members head ≤ 0 → after_value stack ≡ None
          → Ended (used + n + payload head) ≡ total
      whole_here le e =
          sym (ended_here le ∙ ap (λ (o : Option (List ℕ)). scanned limit deep (goes_on (used + n + payload head) o) (drop (used + n + payload head) bytes)) e ∙ scanned-Ended limit deep (used + n + payload head) (drop (used + n + payload head) bytes)) ∙ same

module _ (limit deep : ℕ) (bytes : List ℕ) (used : ℕ) (stack : List ℕ) (total : State)
    (same : from_item limit deep used stack (drop used bytes) ≡ total)
    (size : ℕ)
    (plain : plain_len (reading_of (take (length bytes - used) (drop used bytes))) ≡ Some size)
    (inside : used + size ≤ length bytes) (fits : used + size + sum stack ≤ limit) where
  -- behind a plain item in an open container
  pub next_plain : (next : List ℕ) → after_value stack ≡ Some next
      → from_item limit deep (used + size) next (drop (used + size) bytes) ≡ total
  next_plain next e =
      let p = ReadsPlain-from (take (length bytes - used) (drop used bytes)) size plain in
      let none = no_members p.head p.shut in
      let len = p.len in
      let good = shut_good limit deep (used + p.n) stack p.head p.shut (omega arith) in
      let le : payload p.head ≤ length bytes - (used + p.n) = omega arith in
      let at : used + p.n + payload p.head ≡ used + size = omega arith in
      ap (λ (k : ℕ). from_item limit deep k next (drop k bytes)) (sym at)
      ∙ next_here limit deep bytes used stack total same p.head p.n p.reads good le none next e

  -- a plain item that is the last
  pub whole_plain : after_value stack ≡ None → Ended (used + size) ≡ total
  whole_plain e =
      let p = ReadsPlain-from (take (length bytes - used) (drop used bytes)) size plain in
      let none = no_members p.head p.shut in
      let len = p.len in
      let good = shut_good limit deep (used + p.n) stack p.head p.shut (omega arith) in
      let le : payload p.head ≤ length bytes - (used + p.n) = omega arith in
      let at : used + p.n + payload p.head ≡ used + size = omega arith in
      ap Ended (sym at) ∙ whole_here limit deep bytes used stack total same p.head p.n p.reads good le none e

-- behind members of the innermost container
pub behind_members :
    (limit deep : ℕ) (bytes : List ℕ) (used : ℕ) (stack : List ℕ) (items len : ℕ)
    → AreMembers (drop used bytes) items len → items ≤ innermost stack
    → (items ≡ 0 → len ≡ 0)
    → used + len + sum stack ≤ limit
    → scan_behind limit deep (used + len) (less_by items stack) bytes
    ≡ scan_behind limit deep used stack bytes
behind_members limit deep bytes used [] items len are most none fits =
    let zero_len = none (omega arith) in
    let at : used + len ≡ used = omega arith in
    ap (λ (k : ℕ). scan_behind limit deep k [] bytes) at
behind_members limit deep bytes used (lacking ∷ stack) items len are most none fits =
    let total = sum-cons lacking stack in
    sym (are limit deep used lacking stack most (omega arith)
    ∙ ap (λ (xs : List ℕ). from_item limit deep (used + len) ((lacking - items) ∷ stack) xs) (drop-drop len used bytes))

-- a plain item at the front is the first value
pub plain_first : (limit deep : ℕ) (bytes : List ℕ) (size : ℕ)
    → plain_len (reading_of bytes) ≡ Some size → size ≤ length bytes → size ≤ limit
    → first_of limit deep bytes ≡ Whole size
unfolding first_of
plain_first limit deep bytes size plain inside fits =
    let here = ap (λ (xs : List ℕ). plain_len (reading_of xs)) (take_rest bytes 0) ∙ plain in
    ap verdict_of (sym (ap Ended (sym (zero-add size)) ∙ whole_plain limit deep bytes 0 [] (scanned limit deep start bytes) refl size here (omega arith) (omega arith) refl))

-- behind the head of one byte of a container that has members and is within the limits
pub behind_opening : (limit deep : ℕ) (bytes : List ℕ) (used : ℕ) (stack : List ℕ) (count : ℕ)
    → ((rest : List ℕ) → IsSmallOpening (reading_of (get_or bytes used 0 ∷ rest)) count)
    → 0 < count → used < length bytes → length stack < deep
    → used + 1 + (count + sum stack) ≤ limit
    → scan_behind limit deep (used + 1) ((count - 1) ∷ stack) bytes
    ≡ scan_behind limit deep used stack bytes
behind_opening limit deep bytes used stack count opens pos lt room fits =
    by_reading (reading_of (drop used bytes)) refl (ap (λ (xs : List ℕ). reading_of xs) (rw add-one (drop-cons bytes used 0 lt)))
  where
    by_reading : (r : HeadRead) → r ≡ reading_of (drop used bytes)
        → reading_of (drop used bytes) ≡ reading_of (get_or bytes used 0 ∷ drop (used + 1) bytes)
        → scan_behind limit deep (used + 1) ((count - 1) ∷ stack) bytes
        ≡ scan_behind limit deep used stack bytes
    by_reading read.Short e at = absurd (subst (λ (r : HeadRead). IsSmallOpening r count) (sym (e ∙ at)) (opens (drop (used + 1) bytes)))
    by_reading read.Reserved e at = absurd (subst (λ (r : HeadRead). IsSmallOpening r count) (sym (e ∙ at)) (opens (drop (used + 1) bytes)))
    by_reading (read.Whole head n) e at =
        let it : (n ≡ 1) × (payload head ≡ 0) × (members head ≡ count) = subst (λ (r : HeadRead). IsSmallOpening r count) (sym (e ∙ at)) (opens (drop (used + 1) bytes)) in
        let one : n ≡ 1 = it.0 in
        let bare : payload head ≡ 0 = it.1 in
        let all : members head ≡ count = it.2 in
        let here : read.Whole head n ≡ reading_of (take (length bytes - used) (drop used bytes)) = e ∙ ap reading_of (sym (take_rest bytes used)) in
        let good = IsGood-none limit deep (used + n) stack head (record { shallow = λ _. room; fits = omega (arith, one, bare, all) }) in
        let place : used + n + payload head ≡ used + 1 = omega (arith, one, bare) in
        let less : members head - 1 ≡ count - 1 = omega (arith, all) in
        ap (λ (k : ℕ). from_item limit deep (used + 1) (k ∷ stack) (drop (used + 1) bytes)) (sym less)
        ∙ ap (λ (k : ℕ). from_item limit deep k ((members head - 1) ∷ stack) (drop k bytes)) (sym place)
        ∙ opened_here limit deep bytes used stack (scan_behind limit deep used stack bytes) refl head n here good (omega (arith, bare, one)) (omega (arith, all))

-- what a scan of some bytes from nothing stops at is what they begin with
pub first_stopped : (limit deep : ℕ) (bytes stack : List ℕ) (state : State) → stack ≡ []
    → state ≡ scan_behind limit deep 0 stack bytes
    → verdict_of state ≡ first_of limit deep bytes
unfolding first_of
first_stopped limit deep bytes stack state none e =
    ap verdict_of (e ∙ ap (λ (open_now : List ℕ). scan_behind limit deep 0 open_now bytes) none)
