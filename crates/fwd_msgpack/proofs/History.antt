-- What a scan that goes on has behind it: whole items, and a part of one.
use Rattle.std.proofs.Common.{◌≡◌, ℕ, ◌+◌, ◌-◌, ◌<◌, ◌≤◌, Bool, true, false, cond, ltb, List, [], ◌∷◌, ◌++◌, length, take, drop, Option, Some, None, refl, sym, ap, subst, ◌∙◌, arith, append_assoc, ⊎_elim, zero-add}
use Rattle.std.specs.List.{AllByRecursion, flat_map}
use Rattle.std.proofs.lemmas.Bool.{cases_lt, ltb-true, ltb-false}
use Rattle.std.proofs.lemmas.List.{append-nil, length-append, take-append-le, take-append-drop}
use Rattle.fwd_msgpack.specs.declared.fault.ScanFault.{ScanFault}
use Rattle.fwd_msgpack.specs.declared.fault.ScanFault.TheVariants.{Reserved}
use Rattle.fwd_msgpack.specs.declared.head.Head.{Head}
use Rattle.fwd_msgpack.specs.declared.head.HeadRead.{HeadRead}
use Rattle.fwd_msgpack.specs.declared.head.HeadRead.TheVariants as read
use Rattle.fwd_msgpack.specs.Heads.{reading_of, payload, members}
use Rattle.fwd_msgpack.specs.Scans.{Item, InHead, InPayload, State, Going, Ended, Failed, after_value, goes_on, value_ended, payload_ended, item_begun, fault_at, unless_faulty, head_heard, scan_item, scan_byte, start}
use Rattle.fwd_msgpack.specs.Values.{AreHead}
use Rattle.fwd_msgpack.specs.Streams.{IsItem, AreItems}
use Rattle.fwd_msgpack.proofs.Fronts.{scanned, scanned-Ended, scanned-Failed}
use Rattle.fwd_msgpack.proofs.Wholes.{scanned-append}
use Rattle.fwd_msgpack.proofs.Parts.{read_within}
use Rattle.fwd_msgpack.proofs.Sound.{front_alone}
use Rattle.fwd_msgpack.proofs.Complete.{head_more}

-- ---- items

concat_push : (items : List (List ℕ)) (item : List ℕ)
    → flat_map (λ x. x) (items ++ item ∷ []) ≡ flat_map (λ x. x) items ++ item
concat_push [] item = append-nil item
concat_push (x ∷ items) item = ap (λ (xs : List ℕ). x ++ xs) (concat_push items item) ∙ sym (append_assoc x (flat_map (λ x. x) items) item)

all_push : (items : List (List ℕ)) (item : List ℕ) → AllByRecursion IsItem items
    → IsItem item → AllByRecursion IsItem (items ++ item ∷ [])
all_push [] item each is = (is, tt)
all_push (x ∷ items) item each is = (each.0, all_push items item each.1 is)

pub no_items : AreItems []
no_items = record { items = []; each = tt; joined = refl }

pub more_items : (before item : List ℕ) → AreItems before → IsItem item
    → AreItems (before ++ item)
more_items before item are is = record {
  items = are.items ++ item ∷ [];
  each = all_push are.items item are.each is;
  joined = concat_push are.items item ∙ ap (λ (xs : List ℕ). xs ++ item) are.joined;
}

-- ---- a head ends with its last byte

nothing_read : reading_of [] ≡ read.Short
unfolding reading_of
nothing_read = refl

exact_by : (pending : List ℕ) (b : ℕ) (head : Head) (n : ℕ)
    → reading_of pending ≡ read.Short → reading_of (pending ++ b ∷ []) ≡ read.Whole head n
    → n ≤ length pending → ⊥
exact_by pending b head n short whole le =
    let front : take n (pending ++ b ∷ []) ≡ take n pending = take-append-le n pending (b ∷ []) le in
    let alone = subst (λ (xs : List ℕ). AreHead head xs) front (front_alone (pending ++ b ∷ []) head n whole) in
    let more = head_more head (take n pending) (drop n pending) alone in
    let back = ap reading_of (sym (take-append-drop n pending)) ∙ more in
    cc

pub exact : (pending : List ℕ) (b : ℕ) (head : Head) (n : ℕ)
    → reading_of pending ≡ read.Short → reading_of (pending ++ b ∷ []) ≡ read.Whole head n
    → AreHead head (pending ++ b ∷ [])
exact pending b head n short whole =
    let within = (read_within (pending ++ b ∷ []) head n whole).1 in
    let size = length-append pending (b ∷ []) in
    ⊎_elim (λ (lt : length pending < n). whole ∙ ap (λ (k : ℕ). read.Whole head k) (omega arith))
    (λ (le : n ≤ length pending). absurd (exact_by pending b head n short whole le)) (cases_lt (length pending) n)

-- ---- the history of a scan

module _ (limit deep : ℕ) where
  abbrev pub here : List ℕ → State
  here bytes = scanned limit deep start bytes

  pub data Along (bytes : List ℕ) : Type 0 where
    in_head : (before pending stack : List ℕ) → bytes ≡ before ++ pending → AreItems before
        → here before ≡ Going (length before) stack (InHead [])
        → reading_of pending ≡ read.Short
        → here bytes ≡ Going (length bytes) stack (InHead pending) → Along bytes
    in_payload : (before front part stack : List ℕ) (head : Head) (left : ℕ)
        → bytes ≡ before ++ (front ++ part) → AreItems before → AreHead head front
        → length part + left ≡ payload head → 0 < left
        → here bytes ≡ Going (length bytes) stack (InPayload left) → Along bytes
    over : (used : ℕ) → here bytes ≡ Ended used → Along bytes
    bad : (fault : ScanFault) → here bytes ≡ Failed fault → Along bytes

  next : (bytes : List ℕ) (b : ℕ)
      → here (bytes ++ b ∷ []) ≡ scan_byte limit deep (here bytes) b
  next bytes b = scanned-append limit deep start bytes (b ∷ [])

  -- behind whole items
  at_items : (bytes stack : List ℕ) → AreItems bytes
      → here bytes ≡ Going (length bytes) stack (InHead []) → Along bytes
  at_items bytes stack are e = in_head bytes [] stack (sym (append-nil bytes)) are e nothing_read e

  at_end : (bytes : List ℕ) (o : Option (List ℕ)) → AreItems bytes
      → here bytes ≡ goes_on (length bytes) o → Along bytes
  at_end bytes None are e = over (length bytes) e
  at_end bytes (Some stack) are e = at_items bytes stack are e

  behind_payload : (bytes stack : List ℕ) (head : Head) → AreItems bytes
      → here bytes ≡ payload_ended (length bytes) stack head → Along bytes
  unfolding payload_ended
  behind_payload bytes stack head are e = by_test (ltb 0 (members head)) e
    where
      by_test : (t : Bool)
          → here bytes
          ≡ cond t (Going (length bytes) ((members head - 1) ∷ stack) (InHead []))
          (value_ended (length bytes) stack)
          → Along bytes
      by_test true e' = at_items bytes ((members head - 1) ∷ stack) are e'
      by_test false e' = at_end bytes (after_value stack) are e'

  begun : (before front stack : List ℕ) (head : Head) → AreItems before → AreHead head front
      → here (before ++ front) ≡ item_begun (length (before ++ front)) stack head
      → Along (before ++ front)
  unfolding item_begun
  begun before front stack head are is e = by_test (ltb 0 (payload head)) refl e
    where
      by_test : (t : Bool) → ltb 0 (payload head) ≡ t
          → here (before ++ front)
          ≡ cond t (Going (length (before ++ front)) stack (InPayload (payload head)))
          (payload_ended (length (before ++ front)) stack head)
          → Along (before ++ front)
      by_test true t e' =
          in_payload before front [] stack head (payload head) (ap (λ (xs : List ℕ). before ++ xs) (sym (append-nil front))) are is (zero-add (payload head)) (ltb-true 0 (payload head) t) e'
      by_test false t e' =
          let item : IsItem front = record { head = head; front = front; body = []; parts = sym (append-nil front); spelled = is; len = omega (arith, ltb-false 0 (payload head) t) } in
          behind_payload (before ++ front) stack head (more_items before front are item) e'

  found : (before front stack : List ℕ) (head : Head) (o : Option ScanFault) → AreItems before
      → AreHead head front
      → here (before ++ front)
      ≡ unless_faulty o (item_begun (length (before ++ front)) stack head)
      → Along (before ++ front)
  found before front stack head (Some fault) are is e = bad fault e
  found before front stack head None are is e = begun before front stack head are is e

  heard : (before pending stack : List ℕ) (b : ℕ) (r : HeadRead) → AreItems before
      → here before ≡ Going (length before) stack (InHead [])
      → reading_of pending ≡ read.Short → reading_of (pending ++ b ∷ []) ≡ r
      → here (before ++ (pending ++ b ∷ []))
      ≡ head_heard limit deep (length (before ++ (pending ++ b ∷ []))) stack
      (pending ++ b ∷ []) r
      → Along (before ++ (pending ++ b ∷ []))
  heard before pending stack b read.Short are at short h e = in_head before (pending ++ b ∷ []) stack refl are at h e
  heard before pending stack b read.Reserved are at short h e = bad Reserved e
  heard before pending stack b (read.Whole head n) are at short h e =
      found before (pending ++ b ∷ []) stack head (fault_at limit deep (length (before ++ (pending ++ b ∷ []))) stack head) are (exact pending b head n short h) e

  step : (bytes : List ℕ) (b : ℕ) → Along bytes → Along (bytes ++ b ∷ [])
  step bytes b (in_head before pending stack parts are at short e) =
      let whole : bytes ++ b ∷ [] ≡ before ++ (pending ++ b ∷ []) = ap (λ (xs : List ℕ). xs ++ b ∷ []) parts ∙ append_assoc before pending (b ∷ []) in
      let count : length bytes + 1 ≡ length (before ++ (pending ++ b ∷ [])) = omega (arith, length-append bytes (b ∷ []), ap length whole) in
      let state : here (before ++ (pending ++ b ∷ [])) ≡ head_heard limit deep (length (before ++ (pending ++ b ∷ []))) stack (pending ++ b ∷ []) (reading_of (pending ++ b ∷ [])) =
      ap here (sym whole) ∙ next bytes b ∙ ap (λ (s : State). scan_byte limit deep s b) e ∙ ap (λ (k : ℕ). head_heard limit deep k stack (pending ++ b ∷ []) (reading_of (pending ++ b ∷ []))) count in
      subst Along (sym whole) (heard before pending stack b (reading_of (pending ++ b ∷ [])) are at short refl state)
  step bytes b (in_payload before front part stack head left parts are is size some e) = by_test (ltb 1 left) refl
    where
      whole : bytes ++ b ∷ [] ≡ before ++ (front ++ (part ++ b ∷ []))
      whole = ap (λ (xs : List ℕ). xs ++ b ∷ []) parts ∙ append_assoc before (front ++ part) (b ∷ []) ∙ ap (λ (xs : List ℕ). before ++ xs) (append_assoc front part (b ∷ []))

      count : length bytes + 1 ≡ length (bytes ++ b ∷ [])
      count = sym (length-append bytes (b ∷ []))

      state : here (bytes ++ b ∷ [])
          ≡ scan_item limit deep (length bytes) stack (InPayload left) b
      state = next bytes b ∙ ap (λ (s : State). scan_byte limit deep s b) e

      by_test : (t : Bool) → ltb 1 left ≡ t → Along (bytes ++ b ∷ [])
      by_test true t =
          let lt = ltb-true 1 left t in
          in_payload before front (part ++ b ∷ []) stack head (left - 1) whole are is (omega (arith, length-append part (b ∷ []))) (omega arith)
          (state ∙ ap (λ (c : Bool). cond c (Going (length bytes + 1) stack (InPayload (left - 1))) (value_ended (length bytes + 1) stack)) t ∙ ap (λ (k : ℕ). Going k stack (InPayload (left - 1))) count)
      by_test false t =
          let le = ltb-false 1 left t in
          let item : IsItem (front ++ (part ++ b ∷ [])) = record { head = head; front = front; body = part ++ b ∷ []; parts = refl; spelled = is; len = omega (arith, length-append part (b ∷ [])) } in
          at_end (bytes ++ b ∷ []) (after_value stack) (subst AreItems (sym whole) (more_items before (front ++ (part ++ b ∷ [])) are item))
          (state ∙ ap (λ (c : Bool). cond c (Going (length bytes + 1) stack (InPayload (left - 1))) (value_ended (length bytes + 1) stack)) t ∙ ap (λ (k : ℕ). value_ended k stack) count)
  step bytes b (over used e) = over used (next bytes b ∙ ap (λ (s : State). scan_byte limit deep s b) e)
  step bytes b (bad fault e) = bad fault (next bytes b ∙ ap (λ (s : State). scan_byte limit deep s b) e)

  along_from : (seen more : List ℕ) → Along seen → Along (seen ++ more)
  along_from seen [] a = subst Along (sym (append-nil seen)) a
  along_from seen (b ∷ more) a = subst Along (append_assoc seen (b ∷ []) more) (along_from (seen ++ b ∷ []) more (step seen b a))

  pub along : (bytes : List ℕ) → Along bytes
  along bytes = along_from [] bytes (at_items [] [] no_items refl)

  -- ---- fronts of a scan that goes on

  pub record Goes (bytes : List ℕ) : Type 0 where
    pub used : ℕ
    pub stack : List ℕ
    pub item : Item
    pub state : here bytes ≡ Going used stack item

  goes_by : (front more : List ℕ) (s : State) (used : ℕ) (stack : List ℕ) (item : Item)
      → here front ≡ s → here (front ++ more) ≡ Going used stack item → Goes front
  goes_by front more (Going used' stack' item') used stack item e g = record { used = used'; stack = stack'; item = item'; state = e }
  goes_by front more (Ended n) used stack item e g =
      let whole = scanned-append limit deep start front more ∙ ap (λ (s : State). scanned limit deep s more) e ∙ scanned-Ended limit deep n more in
      absurd cc
  goes_by front more (Failed fault) used stack item e g =
      let whole = scanned-append limit deep start front more ∙ ap (λ (s : State). scanned limit deep s more) e ∙ scanned-Failed limit deep fault more in
      absurd cc

  pub goes_front : (front more : List ℕ) → Goes (front ++ more) → Goes front
  goes_front front more g = goes_by front more (here front) g.used g.stack g.item refl g.state
