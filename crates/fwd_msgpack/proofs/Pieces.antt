-- A scan whose bytes come in pieces: it goes on as if it began later, and counts each byte once.
use Rattle.std.proofs.Common.{◌≡◌, ℕ, zero, suc, get_or, ◌+◌, ◌-◌, ◌<◌, ◌≤◌, Bool, true, false, cond, ltb, leb, ◌&&◌, List, [], ◌∷◌, ◌++◌, length, sum, take, drop, Option, Some, None, refl, sym, ap, subst, ◌∙◌, arith, inl, inr}
use Rattle.std.proofs.lemmas.Bool.{cases_lt, lt-ltb, le-ltb}
use Rattle.std.proofs.lemmas.List.{take-append-drop, take-take, drop-take, take_all, take_more, take_rest, length-take-le, drop_all}
use Rattle.fwd_msgpack.specs.declared.fault.ScanFault.{ScanFault}
use Rattle.fwd_msgpack.specs.declared.fault.ScanFault.TheVariants.{TooDeep, TooLong}
use Rattle.fwd_msgpack.specs.declared.head.Head.{Head}
use Rattle.fwd_msgpack.specs.declared.head.HeadRead.{HeadRead}
use Rattle.fwd_msgpack.specs.declared.head.HeadRead.TheVariants as read
use Rattle.fwd_msgpack.specs.declared.limits.Limits.{Limits}
use Rattle.fwd_msgpack.specs.declared.scanner.Fed.{Fed}
use Rattle.fwd_msgpack.specs.declared.scanner.Fed.TheVariants as feds
use Rattle.fwd_msgpack.specs.Heads.{reading_of, payload, members, opens}
use Rattle.fwd_msgpack.specs.Scans.{Short, Bad, first_of, start, Item, InHead, InPayload, State, Going, Ended, Failed, after_value, goes_on, value_ended, payload_ended, item_begun, fault_at, unless_faulty, head_found, head_heard, scan_item, scan_byte, verdict_of, whole_len}
use Rattle.fwd_msgpack.specs.Scanners.{Standing, onward, standing_behind, taken, heard, EndsWithin, IsBehind}
use Rattle.fwd_msgpack.specs.Extents.{scan_behind}
use Rattle.fwd_msgpack.proofs.Fronts.{scanned, payload-short, payload-whole, scanned-Ended, scanned-Failed, ended_shut, ended_opened}
use Rattle.fwd_msgpack.proofs.Wholes.{scanned-append, state_whole}

-- ---- a scan that began so many bytes earlier, and has so much more of a limit

abbrev pub later : ℕ → State → State
later n (Going used stack item) = Going (n + used) stack item
later n (Ended used) = Ended (n + used)
later n (Failed fault) = Failed fault

module _ (limit deep n : ℕ) (le : n ≤ limit) where
  test_later : (used owed : ℕ)
      → ltb limit (n + used + owed) ≡ ltb (limit - n) (used + owed)
  test_later used owed =
      elim (cases_lt (limit - n) (used + owed)) [
        | inl lt ↦ lt-ltb limit (n + used + owed) (omega arith)
            ∙ sym (lt-ltb (limit - n) (used + owed) lt)
        | inr ge ↦ le-ltb limit (n + used + owed) (omega arith)
            ∙ sym (le-ltb (limit - n) (used + owed) ge)
      ]

  fault_later : (used : ℕ) (stack : List ℕ) (head : Head)
      → fault_at limit deep (n + used) stack head ≡ fault_at (limit - n) deep used stack head
  unfolding fault_at
  fault_later used stack head =
      ap (λ (b : Bool). cond (opens head && leb deep (length stack)) (Some TooDeep) (cond b (Some TooLong) None)) (test_later used (payload head + members head + sum stack))

  ended_later : (used : ℕ) (o : Option (List ℕ))
      → goes_on (n + used) o ≡ later n (goes_on used o)
  ended_later used None = refl
  ended_later used (Some stack) = refl

  payload_later : (used : ℕ) (stack : List ℕ) (head : Head)
      → payload_ended (n + used) stack head ≡ later n (payload_ended used stack head)
  unfolding payload_ended
  payload_later used stack head = by_test (ltb 0 (members head))
    where
      by_test : (b : Bool)
          → cond b (Going (n + used) ((members head - 1) ∷ stack) (InHead []))
          (value_ended (n + used) stack)
          ≡ later n
          (cond b (Going used ((members head - 1) ∷ stack) (InHead []))
          (value_ended used stack))
      by_test true = refl
      by_test false = ended_later used (after_value stack)

  begun_later : (used : ℕ) (stack : List ℕ) (head : Head)
      → item_begun (n + used) stack head ≡ later n (item_begun used stack head)
  unfolding item_begun
  begun_later used stack head = by_test (ltb 0 (payload head))
    where
      by_test : (b : Bool)
          → cond b (Going (n + used) stack (InPayload (payload head)))
          (payload_ended (n + used) stack head)
          ≡ later n
          (cond b (Going used stack (InPayload (payload head)))
          (payload_ended used stack head))
      by_test true = refl
      by_test false = payload_later used stack head

  found_later : (used : ℕ) (stack : List ℕ) (head : Head) (o : Option ScanFault)
      → unless_faulty o (item_begun (n + used) stack head)
      ≡ later n (unless_faulty o (item_begun used stack head))
  found_later used stack head None = begun_later used stack head
  found_later used stack head (Some fault) = refl

  heard_later : (used : ℕ) (stack front : List ℕ) (r : HeadRead)
      → head_heard limit deep (n + used) stack front r
      ≡ later n (head_heard (limit - n) deep used stack front r)
  heard_later used stack front read.Short = refl
  heard_later used stack front read.Reserved = refl
  heard_later used stack front (read.Whole head k) =
      ap (λ (o : Option ScanFault). unless_faulty o (item_begun (n + used) stack head)) (fault_later used stack head)
      ∙ found_later used stack head (fault_at (limit - n) deep used stack head)

  item_later : (used : ℕ) (stack : List ℕ) (item : Item) (b : ℕ)
      → scan_item limit deep (n + used) stack item b
      ≡ later n (scan_item (limit - n) deep used stack item b)
  item_later used stack (InHead pending) b =
      let front = pending ++ b ∷ [] in
      let place : n + used + 1 ≡ n + (used + 1) = omega arith in
      ap (λ (k : ℕ). head_heard limit deep k stack front (reading_of front)) place
      ∙ heard_later (used + 1) stack front (reading_of front)
  item_later used stack (InPayload left) b = by_test (ltb 1 left)
    where
      place : n + used + 1 ≡ n + (used + 1)
      place = omega arith

      by_test : (c : Bool)
          → cond c (Going (n + used + 1) stack (InPayload (left - 1)))
          (value_ended (n + used + 1) stack)
          ≡ later n
          (cond c (Going (used + 1) stack (InPayload (left - 1)))
          (value_ended (used + 1) stack))
      by_test true = ap (λ (k : ℕ). Going k stack (InPayload (left - 1))) place
      by_test false =
          ap (λ (k : ℕ). value_ended k stack) place ∙ ended_later (used + 1) (after_value stack)

  byte_later : (state : State) (b : ℕ)
      → scan_byte limit deep (later n state) b
      ≡ later n (scan_byte (limit - n) deep state b)
  byte_later (Going used stack item) b = item_later used stack item b
  byte_later (Ended used) b = refl
  byte_later (Failed fault) b = refl

  pub scanned_later : (state : State) (bytes : List ℕ)
      → scanned limit deep (later n state) bytes
      ≡ later n (scanned (limit - n) deep state bytes)
  scanned_later state [] = refl
  scanned_later state (b ∷ bytes) =
      ap (λ (s : State). scanned limit deep s bytes) (byte_later state b)
      ∙ scanned_later (scan_byte (limit - n) deep state b) bytes

-- ---- each byte is counted once

-- so many bytes have been used, unless there was a fault
abbrev HasUsed : ℕ → State → Type 0
HasUsed n (Going used stack item) = used ≡ n
HasUsed n (Ended used) = used ≡ n
HasUsed n (Failed fault) = Unit {0}

module _ (limit deep : ℕ) where
  used_goes : (used : ℕ) (o : Option (List ℕ)) → HasUsed used (goes_on used o)
  used_goes used None = refl
  used_goes used (Some stack) = refl

  used_payload : (used : ℕ) (stack : List ℕ) (head : Head)
      → HasUsed used (payload_ended used stack head)
  unfolding payload_ended
  used_payload used stack head = by_test (ltb 0 (members head))
    where
      by_test : (b : Bool)
          → HasUsed used
          (cond b (Going used ((members head - 1) ∷ stack) (InHead []))
          (value_ended used stack))
      by_test true = refl
      by_test false = used_goes used (after_value stack)

  used_begun : (used : ℕ) (stack : List ℕ) (head : Head)
      → HasUsed used (item_begun used stack head)
  unfolding item_begun
  used_begun used stack head = by_test (ltb 0 (payload head))
    where
      by_test : (b : Bool)
          → HasUsed used
          (cond b (Going used stack (InPayload (payload head)))
          (payload_ended used stack head))
      by_test true = refl
      by_test false = used_payload used stack head

  used_found : (used : ℕ) (stack : List ℕ) (head : Head) (o : Option ScanFault)
      → HasUsed used (unless_faulty o (item_begun used stack head))
  used_found used stack head None = used_begun used stack head
  used_found used stack head (Some fault) = tt

  used_heard : (used : ℕ) (stack front : List ℕ) (r : HeadRead)
      → HasUsed used (head_heard limit deep used stack front r)
  used_heard used stack front read.Short = refl
  used_heard used stack front read.Reserved = tt
  used_heard used stack front (read.Whole head k) = used_found used stack head (fault_at limit deep used stack head)

  used_item : (used : ℕ) (stack : List ℕ) (item : Item) (b : ℕ)
      → HasUsed (used + 1) (scan_item limit deep used stack item b)
  used_item used stack (InHead pending) b = used_heard (used + 1) stack (pending ++ b ∷ []) (reading_of (pending ++ b ∷ []))
  used_item used stack (InPayload left) b = by_test (ltb 1 left)
    where
      by_test : (c : Bool)
          → HasUsed (used + 1)
          (cond c (Going (used + 1) stack (InPayload (left - 1)))
          (value_ended (used + 1) stack))
      by_test true = refl
      by_test false = used_goes (used + 1) (after_value stack)

  ends_behind : (used : ℕ) (state : State) (bytes : List ℕ) (total : ℕ) → HasUsed used state
      → scanned limit deep state bytes ≡ Ended total
      → (used ≤ total) × (total ≤ used + length bytes)
  ends_behind used (Ended n) bytes total is e =
      let same : Ended n ≡ Ended total = sym (scanned-Ended limit deep n bytes) ∙ e in
      let count : n ≡ total = cc in
      (omega arith, omega arith)
  ends_behind used (Failed fault) bytes total is e =
      let same : Failed fault ≡ Ended total = sym (scanned-Failed limit deep fault bytes) ∙ e in
      absurd cc
  ends_behind used (Going n stack item) [] total is e = absurd cc
  ends_behind used (Going n stack item) (b ∷ bytes) total is e =
      let on = ends_behind (n + 1) (scan_item limit deep n stack item b) bytes total (used_item n stack item b) e in
      (omega arith, omega arith)

  -- a value that has not ended ends behind one byte or more
  pub ends_within : (state : State) (bytes : List ℕ) (total : ℕ) → whole_len (verdict_of state) ≡ None
      → scanned limit deep state bytes ≡ Ended total
      → (taken state < total) × (total ≤ taken state + length bytes)
  ends_within (Ended n) bytes total going e = absurd cc
  ends_within (Failed fault) bytes total going e =
      let same : Failed fault ≡ Ended total = sym (scanned-Failed limit deep fault bytes) ∙ e in
      absurd cc
  ends_within (Going n stack item) [] total going e = absurd cc
  ends_within (Going n stack item) (b ∷ bytes) total going e =
      let on = ends_behind (n + 1) (scan_item limit deep n stack item b) bytes total (used_item n stack item b) e in
      (omega arith, omega arith)

  -- a value that has not ended has taken all bytes
  pub short_taken : (used : ℕ) (state : State) (bytes : List ℕ) → HasUsed used state
      → verdict_of (scanned limit deep state bytes) ≡ Short
      → taken (scanned limit deep state bytes) ≡ used + length bytes
  short_taken used (Ended n) bytes is e =
      let same = ap verdict_of (scanned-Ended limit deep n bytes) in
      absurd cc
  short_taken used (Failed fault) bytes is e =
      let same = ap verdict_of (scanned-Failed limit deep fault bytes) in
      absurd cc
  short_taken used (Going n stack item) [] is e = omega arith
  short_taken used (Going n stack item) (b ∷ bytes) is e =
      let on = short_taken (n + 1) (scan_item limit deep n stack item b) bytes (used_item n stack item b) e in
      omega (arith, on)

-- ---- behind a head

module _ (limit deep used : ℕ) (stack : List ℕ) (head : Head)
    (good : fault_at limit deep used stack head ≡ None) where
  found : item_begun used stack head ≡ head_found limit deep used stack head
  found = ap (λ (o : Option ScanFault). unless_faulty o (item_begun used stack head)) (sym good)

  pub found_payload : 0 < payload head
      → Going used stack (InPayload (payload head)) ≡ head_found limit deep used stack head
  unfolding item_begun
  found_payload lt =
      ap (λ (b : Bool). cond b (Going used stack (InPayload (payload head))) (payload_ended used stack head)) (sym (lt-ltb 0 (payload head) lt))
      ∙ found

  bare : payload head ≤ 0
      → payload_ended used stack head ≡ head_found limit deep used stack head
  unfolding item_begun
  bare le =
      ap (λ (b : Bool). cond b (Going used stack (InPayload (payload head))) (payload_ended used stack head)) (sym (le-ltb 0 (payload head) le))
      ∙ found

  pub found_opened : payload head ≤ 0 → 0 < members head
      → Going used ((members head - 1) ∷ stack) (InHead [])
      ≡ head_found limit deep used stack head
  found_opened le lt = sym (ended_opened used stack head (lt-ltb 0 (members head) lt)) ∙ bare le

  pub found_ended : payload head ≤ 0 → members head ≤ 0
      → value_ended used stack ≡ head_found limit deep used stack head
  found_ended le none = sym (ended_shut used stack head (le-ltb 0 (members head) none)) ∙ bare le

-- ---- bytes behind bytes

pub take_further : (n m : ℕ) (bytes : List ℕ)
    → take (n + m) bytes ≡ take n bytes ++ take m (drop n bytes)
take_further n m bytes =
    sym (take-append-drop n (take (n + m) bytes))
    ∙ ap (λ (xs : List ℕ). xs ++ drop n (take (n + m) bytes)) (take-take n (n + m) bytes (omega arith))
    ∙ ap (λ (xs : List ℕ). take n bytes ++ xs) (drop-take n m bytes)

-- a scan over a front, and then over what is behind it
pub scanned_front : (limit deep : ℕ) (state : State) (n : ℕ) (bytes : List ℕ)
    → scanned limit deep (scanned limit deep state (take n bytes)) (drop n bytes)
    ≡ scanned limit deep state bytes
scanned_front limit deep state n bytes =
    sym (scanned-append limit deep state (take n bytes) (drop n bytes))
    ∙ ap (λ (xs : List ℕ). scanned limit deep state xs) (take-append-drop n bytes)

-- a scan over a front, and then over a front of what is behind it
pub scanned_further : (limit deep : ℕ) (state : State) (n m : ℕ) (bytes : List ℕ)
    → scanned limit deep (scanned limit deep state (take n bytes)) (take m (drop n bytes))
    ≡ scanned limit deep state (take (n + m) bytes)
scanned_further limit deep state n m bytes =
    sym (scanned-append limit deep state (take n bytes) (take m (drop n bytes)))
    ∙ ap (λ (xs : List ℕ). scanned limit deep state xs) (sym (take_further n m bytes))

-- ---- the parts of an item that is cut off

-- a payload that the piece does not end
pub payload_cut : (limit deep used : ℕ) (stack : List ℕ) (left : ℕ) (piece : List ℕ)
    → length piece < left
    → Going (used + length piece) stack (InPayload (left - length piece))
    ≡ scanned limit deep (Going used stack (InPayload left)) (take (length piece) piece)
payload_cut limit deep used stack left piece lt =
    sym (payload-short limit deep used stack left piece lt)
    ∙ ap (λ (xs : List ℕ). scanned limit deep (Going used stack (InPayload left)) xs) (sym (take_all (length piece) piece (omega arith)))

-- a payload that the piece ends
pub payload_over : (limit deep used : ℕ) (stack : List ℕ) (left : ℕ) (piece : List ℕ)
    → 0 < left → left ≤ length piece
    → value_ended (used + left) stack
    ≡ scanned limit deep (Going used stack (InPayload left)) (take left piece)
payload_over limit deep used stack zero piece some le = absurd (omega arith)
payload_over limit deep used stack (suc left) piece some le =
    let size = length-take-le (suc left) piece le in
    let none : drop (suc left) (take (suc left) piece) ≡ [] = drop_all (suc left) (take (suc left) piece) (omega (arith, size)) in
    ap (λ (xs : List ℕ). scanned limit deep (value_ended (used + suc left) stack) xs) (sym none)
    ∙ sym (payload-whole limit deep used stack left (take (suc left) piece) (omega (arith, size)))

-- where no item is cut off, the bytes are scanned as if the value began with them
pub goes_on_to : (limit deep used : ℕ) (stack front bytes : List ℕ) (state : State)
    → used ≤ limit → front ≡ [] → state ≡ scan_behind (limit - used) deep 0 stack bytes
    → later used state
    ≡ scanned limit deep (Going (used + length front) stack (InHead front)) bytes
goes_on_to limit deep used stack front bytes state le none e =
    ap (later used) e
    ∙ sym (scanned_later limit deep used le (Going 0 stack (InHead [])) bytes)
    ∙ ap (λ (xs : List ℕ). scanned limit deep (Going (used + length xs) stack (InHead xs)) bytes) (sym none)

-- ---- where a scanner stands

abbrev pub at : Limits → State → Standing
at limits state = record { limits = limits; state = state }

pub stands : (limits : Limits) (s t : State) → s ≡ t → at limits s ≡ at limits t
stands limits s t e = ap (at limits) e

-- behind one byte more
pub onward_more : (s : Standing) (n : ℕ) (bytes : List ℕ) → n < length bytes
    → onward (onward s (take n bytes)) (get_or bytes n 0 ∷ []) ≡ onward s (take (n + 1) bytes)
onward_more s n bytes lt =
    ap (at s.limits)
    (sym (scanned-append s.limits.bytes s.limits.depth s.state (take n bytes) (get_or bytes n 0 ∷ []))
    ∙ ap (λ (xs : List ℕ). scanned s.limits.bytes s.limits.depth s.state xs) (sym (take_more bytes n 0 lt)))

-- behind a front, and a front of what is behind it
pub onward_further : (old middle new : Standing) (n m : ℕ) (bytes : List ℕ)
    → middle ≡ onward old (take n bytes)
    → new ≡ onward middle (take m (take (length bytes - n) (drop n bytes)))
    → new ≡ onward old (take (n + m) bytes)
onward_further old middle new n m bytes front rest =
    rest
    ∙ ap (λ (xs : List ℕ). onward middle (take m xs)) (take_rest bytes n)
    ∙ ap (λ (s : Standing). onward s (take m (drop n bytes))) front
    ∙ ap (at old.limits) (scanned_further old.limits.bytes old.limits.depth old.state n m bytes)

-- behind a front, and what is behind it
pub onward_all : (old middle new : Standing) (n : ℕ) (bytes : List ℕ)
    → middle ≡ onward old (take n bytes)
    → new ≡ onward middle (take (length bytes - n) (drop n bytes)) → new ≡ onward old bytes
onward_all old middle new n bytes front rest =
    rest
    ∙ ap (λ (xs : List ℕ). onward middle xs) (take_rest bytes n)
    ∙ ap (λ (s : Standing). onward s (drop n bytes)) front
    ∙ ap (at old.limits) (scanned_front old.limits.bytes old.limits.depth old.state n bytes)

-- ---- what is answered

-- a value that ends does so within the piece
pub told_within : (limit deep : ℕ) (state : State) (piece : List ℕ) (fed : Fed)
    → whole_len (verdict_of state) ≡ None
    → verdict_of (scanned limit deep state piece) ≡ heard (taken state) fed
    → EndsWithin piece fed
told_within limit deep state piece feds.More going e = tt
told_within limit deep state piece (feds.End used) going e =
    let ended = state_whole (scanned limit deep state piece) (taken state + used) e in
    let within = ends_within limit deep state piece (taken state + used) going ended in
    (omega (arith, within.0), omega (arith, within.1))
told_within limit deep state piece (feds.Bad fault) going e = tt

-- where a value has not ended all bytes have been taken
pub behind_taken : (limits : Limits) (bytes : List ℕ)
    → first_of limits.bytes limits.depth bytes ≡ Short
    → taken (standing_behind limits bytes).state ≡ length bytes
unfolding first_of
behind_taken limits bytes e =
    let all = short_taken limits.bytes limits.depth 0 start bytes refl e in
    omega (arith, all)

-- pieces are judged as their joining
pub joined : (limits : Limits) (before piece : List ℕ)
    → onward (standing_behind limits before) piece ≡ standing_behind limits (before ++ piece)
joined limits before piece = ap (at limits) (sym (scanned-append limits.bytes limits.depth start before piece))

first_joined : (limits : Limits) (before piece : List ℕ)
    → verdict_of (onward (standing_behind limits before) piece).state
    ≡ first_of limits.bytes limits.depth (before ++ piece)
unfolding first_of
first_joined limits before piece = ap (λ (s : Standing). verdict_of s.state) (joined limits before piece)

bad_heard : (n m : ℕ) (fault : ScanFault) (fed : Fed) → Bad fault ≡ heard n fed
    → heard n fed ≡ heard m fed
bad_heard n m fault feds.More e = absurd cc
bad_heard n m fault (feds.End used) e = absurd cc
bad_heard n m fault (feds.Bad other) e = refl

-- what is answered is what all bytes begin with
pub told_first : (limits : Limits) (before piece : List ℕ) (old : Standing) (fed : Fed)
    → old ≡ standing_behind limits before → whole_len (verdict_of old.state) ≡ None
    → verdict_of (onward old piece).state ≡ heard (taken old.state) fed
    → first_of limits.bytes limits.depth (before ++ piece) ≡ heard (length before) fed
unfolding first_of
told_first limits before piece old fed stands_at going e =
    let state = scanned limits.bytes limits.depth start before in
    let told : verdict_of (scanned limits.bytes limits.depth state piece) ≡ heard (taken state) fed = subst (λ (s : Standing). verdict_of (onward s piece).state ≡ heard (taken s.state) fed) stands_at e in
    let open_yet : whole_len (verdict_of state) ≡ None = ap (λ (s : Standing). whole_len (verdict_of s.state)) (sym stands_at) ∙ going in
    sym (first_joined limits before piece)
    ∙ by_state state refl told open_yet
  where
    by_state : (state : State) → scanned limits.bytes limits.depth start before ≡ state
        → verdict_of (scanned limits.bytes limits.depth state piece) ≡ heard (taken state) fed
        → whole_len (verdict_of state) ≡ None
        → verdict_of (scanned limits.bytes limits.depth (scanned limits.bytes limits.depth start before) piece)
        ≡ heard (length before) fed
    by_state (Going used stack item) is told open_yet =
        let all = behind_taken limits before (ap verdict_of is) in
        let count : used ≡ length before = sym (ap taken is) ∙ all in
        ap (λ (s : State). verdict_of (scanned limits.bytes limits.depth s piece)) is ∙ told
        ∙ ap (λ (n : ℕ). heard n fed) count
    by_state (Ended used) is told open_yet = absurd cc
    by_state (Failed fault) is told open_yet =
        let bad : Bad fault ≡ heard 0 fed = sym (ap verdict_of (scanned-Failed limits.bytes limits.depth fault piece)) ∙ told in
        ap (λ (s : State). verdict_of (scanned limits.bytes limits.depth s piece)) is ∙ told
        ∙ bad_heard 0 (length before) fault fed bad

-- bytes whose front was taken, and then the rest
module _ (limits : Limits) (bytes : List ℕ) (known : ℕ) (old new : Standing)
    (is : IsBehind limits (take known bytes) old)
    (at_end : new ≡ onward old (take (length bytes - known) (drop known bytes))) where
  behind_rest : new ≡ onward old (drop known bytes)
  behind_rest = at_end ∙ ap (λ (xs : List ℕ). onward old xs) (take_rest bytes known)

  -- a scan stands behind all of them
  pub stands_behind : new ≡ standing_behind limits bytes
  stands_behind =
      behind_rest ∙ ap (λ (s : Standing). onward s (drop known bytes)) is.0
      ∙ joined limits (take known bytes) (drop known bytes)
      ∙ ap (standing_behind limits) (take-append-drop known bytes)

  -- and what it answers is what they begin with
  pub first_told : (fed : Fed) → known ≤ length bytes
      → verdict_of new.state ≡ heard (taken old.state) fed
      → first_of limits.bytes limits.depth bytes ≡ heard known fed
  first_told fed le told =
      ap (first_of limits.bytes limits.depth) (sym (take-append-drop known bytes))
      ∙ told_first limits (take known bytes) (drop known bytes) old fed is.0 is.1 (ap (λ (s : Standing). verdict_of s.state) (sym behind_rest) ∙ told)
      ∙ ap (λ (n : ℕ). heard n fed) (length-take-le known bytes le)
