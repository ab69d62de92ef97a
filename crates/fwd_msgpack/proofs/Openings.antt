-- A front whose scan goes on begins some value within the limits, if it ends with a head.
use Rattle.std.proofs.Common.{◌≡◌, ℕ, ◌+◌, ◌-◌, ◌≤◌, Bool, true, false, cond, ltb, List, [], ◌∷◌, ◌++◌, length, drop, sum, Option, Some, None, refl, sym, ap, ◌∙◌, arith, append_assoc, ⊎_elim, zero-add, add-zero}
use Rattle.std.specs.List.{AllByRecursion, flat_map}
use Rattle.std.proofs.lemmas.List.{append-nil, length-append, drop_at, drop_all}
use Rattle.fwd_msgpack.specs.declared.fault.ScanFault.{ScanFault}
use Rattle.fwd_msgpack.specs.declared.fault.ScanFault.TheVariants.{Reserved, TooDeep, TooLong}
use Rattle.fwd_msgpack.specs.declared.head.Head.{Head}
use Rattle.fwd_msgpack.specs.declared.head.HeadRead.{HeadRead}
use Rattle.fwd_msgpack.specs.declared.head.HeadRead.TheVariants as read
use Rattle.fwd_msgpack.specs.Heads.{row_of, named_rows, reading_of, payload, members}
use Rattle.fwd_msgpack.specs.Scans.{Item, InHead, State, Going, Ended, Failed, after_value, goes_on, value_ended, payload_ended, item_begun, fault_at, unless_faulty, head_found, head_heard, start}
use Rattle.fwd_msgpack.specs.Values.{AreHead, IsValue}
use Rattle.fwd_msgpack.specs.Streams.{AreBytes, IsItem, IsJudged, Begins, HasFault}
use Rattle.fwd_msgpack.proofs.Fronts.{scanned, scanned-Ended, scanned-Failed, head_scanned, item_scanned}
use Rattle.fwd_msgpack.proofs.Within.{IsGood-from}
use Rattle.fwd_msgpack.proofs.Wholes.{scanned-append}
use Rattle.fwd_msgpack.proofs.Sound.{sound}
use Rattle.fwd_msgpack.proofs.Complete.{head_more, over_value, same_going}
use Rattle.fwd_msgpack.proofs.Fillings.{filling, length-filling, AreBytes-filling, AreBytes-append, filled}
use Rattle.fwd_msgpack.proofs.History.{here, Goes}

-- a front that some value within the limits begins with
pub record Opens (limit deep : ℕ) (front : List ℕ) : Type 0 where
  pub value : List ℕ
  pub begins : Begins front value
  pub is : IsValue deep value
  pub fits : length value ≤ limit

module _ (limit deep : ℕ) where
  -- behind a head within the limits
  pub opens_here : (front stack : List ℕ) (head : Head) → AreBytes front
      → here limit deep front ≡ item_begun (length front) stack head
      → length front + (payload head + members head + sum stack) ≤ limit
      → Opens limit deep front
  opens_here front stack head bytes e fits =
      let rest = filling stack head in
      let size = length-filling stack head in
      let count : length front + length rest ≡ length (front ++ rest) = sym (length-append front rest) in
      let ended : here limit deep (front ++ rest) ≡ Ended (length (front ++ rest)) =
      scanned-append limit deep start front rest ∙ ap (λ (s : State). scanned limit deep s rest) e ∙ filled limit deep (length front) stack head fits ∙ ap Ended count in
      record {
        value = front ++ rest;
        begins = record { bytes = AreBytes-append front rest bytes (AreBytes-filling stack head); rest = rest; parts = refl };
        is = sound limit deep (front ++ rest) ended;
        fits = omega arith;
      }

  -- ---- a scan that goes on, over items

  -- behind these bytes a scan is at the start of an item
  record Past (used : ℕ) (stack bytes rest : List ℕ) : Type 0 where
    stack' : List ℕ
    same : scanned limit deep (Going used stack (InHead [])) (bytes ++ rest)
        ≡ scanned limit deep (Going (used + length bytes) stack' (InHead [])) rest

  past_end :
      (used used' : ℕ) (stack stack0 bytes rest : List ℕ) (o : Option (List ℕ)) (u : ℕ)
      (s : List ℕ) (it : Item)
      → used' ≡ used + length bytes
      → scanned limit deep (Going used stack (InHead [])) (bytes ++ rest)
      ≡ scanned limit deep (goes_on used' o) rest
      → scanned limit deep (Going used stack (InHead [])) (bytes ++ rest) ≡ Going u s it
      → Past used stack bytes rest
  past_end used used' stack stack0 bytes rest None u s it place e g =
      let ended = e ∙ scanned-Ended limit deep used' rest in
      absurd cc
  past_end used used' stack stack0 bytes rest (Some next) u s it place e g = record { stack' = next; same = e ∙ ap (λ (k : ℕ). scanned limit deep (Going k next (InHead [])) rest) place }

  past_payload :
      (used used' : ℕ) (stack bytes rest : List ℕ) (head : Head) (u : ℕ) (s : List ℕ)
      (it : Item)
      → used' ≡ used + length bytes
      → scanned limit deep (Going used stack (InHead [])) (bytes ++ rest)
      ≡ scanned limit deep (payload_ended used' stack head) rest
      → scanned limit deep (Going used stack (InHead [])) (bytes ++ rest) ≡ Going u s it
      → Past used stack bytes rest
  unfolding payload_ended
  past_payload used used' stack bytes rest head u s it place e g = by_test (ltb 0 (members head)) e
    where
      by_test : (t : Bool)
          → scanned limit deep (Going used stack (InHead [])) (bytes ++ rest)
          ≡ scanned limit deep
          (cond t (Going used' ((members head - 1) ∷ stack) (InHead []))
          (value_ended used' stack))
          rest
          → Past used stack bytes rest
      by_test true e' = record { stack' = (members head - 1) ∷ stack; same = e' ∙ ap (λ (k : ℕ). scanned limit deep (Going k ((members head - 1) ∷ stack) (InHead [])) rest) place }
      by_test false e' = past_end used used' stack stack bytes rest (after_value stack) u s it place e' g

  past_item : (used : ℕ) (stack item rest : List ℕ) (u : ℕ) (s : List ℕ) (it : Item)
      → IsItem item
      → scanned limit deep (Going used stack (InHead [])) (item ++ rest) ≡ Going u s it
      → Past used stack item rest
  past_item used stack item rest u s it is g = by_fault (fault_at limit deep (used + n) stack is.head) refl
    where
      n : ℕ
      n = length is.front

      whole : item ++ rest ≡ is.front ++ (is.body ++ rest)
      whole = ap (λ (xs : List ℕ). xs ++ rest) is.parts ∙ append_assoc is.front is.body rest

      reading : reading_of (item ++ rest) ≡ read.Whole is.head n
      reading = ap reading_of whole ∙ head_more is.head is.front (is.body ++ rest) is.spelled

      behind : drop n (item ++ rest) ≡ is.body ++ rest
      behind = ap (λ (xs : List ℕ). drop n xs) whole ∙ drop_at is.front (is.body ++ rest) n refl

      by_fault : (o : Option ScanFault) → fault_at limit deep (used + n) stack is.head ≡ o
          → Past used stack item rest
      by_fault (Some fault) f =
          let failed = head_scanned limit deep used stack (item ++ rest) is.head n reading ∙ ap (λ (o : Option ScanFault). scanned limit deep (unless_faulty o (item_begun (used + n) stack is.head)) (drop n (item ++ rest))) f ∙ scanned-Failed limit deep fault (drop n (item ++ rest)) in
          absurd cc
      by_fault None f =
          let le : payload is.head ≤ length (drop n (item ++ rest)) = omega (arith, ap length behind, length-append is.body rest, is.len) in
          let after : drop (payload is.head) (drop n (item ++ rest)) ≡ rest = ap (λ (xs : List ℕ). drop (payload is.head) xs) behind ∙ drop_at is.body rest (payload is.head) is.len in
          let place : used + n + payload is.head ≡ used + length item = omega (arith, is.len, ap length is.parts, length-append is.front is.body) in
          past_payload used (used + n + payload is.head) stack item rest is.head u s it place
          (item_scanned limit deep used stack (item ++ rest) is.head n reading f le ∙ ap (λ (xs : List ℕ). scanned limit deep (payload_ended (used + n + payload is.head) stack is.head) xs) after) g

  past_items :
      (items : List (List ℕ)) (used : ℕ) (stack rest : List ℕ) (u : ℕ) (s : List ℕ)
      (it : Item)
      → AllByRecursion IsItem items
      → scanned limit deep (Going used stack (InHead [])) (flat_map (λ x. x) items ++ rest)
      ≡ Going u s it
      → Past used stack (flat_map (λ x. x) items) rest
  past_items [] used stack rest u s it each g = record { stack' = stack; same = ap (λ (k : ℕ). scanned limit deep (Going k stack (InHead [])) rest) (sym (add-zero used)) }
  past_items (item ∷ items) used stack rest u s it each g =
      let others = flat_map (λ x. x) items in
      let regroup : (item ++ others) ++ rest ≡ item ++ (others ++ rest) = append_assoc item others rest in
      let first = past_item used stack item (others ++ rest) u s it each.0 (ap (λ (xs : List ℕ). scanned limit deep (Going used stack (InHead [])) xs) (sym regroup) ∙ g) in
      let second = past_items items (used + length item) first.stack' rest u s it each.1 (sym first.same ∙ ap (λ (xs : List ℕ). scanned limit deep (Going used stack (InHead [])) xs) (sym regroup) ∙ g) in
      let place : used + length item + length others ≡ used + length (item ++ others) = omega (arith, length-append item others) in
      record {
        stack' = second.stack';
        same = ap (λ (xs : List ℕ). scanned limit deep (Going used stack (InHead [])) xs) regroup ∙ first.same ∙ second.same ∙ ap (λ (k : ℕ). scanned limit deep (Going k second.stack' (InHead [])) rest) place;
      }

  -- ---- a judged front whose scan goes on

  reserved_read : reading_of (0xc1 ∷ []) ≡ read.Reserved
  unfolding reading_of row_of named_rows
  reserved_read = refl

  judged_by : (front last : List ℕ) (stack : List ℕ) (head : Head) (o : Option ScanFault)
      → AreBytes front → Goes limit deep front
      → fault_at limit deep (length front) stack head ≡ o
      → here limit deep front ≡ unless_faulty o (item_begun (length front) stack head)
      → Opens limit deep front
  judged_by front last stack head (Some fault) bytes g f e =
      let state = g.state in
      absurd cc
  judged_by front last stack head None bytes g f e = opens_here front stack head bytes e (IsGood-from limit deep (length front) stack head f).fits

  pub judged_opens : (front : List ℕ) → AreBytes front → IsJudged front
      → Goes limit deep front → Opens limit deep front
  judged_opens front bytes j g = ⊎_elim at_reserved at_head j.ends
    where
      whole : flat_map (λ x. x) j.items.items ++ j.last ≡ front
      whole = ap (λ (xs : List ℕ). xs ++ j.last) j.items.joined ∙ sym j.parts

      state : scanned limit deep start (flat_map (λ x. x) j.items.items ++ j.last)
          ≡ Going g.used g.stack g.item
      state = ap (here limit deep) whole ∙ g.state

      past : Past 0 [] (flat_map (λ x. x) j.items.items) j.last
      past = past_items j.items.items 0 [] j.last g.used g.stack g.item j.items.each state

      before : ℕ
      before = 0 + length (flat_map (λ x. x) j.items.items)

      behind : here limit deep front
          ≡ scanned limit deep (Going before past.stack' (InHead [])) j.last
      behind = ap (here limit deep) (sym whole) ∙ past.same

      at_reserved : j.last ≡ 0xc1 ∷ [] → Opens limit deep front
      at_reserved e =
          let failed : here limit deep front ≡ Failed Reserved = behind ∙ ap (λ (xs : List ℕ). scanned limit deep (Going before past.stack' (InHead [])) xs) e
          ∙ ap (λ (r : HeadRead). head_heard limit deep (before + 1) past.stack' (0xc1 ∷ []) r) reserved_read in
          let going = g.state in
          absurd cc

      at_head : (head : Head) × AreHead head j.last → Opens limit deep front
      at_head h =
          let count : before + length j.last ≡ length front = omega (arith, ap length whole, length-append (flat_map (λ x. x) j.items.items) j.last) in
          let none : drop (length j.last) j.last ≡ [] = drop_all (length j.last) j.last (omega arith) in
          let found : here limit deep front ≡ head_found limit deep (length front) past.stack' h.0 =
          behind ∙ head_scanned limit deep before past.stack' j.last h.0 (length j.last) h.1
          ∙ ap (λ (xs : List ℕ). scanned limit deep (head_found limit deep (before + length j.last) past.stack' h.0) xs) none
          ∙ ap (λ (k : ℕ). head_found limit deep k past.stack' h.0) count in
          judged_by front j.last past.stack' h.0 (fault_at limit deep (length front) past.stack' h.0) bytes g refl found

  -- it is not faulty
  pub not_faulty : (front : List ℕ) (fault : ScanFault) → AreBytes front → IsJudged front
      → Goes limit deep front → HasFault limit deep front fault → ⊥
  not_faulty front Reserved bytes j g h =
      let o = judged_opens front bytes j g in
      h deep (o.value, (o.begins, o.is))
  not_faulty front TooDeep bytes j g h =
      let o = judged_opens front bytes j g in
      h.1 (o.value, (o.begins, o.is))
  not_faulty front TooLong bytes j g h =
      let o = judged_opens front bytes j g in
      let long = h.1 o.value o.begins o.is in
      omega (arith, long, o.fits)

  -- a value that a scan takes whole
  pub value_ended_here : (any limit' deep' : ℕ) (value : List ℕ) → IsValue any value
      → length value ≤ limit' → any ≤ deep'
      → here limit' deep' value ≡ Ended (length value)
  value_ended_here any limit' deep' value is fits shallow =
      ap (here limit' deep') (sym (append-nil value)) ∙ over_value any value is limit' deep' 0 [] [] (omega arith) (omega arith) ∙ ap Ended (zero-add (length value))

  -- no value of any depth has ended where a scan goes on
  pub no_value : (front : List ℕ) (any : ℕ) → Goes limit deep front → IsValue any front
      → ⊥
  no_value front any g is =
      let going = same_going limit deep (limit + length front) (deep + any) (omega arith) (omega arith) start front g.used g.stack g.item g.state in
      let ended = value_ended_here any (limit + length front) (deep + any) front is (omega arith) (omega arith) in
      cc
