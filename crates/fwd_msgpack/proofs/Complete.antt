-- A scan goes over a value in one step, and wider limits change nothing while no fault comes.
use Rattle.std.proofs.Common.{◌≡◌, ◌⊎◌, ℕ, zero, suc, ◌+◌, ◌-◌, ◌<◌, ◌≤◌, Bool, true, false, List, [], ◌∷◌, ◌++◌, length, drop, sum, Option, Some, None, refl, sym, ap, subst, ◌∙◌, arith, append_assoc, inl, inr, ⊎_elim}
use Rattle.std.proofs.lemmas.Bool.{lt-ltb, le-ltb}
use Rattle.std.proofs.lemmas.List.{length-append, take_at, drop_at}
use Rattle.fwd_msgpack.specs.declared.fault.ScanFault.{ScanFault}
use Rattle.fwd_msgpack.specs.declared.head.Head.{Head}
use Rattle.fwd_msgpack.specs.declared.head.HeadRead.{HeadRead}
use Rattle.fwd_msgpack.specs.declared.head.HeadRead.TheVariants as read
use Rattle.fwd_msgpack.specs.Heads.{Row, row_of, reading_of, payload, members, opens}
use Rattle.fwd_msgpack.specs.Scans.{Item, InHead, InPayload, State, Going, Ended, Failed, value_ended, payload_ended, item_begun, fault_at, unless_faulty, head_found, head_heard, scan_byte}
use Rattle.fwd_msgpack.specs.Values.{AreHead, IsPlain, InARow, IsContainer, IsValue}
use Rattle.fwd_msgpack.proofs.Fronts.{Reads-from, scanned, scanned-Failed, item_scanned, ended_shut, ended_opened}
use Rattle.fwd_msgpack.proofs.Within.{IsGood, IsGood-from, IsGood-none}
use Rattle.fwd_msgpack.proofs.Places.{sum-cons}
use Rattle.fwd_msgpack.proofs.Parts.{read_within}
use Rattle.fwd_msgpack.proofs.Sound.{shut-members, opened-payload}

-- ---- heads

reading_prefix : (first : ℕ) (row : Row) (front more : List ℕ) → row_of first ≡ Some row
    → length front ≡ row.more
    → reading_of (first ∷ (front ++ more)) ≡ read.Whole (row.spells front) (row.more + 1)
unfolding reading_of
reading_prefix first row front more e len =
    rw (e, le-ltb (length (front ++ more)) row.more (omega (arith, length-append front more)), take_at front more row.more len) refl

-- a head reads as itself whatever follows
pub head_more : (head : Head) (front more : List ℕ) → AreHead head front
    → reading_of (front ++ more) ≡ read.Whole head (length front)
head_more head front more h =
    let r = Reads-from front head (length front) h in
    let parts : front ++ more ≡ r.first ∷ (r.front ++ (r.after ++ more)) = ap (λ (xs : List ℕ). xs ++ more) r.parts ∙ ap (λ (xs : List ℕ). r.first ∷ xs) (append_assoc r.front r.after more) in
    ap reading_of parts ∙ reading_prefix r.first r.row r.front (r.after ++ more) r.row_is r.len
    ∙ ap (λ (hd : Head). read.Whole hd (r.row.more + 1)) (sym r.head_is) ∙ ap (λ (k : ℕ). read.Whole head k) (sym r.used_is)

pub head_some : (head : Head) (front : List ℕ) → AreHead head front → 0 < length front
head_some head front h = (read_within front head (length front) h).0

-- ---- values have bytes

front_some : (bytes front body : List ℕ) (head : Head) → bytes ≡ front ++ body
    → AreHead head front → 0 < length bytes
front_some bytes front body head parts h =
    let some = head_some head front h in
    omega (arith, ap length parts, length-append front body)

pub value_some : (deep : ℕ) (bytes : List ℕ) → IsValue deep bytes → 0 < length bytes
unfolding IsValue
value_some zero bytes v = front_some bytes v.front v.body v.head v.parts v.spelled
value_some (suc deep) bytes v = ⊎_elim (λ (p : IsPlain bytes). front_some bytes p.front p.body p.head p.parts p.spelled) (λ (c : IsContainer (IsValue deep) bytes). front_some bytes c.front c.body c.head c.parts c.spelled) v

count_le : (P : List ℕ → Type 0) → ((own : List ℕ) → P own → 0 < length own)
    → (n : ℕ) (bytes : List ℕ) → InARow P n bytes → n ≤ length bytes
unfolding InARow
count_le P some zero bytes row = omega arith
count_le P some (suc n) bytes row =
    let first = some row.0 row.1.1.1 in
    let others = count_le P some n row.1.0 row.1.1.2 in
    omega (arith, ap length row.1.1.0, length-append row.0 row.1.0)

-- ---- values

-- Inside these containers a scan goes over each P in one step, if it is at most deep deep.
abbrev pub GoesOver : (deep : ℕ) → (List ℕ → Type 0) → Type 0
GoesOver deep P =
    (own : List ℕ) → P own → (limit most used : ℕ) (stack rest : List ℕ)
    → deep + length stack ≤ most → used + length own + sum stack ≤ limit
    → scanned limit most (Going used stack (InHead [])) (own ++ rest)
    ≡ scanned limit most (value_ended (used + length own) stack) rest

not_both : {A : Type 0} (b : Bool) → b ≡ false → b ≡ true → A
not_both b f t = absurd cc

over_plain : (deep : ℕ) → GoesOver deep IsPlain
over_plain deep own p limit most used stack rest shallow fits =
    let n = length p.front in
    let len : length own ≡ n + length p.body = ap length p.parts ∙ length-append p.front p.body in
    let none = shut-members p.head p.shut in
    let whole : own ++ rest ≡ p.front ++ (p.body ++ rest) = ap (λ (xs : List ℕ). xs ++ rest) p.parts ∙ append_assoc p.front p.body rest in
    let reading : reading_of (own ++ rest) ≡ read.Whole p.head n = ap reading_of whole ∙ head_more p.head p.front (p.body ++ rest) p.spelled in
    let good : IsGood limit most (used + n) stack p.head = record { shallow = λ opened. not_both (opens p.head) p.shut opened; fits = omega (arith, p.len) } in
    let behind : drop n (own ++ rest) ≡ p.body ++ rest = ap (λ (xs : List ℕ). drop n xs) whole ∙ drop_at p.front (p.body ++ rest) n refl in
    let le : payload p.head ≤ length (drop n (own ++ rest)) = omega (arith, ap length behind, length-append p.body rest, p.len) in
    let after : drop (payload p.head) (drop n (own ++ rest)) ≡ rest = ap (λ (xs : List ℕ). drop (payload p.head) xs) behind ∙ drop_at p.body rest (payload p.head) p.len in
    let place : used + n + payload p.head ≡ used + length own = omega (arith, p.len) in
    item_scanned limit most used stack (own ++ rest) p.head n reading (IsGood-none limit most (used + n) stack p.head good) le
    ∙ ap (λ (s : State). scanned limit most s (drop (payload p.head) (drop n (own ++ rest)))) (ended_shut (used + n + payload p.head) stack p.head (le-ltb 0 (members p.head) (omega (arith, none))))
    ∙ ap (λ (k : ℕ). scanned limit most (value_ended k stack) (drop (payload p.head) (drop n (own ++ rest)))) place
    ∙ ap (λ (xs : List ℕ). scanned limit most (value_ended (used + length own) stack) xs) after

over_row : (deep : ℕ) (P : List ℕ → Type 0) → GoesOver deep P
    → ((own : List ℕ) → P own → 0 < length own) → (lacking : ℕ) (body : List ℕ)
    → InARow P (suc lacking) body
    → (limit most used : ℕ) (stack rest : List ℕ) → deep + suc (length stack) ≤ most
    → used + length body + sum stack ≤ limit
    → scanned limit most (Going used (lacking ∷ stack) (InHead [])) (body ++ rest)
    ≡ scanned limit most (value_ended (used + length body) stack) rest
unfolding InARow
over_row deep P over some zero body row limit most used stack rest shallow fits =
    let first = row.0 in
    let parts = row.1.1.0 in
    let nothing : row.1.0 ≡ [] = row.1.1.2 in
    let size = ap length parts ∙ length-append first row.1.0 in
    let none = ap length nothing in
    let place : used + length first ≡ used + length body = omega arith in
    let total = sum-cons 0 stack in
    let whole : body ++ rest ≡ first ++ (row.1.0 ++ rest) = ap (λ (xs : List ℕ). xs ++ rest) parts ∙ append_assoc first row.1.0 rest in
    ap (λ (xs : List ℕ). scanned limit most (Going used (0 ∷ stack) (InHead [])) xs) whole
    ∙ over first row.1.1.1 limit most used (0 ∷ stack) (row.1.0 ++ rest) (omega arith) (omega arith)
    ∙ ap (λ (k : ℕ). scanned limit most (value_ended k stack) (row.1.0 ++ rest)) place
    ∙ ap (λ (xs : List ℕ). scanned limit most (value_ended (used + length body) stack) (xs ++ rest)) nothing
over_row deep P over some (suc lacking) body row limit most used stack rest shallow fits =
    let first = row.0 in
    let others = row.1.0 in
    let parts = row.1.1.0 in
    let size = ap length parts ∙ length-append first others in
    let count = count_le P some (suc lacking) others row.1.1.2 in
    let total = sum-cons (suc lacking) stack in
    let place : used + length first + length others ≡ used + length body = omega arith in
    let whole : body ++ rest ≡ first ++ (others ++ rest) = ap (λ (xs : List ℕ). xs ++ rest) parts ∙ append_assoc first others rest in
    ap (λ (xs : List ℕ). scanned limit most (Going used (suc lacking ∷ stack) (InHead [])) xs) whole
    ∙ over first row.1.1.1 limit most used (suc lacking ∷ stack) (others ++ rest) (omega arith) (omega arith)
    ∙ over_row deep P over some lacking others row.1.1.2 limit most (used + length first) stack rest shallow (omega arith)
    ∙ ap (λ (k : ℕ). scanned limit most (value_ended k stack) rest) place

-- the members of a container, if there are any
over_members : (deep : ℕ) (P : List ℕ → Type 0) → GoesOver deep P
    → ((own : List ℕ) → P own → 0 < length own) → (head : Head) (m : ℕ)
    → members head ≡ m → (body : List ℕ) → InARow P m body
    → (limit most used : ℕ) (stack rest : List ℕ) → deep + suc (length stack) ≤ most
    → used + length body + sum stack ≤ limit
    → scanned limit most (payload_ended used stack head) (body ++ rest)
    ≡ scanned limit most (value_ended (used + length body) stack) rest
unfolding InARow
over_members deep P over some head zero k body row limit most used stack rest shallow fits =
    let none = ap length row in
    let place : used ≡ used + length body = omega arith in
    ap (λ (s : State). scanned limit most s (body ++ rest)) (ended_shut used stack head (le-ltb 0 (members head) (omega arith)))
    ∙ ap (λ (n : ℕ). scanned limit most (value_ended n stack) (body ++ rest)) place
    ∙ ap (λ (xs : List ℕ). scanned limit most (value_ended (used + length body) stack) (xs ++ rest)) row
over_members deep P over some head (suc m) k body row limit most used stack rest shallow fits =
    let lacking : members head - 1 ≡ m = omega arith in
    ap (λ (s : State). scanned limit most s (body ++ rest)) (ended_opened used stack head (lt-ltb 0 (members head) (omega arith)))
    ∙ ap (λ (i : ℕ). scanned limit most (Going used (i ∷ stack) (InHead [])) (body ++ rest)) lacking
    ∙ over_row deep P over some m body row limit most used stack rest shallow fits

over_container : (deep : ℕ) (P : List ℕ → Type 0) → GoesOver deep P
    → ((own : List ℕ) → P own → 0 < length own) → GoesOver (suc deep) (IsContainer P)
over_container deep P over some own c limit most used stack rest shallow fits =
    let n = length c.front in
    let len : length own ≡ n + length c.body = ap length c.parts ∙ length-append c.front c.body in
    let none = opened-payload c.head c.opened in
    let count = count_le P some (members c.head) c.body c.row in
    let whole : own ++ rest ≡ c.front ++ (c.body ++ rest) = ap (λ (xs : List ℕ). xs ++ rest) c.parts ∙ append_assoc c.front c.body rest in
    let reading : reading_of (own ++ rest) ≡ read.Whole c.head n = ap reading_of whole ∙ head_more c.head c.front (c.body ++ rest) c.spelled in
    let good : IsGood limit most (used + n) stack c.head = record { shallow = λ opened. omega arith; fits = omega arith } in
    let behind : drop n (own ++ rest) ≡ c.body ++ rest = ap (λ (xs : List ℕ). drop n xs) whole ∙ drop_at c.front (c.body ++ rest) n refl in
    let le : payload c.head ≤ length (drop n (own ++ rest)) = omega arith in
    let after : drop (payload c.head) (drop n (own ++ rest)) ≡ c.body ++ rest = ap (λ (k : ℕ). drop k (drop n (own ++ rest))) none ∙ behind in
    let place : used + n + payload c.head ≡ used + n = omega arith in
    let end : used + n + length c.body ≡ used + length own = omega arith in
    item_scanned limit most used stack (own ++ rest) c.head n reading (IsGood-none limit most (used + n) stack c.head good) le
    ∙ ap (λ (k : ℕ). scanned limit most (payload_ended k stack c.head) (drop (payload c.head) (drop n (own ++ rest)))) place
    ∙ ap (λ (xs : List ℕ). scanned limit most (payload_ended (used + n) stack c.head) xs) after
    ∙ over_members deep P over some c.head (members c.head) refl c.body c.row limit most (used + n) stack rest (omega arith) (omega arith)
    ∙ ap (λ (k : ℕ). scanned limit most (value_ended k stack) rest) end

-- a scan goes over a value in one step
pub over_value : (deep : ℕ) → GoesOver deep (IsValue deep)
unfolding IsValue
over_value zero own v limit most used stack rest shallow fits = over_plain zero own v limit most used stack rest shallow fits
over_value (suc deep) own v limit most used stack rest shallow fits =
    ⊎_elim (λ (p : IsPlain own). over_plain (suc deep) own p limit most used stack rest shallow fits)
    (λ (c : IsContainer (IsValue deep) own). over_container deep (IsValue deep) (over_value deep) (value_some deep) own c limit most used stack rest shallow fits) v

-- ---- wider limits

module _ (limit deep limit' deep' : ℕ) (longer : limit ≤ limit') (deeper : deep ≤ deep') where
  -- the same state, or a fault within the narrower limits
  abbrev pub Same : State → State → Type 0
  Same narrow wide = (narrow ≡ wide) ⊎ ((fault : ScanFault) × (narrow ≡ Failed fault))

  found : (used : ℕ) (stack : List ℕ) (head : Head) (o : Option ScanFault)
      → fault_at limit deep used stack head ≡ o
      → Same (unless_faulty o (item_begun used stack head))
      (head_found limit' deep' used stack head)
  found used stack head (Some fault) e = inr (fault, refl)
  found used stack head None e =
      let good = IsGood-from limit deep used stack head e in
      let wide : IsGood limit' deep' used stack head = record { shallow = λ opened. omega (arith, good.shallow opened); fits = omega (arith, good.fits) } in
      inl (ap (λ (o : Option ScanFault). unless_faulty o (item_begun used stack head)) (sym (IsGood-none limit' deep' used stack head wide)))

  heard : (used : ℕ) (stack front : List ℕ) (r : HeadRead)
      → Same (head_heard limit deep used stack front r)
      (head_heard limit' deep' used stack front r)
  heard used stack front read.Short = inl refl
  heard used stack front read.Reserved = inl refl
  heard used stack front (read.Whole head n) = found used stack head (fault_at limit deep used stack head) refl

  one_byte : (state : State) (b : ℕ)
      → Same (scan_byte limit deep state b) (scan_byte limit' deep' state b)
  one_byte (Going used stack (InHead pending)) b = heard (used + 1) stack (pending ++ b ∷ []) (reading_of (pending ++ b ∷ []))
  one_byte (Going used stack (InPayload left)) b = inl refl
  one_byte (Ended used) b = inl refl
  one_byte (Failed fault) b = inl refl

  pub widened : (state : State) (bytes : List ℕ)
      → Same (scanned limit deep state bytes) (scanned limit' deep' state bytes)
  widened state [] = inl refl
  widened state (b ∷ bytes) =
      ⊎_elim (λ (e : scan_byte limit deep state b ≡ scan_byte limit' deep' state b). subst (λ (s : State). Same (scanned limit deep (scan_byte limit deep state b) bytes) (scanned limit' deep' s bytes)) e (widened (scan_byte limit deep state b) bytes))
      (λ (f : (fault : ScanFault) × (scan_byte limit deep state b ≡ Failed fault)). inr (f.0, ap (λ (s : State). scanned limit deep s bytes) f.1 ∙ scanned-Failed limit deep f.0 bytes)) (one_byte state b)

  -- while the narrower scan goes on, the wider one is in the same state
  pub same_going : (state : State) (bytes : List ℕ) (used : ℕ) (stack : List ℕ) (item : Item)
      → scanned limit deep state bytes ≡ Going used stack item
      → scanned limit' deep' state bytes ≡ Going used stack item
  same_going state bytes used stack item e =
      ⊎_elim (λ (s : scanned limit deep state bytes ≡ scanned limit' deep' state bytes). sym s ∙ e)
      (λ (f : (fault : ScanFault) × (scanned limit deep state bytes ≡ Failed fault)). no_fault (scanned limit deep state bytes) (scanned limit' deep' state bytes) f.0 f.1 e) (widened state bytes)
    where
      no_fault : (s t : State) (fault : ScanFault) → s ≡ Failed fault
          → s ≡ Going used stack item → t ≡ Going used stack item
      no_fault s t fault a b = absurd cc
