-- A value inside containers is a value by itself, also within wider limits.
use Rattle.std.proofs.Common.{◌≡◌, ℕ, zero, suc, ◌+◌, ◌-◌, ◌<◌, ◌≤◌, Bool, true, false, cond, ltb, List, [], ◌∷◌, ◌++◌, length, sum, Option, Some, None, refl, sym, ap, subst, ◌∙◌, arith}
use Rattle.std.proofs.lemmas.List.{length-append}
use Rattle.std.proofs.lemmas.List.Sums.{sum_by-append}
use Rattle.fwd_msgpack.specs.declared.fault.ScanFault.{ScanFault}
use Rattle.fwd_msgpack.specs.declared.fault.ScanFault.TheVariants.{Reserved}
use Rattle.fwd_msgpack.specs.declared.head.Head.{Head}
use Rattle.fwd_msgpack.specs.declared.head.HeadRead.{HeadRead}
use Rattle.fwd_msgpack.specs.declared.head.HeadRead.TheVariants as read
use Rattle.fwd_msgpack.specs.Heads.{reading_of, payload, members}
use Rattle.fwd_msgpack.specs.Scans.{Item, InHead, InPayload, State, Going, Ended, Failed, value_ended, payload_ended, item_begun, fault_at, unless_faulty, head_found, head_heard, scan_item}
use Rattle.fwd_msgpack.proofs.Fronts.{scanned, scanned-Failed}
use Rattle.fwd_msgpack.proofs.Within.{IsGood, IsGood-from, IsGood-none}

-- Two scans side by side: one inside the containers of a stack, one of the value alone. Either they
-- go on together, or the value has ended, or the first one failed.
data Tandem (outer : List ℕ) (v u : ℕ) (inside alone : State) : Type 0 where
  goes : (stack : List ℕ) (item : Item) → inside ≡ Going v (stack ++ outer) item
      → alone ≡ Going u stack item → Tandem outer v u inside alone
  ends : inside ≡ value_ended v outer → alone ≡ Ended u → Tandem outer v u inside alone
  fails : (fault : ScanFault) → inside ≡ Failed fault → Tandem outer v u inside alone

pop : (outer : List ℕ) (v u : ℕ) (stack : List ℕ)
    → Tandem outer v u (value_ended v (stack ++ outer)) (value_ended u stack)
pop outer v u [] = ends refl refl
pop outer v u (zero ∷ stack) = pop outer v u stack
pop outer v u (suc n ∷ stack) = goes (n ∷ stack) (InHead []) refl refl

behind_payload : (outer : List ℕ) (v u : ℕ) (stack : List ℕ) (head : Head)
    → Tandem outer v u (payload_ended v (stack ++ outer) head) (payload_ended u stack head)
unfolding payload_ended
behind_payload outer v u stack head = by_test (ltb 0 (members head))
  where
    by_test : (b : Bool)
        → Tandem outer v u
        (cond b (Going v ((members head - 1) ∷ (stack ++ outer)) (InHead []))
        (value_ended v (stack ++ outer)))
        (cond b (Going u ((members head - 1) ∷ stack) (InHead [])) (value_ended u stack))
    by_test true = goes ((members head - 1) ∷ stack) (InHead []) refl refl
    by_test false = pop outer v u stack

begun : (outer : List ℕ) (v u : ℕ) (stack : List ℕ) (head : Head)
    → Tandem outer v u (item_begun v (stack ++ outer) head) (item_begun u stack head)
unfolding item_begun
begun outer v u stack head = by_test (ltb 0 (payload head))
  where
    by_test : (b : Bool)
        → Tandem outer v u
        (cond b (Going v (stack ++ outer) (InPayload (payload head)))
        (payload_ended v (stack ++ outer) head))
        (cond b (Going u stack (InPayload (payload head))) (payload_ended u stack head))
    by_test true = goes stack (InPayload (payload head)) refl refl
    by_test false = behind_payload outer v u stack head

module _ (limit deep limit' deep' : ℕ) (outer : List ℕ) (longer : limit ≤ limit')
    (deeper : deep ≤ deep' + length outer) where
  found : (v u : ℕ) (stack : List ℕ) (head : Head) (o : Option ScanFault) → u ≤ v
      → fault_at limit deep v (stack ++ outer) head ≡ o
      → Tandem outer v u (unless_faulty o (item_begun v (stack ++ outer) head))
      (head_found limit' deep' u stack head)
  found v u stack head (Some fault) le e = fails fault refl
  found v u stack head None le e =
      let good = IsGood-from limit deep v (stack ++ outer) head e in
      let total : sum (stack ++ outer) ≡ sum stack + sum outer = sum_by-append (λ n. n) stack outer in
      let size = length-append stack outer in
      let alone : IsGood limit' deep' u stack head = record { shallow = λ opened. omega (arith, good.shallow opened); fits = omega (arith, good.fits) } in
      subst (λ (o : Option ScanFault). Tandem outer v u (item_begun v (stack ++ outer) head) (unless_faulty o (item_begun u stack head))) (sym (IsGood-none limit' deep' u stack head alone)) (begun outer v u stack head)

  heard : (v u : ℕ) (stack front : List ℕ) (r : HeadRead) → u ≤ v
      → Tandem outer v u (head_heard limit deep v (stack ++ outer) front r)
      (head_heard limit' deep' u stack front r)
  heard v u stack front read.Short le = goes stack (InHead front) refl refl
  heard v u stack front read.Reserved le = fails Reserved refl
  heard v u stack front (read.Whole head n) le = found v u stack head (fault_at limit deep v (stack ++ outer) head) le refl

  one_byte : (v u : ℕ) (stack : List ℕ) (item : Item) (b : ℕ) → u ≤ v
      → Tandem outer (v + 1) (u + 1) (scan_item limit deep v (stack ++ outer) item b)
      (scan_item limit' deep' u stack item b)
  one_byte v u stack (InHead pending) b le = heard (v + 1) (u + 1) stack (pending ++ b ∷ []) (reading_of (pending ++ b ∷ [])) (omega arith)
  one_byte v u stack (InPayload left) b le = by_test (ltb 1 left)
    where
      by_test : (c : Bool)
          → Tandem outer (v + 1) (u + 1)
          (cond c (Going (v + 1) (stack ++ outer) (InPayload (left - 1)))
          (value_ended (v + 1) (stack ++ outer)))
          (cond c (Going (u + 1) stack (InPayload (left - 1))) (value_ended (u + 1) stack))
      by_test true = goes stack (InPayload (left - 1)) refl refl
      by_test false = pop outer (v + 1) (u + 1) stack

  -- the bytes are those of the value, and what stands behind it in the containers outside
  pub record Solo (v u : ℕ) (stack : List ℕ) (item : Item) (bytes : List ℕ) (n : ℕ)
      : Type 0 where
    pub own : List ℕ
    pub others : List ℕ
    pub parts : bytes ≡ own ++ others
    pub some : 0 < length own
    pub alone : scanned limit' deep' (Going u stack item) own ≡ Ended (u + length own)
    pub after : scanned limit deep (value_ended (v + length own) outer) others ≡ Ended n

  more : (v u : ℕ) (stack : List ℕ) (item : Item) (b : ℕ) (bytes : List ℕ) (n : ℕ)
      → u ≤ v → scanned limit deep (Going v (stack ++ outer) item) (b ∷ bytes) ≡ Ended n
      → ((v' u' : ℕ) (stack' : List ℕ) (item' : Item) → u' ≤ v'
      → scanned limit deep (Going v' (stack' ++ outer) item') bytes ≡ Ended n
      → Solo v' u' stack' item' bytes n)
      → Tandem outer (v + 1) (u + 1) (scan_item limit deep v (stack ++ outer) item b)
      (scan_item limit' deep' u stack item b)
      → Solo v u stack item (b ∷ bytes) n
  more v u stack item b bytes n le e ih (goes stack' item' p q) =
      let s = ih (v + 1) (u + 1) stack' item' (omega arith) (ap (λ (st : State). scanned limit deep st bytes) (sym p) ∙ e) in
      let count : u + 1 + length s.own ≡ u + suc (length s.own) = omega arith in
      let place : v + 1 + length s.own ≡ v + suc (length s.own) = omega arith in
      record {
        own = b ∷ s.own;
        others = s.others;
        parts = ap (λ (xs : List ℕ). b ∷ xs) s.parts;
        some = omega arith;
        alone = ap (λ (st : State). scanned limit' deep' st s.own) q ∙ s.alone ∙ ap Ended count;
        after = ap (λ (k : ℕ). scanned limit deep (value_ended k outer) s.others) (sym place) ∙ s.after;
      }
  more v u stack item b bytes n le e ih (ends p q) =
      record { own = b ∷ []; others = bytes; parts = refl; some = omega arith; alone = q; after = ap (λ (st : State). scanned limit deep st bytes) (sym p) ∙ e }
  more v u stack item b bytes n le e ih (fails fault p) =
      let bad : Failed fault ≡ Ended n = sym (scanned-Failed limit deep fault bytes) ∙ ap (λ (st : State). scanned limit deep st bytes) (sym p) ∙ e in
      absurd cc

  pub solo : (v u : ℕ) (stack : List ℕ) (item : Item) (bytes : List ℕ) (n : ℕ) → u ≤ v
      → scanned limit deep (Going v (stack ++ outer) item) bytes ≡ Ended n
      → Solo v u stack item bytes n
  solo v u stack item [] n le e = absurd cc
  solo v u stack item (b ∷ bytes) n le e =
      more v u stack item b bytes n le e (λ v' u' stack' item' le' e'. solo v' u' stack' item' bytes n le' e') (one_byte v u stack item b le)
