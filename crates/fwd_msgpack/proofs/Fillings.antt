-- Behind a head within the limits, zeros for its payload
-- and a nil for each value owed complete the value.
use Rattle.std.proofs.Common.{◌≡◌, ℕ, zero, suc, ◌+◌, ◌-◌, ◌<◌, ◌≤◌, Bool, cond, List, [], ◌∷◌, ◌++◌, length, sum, replicate, Option, Some, None, refl, sym, ap, ◌∙◌, arith, ⊎_elim, zero-add, add-zero}
use Rattle.std.proofs.lemmas.Bool.{lt-ltb, le-ltb, cases_lt}
use Rattle.std.proofs.lemmas.List.{length-append, length-replicate, drop_at, get_or_append_left, get_or_past}
use Rattle.fwd_msgpack.specs.declared.fault.ScanFault.{ScanFault}
use Rattle.fwd_msgpack.specs.declared.head.Head.{Head}
use Rattle.fwd_msgpack.specs.declared.head.Head.TheVariants.{Nil}
use Rattle.fwd_msgpack.specs.declared.head.HeadRead.{HeadRead}
use Rattle.fwd_msgpack.specs.declared.head.HeadRead.TheVariants as read
use Rattle.fwd_msgpack.specs.Heads.{row_of, named_rows, reading_of, payload, members}
use Rattle.fwd_msgpack.specs.Scans.{InHead, InPayload, State, Going, Ended, after_value, goes_on, value_ended, payload_ended, item_begun, unless_faulty, head_heard}
use Rattle.fwd_msgpack.specs.Streams.{AreBytes}
use Rattle.fwd_msgpack.proofs.Fronts.{scanned, payload-whole, ended_shut, ended_opened, payload_shut}
use Rattle.fwd_msgpack.proofs.Within.{IsGood, IsGood-none}
use Rattle.fwd_msgpack.proofs.Places.{sum-cons}

-- ---- bytes

pub AreBytes-append : (xs ys : List ℕ) → AreBytes xs → AreBytes ys → AreBytes (xs ++ ys)
AreBytes-append [] ys hx hy i = hy i
AreBytes-append (x ∷ xs) ys hx hy zero = hx 0
AreBytes-append (x ∷ xs) ys hx hy (suc i) = AreBytes-append xs ys (λ j. hx (suc j)) hy i

pub AreBytes-replicate : (n b : ℕ) → b < 256 → AreBytes (replicate n b)
AreBytes-replicate zero b lt i = omega arith
AreBytes-replicate (suc n) b lt zero = lt
AreBytes-replicate (suc n) b lt (suc i) = AreBytes-replicate n b lt i

pub AreBytes-front : (xs ys : List ℕ) → AreBytes (xs ++ ys) → AreBytes xs
AreBytes-front xs ys h i =
    ⊎_elim (λ (lt : i < length xs). rw (← get_or_append_left xs ys 0 i lt) (h i))
    (λ (le : length xs ≤ i). rw (get_or_past xs i 0 le) (omega arith)) (cases_lt i (length xs))

pub AreBytes-back : (xs ys : List ℕ) → AreBytes (xs ++ ys) → AreBytes ys
AreBytes-back [] ys h = h
AreBytes-back (x ∷ xs) ys h = AreBytes-back xs ys (λ i. h (suc i))

-- ---- what is owed after a value

after_none : (stack : List ℕ) → after_value stack ≡ None → sum stack ≡ 0
after_none [] e = refl
after_none (zero ∷ stack) e = omega (arith, after_none stack e, sum-cons 0 stack)
after_none (suc n ∷ stack) e = absurd cc

after_some : (stack next : List ℕ) → after_value stack ≡ Some next
    → suc (sum next) ≡ sum stack
after_some [] next e = absurd cc
after_some (zero ∷ stack) next e = omega (arith, after_some stack next e, sum-cons 0 stack)
after_some (suc n ∷ stack) next e =
    let same : (n ∷ stack) ≡ next = cc in
    omega (arith, ap sum same, sum-cons n stack, sum-cons (suc n) stack)

-- ---- fillings

nil_read : reading_of (0xc0 ∷ []) ≡ read.Whole Nil 1
unfolding reading_of row_of named_rows
nil_read = refl

nil_begun : (used : ℕ) (stack : List ℕ) → item_begun used stack Nil ≡ value_ended used stack
unfolding item_begun payload_ended
nil_begun used stack = refl

-- a nil is a value
nil_scanned : (limit most used : ℕ) (stack rest : List ℕ) → used + 1 + sum stack ≤ limit
    → scanned limit most (Going used stack (InHead [])) (0xc0 ∷ rest)
    ≡ scanned limit most (value_ended (used + 1) stack) rest
nil_scanned limit most used stack rest fits =
    let good : IsGood limit most (used + 1) stack Nil = record { shallow = λ opened. absurd cc; fits = omega arith } in
    ap (λ (r : HeadRead). scanned limit most (head_heard limit most (used + 1) stack (0xc0 ∷ []) r) rest) nil_read
    ∙ ap (λ (o : Option ScanFault). scanned limit most (unless_faulty o (item_begun (used + 1) stack Nil)) rest) (IsGood-none limit most (used + 1) stack Nil good)
    ∙ ap (λ (s : State). scanned limit most s rest) (nil_begun (used + 1) stack)

finish_by : (limit most : ℕ) (n : ℕ) (used : ℕ) (stack : List ℕ) (o : Option (List ℕ))
    → after_value stack ≡ o → sum stack ≡ n → used + n ≤ limit
    → scanned limit most (goes_on used o) (replicate n 0xc0) ≡ Ended (used + n)
finish_by limit most zero used stack None e size fits = ap Ended (sym (add-zero used))
finish_by limit most (suc n) used stack None e size fits = absurd (omega (arith, after_none stack e))
finish_by limit most zero used stack (Some next) e size fits = absurd (omega (arith, after_some stack next e))
finish_by limit most (suc n) used stack (Some next) e size fits =
    let less : sum next ≡ n = omega (arith, after_some stack next e) in
    let place : used + 1 + n ≡ used + suc n = omega arith in
    nil_scanned limit most used next (replicate n 0xc0) (omega arith)
    ∙ finish_by limit most n (used + 1) next (after_value next) refl less (omega arith) ∙ ap Ended place

-- nils for the values that the open containers lack
finish : (limit most used : ℕ) (stack : List ℕ) → used + sum stack ≤ limit
    → scanned limit most (value_ended used stack) (replicate (sum stack) 0xc0)
    ≡ Ended (used + sum stack)
finish limit most used stack fits = finish_by limit most (sum stack) used stack (after_value stack) refl refl fits

fill_members : (limit most used : ℕ) (stack : List ℕ) (head : Head) (m : ℕ)
    → members head ≡ m → used + (m + sum stack) ≤ limit
    → scanned limit most (payload_ended used stack head) (replicate (m + sum stack) 0xc0)
    ≡ Ended (used + (m + sum stack))
fill_members limit most used stack head zero e fits =
    let size : 0 + sum stack ≡ sum stack = zero-add (sum stack) in
    ap (λ (n : ℕ). scanned limit most (payload_ended used stack head) (replicate n 0xc0)) size
    ∙ ap (λ (s : State). scanned limit most s (replicate (sum stack) 0xc0)) (ended_shut used stack head (le-ltb 0 (members head) (omega arith)))
    ∙ finish limit most used stack (omega arith) ∙ ap (λ (n : ℕ). Ended (used + n)) (sym size)
fill_members limit most used stack head (suc m) e fits =
    let lacking : members head - 1 ≡ m = omega arith in
    let total = sum-cons m stack in
    let size : suc m + sum stack ≡ suc (sum (m ∷ stack)) = omega arith in
    let place : used + 1 + sum (m ∷ stack) ≡ used + (suc m + sum stack) = omega arith in
    ap (λ (n : ℕ). scanned limit most (payload_ended used stack head) (replicate n 0xc0)) size
    ∙ ap (λ (s : State). scanned limit most s (replicate (suc (sum (m ∷ stack))) 0xc0)) (ended_opened used stack head (lt-ltb 0 (members head) (omega arith)))
    ∙ ap (λ (i : ℕ). scanned limit most (Going used (i ∷ stack) (InHead [])) (replicate (suc (sum (m ∷ stack))) 0xc0)) lacking
    ∙ nil_scanned limit most used (m ∷ stack) (replicate (sum (m ∷ stack)) 0xc0) (omega arith)
    ∙ finish limit most (used + 1) (m ∷ stack) (omega arith) ∙ ap Ended place

-- what completes a value behind a head
abbrev pub filling : List ℕ → Head → List ℕ
filling stack head = replicate (payload head) 0 ++ replicate (members head + sum stack) 0xc0

pub length-filling : (stack : List ℕ) (head : Head)
    → length (filling stack head) ≡ payload head + members head + sum stack
length-filling stack head =
    length-append (replicate (payload head) 0) (replicate (members head + sum stack) 0xc0)
    ∙ omega (arith, length-replicate {A = ℕ} (payload head) 0, length-replicate {A = ℕ} (members head + sum stack) 0xc0)

pub AreBytes-filling : (stack : List ℕ) (head : Head) → AreBytes (filling stack head)
AreBytes-filling stack head = AreBytes-append (replicate (payload head) 0) (replicate (members head + sum stack) 0xc0) (AreBytes-replicate (payload head) 0 (omega arith)) (AreBytes-replicate (members head + sum stack) 0xc0 (omega arith))

fill_payload : (limit most used : ℕ) (stack : List ℕ) (head : Head) (p : ℕ)
    → payload head ≡ p → used + (p + (members head + sum stack)) ≤ limit
    → scanned limit most (item_begun used stack head)
    (replicate p 0 ++ replicate (members head + sum stack) 0xc0)
    ≡ Ended (used + (p + (members head + sum stack)))
unfolding item_begun
fill_payload limit most used stack head zero e fits =
    let size : 0 + (members head + sum stack) ≡ members head + sum stack = zero-add (members head + sum stack) in
    ap (λ (b : Bool). scanned limit most (cond b (Going used stack (InPayload (payload head))) (payload_ended used stack head)) (replicate (members head + sum stack) 0xc0)) (le-ltb 0 (payload head) (omega arith))
    ∙ fill_members limit most used stack head (members head) refl (omega arith) ∙ ap (λ (n : ℕ). Ended (used + n)) (sym size)
fill_payload limit most used stack head (suc p) e fits =
    let tail : List ℕ = replicate (members head + sum stack) 0xc0 in
    let whole : List ℕ = replicate (suc p) 0 ++ tail in
    let shut = payload_shut head (omega arith) in
    let enough : suc p ≤ length whole = omega (arith, length-append (replicate (suc p) 0) tail, length-replicate {A = ℕ} (suc p) 0) in
    let place : used + suc p + (members head + sum stack) ≡ used + (suc p + (members head + sum stack)) = omega arith in
    ap (λ (b : Bool). scanned limit most (cond b (Going used stack (InPayload (payload head))) (payload_ended used stack head)) whole) (lt-ltb 0 (payload head) (omega arith))
    ∙ ap (λ (n : ℕ). scanned limit most (Going used stack (InPayload n)) whole) e
    ∙ payload-whole limit most used stack p whole enough
    ∙ ap (λ (xs : List ℕ). scanned limit most (value_ended (used + suc p) stack) xs) (drop_at (replicate (suc p) 0) tail (suc p) (length-replicate {A = ℕ} (suc p) 0))
    ∙ ap (λ (s : State). scanned limit most s tail) (sym (ended_shut (used + suc p) stack head shut))
    ∙ fill_members limit most (used + suc p) stack head (members head) refl (omega arith) ∙ ap Ended place

-- the filling completes the value
pub filled : (limit most used : ℕ) (stack : List ℕ) (head : Head)
    → used + (payload head + members head + sum stack) ≤ limit
    → scanned limit most (item_begun used stack head) (filling stack head)
    ≡ Ended (used + length (filling stack head))
filled limit most used stack head fits =
    let size = length-filling stack head in
    let place : used + (payload head + (members head + sum stack)) ≡ used + length (filling stack head) = omega arith in
    fill_payload limit most used stack head (payload head) refl (omega arith) ∙ ap Ended place
