-- A receipt is of a request that an output has, and whose entries are all acknowledged; and a
-- collect of its connection tells it, where nothing became of any request.
use Rattle.std.proofs.Common.{◌≡◌, ℕ, zero, suc, Bool, true, false, cond, eqb, List, [], ◌∷◌, ◌++◌, Option, Some, None, refl, sym, ap, subst, ◌∙◌, arith, inl, inr}
use Rattle.std.proofs.lemmas.Bool.Decides.{nat_tests}
use Rattle.std.specs.Prelude.{◌⊎◌, map, filter, slice_get, ◌&&◌, ◌||◌}
use Rattle.std.specs.List.{flat_map}
use Rattle.fwd_modes.specs.declared.origin.Origin.{Origin}
use Rattle.fwd_chunks.specs.Cells.{has_number}
use Rattle.fwd_session.specs.ServerAcks.{ServerAck}
use Rattle.fwd_book.specs.History.{Entered, Admission, is_due, is_origin, is_settled, is_untold, request_at}
use Rattle.fwd_book.specs.Receipts.{Receipt, once, receipt_if, receipt_of, receipts}
use Rattle.fwd_model.specs.Books.{numbers_of}
use Rattle.fwd_run.proofs.Marks.{unmarked}

-- the request is one of those that were entered
abbrev pub IsEntered : Entered → List Admission → Type 0
IsEntered q [] = ⊥
IsEntered q (a ∷ ads) = (a.request ≡ q) ⊎ IsEntered q ads

-- a receipt is this request's, which was entered, and whose entries are all acknowledged
pub record IsReceiptOf (settled : List ServerAck) (ads : List Admission) (r : Receipt) : Type 0 where
  pub request : Entered
  pub entered : IsEntered request ads
  pub acknowledged : is_settled settled request ≡ true
  pub origin : r.origin ≡ request.origin

abbrev waiting_of : List Admission → List Entered
waiting_of ads = map (λ a. a.request) (filter (λ a. is_untold a.fate) ads)

sought : (ads : List Admission) (origin : Origin) (q : Entered)
    → request_at (waiting_of ads) origin ≡ Some q → IsEntered q ads
sought [] origin q h = absurd cc
sought (a ∷ ads) origin q h = by (sought ads origin q) (is_untold a.fate) refl
  where
    rest : List Entered
    rest = waiting_of ads

    found : (b : Bool) → (request_at rest origin ≡ Some q → IsEntered q ads)
        → cond b (Some a.request) (request_at rest origin) ≡ Some q → IsEntered q (a ∷ ads)
    found true other e = inl cc
    found false other e = inr (other e)

    by : (request_at rest origin ≡ Some q → IsEntered q ads) → (b : Bool)
        → is_untold a.fate ≡ b → IsEntered q (a ∷ ads)
    by other true e =
        found (is_origin origin a.request.origin) other
        (sym (ap (λ c. request_at (map (λ (x : Admission). x.request) (cond c (a ∷ filter (λ x. is_untold x.fate) ads) (filter (λ x. is_untold x.fate) ads))) origin) e) ∙ h)
    by other false e =
        inr (other (sym (ap (λ c. request_at (map (λ (x : Admission). x.request) (cond c (a ∷ filter (λ x. is_untold x.fate) ads) (filter (λ x. is_untold x.fate) ads))) origin) e) ∙ h))

-- what stands in one of two lists
in-either : {X : Type 0} (xs ys : List X) (i : ℕ) (x : X) → slice_get (xs ++ ys) i ≡ Some x
    → ((j : ℕ) × (slice_get xs j ≡ Some x)) ⊎ ((j : ℕ) × (slice_get ys j ≡ Some x))
in-either [] ys i x h = inr (i, h)
in-either (y ∷ xs) ys zero x h = inl (zero, h)
in-either (y ∷ xs) ys (suc i) x h =
    elim (in-either xs ys i x h) [ inl e ↦ inl (suc e.0, e.1) | inr e ↦ inr e ]

one-of : (settled : List ServerAck) (ads : List Admission) (q : Entered) (r : Receipt) (i : ℕ)
    → IsEntered q ads
    → slice_get (receipt_if settled (Some q)) i ≡ Some r → IsReceiptOf settled ads r
one-of settled ads q r i entered h = by (is_settled settled q) refl h
  where
    first : (j : ℕ) → slice_get (receipt_of settled q ∷ []) j ≡ Some r → r.origin ≡ q.origin
    first zero e = let same : receipt_of settled q ≡ r = cc in ap (λ (x : Receipt). x.origin) (sym same)
    first (suc j) e = absurd cc

    by : (b : Bool) → is_settled settled q ≡ b
        → slice_get (cond b (receipt_of settled q ∷ []) []) i ≡ Some r → IsReceiptOf settled ads r
    by true e f = record { request = q; entered = entered; acknowledged = e; origin = first i f }
    by false e f = absurd cc

of-one : (settled : List ServerAck) (ads : List Admission) (x : Option Entered) (origin : Origin)
    (r : Receipt) (i : ℕ) → request_at (waiting_of ads) origin ≡ x
    → slice_get (receipt_if settled x) i ≡ Some r → IsReceiptOf settled ads r
of-one settled ads None origin r i e h = absurd cc
of-one settled ads (Some q) origin r i e h = one-of settled ads q r i (sought ads origin q e) h

of-all : (settled : List ServerAck) (ads : List Admission) (origins : List Origin) (r : Receipt)
    (i : ℕ)
    → slice_get (flat_map (λ origin. receipt_if settled (request_at (waiting_of ads) origin)) origins) i ≡ Some r
    → IsReceiptOf settled ads r
of-all settled ads [] r i h = absurd cc
of-all settled ads (origin ∷ origins) r i h =
    elim (in-either (receipt_if settled (request_at (waiting_of ads) origin)) (flat_map (λ origin. receipt_if settled (request_at (waiting_of ads) origin)) origins) i r h)
    [ inl e ↦ of-one settled ads (request_at (waiting_of ads) origin) origin r e.0 refl e.1 | inr e ↦ of-all settled ads origins r e.0 e.1 ]

pub receipt-of : (settled : List ServerAck) (ads : List Admission) (origins : List Origin) (r : Receipt)
    (i : ℕ) → slice_get (receipts settled (waiting_of ads) origins) i ≡ Some r
    → IsReceiptOf settled ads r
receipt-of settled ads origins r i h = of-all settled ads (once origins) r i h

-- ---- who is told

abbrev told_numbers : ℕ → List ServerAck → List Admission → List ℕ
told_numbers id settled ads = numbers_of (map (λ a. a.request) (filter (is_due id settled) ads))

same-test : (n : ℕ) → eqb n n ≡ true
same-test n = grind (arith, nat_tests)

told-front : (id : ℕ) (settled : List ServerAck) (a : Admission) (ads : List Admission) (b : Bool)
    → is_due id settled a ≡ b
    → told_numbers id settled (a ∷ ads)
    ≡ cond b (a.request.origin.request ∷ told_numbers id settled ads) (told_numbers id settled ads)
told-front id settled a ads true e = ap (λ c. numbers_of (map (λ (x : Admission). x.request) (cond c (a ∷ filter (is_due id settled) ads) (filter (is_due id settled) ads)))) e
told-front id settled a ads false e = ap (λ c. numbers_of (map (λ (x : Admission). x.request) (cond c (a ∷ filter (is_due id settled) ads) (filter (is_due id settled) ads)))) e

or-true : (b : Bool) → (b || true) ≡ true
or-true true = refl
or-true false = refl

more : (id n : ℕ) (settled : List ServerAck) (a : Admission) (ads : List Admission)
    → has_number n (told_numbers id settled ads) ≡ true
    → has_number n (told_numbers id settled (a ∷ ads)) ≡ true
more id n settled a ads h = by (is_due id settled a) refl
  where
    by : (b : Bool) → is_due id settled a ≡ b
        → has_number n (told_numbers id settled (a ∷ ads)) ≡ true
    by true e =
        ap (has_number n) (told-front id settled a ads true e)
        ∙ ap (λ b. eqb a.request.origin.request n || b) h
        ∙ or-true (eqb a.request.origin.request n)
    by false e = ap (has_number n) (told-front id settled a ads false e) ∙ h

first-told : (settled : List ServerAck) (a : Admission) (ads : List Admission)
    → is_settled settled a.request ≡ true
    → has_number a.request.origin.request (told_numbers a.request.origin.conn settled (unmarked a ∷ ads)) ≡ true
first-told settled a ads all =
    let id = a.request.origin.conn in
    let due : is_due id settled (unmarked a) ≡ true = λ i. same-test id i && all i in
    ap (has_number a.request.origin.request) (told-front id settled (unmarked a) ads true due)
    ∙ ap (λ b. b || has_number a.request.origin.request (told_numbers id settled ads)) (same-test a.request.origin.request)

pub is-told : (settled : List ServerAck) (ads : List Admission) (q : Entered)
    → IsEntered q ads → is_settled settled q ≡ true
    → has_number q.origin.request (told_numbers q.origin.conn settled (map unmarked ads)) ≡ true
is-told settled [] q entered all = absurd entered
is-told settled (a ∷ ads) q (inl is) all =
    subst (λ (x : Entered). has_number x.origin.request (told_numbers x.origin.conn settled (map unmarked (a ∷ ads))) ≡ true) is
    (first-told settled a (map unmarked ads) (ap (is_settled settled) is ∙ all))
is-told settled (a ∷ ads) q (inr entered) all =
    more q.origin.conn q.origin.request settled (unmarked a) (map unmarked ads) (is-told settled ads q entered all)
