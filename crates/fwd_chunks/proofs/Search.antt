-- Where a number's slot stands.
use Rattle.std.proofs.Common.{◌≡◌, ℕ, zero, suc, ◌+◌, ◌<◌, ◌≤◌, Bool, true, false, cond, eqb, List, [], ◌∷◌, Option, Some, None, refl, sym, ap, ◌∙◌, subst, inl, inr, arith}
use Rattle.std.specs.Prelude.{find, slice_get, position}
use Rattle.std.specs.List.{AllByRecursion}
use Rattle.std.proofs.lemmas.Bool.{cases_lt}
use Rattle.fwd_chunks.specs.Slots.{Slot}
use Rattle.fwd_chunks.specs.Slots.{is_slot, IsLower, NumbersRise}
use Rattle.fwd_chunks.proofs.Numbers.{true_false, eq_same}
use Rattle.fwd_chunks.proofs.Sounding.{found-passes}
use Rattle.fwd_chunks.proofs.Places.{none_some, place-found, place-none, place-within, get-within}
use Rattle.std.proofs.lemmas.Option.{same_Some}
use Rattle.std.proofs.lemmas.Bool.{eqb-true}

-- ---- the order by places

before-at : (x d : Slot) (xs : List Slot) (j : ℕ) → AllByRecursion (IsLower x) xs
    → slice_get xs j ≡ Some d → IsLower x d
before-at x d [] j all e = absurd (none_some e)
before-at x d (y ∷ xs) zero all e = subst (IsLower x) (same_Some _ _ e) all.0
before-at x d (y ∷ xs) (suc j) all e = before-at x d xs j all.1 e

pub order-at : (xs : List Slot) (i j : ℕ) (c d : Slot) → NumbersRise xs → i < j
    → slice_get xs i ≡ Some c → slice_get xs j ≡ Some d → IsLower c d
order-at [] i j c d h lt e f = absurd (none_some e)
order-at (x ∷ xs) zero zero c d h lt e f = absurd (omega arith)
order-at (x ∷ xs) zero (suc j) c d h lt e f = subst (λ y. IsLower y d) (same_Some _ _ e) (before-at x d xs j h.0 f)
order-at (x ∷ xs) (suc i) zero c d h lt e f = absurd (omega arith)
order-at (x ∷ xs) (suc i) (suc j) c d h lt e f = order-at xs i j c d h.1 (omega arith) e f

pub same-place : (xs : List Slot) (i j : ℕ) (c d : Slot) → NumbersRise xs
    → slice_get xs i ≡ Some c → slice_get xs j ≡ Some d → c.number ≡ d.number → i ≡ j
same-place xs i j c d h e f same = elim (cases_lt i j) [
  | inl lt ↦ absurd (omega (arith, (order-at xs i j c d h lt e f), same))
  | inr le ↦ elim (cases_lt j i) [
    | inl gt ↦ absurd (omega (arith, (order-at xs j i d c h gt f e), same))
    | inr ge ↦ omega arith
  ]
]

-- ---- the place that a search answers

passes-none : (p : Slot → Bool) (xs : List Slot) (i : ℕ) (c : Slot) → find p xs ≡ None
    → slice_get xs i ≡ Some c → p c ≡ true → ⊥
passes-none p [] i c none e t = none_some e
passes-none p (x ∷ xs) zero c none e t = by (p x) (ap p (same_Some _ _ e) ∙ t) none
  where
    by : (b : Bool) → b ≡ true → cond b (Some x) (find p xs) ≡ None → ⊥
    by true f g = none_some (sym g)
    by false f g = true_false false f refl
passes-none p (x ∷ xs) (suc i) c none e t = by (λ g. passes-none p xs i c g e t) (p x) none
  where
    by : (find p xs ≡ None → ⊥) → (b : Bool) → cond b (Some x) (find p xs) ≡ None → ⊥
    by rest true g = none_some (sym g)
    by rest false g = rest g

pub position-only : (p : Slot → Bool) (xs : List Slot) (i : ℕ) (c : Slot)
    → slice_get xs i ≡ Some c → p c ≡ true
    → ((j : ℕ) (d : Slot) → slice_get xs j ≡ Some d → p d ≡ true → j ≡ i)
    → position p xs ≡ Some i
position-only p xs i c e t only = by (position p xs) refl
  where
    by : (o : Option ℕ) → position p xs ≡ o → o ≡ Some i
    by None f = absurd (passes-none p xs i c (place-none p xs f) e t)
    by (Some k) f = at (slice_get xs k) refl
      where
        at : (o : Option Slot) → slice_get xs k ≡ o → Some k ≡ Some i
        at None g = absurd (get-within xs k (place-within p xs k f) g)
        at (Some d) g = ap Some (only k d g (found-passes p xs d (place-found p xs k f ∙ g)))

pub position-none : (p : Slot → Bool) (xs : List Slot)
    → ((j : ℕ) (d : Slot) → slice_get xs j ≡ Some d → p d ≡ true → ⊥)
    → position p xs ≡ None
position-none p xs never = by (position p xs) refl
  where
    by : (o : Option ℕ) → position p xs ≡ o → o ≡ None
    by None f = refl
    by (Some k) f = at (slice_get xs k) refl
      where
        at : (o : Option Slot) → slice_get xs k ≡ o → Some k ≡ None
        at None g = absurd (get-within xs k (place-within p xs k f) g)
        at (Some d) g = absurd (never k d g (found-passes p xs d (place-found p xs k f ∙ g)))

-- ---- by number

pub number-place : (xs : List Slot) (n i : ℕ) (c : Slot) → NumbersRise xs
    → slice_get xs i ≡ Some c → c.number ≡ n → position (is_slot n) xs ≡ Some i
number-place xs n i c h e same =
    position-only (is_slot n) xs i c e (ap (λ k. eqb k n) same ∙ eq_same n)
    (λ j d f t. same-place xs j i d c h f e (eqb-true d.number n t ∙ sym same))

pub number-read : (xs : List Slot) (n i : ℕ) (c : Slot) → position (is_slot n) xs ≡ Some i
    → slice_get xs i ≡ Some c → c.number ≡ n
number-read xs n i c e f = eqb-true c.number n (found-passes (is_slot n) xs c (place-found (is_slot n) xs i e ∙ f))

pub number-absent : (xs : List Slot) (n j : ℕ) (d : Slot) → position (is_slot n) xs ≡ None
    → slice_get xs j ≡ Some d → d.number ≡ n → ⊥
number-absent xs n j d e f same = passes-none (is_slot n) xs j d (place-none (is_slot n) xs e) f (ap (λ k. eqb k n) same ∙ eq_same n)

-- one step of a search between two places
pub place-below : (xs : List Slot) (n middle : ℕ) (r : Slot) → NumbersRise xs
    → slice_get xs middle ≡ Some r → r.number < n → (k : ℕ) (d : Slot) → k < middle + 1
    → slice_get xs k ≡ Some d → d.number < n
place-below xs n middle r h e lt k d small f = elim (cases_lt k middle) [
  | inl before ↦ (let lower = (order-at xs k middle d r h before f e) in omega arith)
  | inr le ↦
      let at : k ≡ middle = omega arith in
      let is : d ≡ r = same_Some _ _ (sym f ∙ ap (slice_get xs) at ∙ e) in
      omega (arith, ap (λ y. y.number) is)
]

pub place-above : (xs : List Slot) (n middle : ℕ) (r : Slot) → NumbersRise xs
    → slice_get xs middle ≡ Some r → n < r.number → (k : ℕ) (d : Slot) → middle ≤ k
    → slice_get xs k ≡ Some d → n < d.number
place-above xs n middle r h e lt k d large f = elim (cases_lt middle k) [
  | inl before ↦ (let lower = (order-at xs middle k r d h before e f) in omega arith)
  | inr le ↦
      let at : k ≡ middle = omega arith in
      let is : d ≡ r = same_Some _ _ (sym f ∙ ap (slice_get xs) at ∙ e) in
      omega (arith, ap (λ y. y.number) is)
]

pub place-nowhere : (xs : List Slot) (n low high : ℕ) → high ≤ low
    → ((k : ℕ) (d : Slot) → k < low → slice_get xs k ≡ Some d → d.number < n)
    → ((k : ℕ) (d : Slot) → high ≤ k → slice_get xs k ≡ Some d → n < d.number)
    → position (is_slot n) xs ≡ None
place-nowhere xs n low high le below above = position-none (is_slot n) xs (λ j d f t. elim (cases_lt j low) [
  | inl lt ↦ absurd (omega (arith, below j d lt f, eqb-true d.number n t))
  | inr ge ↦ (let past : high ≤ j = omega arith in absurd (omega (arith, above j d past f, eqb-true d.number n t)))
])
