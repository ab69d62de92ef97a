-- The first member of a list that passes a test, and the list without it.
use Rattle.std.proofs.Common.{◌≡◌, ℕ, zero, suc, ◌<◌, ◌≤◌, Bool, true, false, cond, List, [], ◌∷◌, ◌++◌, length, Option, Some, None, refl, sym, ap, ◌∙◌, arith}
use Rattle.std.specs.Prelude.{map, find, remove, take, slice_get, option_map, ◌||◌}
use Rattle.std.specs.List.{list_any}
use Rattle.std.proofs.lemmas.Option.{same_Some}
use Rattle.fwd_session.specs.Said.{without_first}
use Rattle.fwd_session.specs.Hearing.{IsFirst}

pub map_remove : {A B : Type 0} (f : A → B) (xs : List A) (i : ℕ)
    → map f (remove xs i) ≡ remove (map f xs) i
map_remove f [] zero = refl
map_remove f [] (suc i) = refl
map_remove f (x ∷ xs) zero = refl
map_remove f (x ∷ xs) (suc i) = ap (λ ys. f x ∷ ys) (map_remove f xs i)

pub slice_map : {A B : Type 0} (f : A → B) (xs : List A) (i : ℕ)
    → slice_get (map f xs) i ≡ option_map f (slice_get xs i)
slice_map f [] i = refl
slice_map f (x ∷ xs) zero = refl
slice_map f (x ∷ xs) (suc i) = slice_map f xs i

-- what stands at a place is there
pub there_within : {A : Type 0} (xs : List A) (i : ℕ) (x : A) → slice_get xs i ≡ Some x
    → i < length xs
there_within [] i x e = absurd cc
there_within (y ∷ xs) zero x e = omega arith
there_within (y ∷ xs) (suc i) x e = omega (arith, there_within xs i x e)

-- a member that is there, by what a function gives of it
pub there_map : {A B : Type 0} (f : A → B) (o : Option A) (y : B) → option_map f o ≡ Some y
    → (x : A) × (o ≡ Some x) × (f x ≡ y)
there_map f None y e = absurd cc
there_map f (Some x) y e = (x, refl, same_Some _ _ e)

neither : (a b : Bool) → (a || b) ≡ false → (a ≡ false) × (b ≡ false)
neither true b e = absurd cc
neither false b e = (refl, e)

pub first_find : {A : Type 0} (test : A → Bool) (xs : List A) (i : ℕ) (x : A)
    → IsFirst test xs i x → find test xs ≡ Some x
first_find test [] i x f = absurd (none f.there)
  where
    none : {X : Type 0} {x : X} → None ≡ Some x → ⊥
    none e = cc
first_find test (y ∷ xs) zero x f =
    let same : y ≡ x = same_Some _ _ f.there in
    ap (λ b. cond b (Some y) (find test xs)) (ap test same ∙ f.passes) ∙ ap Some same
first_find test (y ∷ xs) (suc i) x f =
    let not_here = neither (test y) (list_any test (take i xs)) f.before in
    ap (λ b. cond b (Some y) (find test xs)) not_here.0
    ∙ first_find test xs i x (record { there = f.there; passes = f.passes; before = not_here.1 })

pub first_without : {A : Type 0} (test : A → Bool) (xs : List A) (i : ℕ) (x : A)
    → IsFirst test xs i x → without_first test xs ≡ remove xs i
first_without test [] i x f = absurd (none f.there)
  where
    none : {X : Type 0} {x : X} → None ≡ Some x → ⊥
    none e = cc
first_without test (y ∷ xs) zero x f =
    let same : y ≡ x = same_Some _ _ f.there in
    ap (λ b. cond b xs (y ∷ without_first test xs)) (ap test same ∙ f.passes)
first_without test (y ∷ xs) (suc i) x f =
    let not_here = neither (test y) (list_any test (take i xs)) f.before in
    ap (λ b. cond b xs (y ∷ without_first test xs)) not_here.0
    ∙ ap (λ ys. y ∷ ys) (first_without test xs i x (record { there = f.there; passes = f.passes; before = not_here.1 }))

any_map : {A B : Type 0} (test : B → Bool) (f : A → B) (xs : List A) (i : ℕ)
    → list_any test (take i (map f xs)) ≡ list_any (λ x. test (f x)) (take i xs)
any_map test f xs zero = refl
any_map test f [] (suc i) = refl
any_map test f (x ∷ xs) (suc i) = ap (λ b. test (f x) || b) (any_map test f xs i)

pub any_map_all : {A B : Type 0} (test : B → Bool) (f : A → B) (xs : List A)
    → list_any test (map f xs) ≡ list_any (λ x. test (f x)) xs
any_map_all test f [] = refl
any_map_all test f (x ∷ xs) = ap (λ b. test (f x) || b) (any_map_all test f xs)

-- the first of what a function gives is given of the first
pub first_map : {A B : Type 0} (test : B → Bool) (f : A → B) (xs : List A) (i : ℕ) (y : B)
    → IsFirst test (map f xs) i y → (x : A) × IsFirst (λ x. test (f x)) xs i x × (f x ≡ y)
first_map test f xs i y first =
    let here = there_map f (slice_get xs i) y (sym (slice_map f xs i) ∙ first.there) in (
      here.0,
      record {
        there = here.1;
        passes = ap test here.2 ∙ first.passes;
        before = sym (any_map test f xs i) ∙ first.before;
      },
      here.2,
    )

-- none passes among the first members, and not the next one
pub none_more : {A : Type 0} (test : A → Bool) (xs : List A) (i : ℕ) (x : A)
    → slice_get xs i ≡ Some x → list_any test (take i xs) ≡ false → test x ≡ false
    → list_any test (take (suc i) xs) ≡ false
none_more test [] i x e before here = refl
none_more test (y ∷ xs) zero x e before here =
    ap (λ b. b || false) (ap test (same_Some _ _ e) ∙ here)
none_more test (y ∷ xs) (suc i) x e before here =
    let not_here = neither (test y) (list_any test (take i xs)) before in
    ap (λ b. b || list_any test (take (suc i) xs)) not_here.0 ∙ none_more test xs i x e not_here.1 here

-- one member more
pub take_next : {A : Type 0} (xs : List A) (i : ℕ) (x : A) → slice_get xs i ≡ Some x
    → take i xs ++ x ∷ [] ≡ take (suc i) xs
take_next [] i x e = absurd (none e)
  where
    none : {X : Type 0} {x : X} → None ≡ Some x → ⊥
    none e = cc
take_next (y ∷ xs) zero x e = ap (λ z. z ∷ []) (sym (same_Some _ _ e))
take_next (y ∷ xs) (suc i) x e = ap (λ ys. y ∷ ys) (take_next xs i x e)

pub take_whole : {A : Type 0} (xs : List A) (n : ℕ) → length xs ≤ n → take n xs ≡ xs
take_whole [] zero le = refl
take_whole [] (suc n) le = refl
take_whole (x ∷ xs) zero le = absurd (omega (arith, le))
take_whole (x ∷ xs) (suc n) le = ap (λ ys. x ∷ ys) (take_whole xs n (omega (arith, le)))

-- none passes at all
pub none_found : {A : Type 0} (test : A → Bool) (xs : List A) → list_any test xs ≡ false
    → find test xs ≡ None
none_found test [] e = refl
none_found test (y ∷ xs) e =
    let not_here = neither (test y) (list_any test xs) e in
    ap (λ b. cond b (Some y) (find test xs)) not_here.0 ∙ none_found test xs not_here.1
