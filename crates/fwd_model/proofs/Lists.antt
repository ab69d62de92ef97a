-- All of a list, and places in it.
use Rattle.std.proofs.Common.{◌≡◌, ℕ, zero, suc, Bool, true, false, List, [], ◌∷◌, ◌++◌, drop, Some, refl, sym, ap, subst, ◌∙◌}
use Rattle.std.specs.Prelude.{◌||◌, slice_get}
use Rattle.std.specs.List.{list_any, AllByRecursion}
use Rattle.std.proofs.lemmas.Option.{same_Some}
use Rattle.fwd_session.specs.History.{first_in}

pub slice_get-append : {X : Type 0} (xs ys : List X) (i : ℕ) (x : X) → slice_get xs i ≡ Some x
    → slice_get (xs ++ ys) i ≡ Some x
slice_get-append [] ys i x h = absurd cc
slice_get-append (a ∷ xs) ys zero x h = h
slice_get-append (a ∷ xs) ys (suc i) x h = slice_get-append xs ys i x h

pub all_front : {X : Type 0} (P : X → Type 0) (xs ys : List X) → AllByRecursion P (xs ++ ys)
    → AllByRecursion P xs
all_front P [] ys all = tt
all_front P (x ∷ xs) ys all = (all.0, all_front P xs ys all.1)

pub all_back : {X : Type 0} (P : X → Type 0) (xs ys : List X) → AllByRecursion P (xs ++ ys)
    → AllByRecursion P ys
all_back P [] ys all = all
all_back P (x ∷ xs) ys all = all_back P xs ys all.1

pub all_at : {X : Type 0} (P : X → Type 0) (xs : List X) (i : ℕ) (x : X) → AllByRecursion P xs
    → slice_get xs i ≡ Some x → P x
all_at P [] i x all h = absurd cc
all_at P (y ∷ xs) zero x all h = subst P (same_Some _ _ h) all.0
all_at P (y ∷ xs) (suc i) x all h = all_at P xs i x all.1 h

pub all_first : {X : Type 0} (P : X → Type 0) (xs : List X) (x : X) → AllByRecursion P xs
    → first_in xs ≡ Some x → P x
all_first P [] x all e = absurd cc
all_first P (y ∷ xs) x all e = subst P (same_Some _ _ e) all.0

pub all_drop : {X : Type 0} (P : X → Type 0) (xs : List X) → AllByRecursion P xs
    → AllByRecursion P (drop 1 xs)
all_drop P [] all = tt
all_drop P (x ∷ xs) all = all.1

-- what two facts say of each
pub all_both : {X : Type 0} (P Q R : X → Type 0) (xs : List X) → ((x : X) → P x → Q x → R x)
    → AllByRecursion P xs → AllByRecursion Q xs → AllByRecursion R xs
all_both P Q R [] goes all its = tt
all_both P Q R (x ∷ xs) goes all its = (goes x all.0 its.0, all_both P Q R xs goes all.1 its.1)

-- where none passes, none at a place does
pub none_at : {X : Type 0} (p : X → Bool) (xs : List X) (i : ℕ) (x : X) → list_any p xs ≡ false
    → slice_get xs i ≡ Some x → p x ≡ false
none_at p [] i x none h = absurd cc
none_at p (y ∷ xs) zero x none h = let same : y ≡ x = cc in ap p (sym same) ∙ first (p y) (list_any p xs) none
  where
    first : (a b : Bool) → (a || b) ≡ false → a ≡ false
    first true b e = e
    first false b e = refl
none_at p (y ∷ xs) (suc i) x none h = none_at p xs i x (rest (p y) (list_any p xs) none) h
  where
    rest : (a b : Bool) → (a || b) ≡ false → b ≡ false
    rest true b e = absurd cc
    rest false b e = e
