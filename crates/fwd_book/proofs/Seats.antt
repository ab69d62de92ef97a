-- What a slab has at each key, once it is written.
use Rattle.std.proofs.Common.{arith, ◌≡◌, ℕ, zero, suc, Bool, true, false, cond, List, [], ◌∷◌, get_or, Option, Some, None, IsSome, is_some, count_by, option_map, refl, sym, ap, ◌∙◌, subst}
use Rattle.std.proofs.Math.ListN.{set}
use Rattle.std.specs.Prelude.{◌==◌}
use Rattle.std.proofs.lemmas.Bool.{eqb-true, eqb-false}
use Rattle.std.proofs.lemmas.List.Sums.{sum_by-cons}
use Rattle.slab.specs.Slab.{Slab, get, slab_len, Updates, with_value}
use Rattle.slab.proofs.SlabLemmas.{Updates-with_value}
use Rattle.fwd_book.specs.declared.connection_index.LinkedRequest.{LinkedRequest}
use Rattle.fwd_book.specs.Slots.{request_of}
use Rattle.fwd_book.specs.Links.{leads_to, follows_on}
use Rattle.fwd_book.proofs.Facts.{none_some}

pub updated : {X : Type 0} (old new : Slab X) (key : ℕ) (slot : Option X) → Updates old new key slot
    → (k : ℕ) → get new k ≡ cond (key == k) slot (get old k)
updated old new key slot updates k = by (key == k) refl
  where
    by : (a : Bool) → (key == k) ≡ a → get new k ≡ cond a slot (get old k)
    by true is = ap (get new) (sym (eqb-true key k is)) ∙ updates.changed
    by false is = updates.others k (λ same. eqb-false key k is (sym same))

len-set : {X : Type 0} (slots : List (Option X)) (key : ℕ) (x y : X) → get_or slots key None ≡ Some x
    → count_by is_some (set slots key (Some y)) ≡ count_by is_some slots
len-set [] key x y e = refl
len-set (None ∷ slots) zero x y e = absurd (none_some e)
len-set (Some z ∷ slots) zero x y e = omega (arith, sum_by-cons (λ o. cond (is_some o) 1 0) (Some y) slots, sum_by-cons (λ o. cond (is_some o) 1 0) (Some z) slots)
len-set (o ∷ slots) (suc key) x y e =
    omega (arith, len-set slots key x y e, sum_by-cons (λ p. cond (is_some p) 1 0) o slots, sum_by-cons (λ p. cond (is_some p) 1 0) o (set slots key (Some y)))

pub written-len : {X : Type 0} (old : Slab X) (key : ℕ) (x y : X) → get old key ≡ Some x
    → slab_len (with_value old key y) ≡ slab_len old
written-len old key x y there = len-set old.slots key x y there

-- what is there becomes what a function makes of it
pub written : {X : Type 0} (old : Slab X) (key : ℕ) (x : X) (f : X → X) → get old key ≡ Some x
    → (k : ℕ) → get (with_value old key (f x)) k ≡ cond (key == k) (option_map f (get old k)) (get old k)
written old key x f there k =
    updated old (with_value old key (f x)) key (Some (f x)) (Updates-with_value old key (f x) (subst IsSome (sym there) refl)) k
    ∙ by (key == k) refl
  where
    by : (a : Bool) → (key == k) ≡ a → cond a (Some (f x)) (get old k) ≡ cond a (option_map f (get old k)) (get old k)
    by true is = ap (option_map f) (sym there ∙ ap (get old) (eqb-true key k is))
    by false is = refl

-- a request stays where its link is written
pub later-request : (later : Option ℕ) (k : Option LinkedRequest) → request_of (option_map (leads_to later) k) ≡ request_of k
later-request later None = refl
later-request later (Some k) = refl

pub earlier-request : (earlier : Option ℕ) (k : Option LinkedRequest) → request_of (option_map (follows_on earlier) k) ≡ request_of k
earlier-request earlier None = refl
earlier-request earlier (Some k) = refl

-- of one of two with the same request
pub either-request : (b : Bool) (x y : Option LinkedRequest) → request_of x ≡ request_of y
    → request_of (cond b x y) ≡ request_of y
either-request true x y same = same
either-request false x y same = refl

-- one of two is read
pub held-either : (a : Bool) (x y : Option LinkedRequest)
    → request_of (cond a x y) ≡ cond a (request_of x) (request_of y)
held-either true x y = refl
held-either false x y = refl
