-- The numbers of what is given back.
use Rattle.std.proofs.Common.{◌≡◌, ◌+◌, ℕ, Bool, true, false, cond, Option, Some, None, List, [], ◌∷◌, length, arith, refl, ap, sym, ◌∙◌}
use Rattle.std.specs.Prelude.{map, nat_le}
use Rattle.fwd_chunks.specs.History.{CarriedChunk}
use Rattle.fwd_model.specs.Outputs.{Return, return_of, returned, in_order, rising, numbers_back}
use Rattle.fwd_session.proofs.Lists.{map_map}

abbrev number_in : Return → ℕ
number_in r = r.number

pub numbers-none : (taken : Option CarriedChunk) (loaded : List CarriedChunk) → taken ≡ None
    → rising (map (λ c. c.number) loaded) ≡ numbers_back (returned taken loaded)
numbers-none taken loaded e =
    sym (ap rising (map_map number_in (return_of true) loaded))
    ∙ ap (λ o. numbers_back (returned o loaded)) (sym e)

pub numbers-some : (taken : Option CarriedChunk) (c : CarriedChunk) (loaded : List CarriedChunk) → taken ≡ Some c
    → in_order c.number (rising (map (λ c. c.number) loaded)) ≡ numbers_back (returned taken loaded)
numbers-some taken c loaded e =
    sym (ap (λ ns. in_order c.number (rising ns)) (map_map number_in (return_of true) loaded))
    ∙ ap (λ o. numbers_back (returned o loaded)) (sym e)

-- one number more
pub length_in_order : (n : ℕ) (numbers : List ℕ) → length (in_order n numbers) ≡ length numbers + 1
length_in_order n [] = refl
length_in_order n (k ∷ numbers) = by (nat_le n k) (length_in_order n numbers)
  where
    by : (b : Bool) → length (in_order n numbers) ≡ length numbers + 1
        → length (cond b (n ∷ k ∷ numbers) (k ∷ in_order n numbers)) ≡ length (k ∷ numbers) + 1
    by true later = omega arith
    by false later = omega (arith, later)
