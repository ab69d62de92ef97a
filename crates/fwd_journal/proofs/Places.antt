-- Elements at places of a list.
use Rattle.std.specs.Prelude.{ℕ, zero, suc, ◌<◌, List, [], ◌∷◌, length, slice_get, slice_index_or, replicate, IsSomeAnd, Option, Some, None, ◌≡◌, ◌≤◌}
use Rattle.fwd_journal.specs.declared.line_limit.LineLimit.{LineLimit}
use Rattle.fwd_journal.specs.declared.line_limit.TheConstants.LineLimit.{NONE}
use Rattle.std.proofs.Common.{rules, refl, subst, arith}

-- what stands at a place of a list is what an index reads there
pub index_at : {X : Type 0} (xs : List X) (i : ℕ) (d : X) → i < length xs
    → slice_get xs i ≡ Some (slice_index_or xs i d)
index_at [] i d within = search rules
index_at (x ∷ xs) zero d within = refl
index_at (x ∷ xs) (suc i) d within = index_at xs i d (omega (arith, within))

-- the same, where what stands there is so
pub stands_at : {X : Type 0} (P : X → Type 0) (xs : List X) (i : ℕ) (d : X)
    → IsSomeAnd (slice_get xs i) P
    → (slice_get xs i ≡ Some (slice_index_or xs i d)) × P (slice_index_or xs i d)
stands_at P [] i d is = absurd is
stands_at P (x ∷ xs) zero d is = (refl, is)
stands_at P (x ∷ xs) (suc i) d is = stands_at P xs i d is

-- nothing is nothing that is so
pub nothing_at : {X : Type 0} (P : X → Type 0) (o : Option X) → o ≡ None → IsSomeAnd o P → ⊥
nothing_at P o none is = subst (λ o. IsSomeAnd o P) none is

-- a limit before the first line owes nothing
pub nothing_owed : (l : LineLimit) → l ≡ NONE → (1 ≤ l.left_out) → ⊥
nothing_owed l e owes = search rules

-- each element of a list of one value is that value
pub replicated : {X : Type 0} (x d : X) (n k : ℕ) → k < n → slice_index_or (replicate n x) k d ≡ x
replicated x d zero k within = absurd (omega (arith, within))
replicated x d (suc n) zero within = refl
replicated x d (suc n) (suc k) within = replicated x d n k (omega (arith, within))
