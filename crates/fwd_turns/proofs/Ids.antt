-- The ids of sources rise.
use Rattle.std.proofs.Common.{arith, ◌≡◌, ◌≤◌, ℕ, Option, Some, None, refl, subst, sym}
use Rattle.fwd_turns.specs.Ids.{IsNoLess}

-- it is no less than itself
pub same : (id : Option ℕ) → IsNoLess id id
same None = refl
same (Some id) = omega arith

-- and than what it was before
pub later : (a b c : Option ℕ) → IsNoLess a b → IsNoLess b c → IsNoLess a c
later None b c ab bc = subst (λ x. IsNoLess x c) ab bc
later (Some a) None c ab bc = subst (IsNoLess (Some a)) (sym bc) tt
later (Some a) (Some b) None ab bc = tt
later (Some a) (Some b) (Some c) ab bc = omega arith
