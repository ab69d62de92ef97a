-- A number that is put among others, in its order.
use Rattle.std.proofs.Common.{◌≡◌, ℕ, zero, suc, ◌+◌, ◌<◌, ◌≤◌, true, false, cond, List, [], ◌∷◌, ◌++◌, length, slice_index_or, refl, sym, ap, subst, ◌∙◌, arith}
use Rattle.std.specs.Prelude.{nat_le}
use Rattle.std.specs.List.{insert}
use Rattle.std.proofs.lemmas.List.Edits.{insert_end}
use Rattle.std.proofs.lemmas.Bool.Decides.{nat_tests}
use Rattle.fwd_model.specs.Outputs.{in_order}

-- the first so many are below it
abbrev pub AreBelow : ℕ → List ℕ → ℕ → Type 0
AreBelow n ks zero = Unit {0}
AreBelow n [] (suc place) = Unit {0}
AreBelow n (k ∷ ks) (suc place) = (k < n) × AreBelow n ks place

pub record IsBehind (n : ℕ) (ks : List ℕ) (place : ℕ) : Type 0 where
  pub below : AreBelow n ks place

pub behind_none : (n : ℕ) (ks : List ℕ) → IsBehind n ks 0
behind_none n ks = record { below = tt }

below_more : (n : ℕ) (ks : List ℕ) (place : ℕ) → AreBelow n ks place → place < length ks
    → slice_index_or ks place 0 < n → AreBelow n ks (suc place)
below_more n [] place below lt here = tt
below_more n (k ∷ ks) zero below lt here = (here, tt)
below_more n (k ∷ ks) (suc place) below lt here = (below.0, below_more n ks place below.1 (omega (arith, lt)) here)

pub behind_more : (n : ℕ) (ks : List ℕ) (place : ℕ) → IsBehind n ks place → place < length ks
    → slice_index_or ks place 0 < n → IsBehind n ks (place + 1)
behind_more n ks place b lt here =
    let same : suc place ≡ place + 1 = omega arith in
    record { below = subst (AreBelow n ks) same (below_more n ks place b.below lt here) }

-- what is below it stays before it
later : (n k : ℕ) (ks : List ℕ) → k < n → k ∷ in_order n ks ≡ in_order n (k ∷ ks)
later n k ks lt =
    let test : nat_le n k ≡ false = grind (arith, nat_tests, lt) in
    sym (ap (λ b. cond b (n ∷ k ∷ ks) (k ∷ in_order n ks)) test)

placed : (n : ℕ) (ks : List ℕ) (place : ℕ) → AreBelow n ks place → place < length ks
    → n ≤ slice_index_or ks place 0 → insert ks place n ≡ in_order n ks
placed n [] place below lt here = absurd (omega (arith, lt))
placed n (k ∷ ks) zero below lt here =
    let test : nat_le n k ≡ true = grind (arith, nat_tests, here) in
    sym (ap (λ b. cond b (n ∷ k ∷ ks) (k ∷ in_order n ks)) test)
placed n (k ∷ ks) (suc place) below lt here =
    ap (λ xs. k ∷ xs) (placed n ks place below.1 (omega (arith, lt)) here) ∙ later n k ks below.0

pub placed_here : (n : ℕ) (ks : List ℕ) (place : ℕ) → IsBehind n ks place → place < length ks
    → n ≤ slice_index_or ks place 0 → insert ks place n ≡ in_order n ks
placed_here n ks place b lt here = placed n ks place b.below lt here

behind_all : (n : ℕ) (ks : List ℕ) → AreBelow n ks (length ks) → ks ++ n ∷ [] ≡ in_order n ks
behind_all n [] below = refl
behind_all n (k ∷ ks) below = ap (λ xs. k ∷ xs) (behind_all n ks below.1) ∙ later n k ks below.0

pub placed_last : (n : ℕ) (ks : List ℕ) (place : ℕ) → place ≡ length ks → IsBehind n ks place
    → insert ks (length ks) n ≡ in_order n ks
placed_last n ks place all b = insert_end ks n ∙ behind_all n ks (subst (AreBelow n ks) all b.below)
