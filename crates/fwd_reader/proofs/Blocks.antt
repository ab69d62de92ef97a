-- Lists of which nothing is left.
use Rattle.std.proofs.Common.{◌≡◌, ◌≢◌, ◌==◌, ◌++◌, [], ◌∷◌, ℕ, Bool, true, false, true≢false, not, List, length, append-nil, drop, refl, ap, sym, ◌∙◌, subst}
use Rattle.std.specs.Prelude.{All}
use Rattle.std.specs.List.{flat_map}
use Rattle.std.proofs.lemmas.List.Elements.{All-drop, All-head}
use Rattle.std.proofs.Common.{arith}
use Rattle.std.proofs.lemmas.Bool.Decides.{nat_tests}

-- where two lists joined are none, each is
pub nil_first : {X : Type 0} (xs ys : List X) → xs ++ ys ≡ [] → xs ≡ []
nil_first [] ys h = refl
nil_first (x ∷ xs) ys h = grind arith

pub nil_second : {X : Type 0} (xs ys : List X) → xs ++ ys ≡ [] → ys ≡ []
nil_second [] ys h = h
nil_second (x ∷ xs) ys h = grind arith

-- what holds of each of some holds of each behind the first
pub all_rest : {X : Type 0} (P : X → Type 0) (whole rest : List X) → rest ≡ drop 1 whole
    → All P whole → All P rest
all_rest P whole rest e all = subst (All P) (sym e) (All-drop P 1 whole all)

-- blocks none of which is empty have a ticket, if there is one
pub no_blocks : {X Y : Type 0} (items : X → List Y) (blocks : List X)
    → All (λ block. items block ≢ []) blocks → flat_map items blocks ≡ [] → blocks ≡ []
no_blocks items [] all none = refl
no_blocks items (x ∷ xs) all none =
    absurd (All-head (λ block. items block ≢ []) x xs all
    (nil_first (items x) (flat_map items xs) none))

-- and so has a list of such blocks with a last one
pub no_ticket : {X Y : Type 0} (items : X → List Y) (blocks : List X) (last : List Y)
    → All (λ block. items block ≢ []) blocks → flat_map items blocks ++ last ≡ []
    → (blocks ≡ []) × (last ≡ [])
no_ticket items blocks last all none = (
  no_blocks items blocks all (nil_first (flat_map items blocks) last none),
  nil_second (flat_map items blocks) last none,
)

-- where blocks have a ticket there is one
pub some_blocks : {X Y : Type 0} (items : X → List Y) (blocks : List X) (count : ℕ)
    → count ≡ length blocks → flat_map items blocks ≢ [] → (count == 0) ≡ false
some_blocks items [] count same some = absurd (some refl)
some_blocks items (x ∷ xs) count same some = grind (arith, nat_tests)

-- with no last block, and the same blocks before, a list has the same tickets
pub of_blocks : {X Y : Type 0} (items : X → List Y) (blocks other : List X) (last : List Y)
    → last ≡ [] → blocks ≡ other → flat_map items blocks ++ last ≡ flat_map items other
of_blocks items blocks other last none same =
    ap (λ rest. flat_map items blocks ++ rest) none ∙ append-nil (flat_map items blocks)
    ∙ ap (flat_map items) same

-- where there is no block no test finds one
pub none_found : (is_empty : Bool) (count : ℕ) → not is_empty ≡ true → is_empty ≡ (count == 0)
    → count ≡ 0 → ⊥
none_found is_empty count some is none =
    true≢false (sym some ∙ ap not (is ∙ ap (λ n. n == 0) none))
