-- The first key within a limit, level by level.
use Rattle.std.proofs.Common.{◌≡◌, ℕ, zero, suc, ◌+◌, ◌-◌, ◌*◌, ◌/◌, ◌<◌, ◌≤◌, ◌⊎◌, Bool, true, false, cond, ltb, List, length, Option, Some, None, refl, sym, ap, ◌∙◌, subst, inl, inr, arith}
use Rattle.std.specs.Prelude.{◌||◌, nat_le}
use Rattle.std.specs.List.{position_or_len}
use Rattle.std.proofs.lemmas.Bool.{cases_lt, or_parts, true≢false, both_ways, lt-ltb, le-ltb}
use Rattle.std.proofs.lemmas.Bool.Decides.{nat_tests}
use Rattle.std.proofs.lemmas.List.{get_or_past}
use Rattle.std.proofs.lemmas.List.Sums.{position_or_len_is}
use Rattle.fwd_chunks.specs.MinTrees.{is_within, first_within}
use Rattle.fwd_chunks.specs.Levels.{Levels, keys_at, key_at, lesser, IsOver, IsTower}
use Rattle.fwd_chunks.proofs.Halves.{halves}
use Rattle.fwd_chunks.proofs.Towers.{tower-over}

-- whether the key at a place is within the limit
abbrev pub within_at : ℕ → List (Option ℕ) → ℕ → Bool
within_at limit keys k = is_within limit (key_at keys k)

-- no key is within the limit
abbrev pub NoneWithin : ℕ → List (Option ℕ) → Type 0
NoneWithin limit keys = (k : ℕ) → is_within limit (key_at keys k) ≡ false

-- the key at the place is the first within the limit
pub record IsFirst (limit : ℕ) (keys : List (Option ℕ)) (place : ℕ) : Type 0 where
  pub before : (k : ℕ) → k < place → is_within limit (key_at keys k) ≡ false
  pub here : is_within limit (key_at keys place) ≡ true

-- ---- from a level to the one below it

-- the lesser of two keys is within a limit where one of them is
within-lesser : (limit : ℕ) (a b : Option ℕ)
    → is_within limit (lesser a b) ≡ (is_within limit a || is_within limit b)
within-lesser limit None b = refl
within-lesser limit (Some m) None = by (nat_le m limit)
  where
    by : (t : Bool) → t ≡ (t || false)
    by true = refl
    by false = refl
within-lesser limit (Some m) (Some n) = grind (arith, nat_tests)

within-above : (limit : ℕ) (below above : List (Option ℕ)) (k : ℕ) → IsOver below above
    → (within_at limit below (2 * k) || within_at limit below (2 * k + 1)) ≡ within_at limit above k
within-above limit below above k over =
    sym (within-lesser limit (key_at below (2 * k)) (key_at below (2 * k + 1)))
    ∙ ap (is_within limit) (sym (over.keys k))

neither : (limit : ℕ) (below above : List (Option ℕ)) (k : ℕ) → IsOver below above
    → within_at limit above (k / 2) ≡ false → within_at limit below k ≡ false
neither limit below above k over e =
    let left = within_at limit below (2 * (k / 2)) in
    let right = within_at limit below (2 * (k / 2) + 1) in
    let both = or_parts left right (within-above limit below above (k / 2) over ∙ e) in
    elim (halves k) [
      | inl here ↦ ap (within_at limit below) here ∙ both.0
      | inr here ↦ ap (within_at limit below) here ∙ both.1
    ]

none-below : (limit : ℕ) (below above : List (Option ℕ)) → IsOver below above
    → NoneWithin limit above → NoneWithin limit below
none-below limit below above over none = λ k. neither limit below above k over (none (k / 2))

first-left : (limit : ℕ) (below above : List (Option ℕ)) (place : ℕ) → IsOver below above
    → IsFirst limit above place → within_at limit below (2 * place) ≡ true
    → IsFirst limit below (2 * place)
first-left limit below above place over first e = record {
  before = λ k lt. neither limit below above k over (first.before (k / 2) (omega arith));
  here = e;
}

first-right : (limit : ℕ) (below above : List (Option ℕ)) (place : ℕ) → IsOver below above
    → IsFirst limit above place → within_at limit below (2 * place) ≡ false
    → IsFirst limit below (2 * place + 1)
first-right limit below above place over first e = record {
  before = λ k lt. by k lt (cases_lt k (2 * place));
  here = other (within_at limit below (2 * place)) (within_at limit below (2 * place + 1)) e
      (within-above limit below above place over ∙ first.here);
}
  where
    by : (k : ℕ) → k < 2 * place + 1 → (k < 2 * place) ⊎ (2 * place ≤ k)
        → within_at limit below k ≡ false
    by k lt (inl before) = neither limit below above k over (first.before (k / 2) (omega arith))
    by k lt (inr at) = let same : k ≡ 2 * place = omega arith in ap (within_at limit below) same ∙ e

    other : (a b : Bool) → a ≡ false → (a || b) ≡ true → b ≡ true
    other true b f t = absurd (true≢false f)
    other false b f t = t

first-below : (limit : ℕ) (below above : List (Option ℕ)) (place next : ℕ) → IsOver below above
    → IsFirst limit above place
    → next ≡ cond (is_within limit (key_at below (2 * place))) (2 * place) (2 * place + 1)
    → IsFirst limit below next
first-below limit below above place next over first e =
    by (within_at limit below (2 * place)) refl
  where
    at : (t : Bool) → within_at limit below (2 * place) ≡ t
        → cond t (2 * place) (2 * place + 1) ≡ next
    at t f = sym (e ∙ ap (λ b. cond b (2 * place) (2 * place + 1)) f)

    by : (t : Bool) → within_at limit below (2 * place) ≡ t → IsFirst limit below next
    by true f =
        subst (IsFirst limit below) (at true f) (first-left limit below above place over first f)
    by false f =
        subst (IsFirst limit below) (at false f) (first-right limit below above place over first f)

-- a first key is inside, so what stands below it is
first-inside : (limit : ℕ) (keys : List (Option ℕ)) (place : ℕ) → IsFirst limit keys place
    → place < length keys
first-inside limit keys place first = by (cases_lt place (length keys))
  where
    by : (place < length keys) ⊎ (length keys ≤ place) → place < length keys
    by (inl lt) = lt
    by (inr ge) = absurd (both_ways (within_at limit keys place)
        (ap (is_within limit) (get_or_past keys place None ge)) first.here)

-- ---- down a tower

pub descent-inside : (limit : ℕ) (levels : Levels) (level place : ℕ) (below : List (Option ℕ))
    → IsTower levels → 0 < level → level < length levels → below ≡ keys_at levels (level - 1)
    → IsFirst limit (keys_at levels level) place
    → 2 * place < length below
descent-inside limit levels level place below tower some lt e first =
    let over = tower-over levels level tower.over some lt in
    let inside = first-inside limit (keys_at levels level) place first in
    omega (arith, over.count, ap length e)

pub descent-first : (limit : ℕ) (levels : Levels) (level place next : ℕ) (below : List (Option ℕ))
    → IsTower levels → 0 < level → level < length levels → below ≡ keys_at levels (level - 1)
    → IsFirst limit (keys_at levels level) place
    → next ≡ cond (is_within limit (key_at below (2 * place))) (2 * place) (2 * place + 1)
    → IsFirst limit (keys_at levels (level - 1)) next
descent-first limit levels level place next below tower some lt e first chosen =
    let over = tower-over levels level tower.over some lt in
    subst (λ keys. IsFirst limit keys next) e
    (first-below limit below (keys_at levels level) place next
    (subst (λ keys. IsOver keys (keys_at levels level)) (sym e) over) first chosen)

top-none : (limit : ℕ) (keys : List (Option ℕ)) → length keys ≤ 1
    → within_at limit keys 0 ≡ false → NoneWithin limit keys
top-none limit keys few e = by
  where
    by : (k : ℕ) → within_at limit keys k ≡ false
    by zero = e
    by (suc k) = ap (is_within limit) (get_or_past keys (suc k) None (omega arith))

none-down : (limit : ℕ) (levels : Levels) → IsTower levels
    → NoneWithin limit (keys_at levels (length levels - 1))
    → (d i : ℕ) → i + d + 1 ≡ length levels → NoneWithin limit (keys_at levels i)
none-down limit levels tower none zero i e =
    let last : length levels - 1 ≡ i = omega arith in
    subst (λ n. NoneWithin limit (keys_at levels n)) last none
none-down limit levels tower none (suc d) i e =
    none-below limit (keys_at levels i) (keys_at levels (i + 1)) (tower.over i (omega arith))
    (none-down limit levels tower none d (i + 1) (omega arith))

-- ---- what a search answers

pub first-is : (limit : ℕ) (keys : List (Option ℕ)) (place : ℕ) → IsFirst limit keys place
    → first_within limit keys ≡ Some place
first-is limit keys place first =
    let lt = first-inside limit keys place first in
    let p = is_within limit in
    let at : position_or_len (is_within limit) keys ≡ place = position_or_len_is p keys place None (omega arith) first.before (λ _. first.here) in
    ap (λ n. cond (ltb n (length keys)) (Some n) None) at
    ∙ ap (λ t. cond t (Some place) None) (lt-ltb place (length keys) lt)

pub none-is : (limit : ℕ) (keys : List (Option ℕ)) → NoneWithin limit keys
    → first_within limit keys ≡ None
none-is limit keys none =
    let n = length keys in
    let p = is_within limit in
    let at : position_or_len (is_within limit) keys ≡ length keys = position_or_len_is p keys n None (omega arith) (λ k lt. none k) (λ lt. absurd (omega arith)) in
    ap (λ m. cond (ltb m n) (Some m) None) at
    ∙ ap (λ t. cond t (Some n) None) (le-ltb n n (omega arith))

pub tower-none : (limit : ℕ) (levels : Levels) (top : List (Option ℕ))
    → IsTower levels → 0 < length levels → top ≡ keys_at levels (length levels - 1)
    → is_within limit (key_at top 0) ≡ false
    → first_within limit (keys_at levels 0) ≡ None
tower-none limit levels top tower some e none =
    let highest = keys_at levels (length levels - 1) in
    let there = ap (λ keys. within_at limit keys 0) (sym e) ∙ none in
    none-is limit (keys_at levels 0)
    (none-down limit levels tower (top-none limit highest tower.top there)
    (length levels - 1) 0 (omega arith))
