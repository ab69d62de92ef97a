-- What a caller needs of `first_within`.
use Rattle.std.proofs.Common.{◌≡◌, ℕ, ◌+◌, ◌<◌, ◌≤◌, ◌⊎◌, Bool, true, false, not, cond, ltb, List, [], ◌∷◌, map, length, Option, Some, None, refl, sym, ap, ◌∙◌, inl, inr, arith}
use Rattle.std.proofs.Math.ListN.{set}
use Rattle.std.specs.Prelude.{position}
use Rattle.std.specs.List.{AllByRecursion, position_or_len}
use Rattle.std.proofs.lemmas.Bool.{cases_lt, lt-ltb}
use Rattle.std.proofs.lemmas.List.{get_or_past, length-map, get_or-set_same, get_or-set_other}
use Rattle.std.proofs.lemmas.List.Sums.{fails_before_first}
use Rattle.std.proofs.lemmas.List.Quantifiers.{position-Some}
use Rattle.fwd_chunks.specs.MinTrees.{is_within, first_within}
use Rattle.fwd_chunks.specs.Levels.{key_at}
use Rattle.fwd_chunks.proofs.Descent.{IsFirst, NoneWithin, first-is}

-- the place that is answered is inside, its key is within the limit, and no key before it is
pub first_within-some : (limit : ℕ) (keys : List (Option ℕ)) (place : ℕ)
    → first_within limit keys ≡ Some place → (place < length keys) × IsFirst limit keys place
first_within-some limit keys place e =
    let found = position-Some (is_within limit) keys place None e in
    (found.0, record { before = found.2; here = found.1 })

-- where no place is answered, no key is within the limit
pub first_within-none : (limit : ℕ) (keys : List (Option ℕ)) → first_within limit keys ≡ None
    → NoneWithin limit keys
first_within-none limit keys e k = by (cases_lt k (length keys)) (cases_lt place (length keys))
  where
    place : ℕ
    place = position_or_len (is_within limit) keys

    some : (n : ℕ) → Some n ≡ None → ⊥
    some n f = cc

    by : (k < length keys) ⊎ (length keys ≤ k) → (place < length keys) ⊎ (length keys ≤ place)
        → is_within limit (key_at keys k) ≡ false
    by (inr past) found = ap (is_within limit) (get_or_past keys k None past)
    by (inl lt) (inl found) =
        let there = lt-ltb place (length keys) found in
        absurd (some place (sym (ap (λ t. cond t (Some place) None) there) ∙ e))
    by (inl lt) (inr past) = fails_before_first (is_within limit) keys k None (omega arith)

-- the keys of other things: the first of them that passes a test of their own
pub first_within-map_all : {X : Type 0} (limit : ℕ) (key : X → Option ℕ) (test : X → Bool)
    (xs : List X) → AllByRecursion (λ x. is_within limit (key x) ≡ test x) xs
    → first_within limit (map key xs) ≡ position test xs
first_within-map_all {X = X} limit key test xs all =
    let at = position_or_len test xs in
    ap (λ n. cond (ltb n (length (map key xs))) (Some n) None) (places xs all)
    ∙ ap (λ n. cond (ltb at n) (Some at) None) (length-map xs key)
  where
    places : (ys : List X) → AllByRecursion (λ x. is_within limit (key x) ≡ test x) ys
        → position_or_len (is_within limit) (map key ys) ≡ position_or_len test ys
    places [] same = refl
    places (y ∷ ys) same =
        ap (λ t. cond (not t) (1 + position_or_len (is_within limit) (map key ys)) 0) same.0
        ∙ ap (λ n. cond (not (test y)) (1 + n) 0) (places ys same.1)

pub first_within-map : {X : Type 0} (limit : ℕ) (key : X → Option ℕ) (test : X → Bool)
    (xs : List X) → ((x : X) → is_within limit (key x) ≡ test x)
    → first_within limit (map key xs) ≡ position test xs
first_within-map {X = X} limit key test xs same =
    first_within-map_all limit key test xs (each xs)
  where
    each : (ys : List X) → AllByRecursion (λ x. is_within limit (key x) ≡ test x) ys
    each [] = tt
    each (y ∷ ys) = (same y, each ys)

-- a key that is set and within the limit is answered where no key before it is
pub first_within-set : (limit : ℕ) (keys : List (Option ℕ)) (place : ℕ) (key : Option ℕ)
    → place < length keys → is_within limit key ≡ true
    → ((k : ℕ) → k < place → is_within limit (key_at keys k) ≡ false)
    → first_within limit (set keys place key) ≡ Some place
first_within-set limit keys place key lt within before =
    let other = λ (k : ℕ) (less : k < place). get_or-set_other keys place k key None (λ same. absurd (omega arith)) in
    first-is limit (set keys place key) place (record {
      before = λ k less. ap (is_within limit) (other k less) ∙ before k less;
      here = ap (is_within limit) (get_or-set_same keys place key None lt) ∙ within;
    })
