-- Levels by their numbers.
use Rattle.std.proofs.Common.{◌≡◌, ◌≢◌, ℕ, ◌+◌, ◌-◌, ◌*◌, ◌/◌, ◌<◌, ◌≤◌, ◌⊎◌, ◌++◌, List, [], ◌∷◌, map, length, get_or, Option, Vec, sym, ap, ◌∙◌, subst, inl, inr, arith}
use Rattle.std.proofs.Math.ListN.{set}
use Rattle.std.specs.declared.alloc.Global.{Global}
use Rattle.std.proofs.lemmas.Bool.{cases_lt}
use Rattle.std.proofs.lemmas.List.{get_or-map, get_or_append_left, get_or_push, get_or-set_same, get_or-set_other, map-append, map-set, length-map, length-append}
use Rattle.fwd_chunks.specs.Levels.{Levels, keys_at, key_at, lesser, IsOver}
use Rattle.fwd_chunks.proofs.Halves.{DiffersAt, over-set, half-inside, set-differs}

-- a level as the code keeps it, and its keys
abbrev pub Level : Type 0
Level = Vec (Option ℕ) Global

abbrev pub items : Level → List (Option ℕ)
items v = v.items

inside-too : (levels : Levels) (i : ℕ) → i < length levels → i < length (map items levels)
inside-too levels i lt = omega (arith, length-map levels items)

-- ---- a level that is read, written or pushed

pub keys-read : (levels : Levels) (i : ℕ) (v : Level) → i < length levels
    → (get_or levels i v).items ≡ keys_at levels i
keys-read levels i v lt = sym (get_or-map items levels i v [] lt)

pub keys-item : (levels : Levels) (i : ℕ) (v : Level) → i < length levels
    → v ≡ get_or levels i v → v.items ≡ keys_at levels i
keys-item levels i v lt e = ap items e ∙ keys-read levels i v lt

pub keys-written : (levels : Levels) (i : ℕ) (v : Level) → i < length levels
    → keys_at (set levels i v) i ≡ v.items
keys-written levels i v lt =
    ap (λ ls. get_or ls i []) (map-set items levels i v)
    ∙ get_or-set_same (map items levels) i v.items [] (inside-too levels i lt)

pub keys-kept : (levels : Levels) (i j : ℕ) (v : Level) → j ≢ i
    → keys_at (set levels i v) j ≡ keys_at levels j
keys-kept levels i j v apart =
    ap (λ ls. get_or ls j []) (map-set items levels i v)
    ∙ get_or-set_other (map items levels) i j v.items [] apart

pub keys-before : (levels : Levels) (v : Level) (i : ℕ) → i < length levels
    → keys_at (levels ++ v ∷ []) i ≡ keys_at levels i
keys-before levels v i lt =
    ap (λ ls. get_or ls i []) (map-append items levels (v ∷ []))
    ∙ get_or_append_left (map items levels) (v.items ∷ []) [] i (inside-too levels i lt)

pub keys-pushed : (levels : Levels) (v : Level) (i : ℕ) → length levels ≡ i
    → keys_at (levels ++ v ∷ []) i ≡ v.items
keys-pushed levels v i e =
    ap (λ ls. get_or ls i []) (map-append items levels (v ∷ []))
    ∙ get_or_push (map items levels) v.items [] i (length-map levels items ∙ e)

-- ---- a level more

-- each of the first levels but the first of all stands over the one before it
abbrev pub AreOver : Levels → ℕ → Type 0
AreOver levels count =
    (i : ℕ) → i + 1 < count → IsOver (keys_at levels i) (keys_at levels (i + 1))

pub tower-over : (levels : Levels) (i : ℕ) → AreOver levels (length levels)
    → 0 < i → i < length levels → IsOver (keys_at levels (i - 1)) (keys_at levels i)
tower-over levels i over some lt =
    let up : i - 1 + 1 ≡ i = omega arith in
    subst (λ n. IsOver (keys_at levels (i - 1)) (keys_at levels n)) up (over (i - 1) (omega arith))

over-more : (levels : Levels) (above : Level) → AreOver levels (length levels)
    → IsOver (keys_at levels (length levels - 1)) above.items
    → AreOver (levels ++ above ∷ []) (length levels + 1)
over-more levels above over last = λ i lt. by i lt (cases_lt (i + 1) (length levels))
  where
    by : (i : ℕ) → i + 1 < length levels + 1 → (i + 1 < length levels) ⊎ (length levels ≤ i + 1)
        → IsOver (keys_at (levels ++ above ∷ []) i) (keys_at (levels ++ above ∷ []) (i + 1))
    by i lt (inl within) =
        let one = keys-before levels above i (omega arith) in
        let two = keys-before levels above (i + 1) within in
        subst (λ keys. IsOver keys (keys_at (levels ++ above ∷ []) (i + 1))) (sym one)
        (subst (IsOver (keys_at levels i)) (sym two) (over i within))
    by i lt (inr past) =
        let here : length levels - 1 ≡ i = omega arith in
        let one = keys-before levels above i (omega arith) in
        let two = keys-pushed levels above (i + 1) (omega arith) in
        subst (λ keys. IsOver keys (keys_at (levels ++ above ∷ []) (i + 1))) (sym one)
        (subst (IsOver (keys_at levels i)) (sym two)
        (subst (λ n. IsOver (keys_at levels n) above.items) here last))

pub over-pushed : (levels : Levels) (top above : Level)
    → AreOver (levels ++ top ∷ []) (length (levels ++ top ∷ []))
    → IsOver top.items above.items
    → AreOver (levels ++ top ∷ [] ++ above ∷ []) (length (levels ++ top ∷ [] ++ above ∷ []))
over-pushed levels top above over last =
    let count = length-append (levels ++ top ∷ []) (above ∷ []) in
    let counted = length-append levels (top ∷ []) in
    let here = keys-pushed levels top (length (levels ++ top ∷ []) - 1) (omega arith) in
    subst (AreOver (levels ++ top ∷ [] ++ above ∷ [])) (sym count)
    (over-more (levels ++ top ∷ []) above over (subst (λ k. IsOver k above.items) (sym here) last))

-- ---- a key that changes

-- a change has come up to a level: what is below it fits, and the rest is as it was
pub record IsPut (initial levels : Levels) (keys : List (Option ℕ)) (level place : ℕ) : Type 0 where
  pub over : AreOver levels level
  pub last : DiffersAt place (keys_at initial (level - 1)) (keys_at levels (level - 1))
  pub rest : (i : ℕ) → level ≤ i → keys_at levels i ≡ keys_at initial i
  pub first : keys_at levels 0 ≡ keys

pub put-step : (initial levels : Levels) (keys : List (Option ℕ)) (i place : ℕ) (v : Level)
    (key : Option ℕ) → AreOver initial (length initial) → i < length initial
    → 0 < i → i < length levels → IsPut initial levels keys i place
    → key ≡ lesser (key_at (keys_at levels (i - 1)) (2 * (place / 2)))
    (key_at (keys_at levels (i - 1)) (2 * (place / 2) + 1))
    → v.items ≡ set (keys_at levels i) (place / 2) key
    → IsPut initial (set levels i v) keys (i + 1) (place / 2)
put-step initial levels keys i place v key tower lt-initial some lt before made e = record {
  over = λ j inside. by j inside (cases_lt (j + 1) i);
  last = subst (λ n. DiffersAt (place / 2) (keys_at initial n) (keys_at (set levels i v) n)) back
      (subst (DiffersAt (place / 2) (keys_at initial i)) (sym here)
      (set-differs (keys_at initial i) (place / 2) key inside-above));
  rest = λ j le. keys-kept levels i j v (λ same. absurd (omega arith)) ∙ before.rest j (omega arith);
  first = keys-kept levels i 0 v (λ same. absurd (omega arith)) ∙ before.first;
}
  where
    back : i ≡ i + 1 - 1
    back = omega arith

    below : IsOver (keys_at initial (i - 1)) (keys_at initial i)
    below = tower-over initial i tower some lt-initial

    inside-above : place / 2 < length (keys_at initial i)
    inside-above =
        half-inside (keys_at initial (i - 1)) (keys_at initial i) place below before.last.inside

    here : keys_at (set levels i v) i ≡ set (keys_at initial i) (place / 2) key
    here =
        keys-written levels i v lt ∙ e
        ∙ ap (λ ks. set ks (place / 2) key) (before.rest i (omega arith))

    over-here : IsOver (keys_at levels (i - 1)) (keys_at (set levels i v) i)
    over-here =
        subst (IsOver (keys_at levels (i - 1))) (sym here)
        (over-set (keys_at initial (i - 1)) (keys_at levels (i - 1)) (keys_at initial i) place key
        below before.last made)

    by : (j : ℕ) → j + 1 < i + 1 → (j + 1 < i) ⊎ (i ≤ j + 1)
        → IsOver (keys_at (set levels i v) j) (keys_at (set levels i v) (j + 1))
    by j inside (inl within) =
        let one = keys-kept levels i j v (λ same. absurd (omega arith)) in
        let two = keys-kept levels i (j + 1) v (λ same. absurd (omega arith)) in
        subst (λ ks. IsOver ks (keys_at (set levels i v) (j + 1))) (sym one)
        (subst (IsOver (keys_at levels j)) (sym two) (before.over j within))
    by j inside (inr past) =
        let one : j ≡ i - 1 = omega arith in
        let two : j + 1 ≡ i = omega arith in
        let kept = keys-kept levels i (i - 1) v (λ same. absurd (omega arith)) in
        subst (λ n. IsOver (keys_at (set levels i v) j) (keys_at (set levels i v) n)) (sym two)
        (subst (λ n. IsOver (keys_at (set levels i v) n) (keys_at (set levels i v) i)) (sym one)
        (subst (λ ks. IsOver ks (keys_at (set levels i v) i)) (sym kept) over-here))
