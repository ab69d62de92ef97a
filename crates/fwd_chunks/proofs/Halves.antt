-- One level over another.
use Rattle.std.proofs.Common.{◌≡◌, ◌≢◌, ℕ, ◌+◌, ◌*◌, ◌/◌, ◌%◌, ◌<◌, ◌⊎◌, List, length, Option, None, sym, ap, ◌∙◌, inl, inr, arith}
use Rattle.std.proofs.Math.ListN.{set}
use Rattle.std.proofs.lemmas.Bool.{cases_lt, cases_eq}
use Rattle.std.proofs.lemmas.List.{get_or-set_same, get_or-set_other, length-set}
use Rattle.fwd_chunks.specs.Levels.{key_at, lesser, IsOver}

-- a place is the left one or the right one of two neighbours
pub halves : (k : ℕ) → (k ≡ 2 * (k / 2)) ⊎ (k ≡ 2 * (k / 2) + 1)
halves k = elim (cases_lt (k % 2) 1) [
  | inl even ↦ inl (omega arith)
  | inr odd ↦ inr (omega arith)
]

-- two levels have as many keys, which differ at one place at most
pub record DiffersAt (place : ℕ) (old new : List (Option ℕ)) : Type 0 where
  pub count : length new ≡ length old
  pub inside : place < length old
  pub keys : (k : ℕ) → k ≢ place → key_at new k ≡ key_at old k

pub set-differs : (keys : List (Option ℕ)) (place : ℕ) (key : Option ℕ) → place < length keys
    → DiffersAt place keys (set keys place key)
set-differs keys place key lt = record {
  count = length-set keys place key;
  inside = lt;
  keys = λ k apart. get_or-set_other keys place k key None apart;
}

pub half-inside : (below above : List (Option ℕ)) (place : ℕ) → IsOver below above
    → place < length below → place / 2 < length above
half-inside below above place over lt = omega (arith, over.count)

-- what follows in the level above from a change below
pub over-set : (old new above : List (Option ℕ)) (place : ℕ) (key : Option ℕ) → IsOver old above
    → DiffersAt place old new
    → key ≡ lesser (key_at new (2 * (place / 2))) (key_at new (2 * (place / 2) + 1))
    → IsOver new (set above (place / 2) key)
over-set old new above place key over change made = record {
  count = length-set above (place / 2) key ∙ over.count ∙ ap (λ n. (n + 1) / 2) (sym change.count);
  keys = λ k. by k (cases_eq k (place / 2));
}
  where
    by : (k : ℕ) → (k ≡ place / 2) ⊎ (k ≡ place / 2 → ⊥)
        → key_at (set above (place / 2) key) k ≡ lesser (key_at new (2 * k))
        (key_at new (2 * k + 1))
    by k (inl same) =
        let inside = half-inside old above place over change.inside in
        ap (key_at (set above (place / 2) key)) same
        ∙ get_or-set_same above (place / 2) key None inside
        ∙ made
        ∙ sym (ap (λ n. lesser (key_at new (2 * n)) (key_at new (2 * n + 1))) same)
    by k (inr apart) =
        let left = change.keys (2 * k) (λ e. apart (omega arith)) in
        let right = change.keys (2 * k + 1) (λ e. apart (omega arith)) in
        get_or-set_other above (place / 2) k key None apart
        ∙ over.keys k
        ∙ sym (λ i. lesser (left i) (right i))
