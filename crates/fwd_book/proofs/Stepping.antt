-- Notes changed number by number, over runs whose numbers rise.
use Rattle.std.proofs.Common.{arith, ◌≡◌, ◌<◌, ◌+◌, ℕ, zero, suc, Bool, true, false, cond, Option, Some, List, [], ◌∷◌, length, take, refl, sym, ap, ◌∙◌}
use Rattle.std.specs.Prelude.{map, option_map, ◌||◌, ◌==◌, slice_get, slice_index_or}
use Rattle.std.specs.List.{list_any}
use Rattle.std.proofs.lemmas.Bool.{eqb-true}
use Rattle.std.proofs.lemmas.Option.{slice_get-get_or, slice_get-map}
use Rattle.std.proofs.Math.Seq.{take-suc}
use Rattle.fwd_chunks.specs.declared.span.Span.{Span}
use Rattle.fwd_chunks.specs.Spans.{AreRising}
use Rattle.fwd_book.specs.ChunkRefs.{ChunkRef}
use Rattle.fwd_book.proofs.Facts.{none_some, or-false, or-true}
use Rattle.fwd_book.proofs.Following.{any-last}

smaller : (m n : ℕ) → m < n → (m == n) ≡ false
smaller m n less = by (m == n) refl
  where
    by : (a : Bool) → (m == n) ≡ a → a ≡ false
    by false e = refl
    by true e = absurd (let same : m ≡ n = eqb-true m n e in omega (arith, same, less))

-- no run before one has its number
pub not_before : (spans : List Span) (i : ℕ) (s : Span) → AreRising (map (λ s. s.number) spans)
    → slice_get spans i ≡ Some s
    → list_any (λ t. t.number == s.number) (take i spans) ≡ false
not_before [] i s rising at = absurd (none_some at)
not_before (t ∷ spans) zero s rising at = refl
not_before (t ∷ spans) (suc i) s rising at =
    let there : slice_get (map (λ s. s.number) spans) i ≡ Some s.number = slice_get-map (λ (s : Span). s.number) spans i ∙ ap (option_map (λ (s : Span). s.number)) at in
    let less : t.number < s.number = rising 0 (suc i) t.number s.number (omega arith) refl there in
    let tail : AreRising (map (λ s. s.number) spans) = λ j k m n before a b. rising (suc j) (suc k) m n (omega (arith, before)) a b in
    ap (λ a. a || list_any (λ r. r.number == s.number) (take i spans)) (smaller t.number s.number less) ∙ not_before spans i s tail at

-- one run more
pub stepped : (f : Option ChunkRef → Option ChunkRef) (old cur new : ℕ → Option ChunkRef) (spans : List Span)
    (i : ℕ) (d : Span)
    → i < length spans → AreRising (map (λ s. s.number) spans)
    → ((n : ℕ) → cur n ≡ cond (list_any (λ s. s.number == n) (take i spans)) (f (old n)) (old n))
    →
    ((n : ℕ) → new n ≡ cond ((slice_index_or spans i d).number == n)
    (f (cur (slice_index_or spans i d).number)) (cur n))
    → (n : ℕ)
    → new n ≡ cond (list_any (λ s. s.number == n) (take (i + 1) spans)) (f (old n)) (old n)
stepped f old cur new spans i d within rising before now n = by (s.number == n) refl
  where
    s : Span
    s = slice_index_or spans i d

    own : cur s.number ≡ old s.number
    own = before s.number ∙ ap (λ a. cond a (f (old s.number)) (old s.number)) (not_before spans i s rising (slice_get-get_or spans i d within))

    next : i + 1 ≡ suc i
    next = omega arith

    more : list_any (λ t. t.number == n) (take (i + 1) spans) ≡
        (list_any (λ t. t.number == n) (take i spans) || (s.number == n))
    more = ap (λ k. list_any (λ t. t.number == n) (take k spans)) next ∙ ap (list_any (λ t. t.number == n)) (take-suc spans i d within) ∙ any-last (λ t. t.number == n) (take i spans) s

    by : (a : Bool) → (s.number == n) ≡ a
        → new n ≡ cond (list_any (λ t. t.number == n) (take (i + 1) spans)) (f (old n)) (old n)
    by true same =
        now n ∙ ap (λ a. cond a (f (cur s.number)) (cur n)) same ∙ ap f own ∙ ap (λ k. f (old k)) (eqb-true s.number n same)
        ∙ ap (λ a. cond a (f (old n)) (old n)) (sym (more ∙ or-true (list_any (λ t. t.number == n) (take i spans)) (s.number == n) same))
    by false same =
        now n ∙ ap (λ a. cond a (f (cur s.number)) (cur n)) same ∙ before n
        ∙ ap (λ a. cond a (f (old n)) (old n)) (sym (more ∙ ap (λ b. list_any (λ t. t.number == n) (take i spans) || b) same ∙ or-false (list_any (λ t. t.number == n) (take i spans))))

-- the number of a run was not changed by those before it
pub unchanged : (f : Option ChunkRef → Option ChunkRef) (old cur : ℕ → Option ChunkRef) (spans : List Span)
    (i : ℕ) (d : Span)
    → i < length spans → AreRising (map (λ s. s.number) spans)
    → ((n : ℕ) → cur n ≡ cond (list_any (λ s. s.number == n) (take i spans)) (f (old n)) (old n))
    → cur (slice_index_or spans i d).number ≡ old (slice_index_or spans i d).number
unchanged f old cur spans i d within rising before =
    before (slice_index_or spans i d).number
    ∙ ap (λ a. cond a (f (old (slice_index_or spans i d).number)) (old (slice_index_or spans i d).number)) (not_before spans i (slice_index_or spans i d) rising (slice_get-get_or spans i d within))
