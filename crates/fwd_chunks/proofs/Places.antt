-- Chunks by their places.
use Rattle.std.proofs.Common.{◌≡◌, ℕ, zero, suc, ◌<◌, ◌≤◌, Bool, true, false, cond, List, [], ◌∷◌, length, Option, Some, None, refl, sym, ap, ◌∙◌, subst, arith}
use Rattle.std.specs.Prelude.{filter, find, not, ◌==◌, ◌&&◌, slice_get, position, nat_lt, get_or}
use Rattle.std.specs.List.{AllByRecursion, position_or_len}
use Rattle.std.proofs.lemmas.List.Folds.{find_at}
use Rattle.std.proofs.lemmas.Bool.{ltb-true, ltb-false}
use Rattle.fwd_chunks.specs.declared.chunk.Chunk.{Chunk}
use Rattle.fwd_chunks.specs.Live.{changed, is_at, is_taken}
use Rattle.fwd_chunks.specs.Soundness.{IsBefore, AreInOrder}
use Rattle.fwd_chunks.proofs.Numbers.{not_from}
use Rattle.std.proofs.lemmas.Option.{same_Some}
use Rattle.std.proofs.lemmas.Bool.{eqb-true}

pub none_some : {X : Type 0} {c : X} → None ≡ Some c → ⊥
none_some e = cc

pub unchanged : (k : ℕ) (f : Chunk → Chunk) (c : Chunk) (chunks : List Chunk) → c.number ≡ k
    → AllByRecursion (IsBefore c) chunks → changed (is_at k) f chunks ≡ chunks
unchanged k f c [] same all = refl
unchanged k f c (x ∷ chunks) same all =
    let apart : (x.number == k) ≡ false = not_from (x.number == k) (λ e. absurd (omega (arith, all.0.lower, same, eqb-true x.number k e))) in
    λ i. cond (apart i) (f x) x ∷ unchanged k f c chunks same all.1 i

none_at : (k : ℕ) (c : Chunk) (chunks : List Chunk) → c.number ≡ k
    → AllByRecursion (IsBefore c) chunks → filter (is_at k) chunks ≡ []
none_at k c [] same all = refl
none_at k c (x ∷ chunks) same all =
    let apart : (x.number == k) ≡ false = not_from (x.number == k) (λ e. absurd (omega (arith, all.0.lower, same, eqb-true x.number k e))) in
    λ i. cond (apart i) (x ∷ none_at k c chunks same all.1 i) (none_at k c chunks same all.1 i)

-- the chunk of a number
pub filter-found : (n : ℕ) (chunks : List Chunk) (c : Chunk) → AreInOrder chunks
    → find (is_at n) chunks ≡ Some c → filter (is_at n) chunks ≡ c ∷ []
filter-found n [] c h e = absurd (none_some e)
filter-found n (x ∷ chunks) c h e = by (is_at n x) refl (filter-found n chunks c h.1)
  where
    by : (b : Bool) → is_at n x ≡ b
        → (find (is_at n) chunks ≡ Some c → filter (is_at n) chunks ≡ c ∷ [])
        → filter (is_at n) (x ∷ chunks) ≡ c ∷ []
    by true t rest =
        let same : x ≡ c = same_Some _ _ (ap (λ d. cond d (Some x) (find (is_at n) chunks)) (sym t) ∙ e) in
        ap (λ b. cond b (x ∷ filter (is_at n) chunks) (filter (is_at n) chunks)) t
        ∙ (λ i. same i ∷ none_at n x chunks (eqb-true x.number n t) h.0 i)
    by false t rest =
        ap (λ b. cond b (x ∷ filter (is_at n) chunks) (filter (is_at n) chunks)) t
        ∙ rest (ap (λ d. cond d (Some x) (find (is_at n) chunks)) (sym t) ∙ e)

pub filter-gone : (n : ℕ) (chunks : List Chunk) → find (is_at n) chunks ≡ None
    → (filter (is_at n) chunks ≡ []) × (filter (λ d. not (is_at n d)) chunks ≡ chunks)
filter-gone n [] e = (refl, refl)
filter-gone n (x ∷ chunks) e = by (is_at n x) refl (filter-gone n chunks)
  where
    by : (b : Bool) → is_at n x ≡ b
        →
        (find (is_at n) chunks ≡ None → (filter (is_at n) chunks ≡ [])
        × (filter (λ d. not (is_at n d)) chunks ≡ chunks))
        → (filter (is_at n) (x ∷ chunks) ≡ []) ×
        (filter (λ d. not (is_at n d)) (x ∷ chunks) ≡ x ∷ chunks)
    by true t rest = absurd (none_some (sym (ap (λ d. cond d (Some x) (find (is_at n) chunks)) (sym t) ∙ e)))
    by false t rest =
        let more = rest (ap (λ d. cond d (Some x) (find (is_at n) chunks)) (sym t) ∙ e) in (
          ap (λ b. cond b (x ∷ filter (is_at n) chunks) (filter (is_at n) chunks)) t ∙ more.0,
          ap (λ b. cond (not b) (x ∷ filter (λ d. not (is_at n d)) chunks) (filter (λ d. not (is_at n d)) chunks)) t ∙ ap (λ l. x ∷ l) more.1,
        )

pub found-number : (n : ℕ) (chunks : List Chunk) (c : Chunk) → find (is_at n) chunks ≡ Some c
    → c.number ≡ n
found-number n [] c e = absurd (none_some e)
found-number n (x ∷ chunks) c e = by (is_at n x) refl (found-number n chunks c)
  where
    by : (b : Bool) → is_at n x ≡ b → (find (is_at n) chunks ≡ Some c → c.number ≡ n) → c.number ≡ n
    by true t rest = sym (ap (λ y. y.number) (same_Some _ _ (ap (λ d. cond d (Some x) (find (is_at n) chunks)) (sym t) ∙ e))) ∙ eqb-true x.number n t
    by false t rest = rest (ap (λ d. cond d (Some x) (find (is_at n) chunks)) (sym t) ∙ e)

-- the chunk of a number, if a worker has it
abbrev pub if_taken : Option Chunk → Option Chunk
if_taken None = None
if_taken (Some c) = cond (is_taken c.stage) (Some c) None

not-above : (n : ℕ) (c : Chunk) (chunks : List Chunk) → c.number ≡ n
    → AllByRecursion (IsBefore c) chunks → find (λ d. is_at n d && is_taken d.stage) chunks ≡ None
not-above n c [] same all = refl
not-above n c (x ∷ chunks) same all =
    let apart : is_at n x ≡ false = not_from (is_at n x) (λ e. absurd (omega (arith, all.0.lower, same, eqb-true x.number n e))) in
    ap (λ b. cond (b && is_taken x.stage) (Some x) (find (λ d. is_at n d && is_taken d.stage) chunks)) apart ∙ not-above n c chunks same all.1

pub taken-found : (n : ℕ) (chunks : List Chunk) → AreInOrder chunks
    → find (λ d. is_at n d && is_taken d.stage) chunks ≡ if_taken (find (is_at n) chunks)
taken-found n [] h = refl
taken-found n (x ∷ chunks) h = by (is_at n x) (is_taken x.stage) refl refl (taken-found n chunks h.1)
  where
    by : (b t : Bool) → is_at n x ≡ b → is_taken x.stage ≡ t
        → find (λ d. is_at n d && is_taken d.stage) chunks ≡ if_taken (find (is_at n) chunks)
        → find (λ d. is_at n d && is_taken d.stage) (x ∷ chunks) ≡ if_taken
        (find (is_at n) (x ∷ chunks))
    by true true at has rest =
        (λ i. cond (at i && has i) (Some x) (find (λ d. is_at n d && is_taken d.stage) chunks))
        ∙ ap (λ b. cond b (Some x) None) (sym has)
        ∙ ap (λ b. if_taken (cond b (Some x) (find (is_at n) chunks))) (sym at)
    by true false at has rest =
        (λ i. cond (at i && has i) (Some x) (find (λ d. is_at n d && is_taken d.stage) chunks))
        ∙ not-above n x chunks (eqb-true x.number n at) h.0
        ∙ ap (λ b. cond b (Some x) None) (sym has)
        ∙ ap (λ b. if_taken (cond b (Some x) (find (is_at n) chunks))) (sym at)
    by false t at has rest =
        ap (λ b. cond (b && is_taken x.stage) (Some x) (find (λ d. is_at n d && is_taken d.stage) chunks)) at
        ∙ rest
        ∙ ap (λ b. if_taken (cond b (Some x) (find (is_at n) chunks))) (sym at)

-- ---- the place that a search answers

pub get-past : {X : Type 0} (xs : List X) (i : ℕ) → length xs ≤ i → slice_get xs i ≡ None
get-past [] i le = refl
get-past (x ∷ xs) zero le = absurd (omega arith)
get-past (x ∷ xs) (suc i) le = get-past xs i (omega arith)

pub get-or-at : {X : Type 0} (xs : List X) (i : ℕ) (d : X) → i < length xs
    → slice_get xs i ≡ Some (get_or xs i d)
get-or-at [] i d lt = absurd (omega (arith, lt))
get-or-at (x ∷ xs) zero d lt = refl
get-or-at (x ∷ xs) (suc i) d lt = get-or-at xs i d (omega (arith, lt))

pub get-within : {X : Type 0} (xs : List X) (i : ℕ) → i < length xs → slice_get xs i ≡ None → ⊥
get-within [] i lt e = absurd (omega arith)
get-within (x ∷ xs) zero lt e = none_item (sym e)
  where
    none_item : None ≡ Some x → ⊥
    none_item f = cc
get-within (x ∷ xs) (suc i) lt e = get-within xs i (omega arith) e

place_by : {X : Type 0} (p : X → Bool) (chunks : List X) (b : Bool)
    → nat_lt (position_or_len p chunks) (length chunks) ≡ b
    → position p chunks ≡ cond b (Some (position_or_len p chunks)) None
place_by p chunks b e = ap (λ t. cond t (Some (position_or_len p chunks)) None) e

pub place-found : {X : Type 0} (p : X → Bool) (chunks : List X) (i : ℕ)
    → position p chunks ≡ Some i → find p chunks ≡ slice_get chunks i
place-found p chunks i e = by (nat_lt (position_or_len p chunks) (length chunks)) refl
  where
    by : (b : Bool) → nat_lt (position_or_len p chunks) (length chunks) ≡ b
        → find p chunks ≡ slice_get chunks i
    by true f = find_at p chunks ∙ ap (slice_get chunks) (number (sym (place_by p chunks true f) ∙ e))
      where
        number : Some (position_or_len p chunks) ≡ Some i → position_or_len p chunks ≡ i
        number g = cc
    by false f = absurd (none_some (sym (place_by p chunks false f) ∙ e))

pub place-none : {X : Type 0} (p : X → Bool) (chunks : List X) → position p chunks ≡ None
    → find p chunks ≡ None
place-none p chunks e = by (nat_lt (position_or_len p chunks) (length chunks)) refl
  where
    by : (b : Bool) → nat_lt (position_or_len p chunks) (length chunks) ≡ b → find p chunks ≡ None
    by true f = absurd (none_some (sym e ∙ place_by p chunks true f))
    by false f = find_at p chunks ∙ get-past chunks (position_or_len p chunks) (ltb-false (position_or_len p chunks) (length chunks) f)

pub place-within : {X : Type 0} (p : X → Bool) (chunks : List X) (i : ℕ)
    → position p chunks ≡ Some i → i < length chunks
place-within p chunks i e = by (nat_lt (position_or_len p chunks) (length chunks)) refl
  where
    by : (b : Bool) → nat_lt (position_or_len p chunks) (length chunks) ≡ b → i < length chunks
    by true f = subst (λ n. n < length chunks) (number (sym (place_by p chunks true f) ∙ e)) (ltb-true (position_or_len p chunks) (length chunks) f)
      where
        number : Some (position_or_len p chunks) ≡ Some i → position_or_len p chunks ≡ i
        number g = cc
    by false f = absurd (none_some (sym (place_by p chunks false f) ∙ e))

-- where a place is searched
pub place-is : {X : Type 0} (p : X → Bool) (xs : List X) (i : ℕ) → position p xs ≡ Some i
    → position_or_len p xs ≡ i
place-is p xs i e = by (nat_lt (position_or_len p xs) (length xs)) refl
  where
    by : (b : Bool) → nat_lt (position_or_len p xs) (length xs) ≡ b → position_or_len p xs ≡ i
    by true f = number (sym (place_by p xs true f) ∙ e)
      where
        number : Some (position_or_len p xs) ≡ Some i → position_or_len p xs ≡ i
        number g = cc
    by false f = absurd (none_some (sym (place_by p xs false f) ∙ e))

pub place-past : {X : Type 0} (p : X → Bool) (xs : List X) → position p xs ≡ None
    → length xs ≤ position_or_len p xs
place-past p xs e = by (nat_lt (position_or_len p xs) (length xs)) refl
  where
    by : (b : Bool) → nat_lt (position_or_len p xs) (length xs) ≡ b
        → length xs ≤ position_or_len p xs
    by true f = absurd (none_some (sym e ∙ place_by p xs true f))
    by false f = ltb-false (position_or_len p xs) (length xs) f
