-- What is found under the numbers of requests.
use Rattle.std.proofs.Common.{◌≡◌, ℕ, Bool, true, false, zero, suc, cond, Option, Some, None, List, [], ◌∷◌, ◌++◌, refl, sym, ap, ◌∙◌, inl, inr}
use Rattle.std.specs.Prelude.{◌⊎◌, find, ◌||◌, ◌==◌, option_to_list, slice_get}
use Rattle.std.specs.Option.{option_or}
use Rattle.std.specs.List.{list_any}
use Rattle.std.proofs.lemmas.Bool.{eqb-true, eq-eqb}
use Rattle.std.proofs.lemmas.List.Folds.{find-append}
use Rattle.fwd_chunks.specs.declared.span.Span.{Span}
use Rattle.fwd_session.specs.ServerAcks.{ServerAck}
use Rattle.fwd_book.specs.History.{Entered, evidence_of, has_run}
use Rattle.fwd_book.specs.Live.{found_under, found_for}
use Rattle.fwd_book.proofs.Facts.{apart, none_some, neither_left, neither_right, true-or, or-true}
use Rattle.std.proofs.lemmas.Option.{same_Some}

-- what is found under a number has it
abbrev pub IsNumbered : (ℕ → Option ServerAck) → Type 0
IsNumbered found = (n : ℕ) (e : ServerAck) → found n ≡ Some e → e.number ≡ n

pub numbered : (settled : List ServerAck) → IsNumbered (evidence_of settled)
numbered [] n e found = absurd (none_some found)
numbered (d ∷ settled) n e found = by (d.number == n) refl found (numbered settled n e)
  where
    by : (a : Bool) → (d.number == n) ≡ a → cond a (Some d) (evidence_of settled n) ≡ Some e
        → (evidence_of settled n ≡ Some e → e.number ≡ n) → e.number ≡ n
    by true same f more = sym (ap (λ (x : ServerAck). x.number) (same_Some _ _ f)) ∙ eqb-true d.number n same
    by false same f more = more f

-- ---- where two find alike under numbers that are there, what is found is alike

pub under-alike : (f g : ℕ → Option ServerAck) (spans : List Span)
    → ((n : ℕ) → list_any (λ s. s.number == n) spans ≡ true → f n ≡ g n)
    → found_under f spans ≡ found_under g spans
under-alike f g [] same = refl
under-alike f g (s ∷ spans) same =
    let here = same s.number (true-or (s.number == s.number) (list_any (λ t. t.number == s.number) spans) (eq-eqb s.number s.number refl)) in
    let more = under-alike f g spans (λ n there. same n (or-true (s.number == n) (list_any (λ t. t.number == n) spans) there)) in
    λ i. option_to_list (here i) ++ more i

pub for-alike : (f g : ℕ → Option ServerAck) (qs : List Entered)
    → ((n : ℕ) → list_any (has_run n) qs ≡ true → f n ≡ g n)
    → found_for f qs ≡ found_for g qs
for-alike f g [] same = refl
for-alike f g (q ∷ qs) same =
    let here = under-alike f g q.spans (λ n there. same n (true-or (has_run n q) (list_any (has_run n) qs) there)) in
    let more = for-alike f g qs (λ n there. same n (or-true (has_run n q) (list_any (has_run n) qs) there)) in
    λ i. here i ++ more i

-- ---- what is looked for by its number in what is found

-- nothing is found where nothing has the number
pub under-none : (f : ℕ → Option ServerAck) (spans : List Span) (n : ℕ) → IsNumbered f
    → list_any (λ s. s.number == n) spans ≡ false
    → evidence_of (found_under f spans) n ≡ None
under-none f [] n numbers none = refl
under-none f (s ∷ spans) n numbers none =
    find-append (λ e. e.number == n) (option_to_list (f s.number)) (found_under f spans)
    ∙ ap (λ o. option_or o (evidence_of (found_under f spans) n)) (first (f s.number) refl)
    ∙ under-none f spans n numbers (neither_right (s.number == n) (list_any (λ t. t.number == n) spans) none)
  where
    other : (e : ServerAck) → f s.number ≡ Some e → (e.number == n) ≡ false
    other e found = ap (λ k. k == n) (numbers s.number e found) ∙ neither_left (s.number == n) (list_any (λ t. t.number == n) spans) none

    first : (o : Option ServerAck) → f s.number ≡ o
        → find (λ e. e.number == n) (option_to_list o) ≡ None
    first None found = refl
    first (Some e) found = ap (λ k. cond k (Some e) None) (other e found)

or_same : {X : Type 0} (o : Option X) → option_or o o ≡ o
or_same None = refl
or_same (Some x) = refl

-- a run's own
pub own-found : (f : ℕ → Option ServerAck) (n : ℕ) → IsNumbered f
    → evidence_of (option_to_list (f n)) n ≡ f n
own-found f n numbers = by (f n) refl
  where
    by : (o : Option ServerAck) → f n ≡ o → evidence_of (option_to_list o) n ≡ o
    by None found = refl
    by (Some e) found = ap (λ k. cond k (Some e) None) (eq-eqb e.number n (numbers n e found))

or_none : {X : Type 0} (o : Option X) → option_or o None ≡ o
or_none None = refl
or_none (Some x) = refl

-- where a run has the number, what is found under it is found
pub under-found : (f : ℕ → Option ServerAck) (spans : List Span) (n : ℕ) → IsNumbered f
    → list_any (λ s. s.number == n) spans ≡ true
    → evidence_of (found_under f spans) n ≡ f n
under-found f [] n numbers some = absurd (apart some)
under-found f (s ∷ spans) n numbers some =
    find-append (λ e. e.number == n) (option_to_list (f s.number)) (found_under f spans)
    ∙ by (s.number == n) (list_any (λ t. t.number == n) spans) refl refl some (under-found f spans n numbers)
  where
    rest : Option ServerAck
    rest = evidence_of (found_under f spans) n

    both : (a : Bool) → list_any (λ t. t.number == n) spans ≡ a
        → (list_any (λ t. t.number == n) spans ≡ true → rest ≡ f n) → (rest ≡ f n) ⊎ (rest ≡ None)
    both true there more = inl (more there)
    both false there more = inr (under-none f spans n numbers there)

    join : (rest ≡ f n) ⊎ (rest ≡ None) → option_or (f n) rest ≡ f n
    join (inl e) = ap (option_or (f n)) e ∙ or_same (f n)
    join (inr e) = ap (option_or (f n)) e ∙ or_none (f n)

    other : (e : ServerAck) → f s.number ≡ Some e → (s.number == n) ≡ false → (e.number == n) ≡ false
    other e found not_n = ap (λ k. k == n) (numbers s.number e found) ∙ not_n

    first : (o : Option ServerAck) → f s.number ≡ o → (s.number == n) ≡ false
        → find (λ e. e.number == n) (option_to_list o) ≡ None
    first None found not_n = refl
    first (Some e) found not_n = ap (λ k. cond k (Some e) None) (other e found not_n)

    by : (a b : Bool) → (s.number == n) ≡ a → list_any (λ t. t.number == n) spans ≡ b
        → (a || b) ≡ true
        → (list_any (λ t. t.number == n) spans ≡ true → rest ≡ f n)
        → option_or (evidence_of (option_to_list (f s.number)) n) rest ≡ f n
    by true b same there is more =
        ap (λ k. option_or (evidence_of (option_to_list (f k)) n) rest) (eqb-true s.number n same)
        ∙ ap (λ o. option_or o rest) (own-found f n numbers)
        ∙ join (both b there more)
    by false true same there is more = ap (λ o. option_or o rest) (first (f s.number) refl same) ∙ more there
    by false false same there is more = absurd (apart is)

pub for-none : (f : ℕ → Option ServerAck) (qs : List Entered) (n : ℕ) → IsNumbered f
    → list_any (has_run n) qs ≡ false → evidence_of (found_for f qs) n ≡ None
for-none f [] n numbers none = refl
for-none f (q ∷ qs) n numbers none =
    find-append (λ e. e.number == n) (found_under f q.spans) (found_for f qs)
    ∙ ap (λ o. option_or o (evidence_of (found_for f qs) n)) (under-none f q.spans n numbers (neither_left (has_run n q) (list_any (has_run n) qs) none))
    ∙ for-none f qs n numbers (neither_right (has_run n q) (list_any (has_run n) qs) none)

-- where a request has the number, what is found under it is found
pub for-found : (f : ℕ → Option ServerAck) (qs : List Entered) (n : ℕ) → IsNumbered f
    → list_any (has_run n) qs ≡ true → evidence_of (found_for f qs) n ≡ f n
for-found f [] n numbers some = absurd (apart some)
for-found f (q ∷ qs) n numbers some =
    find-append (λ e. e.number == n) (found_under f q.spans) (found_for f qs)
    ∙ by (has_run n q) (list_any (has_run n) qs) refl refl some (for-found f qs n numbers)
  where
    rest : Option ServerAck
    rest = evidence_of (found_for f qs) n

    join : (b : Bool) → list_any (has_run n) qs ≡ b → (list_any (has_run n) qs ≡ true → rest ≡ f n)
        → option_or (f n) rest ≡ f n
    join true there more = ap (option_or (f n)) (more there) ∙ or_same (f n)
    join false there more = ap (option_or (f n)) (for-none f qs n numbers there) ∙ or_none (f n)

    by : (a b : Bool) → has_run n q ≡ a → list_any (has_run n) qs ≡ b → (a || b) ≡ true
        → (list_any (has_run n) qs ≡ true → rest ≡ f n)
        → option_or (evidence_of (found_under f q.spans) n) rest ≡ f n
    by true b here there is more = ap (λ o. option_or o rest) (under-found f q.spans n numbers here) ∙ join b there more
    by false true here there is more = ap (λ o. option_or o rest) (under-none f q.spans n numbers here) ∙ more there
    by false false here there is more = absurd (apart is)

-- ---- where what is found comes from

-- it is found under the number of a run
pub record Comes (f : ℕ → Option ServerAck) (qs : List Entered) (e : ServerAck) : Type 0 where
  pub number : ℕ
  pub used : list_any (has_run number) qs ≡ true
  pub found : f number ≡ Some e

pub in_both : {X : Type 0} (xs ys : List X) (i : ℕ) (x : X) → slice_get (xs ++ ys) i ≡ Some x
    → ((j : ℕ) × (slice_get xs j ≡ Some x)) ⊎ ((j : ℕ) × (slice_get ys j ≡ Some x))
in_both [] ys i x e = inr (i, e)
in_both (y ∷ xs) ys zero x e = inl (0, e)
in_both (y ∷ xs) ys (suc i) x e = by (in_both xs ys i x e)
  where
    by : ((j : ℕ) × (slice_get xs j ≡ Some x)) ⊎ ((j : ℕ) × (slice_get ys j ≡ Some x))
        → ((j : ℕ) × (slice_get (y ∷ xs) j ≡ Some x)) ⊎ ((j : ℕ) × (slice_get ys j ≡ Some x))
    by (inl at) = inl (suc at.0, at.1)
    by (inr at) = inr at

record Under (f : ℕ → Option ServerAck) (spans : List Span) (e : ServerAck) : Type 0 where
  pub number : ℕ
  pub used : list_any (λ s. s.number == number) spans ≡ true
  pub found : f number ≡ Some e

comes_under : (f : ℕ → Option ServerAck) (spans : List Span) (i : ℕ) (e : ServerAck)
    → slice_get (found_under f spans) i ≡ Some e → Under f spans e
comes_under f [] i e here = absurd (none_some here)
comes_under f (s ∷ spans) i e here = by (in_both (option_to_list (f s.number)) (found_under f spans) i e here) (comes_under f spans)
  where
    one : (o : Option ServerAck) (j : ℕ) → f s.number ≡ o → slice_get (option_to_list o) j ≡ Some e
        → f s.number ≡ Some e
    one None j found at = absurd (none_some at)
    one (Some d) zero found at = found ∙ at
    one (Some d) (suc j) found at = absurd (none_some at)

    by : ((j : ℕ) × (slice_get (option_to_list (f s.number)) j ≡ Some e)) ⊎
        ((j : ℕ) × (slice_get (found_under f spans) j ≡ Some e))
        → ((j : ℕ) (d : ServerAck) → slice_get (found_under f spans) j ≡ Some d → Under f spans d)
        → Under f (s ∷ spans) e
    by (inl at) more = record {
      number = s.number;
      used = true-or (s.number == s.number) (list_any (λ t. t.number == s.number) spans) (eq-eqb s.number s.number refl);
      found = one (f s.number) at.0 refl at.1;
    }
    by (inr at) more = let u = more at.0 e at.1 in record {
      number = u.number;
      used = or-true (s.number == u.number) (list_any (λ t. t.number == u.number) spans) u.used;
      found = u.found;
    }

pub comes : (f : ℕ → Option ServerAck) (qs : List Entered) (i : ℕ) (e : ServerAck)
    → slice_get (found_for f qs) i ≡ Some e → Comes f qs e
comes f [] i e here = absurd (none_some here)
comes f (q ∷ qs) i e here = by (in_both (found_under f q.spans) (found_for f qs) i e here) (comes f qs)
  where
    by : ((j : ℕ) × (slice_get (found_under f q.spans) j ≡ Some e)) ⊎
        ((j : ℕ) × (slice_get (found_for f qs) j ≡ Some e))
        → ((j : ℕ) (d : ServerAck) → slice_get (found_for f qs) j ≡ Some d → Comes f qs d)
        → Comes f (q ∷ qs) e
    by (inl at) more = let u = comes_under f q.spans at.0 e at.1 in record {
      number = u.number;
      used = true-or (has_run u.number q) (list_any (has_run u.number) qs) u.used;
      found = u.found;
    }
    by (inr at) more = let u = more at.0 e at.1 in record {
      number = u.number;
      used = or-true (has_run u.number q) (list_any (has_run u.number) qs) u.used;
      found = u.found;
    }

-- what is found by its number stands in the list
pub found_there : (settled : List ServerAck) (n : ℕ) (e : ServerAck) → evidence_of settled n ≡ Some e
    → (i : ℕ) × (slice_get settled i ≡ Some e)
found_there [] n e found = absurd (none_some found)
found_there (d ∷ settled) n e found = by (d.number == n) found (found_there settled n e)
  where
    by : (a : Bool) → cond a (Some d) (evidence_of settled n) ≡ Some e
        → (evidence_of settled n ≡ Some e → (i : ℕ) × (slice_get settled i ≡ Some e))
        → (i : ℕ) × (slice_get (d ∷ settled) i ≡ Some e)
    by true f more = (0, f)
    by false f more = let at = more f in (suc at.0, at.1)
