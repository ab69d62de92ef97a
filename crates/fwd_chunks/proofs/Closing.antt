-- Closing chunks one by one, each found by its number.
use Rattle.std.proofs.Common.{◌≡◌, ℕ, suc, ◌+◌, ◌-◌, ◌^◌, ◌<◌, ◌≤◌, Bool, true, false, cond, eqb, List, [], ◌∷◌, ◌++◌, length, filter, find, Option, Some, None, refl, sym, ap, ◌∙◌, subst, arith}
use Rattle.std.specs.Prelude.{◌&&◌, nat_le, option_to_list, option_map}
use Rattle.std.proofs.lemmas.Bool.{leb-true, le-leb}
use Rattle.std.proofs.lemmas.Bool.Decides.{nat_tests}
use Rattle.std.specs.List.{AllByRecursion}
use Rattle.fwd_chunks.specs.declared.chunk.Chunk.{Chunk}
use Rattle.fwd_chunks.specs.Slots.{Slot}
use Rattle.fwd_chunks.specs.declared.flush.FlushKind.TheVariants.{Due, All}
use Rattle.fwd_chunks.specs.Live.{is_at, is_open, is_due, changed}
use Rattle.fwd_chunks.specs.Slots.{present, NumbersRise, IsOwn, IsUnder, ChunksRise, began_by}
use Rattle.fwd_chunks.proofs.Numbers.{not_from, eq_same}
use Rattle.fwd_chunks.proofs.Places.{none_some}
use Rattle.std.proofs.lemmas.Option.{same_Some}
use Rattle.std.proofs.lemmas.Bool.{eqb-true}

-- ---- the chunks in slots rise with them

above-by : (n m : ℕ) (o : Option Chunk) (rest : List Chunk)
    → AllByRecursion (λ c. c.number ≡ m) (option_to_list o) → n < m
    → AllByRecursion (λ d. n < d.number) rest
    → AllByRecursion (λ d. n < d.number) (option_to_list o ++ rest)
above-by n m None rest own lt all = all
above-by n m (Some c) rest own lt all = (subst (λ k. n < k) (sym own.0) lt, all)

above-all : (n : ℕ) (xs : List Slot) → AllByRecursion (λ s. n < s.number) xs
    → AllByRecursion IsOwn xs → AllByRecursion (λ d. n < d.number) (present xs)
above-all n [] all own = tt
above-all n (x ∷ xs) all own = above-by n x.number x.chunk (present xs) own.0 all.0 (above-all n xs all.1 own.1)

pub chunks-rise : (xs : List Slot) → NumbersRise xs → AllByRecursion IsOwn xs
    → ChunksRise (present xs)
chunks-rise [] rise own = tt
chunks-rise (x ∷ xs) rise own = by x.chunk own.0 (above-all x.number xs rise.0 own.1) (chunks-rise xs rise.1 own.1)
  where
    under : (c : Chunk) (ds : List Chunk) → c.number ≡ x.number
        → AllByRecursion (λ d. x.number < d.number) ds → AllByRecursion (IsUnder c) ds
    under c [] e all = tt
    under c (d ∷ ds) e all = (subst (λ k. k < d.number) (sym e) all.0, under c ds e all.1)

    by : (o : Option Chunk) → AllByRecursion (λ c. c.number ≡ x.number) (option_to_list o)
        → AllByRecursion (λ d. x.number < d.number) (present xs) → ChunksRise (present xs)
        → ChunksRise (option_to_list o ++ present xs)
    by None same all rest = rest
    by (Some c) same all rest = (under c (present xs) same.0 all, rest)

-- ---- one step

unchanged-above : (n : ℕ) (f : Chunk → Chunk) (c : Chunk) (xs : List Chunk) → c.number ≡ n
    → AllByRecursion (IsUnder c) xs → changed (is_at n) f xs ≡ xs
unchanged-above n f c [] same all = refl
unchanged-above n f c (x ∷ xs) same all =
    let apart : is_at n x ≡ false = not_from (is_at n x) (λ e. absurd (omega (arith, all.0, same, eqb-true x.number n e))) in
    λ i. cond (apart i) (f x) x ∷ unchanged-above n f c xs same all.1 i

found-in : (P : Chunk → Type 0) (p : Chunk → Bool) (xs : List Chunk) (c : Chunk)
    → AllByRecursion P xs → find p xs ≡ Some c → P c
found-in P p [] c all e = absurd (none_some e)
found-in P p (x ∷ xs) c all e = by (found-in P p xs c all.1) (p x) refl
  where
    by : (find p xs ≡ Some c → P c) → (b : Bool) → p x ≡ b → P c
    by rest true t = subst P (same_Some _ _ (ap (λ d. cond d (Some x) (find p xs)) (sym t) ∙ e)) all.0
    by rest false t = rest (ap (λ d. cond d (Some x) (find p xs)) (sym t) ∙ e)

module _ (p : Chunk → Bool) (f : Chunk → Chunk) (shut : (c : Chunk) → p (f c) ≡ false) where
  pub closed-once : (xs : List Chunk) (c : Chunk) → ChunksRise xs → find p xs ≡ Some c
      → changed p f (changed (is_at c.number) f xs) ≡ changed p f xs
  closed-once [] c rise e = refl
  closed-once (x ∷ xs) c rise e = by (closed-once xs c rise.1) (p x) refl
    where
      by : (find p xs ≡ Some c → changed p f (changed (is_at c.number) f xs) ≡ changed p f xs)
          → (b : Bool) → p x ≡ b
          → changed p f (changed (is_at c.number) f (x ∷ xs)) ≡ changed p f (x ∷ xs)
      by more true t =
          let is : x ≡ c = same_Some _ _ (ap (λ d. cond d (Some x) (find p xs)) (sym t) ∙ e) in
          let here : is_at c.number x ≡ true = ap (λ y. eqb x.number y.number) (sym is) ∙ eq_same x.number in
          let stay = unchanged-above c.number f x xs (ap (λ y. y.number) is) rise.0 in
          (λ i. changed p f (cond (here i) (f x) x ∷ stay i))
          ∙ ap (λ d. cond d (f (f x)) (f x) ∷ changed p f xs) (shut x)
          ∙ ap (λ d. cond d (f x) x ∷ changed p f xs) (sym t)
      by more false t =
          let rest : find p xs ≡ Some c = ap (λ d. cond d (Some x) (find p xs)) (sym t) ∙ e in
          let lower : x.number < c.number = found-in (IsUnder x) p xs c rise.0 rest in
          let apart : is_at c.number x ≡ false = not_from (is_at c.number x) (λ g. absurd (omega (arith, lower, eqb-true x.number c.number g))) in
          (λ i. changed p f (cond (apart i) (f x) x ∷ changed (is_at c.number) f xs))
          ∙ ap (λ l. cond (p x) (f x) x ∷ l) (more rest)

  pub closed-count : (xs : List Chunk) (c : Chunk) → ChunksRise xs → find p xs ≡ Some c
      → length (filter p (changed (is_at c.number) f xs)) + 1 ≡ length (filter p xs)
  closed-count [] c rise e = absurd (none_some e)
  closed-count (x ∷ xs) c rise e = by (closed-count xs c rise.1) (p x) refl
    where
      by :
          (find p xs ≡ Some c → length (filter p (changed (is_at c.number) f xs)) + 1
          ≡ length (filter p xs))
          → (b : Bool) → p x ≡ b
          → length (filter p (changed (is_at c.number) f (x ∷ xs))) + 1 ≡ length (filter p (x ∷ xs))
      by more true t =
          let is : x ≡ c = same_Some _ _ (ap (λ d. cond d (Some x) (find p xs)) (sym t) ∙ e) in
          let here : is_at c.number x ≡ true = ap (λ y. eqb x.number y.number) (sym is) ∙ eq_same x.number in
          let stay = unchanged-above c.number f x xs (ap (λ y. y.number) is) rise.0 in
          let next : length (filter p xs) + 1 ≡ length (x ∷ filter p xs) = omega arith in
          (λ i. length (filter p (cond (here i) (f x) x ∷ stay i)) + 1)
          ∙ ap (λ d. length (cond d (f x ∷ filter p xs) (filter p xs)) + 1) (shut x)
          ∙ next ∙ ap (λ d. length (cond d (x ∷ filter p xs) (filter p xs))) (sym t)
      by more false t =
          let rest : find p xs ≡ Some c = ap (λ d. cond d (Some x) (find p xs)) (sym t) ∙ e in
          let lower : x.number < c.number = found-in (IsUnder x) p xs c rise.0 rest in
          let apart : is_at c.number x ≡ false = not_from (is_at c.number x) (λ g. absurd (omega (arith, lower, eqb-true x.number c.number g))) in
          (λ i. length (filter p (cond (apart i) (f x) x ∷ changed (is_at c.number) f xs)) + 1)
          ∙ ap (λ d. length (cond d (x ∷ filter p (changed (is_at c.number) f xs)) (filter p (changed (is_at c.number) f xs))) + 1) t
          ∙ more rest
          ∙ ap (λ d. length (cond d (x ∷ filter p xs) (filter p xs))) (sym t)

-- where none passes
pub closed-all : (p : Chunk → Bool) (f : Chunk → Chunk) (xs : List Chunk) → find p xs ≡ None
    → changed p f xs ≡ xs
closed-all p f [] e = refl
closed-all p f (x ∷ xs) e = by (closed-all p f xs) (p x) refl
  where
    by : (find p xs ≡ None → changed p f xs ≡ xs) → (b : Bool) → p x ≡ b
        → changed p f (x ∷ xs) ≡ x ∷ xs
    by rest true t = absurd (none_some (sym (ap (λ d. cond d (Some x) (find p xs)) (sym t) ∙ e)))
    by rest false t =
        ap (λ d. cond d (f x) x ∷ changed p f xs) t
        ∙ ap (λ l. x ∷ l) (rest (ap (λ d. cond d (Some x) (find p xs)) (sym t) ∙ e))

pub none-pass : (p : Chunk → Bool) (xs : List Chunk) → find p xs ≡ None → filter p xs ≡ []
none-pass p [] e = refl
none-pass p (x ∷ xs) e = by (none-pass p xs) (p x) refl
  where
    by : (find p xs ≡ None → filter p xs ≡ []) → (b : Bool) → p x ≡ b → filter p (x ∷ xs) ≡ []
    by rest true t = absurd (none_some (sym (ap (λ d. cond d (Some x) (find p xs)) (sym t) ∙ e)))
    by rest false t =
        ap (λ d. cond d (x ∷ filter p xs) (filter p xs)) t
        ∙ rest (ap (λ d. cond d (Some x) (find p xs)) (sym t) ∙ e)

-- what is found has the number that is read of it
pub number-found : (o : Option Chunk) (n : ℕ) → Some n ≡ option_map (λ c. c.number) o
    → (c : Chunk) × ((o ≡ Some c) × (c.number ≡ n))
number-found None n e = absurd (none_some (sym e))
number-found (Some c) n e = (c, (refl, number e))
  where
    number : Some n ≡ Some c.number → c.number ≡ n
    number f = cc

pub number-none : (o : Option Chunk) → None ≡ option_map (λ c. c.number) o → o ≡ None
number-none None e = refl
number-none (Some c) e = absurd (none_some e)

pub filter-short : {X : Type 0} (p : X → Bool) (xs : List X) → length (filter p xs) ≤ length xs
filter-short p [] = omega arith
filter-short p (x ∷ xs) = by (p x) (filter-short p xs)
  where
    by : (b : Bool) → length (filter p xs) ≤ length xs
        → length (cond b (x ∷ filter p xs) (filter p xs)) ≤ suc (length xs)
    by true rest = omega (arith, rest)
    by false rest = omega (arith, rest)

-- ---- two tests that agree

pub changed-alike : (p q : Chunk → Bool) (f : Chunk → Chunk) (xs : List Chunk)
    → AllByRecursion (λ c. p c ≡ q c) xs → changed p f xs ≡ changed q f xs
changed-alike p q f [] all = refl
changed-alike p q f (x ∷ xs) all = λ i. cond (all.0 i) (f x) x ∷ changed-alike p q f xs all.1 i

pub filter-alike : (p q : Chunk → Bool) (xs : List Chunk) → AllByRecursion (λ c. p c ≡ q c) xs
    → filter p xs ≡ filter q xs
filter-alike p q [] all = refl
filter-alike p q (x ∷ xs) all = λ i. cond (all.0 i) (x ∷ filter-alike p q xs all.1 i) (filter-alike p q xs all.1 i)

pub find-alike : (p q : Chunk → Bool) (xs : List Chunk) → AllByRecursion (λ c. p c ≡ q c) xs
    → find p xs ≡ find q xs
find-alike p q [] all = refl
find-alike p q (x ∷ xs) all = λ i. cond (all.0 i) (Some x) (find-alike p q xs all.1 i)

-- where no chunk passes
pub changed-never : (p : Chunk → Bool) (f : Chunk → Chunk) (xs : List Chunk)
    → ((c : Chunk) → p c ≡ false) → changed p f xs ≡ xs
changed-never p f [] never = refl
changed-never p f (x ∷ xs) never = λ i. cond (never x i) (f x) x ∷ changed-never p f xs never i

pub filter-never : (p : Chunk → Bool) (xs : List Chunk) → ((c : Chunk) → p c ≡ false)
    → filter p xs ≡ []
filter-never p [] never = refl
filter-never p (x ∷ xs) never = ap (λ b. cond b (x ∷ filter p xs) (filter p xs)) (never x) ∙ filter-never p xs never

pub find-never : (p : Chunk → Bool) (xs : List Chunk) → ((c : Chunk) → p c ≡ false)
    → find p xs ≡ None
find-never p [] never = refl
find-never p (x ∷ xs) never = ap (λ b. cond b (Some x) (find p xs)) (never x) ∙ find-never p xs never

-- every open chunk began by the last moment that 64 bits hold
pub all-began : (interval moment : ℕ) (xs : List Chunk)
    → AllByRecursion (λ c. c.since < 2 ^ 64) xs
    → AllByRecursion (λ c. began_by (2 ^ 64 - 1) c ≡ is_due All interval moment c) xs
all-began interval moment [] all = tt
all-began interval moment (x ∷ xs) all = (here (is_open x.stage) (le-leb x.since (2 ^ 64 - 1) (omega (arith, all.0))), all-began interval moment xs all.1)
  where
    here : (b : Bool) → nat_le x.since (2 ^ 64 - 1) ≡ true → (b && nat_le x.since (2 ^ 64 - 1)) ≡ b
    here true e = e
    here false e = refl

-- an open chunk is due where it began the interval before
pub due-began : (interval moment from : ℕ) → from + interval ≡ moment → (xs : List Chunk)
    → AllByRecursion (λ c. began_by from c ≡ is_due Due interval moment c) xs
due-began interval moment from e [] = tt
due-began interval moment from e (x ∷ xs) = (ap (λ b. is_open x.stage && b) same, due-began interval moment from e xs)
  where
    same : nat_le x.since from ≡ nat_le (x.since + interval) moment
    same = grind (arith, nat_tests, e)

-- none is where the interval is longer than the time that passed
pub never-due : (interval moment : ℕ) → moment < interval → (c : Chunk)
    → is_due Due interval moment c ≡ false
never-due interval moment lt c = by (is_open c.stage) (not_from (nat_le (c.since + interval) moment) (λ f. (let below = leb-true (c.since + interval) moment f in omega (arith, below, lt))))
  where
    by : (b : Bool) → nat_le (c.since + interval) moment ≡ false
        → (b && nat_le (c.since + interval) moment) ≡ false
    by true e = e
    by false e = refl
