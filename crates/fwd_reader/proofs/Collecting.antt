-- Outputs that are collected one after the other.
use Rattle.std.proofs.Common.{arith, ◌≡◌, ◌<◌, ◌≤◌, ◌+◌, ◌||◌, ◌⊎◌, ◌∙◌, ℕ, zero, suc, Bool, true, false, List, [], ◌∷◌, Some, length, get_or, take, min, inl, inr, refl, sym, ap, subst, length-set}
use Rattle.std.specs.Prelude.{All, slice_set}
use Rattle.std.specs.List.{slice_get}
use Rattle.std.proofs.lemmas.List.{map-set}
use Rattle.std.proofs.lemmas.List.Elements.{All-cons, All-head, All-nil, All-tail}
use Rattle.fwd_reader.specs.declared.open_tickets.OpenTickets.{OpenTickets}
use Rattle.fwd_reader.specs.declared.output_route.OutputRoute.{OutputRoute}
use Rattle.fwd_reader.specs.Collections.{CollectsInPart, CollectsWhole}
use Rattle.fwd_reader.specs.OpenTickets.{AreQuiet, TellsDue}
use Rattle.fwd_reader.specs.Rounds.{ChangesAt, CollectsEach, CollectsFirst, CollectsNow, CollectsOnce, CollectsTimes, most_rounds}
use Rattle.fwd_reader.specs.Routers.{RouterShown, stores_of}
use Rattle.fwd_reader.specs.Tellings.{Sources}
use Rattle.fwd_reader.proofs.Admitting.{got}

-- it is told whether something is to be handed in
pub tells : (b : Bool) (s : OpenTickets) → (b ≡ false → AreQuiet s)
    → (b ≡ true → ¬ (AreQuiet s)) → TellsDue b s
tells true s quiet due = due refl
tells false s quiet due = quiet refl

-- the tickets of the route at a place become others
pub changes : {J : Type 0} (P : OpenTickets → OpenTickets → Type 0) (xs : List (OutputRoute J)) (n : ℕ)
    (x y : OutputRoute J) → n < length xs → x ≡ get_or xs n x → P x.open_tickets y.open_tickets
    → ChangesAt P (stores_of xs) n (stores_of (slice_set xs n y))
changes P xs n x y lt is changed = record {
  store = x.open_tickets;
  there = got xs n x lt is;
  changed = y.open_tickets;
  is = changed;
  others = map-set (λ o. o.open_tickets) xs n y;
}

-- what was put at a place is there
pub set_there : (ss : List OpenTickets) (n : ℕ) (s t : OpenTickets) → slice_get ss n ≡ Some s
    → slice_get (slice_set ss n t) n ≡ Some t
set_there [] n s t there = absurd cc
set_there (x ∷ xs) zero s t there = refl
set_there (x ∷ xs) (suc n) s t there = set_there xs n s t there

pub set_twice : (ss : List OpenTickets) (n : ℕ) (s t : OpenTickets)
    → slice_set (slice_set ss n s) n t ≡ slice_set ss n t
set_twice [] n s t = refl
set_twice (x ∷ xs) zero s t = refl
set_twice (x ∷ xs) (suc n) s t = ap (λ l. x ∷ l) (set_twice xs n s t)

pub some_same : (s t : OpenTickets) → Some s ≡ Some t → s ≡ t
some_same s t e = cc

module _ (told : Sources) where
  -- an output is collected in full
  pub at_once : (told_then : Sources) (more : Bool) (stores after : List OpenTickets) (n : ℕ)
      → ChangesAt (λ s t. CollectsWhole most_rounds s told t told_then × TellsDue more t) stores n after
      → ChangesAt (λ s t. CollectsOnce s told more t told_then) stores n after
  at_once told_then more stores after n at = record {
    store = at.store;
    there = at.there;
    changed = at.changed;
    is = inl at.is;
    others = at.others;
  }

  -- or in part, and then once more
  pub at_twice : (told_between told_then : Sources) (more : Bool)
      (stores between after : List OpenTickets) (n : ℕ)
      → ChangesAt (λ s t. CollectsInPart s told t told_between) stores n between
      → ChangesAt (λ s t. CollectsNow s told_between more t told_then) between n after
      → ChangesAt (λ s t. CollectsOnce s told more t told_then) stores n after
  at_twice told_between told_then more stores between after n first then_so = record {
    store = first.store;
    there = first.there;
    changed = then_so.changed;
    is = inr (
      first.changed,
      (
        told_between,
        (
          first.is,
          subst (λ s. CollectsNow s told_between more then_so.changed told_then) same then_so.is,
        ),
      ),
    );
    others = then_so.others ∙ ap (λ l. slice_set l n then_so.changed) first.others
        ∙ set_twice stores n first.changed then_so.changed;
  }
    where
      same : then_so.store ≡ first.changed
      same = some_same then_so.store first.changed
          (sym then_so.there ∙ ap (λ l. slice_get l n) first.others
          ∙ set_there stores n first.store first.changed first.there)

-- which is so with the memory that is to be had: in full, or in part
pub in_full : (told told_then : Sources) (more : Bool) (stores after : List OpenTickets) (n : ℕ)
    → ChangesAt (λ s t. CollectsWhole most_rounds s told t told_then × TellsDue more t) stores n after
    → ChangesAt (λ s t. CollectsNow s told more t told_then) stores n after
in_full told told_then more stores after n at = record {
  store = at.store;
  there = at.there;
  changed = at.changed;
  is = inl at.is;
  others = at.others;
}

pub in_part : (told told_then : Sources) (stores after : List OpenTickets) (n : ℕ)
    → ChangesAt (λ s t. CollectsInPart s told t told_then) stores n after
    → ChangesAt (λ s t. CollectsNow s told false t told_then) stores n after
in_part told told_then stores after n at = record {
  store = at.store;
  there = at.there;
  changed = at.changed;
  is = inr (at.is, refl);
  others = at.others;
}

-- no output is collected
pub first_none : (stores : List OpenTickets) (told : Sources)
    → CollectsFirst 0 stores told false stores told
unfolding CollectsFirst
first_none stores told = (refl, refl, refl)

-- one more is
pub first_more : (n : ℕ) (stores between after : List OpenTickets) (told told_between told_then : Sources)
    (before here : Bool) → CollectsFirst n stores told before between told_between
    → ChangesAt (λ s t. CollectsOnce s told_between here t told_then) between n after
    → CollectsFirst (n + 1) stores told (here || before) after told_then
unfolding CollectsFirst
first_more n stores between after told told_between told_then before here first at =
    let next : suc n ≡ n + 1 = omega arith in
    subst (λ m. CollectsFirst m stores told (here || before) after told_then) next
    (between, (told_between, (before, (here, (first, at, refl)))))

-- there are as many as before
pub first_length : (n : ℕ) (stores after : List OpenTickets) (told told_then : Sources) (more : Bool)
    → CollectsFirst n stores told more after told_then → length after ≡ length stores
unfolding CollectsFirst
first_length zero stores after told told_then more none = ap length none.0
first_length (suc n) stores after told told_then more some =
    let at : ChangesAt (λ s t. CollectsOnce s some.1.0 some.1.1.1.0 t told_then) some.0 n after =
    some.1.1.1.1.1 in
    ap length at.others ∙ length-set some.0 n at.changed
    ∙ first_length n stores some.0 told some.1.0 some.1.1.0 some.1.1.1.1.0

-- each is, once no more are left
pub each : (n : ℕ) (stores after : List OpenTickets) (told told_then : Sources) (more : Bool)
    → n ≡ min (length stores) 65535 → CollectsFirst n stores told more after told_then
    → CollectsEach stores told more after told_then
each n stores after told told_then more e first =
    subst (λ m. CollectsFirst m stores told more after told_then) e first

-- all are collected no times
pub no_times : (stores : List OpenTickets) (told : Sources)
    → CollectsTimes 0 stores told stores told
unfolding CollectsTimes
no_times stores told = (refl, refl)

-- and once more
pub another_time : (n : ℕ) (stores between after : List OpenTickets)
    (told told_between told_then : Sources) (more : Bool)
    → CollectsTimes n stores told between told_between → ¬ (All AreQuiet between)
    → CollectsEach between told_between more after told_then
    → CollectsTimes (n + 1) stores told after told_then
unfolding CollectsTimes
another_time n stores between after told told_between told_then more times due round =
    let next : suc n ≡ n + 1 = omega arith in
    subst (λ m. CollectsTimes m stores told after told_then) next
    (between, (told_between, (more, (times, due, round))))

-- nothing is to be handed in at the route at a place, where that is so at each
pub quiet_at : {J : Type 0} (xs : List (OutputRoute J)) (n : ℕ) (x : OutputRoute J) → n < length xs
    → x ≡ get_or xs n x → All AreQuiet (stores_of xs) → AreQuiet x.open_tickets
quiet_at [] n x lt is all = absurd (omega arith)
quiet_at (y ∷ ys) zero x lt is all =
    subst (λ o. AreQuiet o.open_tickets) (sym is)
    (All-head AreQuiet y.open_tickets (stores_of ys) all)
quiet_at (y ∷ ys) (suc n) x lt is all =
    quiet_at ys n x (omega arith) is (All-tail AreQuiet y.open_tickets (stores_of ys) all)

-- nor at the first so many, and one more
quiet_next : {J : Type 0} (xs : List (OutputRoute J)) (n : ℕ) (x : OutputRoute J) → n < length xs
    → x ≡ get_or xs n x → AreQuiet x.open_tickets → All AreQuiet (take n (stores_of xs))
    → All AreQuiet (take (suc n) (stores_of xs))
quiet_next [] n x lt is one all = absurd (omega arith)
quiet_next (y ∷ ys) zero x lt is one all =
    All-cons AreQuiet y.open_tickets []
    (subst (λ o. AreQuiet o.open_tickets) is one) (All-nil AreQuiet)
quiet_next (y ∷ ys) (suc n) x lt is one all =
    All-cons AreQuiet y.open_tickets (take (suc n) (stores_of ys))
    (All-head AreQuiet y.open_tickets (take n (stores_of ys)) all)
    (quiet_next ys n x (omega arith) is one
    (All-tail AreQuiet y.open_tickets (take n (stores_of ys)) all))

pub quiet_more : {J : Type 0} (xs : List (OutputRoute J)) (n : ℕ) (x : OutputRoute J) → n < length xs
    → x ≡ get_or xs n x → AreQuiet x.open_tickets → All AreQuiet (take n (stores_of xs))
    → All AreQuiet (take (n + 1) (stores_of xs))
quiet_more xs n x lt is one all =
    let next : suc n ≡ n + 1 = omega arith in
    subst (λ m. All AreQuiet (take m (stores_of xs))) next
    (quiet_next xs n x lt is one all)

-- nor at any
pub quiet_all : {J : Type 0} (xs : List (OutputRoute J)) (n : ℕ) → length xs ≤ n
    → All AreQuiet (take n (stores_of xs)) → All AreQuiet (stores_of xs)
quiet_all [] n le all = All-nil AreQuiet
quiet_all (y ∷ ys) zero le all = absurd (omega arith)
quiet_all (y ∷ ys) (suc n) le all =
    All-cons AreQuiet y.open_tickets (stores_of ys)
    (All-head AreQuiet y.open_tickets (take n (stores_of ys)) all)
    (quiet_all ys n (omega arith) (All-tail AreQuiet y.open_tickets (take n (stores_of ys)) all))

-- there are as many as before
pub changed_length : (P : OpenTickets → OpenTickets → Type 0) (stores after : List OpenTickets) (n : ℕ)
    → ChangesAt P stores n after → length after ≡ length stores
changed_length P stores after n at = ap length at.others ∙ length-set stores n at.changed

-- an output is collected in part, and then in full
pub then_full : (told told_between told_then : Sources) (more : Bool) (stores after : List OpenTickets)
    (o between : RouterShown) (n : ℕ) → o ≡ between → n < length stores
    → ChangesAt (λ s t. CollectsInPart s told t told_between) stores n between.stores
    → (n < length o.stores
    → ChangesAt (λ s t. CollectsWhole most_rounds s told_between t told_then × TellsDue more t)
    o.stores n after)
    → ChangesAt (λ s t. CollectsOnce s told more t told_then) stores n after
then_full told told_between told_then more stores after o between n same lt first then_so =
    let count : length between.stores ≡ length stores =
    changed_length (λ s t. CollectsInPart s told t told_between) stores between.stores n first in
    at_twice told told_between told_then more stores between.stores after n first
    (subst
    (λ (x : RouterShown). ChangesAt (λ s t. CollectsNow s told_between more t told_then)
    x.stores n after) same
    (in_full told_between told_then more o.stores after n
    (then_so (omega (arith, count, ap (λ (x : RouterShown). length x.stores) same)))))

-- or in part again
pub then_part : (told told_between told_then : Sources) (stores after : List OpenTickets)
    (o between : RouterShown) (n : ℕ) → o ≡ between → n < length stores
    → ChangesAt (λ s t. CollectsInPart s told t told_between) stores n between.stores
    → (n < length o.stores
    → ChangesAt (λ s t. CollectsInPart s told_between t told_then) o.stores n after)
    → ChangesAt (λ s t. CollectsOnce s told false t told_then) stores n after
then_part told told_between told_then stores after o between n same lt first then_so =
    let count : length between.stores ≡ length stores =
    changed_length (λ s t. CollectsInPart s told t told_between) stores between.stores n first in
    at_twice told told_between told_then false stores between.stores after n first
    (subst
    (λ (x : RouterShown). ChangesAt (λ s t. CollectsNow s told_between false t told_then)
    x.stores n after) same
    (in_part told_between told_then o.stores after n
    (then_so (omega (arith, count, ap (λ (x : RouterShown). length x.stores) same)))))

-- whether more is to be handed in, there or before
pub one_or_other : (more here before : Bool)
    → ((here ≡ true) × (more ≡ true)) ⊎ ((here ≡ false) × (more ≡ before))
    → (here || before) ≡ more
one_or_other more here before (inl so) = ap (λ b. b || before) so.0 ∙ sym so.1
one_or_other more here before (inr so) = ap (λ b. b || before) so.0 ∙ sym so.1
