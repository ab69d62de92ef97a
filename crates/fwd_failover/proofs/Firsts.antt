-- The choice is the first usable server, and a standby only where no primary is usable.
use Rattle.std.proofs.Common.{◌≡◌, ℕ, zero, suc, ◌+◌, ◌%◌, ◌<◌, Bool, true, false, cond, List, [], ◌∷◌, ◌++◌, length, take, drop, Option, Some, None, refl, sym, ap, ◌∙◌, subst, inl, inr, zero-add, arith}
use Rattle.std.specs.Prelude.{◌⊎◌, find, slice_get}
use Rattle.std.specs.List.{AllByRecursion}
use Rattle.std.specs.Option.{option_or}
use Rattle.std.proofs.lemmas.List.{take-append-drop}
use Rattle.std.proofs.lemmas.List.Folds.{find-append}
use Rattle.fwd_failover.specs.History.{ServersSetting, Happening}
use Rattle.fwd_failover.specs.Choices.{places, primaries, standbys, round_from, order_of, is_usable, choice}
use Rattle.fwd_failover.proofs.Numbers.{places_from}

-- ---- what a search finds

passes_or : (b : Bool) (x k : ℕ) (o : Option ℕ) (test : ℕ → Bool) → test x ≡ b
    → cond b (Some x) o ≡ Some k → (o ≡ Some k → test k ≡ true) → test k ≡ true
passes_or true x k o test here e rest = let same : x ≡ k = cc in ap test (sym same) ∙ here
passes_or false x k o test here e rest = rest e

pub found_passes : (test : ℕ → Bool) (xs : List ℕ) (k : ℕ) → find test xs ≡ Some k
    → test k ≡ true
found_passes test [] k e = absurd cc
found_passes test (x ∷ xs) k e = passes_or (test x) x k (find test xs) test refl e (λ rest. found_passes test xs k rest)

none_or : (b : Bool) (x : ℕ) (o : Option ℕ) → cond b (Some x) o ≡ None
    → (b ≡ false) × (o ≡ None)
none_or true x o e = absurd cc
none_or false x o e = (refl, e)

none_passes : (test : ℕ → Bool) (xs : List ℕ) → find test xs ≡ None
    → AllByRecursion (λ k. test k ≡ false) xs
none_passes test [] e = tt
none_passes test (x ∷ xs) e =
    let two = none_or (test x) x (find test xs) e in
    (two.0, none_passes test xs two.1)

has_or : (P : ℕ → Type 0) (b : Bool) (x k : ℕ) (o : Option ℕ) → P x
    → cond b (Some x) o ≡ Some k → (o ≡ Some k → P k) → P k
has_or P true x k o here e rest = let same : x ≡ k = cc in subst P same here
has_or P false x k o here e rest = rest e

found_has : (P : ℕ → Type 0) (test : ℕ → Bool) (xs : List ℕ) (k : ℕ)
    → AllByRecursion P xs → find test xs ≡ Some k → P k
found_has P test [] k all e = absurd cc
found_has P test (x ∷ xs) k all e = has_or P (test x) x k (find test xs) all.0 e (λ rest. found_has P test xs k all.1 rest)

-- ---- facts of all of a list

split_all : (P : ℕ → Type 0) (xs ys : List ℕ) → AllByRecursion P (xs ++ ys)
    → AllByRecursion P xs × AllByRecursion P ys
split_all P [] ys all = (tt, all)
split_all P (x ∷ xs) ys all = let two = split_all P xs ys all.1 in ((all.0, two.0), two.1)

join_all : (P : ℕ → Type 0) (xs ys : List ℕ) → AllByRecursion P xs → AllByRecursion P ys
    → AllByRecursion P (xs ++ ys)
join_all P [] ys one two = two
join_all P (x ∷ xs) ys one two = (one.0, join_all P xs ys one.1 two)

-- once round a list are all of it
round_to_all : (P : ℕ → Type 0) (place : ℕ) (servers : List ℕ)
    → AllByRecursion P (round_from place servers) → AllByRecursion P servers
round_to_all P place servers all =
    let two = split_all P (drop place servers) (take place servers) all in
    subst (AllByRecursion P) (take-append-drop place servers) (join_all P (take place servers) (drop place servers) two.1 two.0)

all_to_round : (P : ℕ → Type 0) (place : ℕ) (servers : List ℕ) → AllByRecursion P servers
    → AllByRecursion P (round_from place servers)
all_to_round P place servers all =
    let two = split_all P (take place servers) (drop place servers) (subst (AllByRecursion P) (sym (take-append-drop place servers)) all) in
    join_all P (drop place servers) (take place servers) two.1 two.0

-- ---- the numbers of a kind are those of the servers of that kind

at_places_from : (P : ℕ → Type 0) (n : ℕ) (kind : Bool) (flags : List Bool) (i : ℕ)
    → AllByRecursion P (places_from n kind flags) → slice_get flags i ≡ Some kind
    → P (n + i)
at_places_from P n kind [] i all e = absurd cc
at_places_from P n true (true ∷ flags) zero all e = subst P (omega arith) all.0
at_places_from P n false (false ∷ flags) zero all e = subst P (omega arith) all.0
at_places_from P n true (false ∷ flags) zero all e = absurd cc
at_places_from P n false (true ∷ flags) zero all e = absurd cc
at_places_from P n true (true ∷ flags) (suc i) all e = subst P (omega arith) (at_places_from P (n + 1) true flags i all.1 e)
at_places_from P n false (false ∷ flags) (suc i) all e = subst P (omega arith) (at_places_from P (n + 1) false flags i all.1 e)
at_places_from P n true (false ∷ flags) (suc i) all e = subst P (omega arith) (at_places_from P (n + 1) true flags i all e)
at_places_from P n false (true ∷ flags) (suc i) all e = subst P (omega arith) (at_places_from P (n + 1) false flags i all e)

at_places : (P : ℕ → Type 0) (kind : Bool) (flags : List Bool) (i : ℕ)
    → AllByRecursion P (places kind flags) → slice_get flags i ≡ Some kind → P i
at_places P kind flags i all e = subst P (zero-add i) (at_places_from P 0 kind flags i all e)

-- what holds of each server of a kind holds of each number of them
each_of_kind : (P : ℕ → Type 0) (n : ℕ) (kind : Bool) (flags : List Bool)
    → ((i : ℕ) → slice_get flags i ≡ Some kind → P (n + i))
    → AllByRecursion P (places_from n kind flags)
each_of_kind P n kind [] h = tt
each_of_kind P n true (true ∷ flags) h = (subst P (omega arith) (h 0 refl), each_of_kind P (n + 1) true flags (λ i e. subst P (omega arith) (h (suc i) e)))
each_of_kind P n false (false ∷ flags) h = (subst P (omega arith) (h 0 refl), each_of_kind P (n + 1) false flags (λ i e. subst P (omega arith) (h (suc i) e)))
each_of_kind P n true (false ∷ flags) h = each_of_kind P (n + 1) true flags (λ i e. subst P (omega arith) (h (suc i) e))
each_of_kind P n false (true ∷ flags) h = each_of_kind P (n + 1) false flags (λ i e. subst P (omega arith) (h (suc i) e))

are_of_kind : (kind : Bool) (flags : List Bool)
    → AllByRecursion (λ k. slice_get flags k ≡ Some kind) (places kind flags)
are_of_kind kind flags =
    let P : ℕ → Type 0 = λ k. slice_get flags k ≡ Some kind in
    each_of_kind P 0 kind flags (λ i e. subst P (sym (zero-add i)) e)

some_kind : (flags : List Bool) (i : ℕ) → i < length flags
    → (kind : Bool) × (slice_get flags i ≡ Some kind)
some_kind [] i lt = absurd (omega arith)
some_kind (b ∷ flags) zero lt = (b, refl)
some_kind (b ∷ flags) (suc i) lt = some_kind flags i (omega arith)

-- ---- the choice

pub choice-usable : (s : ServersSetting) (happened : List Happening) (worker moment server : ℕ)
    → choice s happened worker moment ≡ Some server
    → is_usable s happened moment server ≡ true
choice-usable s happened worker moment server e = found_passes (is_usable s happened moment) (order_of (primaries s) (standbys s) worker) server e

none_at : (s : ServersSetting) (happened : List Happening) (moment server : ℕ) (kind : Bool)
    → slice_get s.standby server ≡ Some kind
    → AllByRecursion (λ k. is_usable s happened moment k ≡ false) (primaries s)
    → AllByRecursion (λ k. is_usable s happened moment k ≡ false) (standbys s)
    → is_usable s happened moment server ≡ false
none_at s happened moment server false e ones twos = at_places (λ k. is_usable s happened moment k ≡ false) false s.standby server ones e
none_at s happened moment server true e ones twos = at_places (λ k. is_usable s happened moment k ≡ false) true s.standby server twos e

apart : (flags : List Bool) (i : ℕ) → slice_get flags i ≡ Some true
    → slice_get flags i ≡ Some false → ⊥
apart flags i one two = cc

-- where the order has no usable server, no server is usable
none_of_kind :
    (s : ServersSetting) (happened : List Happening) (worker moment server : ℕ) (kind : Bool)
    → choice s happened worker moment ≡ None → slice_get s.standby server ≡ Some kind
    → is_usable s happened moment server ≡ false
none_of_kind s happened worker moment server kind e of_kind =
    let P : ℕ → Type 0 = λ k. is_usable s happened moment k ≡ false in
    let place = worker % length (primaries s) in
    let all = split_all P (round_from place (primaries s)) (standbys s) (none_passes (is_usable s happened moment) (order_of (primaries s) (standbys s) worker) e) in
    none_at s happened moment server kind of_kind (round_to_all P place (primaries s) all.0) all.1

pub choice-none : (s : ServersSetting) (happened : List Happening) (worker moment : ℕ)
    → choice s happened worker moment ≡ None → (server : ℕ) → server < length s.standby
    → is_usable s happened moment server ≡ false
choice-none s happened worker moment e server lt =
    let kind = some_kind s.standby server lt in none_of_kind s happened worker moment server kind.0 e kind.1

or_first : (o p : Option ℕ) (k : ℕ) → option_or o p ≡ Some k
    → (o ≡ Some k) ⊎ (o ≡ None)
or_first None p k e = inr refl
or_first (Some i) p k e = inl e

-- a standby is tried only where no primary is usable
pub choice-standby : (s : ServersSetting) (happened : List Happening) (worker moment server : ℕ)
    → choice s happened worker moment ≡ Some server → slice_get s.standby server ≡ Some true
    → (primary : ℕ) → slice_get s.standby primary ≡ Some false
    → is_usable s happened moment primary ≡ false
choice-standby s happened worker moment server e is_standby primary is_primary =
    let P : ℕ → Type 0 = λ k. is_usable s happened moment k ≡ false in
    let place = worker % length (primaries s) in
    let round = round_from place (primaries s) in
    let parts = sym (find-append (is_usable s happened moment) round (standbys s)) ∙ e in
    elim (or_first (find (is_usable s happened moment) round) (find (is_usable s happened moment) (standbys s)) server parts) [
      | inl found ↦
          (let of_kind = found_has (λ k. slice_get s.standby k ≡ Some false) (is_usable s happened moment) round server (all_to_round (λ k. slice_get s.standby k ≡ Some false) place (primaries s) (are_of_kind false s.standby)) found in
          absurd (apart s.standby server is_standby of_kind))
      | inr none ↦
          at_places P false s.standby primary (round_to_all P place (primaries s) (none_passes (is_usable s happened moment) round none)) is_primary
    ]
