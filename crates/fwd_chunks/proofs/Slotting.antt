-- What slots and their keys say of the chunks that are there.
use Rattle.std.proofs.Common.{◌≡◌, ℕ, zero, suc, ◌+◌, ◌-◌, ◌<◌, ◌≤◌, ◌^◌, Bool, true, false, cond, eqb, List, [], ◌∷◌, ◌++◌, length, map, take, get_or, Option, Some, None, refl, sym, ap, ◌∙◌, subst, arith}
use Rattle.std.proofs.Math.ListN.{set}
use Rattle.std.specs.Prelude.{◌&&◌, nat_le, nat_lt, filter, find, not, is_some, slice_get, option_to_list, position, replicate}
use Rattle.std.specs.List.{AllByRecursion, position_or_len}
use Rattle.std.proofs.lemmas.List.{append-nil, take_more, map-append}
use Rattle.std.proofs.lemmas.Bool.{ltb-false, leb-true, le-leb}
use Rattle.fwd_chunks.specs.declared.chunk.Chunk.{Chunk}
use Rattle.fwd_chunks.specs.Slots.{Slot}
use Rattle.fwd_base.specs.declared.losses.Losses.{Losses}
use Rattle.fwd_base.specs.declared.retry.Retry.{Retry}
use Rattle.fwd_base.specs.Waits.{wait_after}
use Rattle.fwd_chunks.specs.Live.{is_at, is_open, is_closed, changed}
use Rattle.fwd_base.specs.Tallies.{live_is_over}
use Rattle.fwd_chunks.specs.MinTrees.{is_within}
use Rattle.fwd_chunks.specs.Slots.{chunk_in, present, is_slot, is_full, ready_key, due_key, began_by, key_by, IsNone, AreKeys, padded, IsLower, NumbersRise, IsOwn, IsTimed}
use Rattle.fwd_base.specs.Tallies.{end_of_wait}
use Rattle.fwd_chunks.proofs.Numbers.{not_from, true_false, eq_same}
use Rattle.fwd_chunks.proofs.Sounding.{all-filter}
use Rattle.fwd_chunks.proofs.Places.{none_some, get-or-at, get-past, place-none, place-is, place-past}
use Rattle.std.proofs.lemmas.Option.{same_Some}
use Rattle.std.proofs.lemmas.Bool.{eqb-true}

-- ---- the chunks that are there

-- what a slot holds comes before what the others hold
behind-by : (o : Option Chunk) (xs ys : List Chunk)
    → option_to_list o ++ (xs ++ ys) ≡ (option_to_list o ++ xs) ++ ys
behind-by None xs ys = refl
behind-by (Some c) xs ys = refl

pub present-append : (xs ys : List Slot) → present (xs ++ ys) ≡ present xs ++ present ys
present-append [] ys = refl
present-append (x ∷ xs) ys = ap (λ l. option_to_list x.chunk ++ l) (present-append xs ys) ∙ behind-by x.chunk (present xs) (present ys)

-- one slot more
pub present-take : (xs : List Slot) (i : ℕ) → i < length xs
    → present (take (i + 1) xs) ≡ present (take i xs) ++ option_to_list (chunk_in (slice_get xs i))
present-take xs i lt =
    let d : Slot = record { number = 0; chunk = None } in
    ap present (take_more xs i d lt)
    ∙ present-append (take i xs) (get_or xs i d ∷ [])
    ∙ ap (λ l. present (take i xs) ++ l) (append-nil (option_to_list (get_or xs i d).chunk))
    ∙ ap (λ o. present (take i xs) ++ option_to_list (chunk_in o)) (sym (get-or-at xs i d lt))

pub present-full : (xs : List Slot) → present (filter is_full xs) ≡ present xs
present-full [] = refl
present-full (x ∷ xs) = by x.chunk refl (present-full xs)
  where
    by : (o : Option Chunk) → x.chunk ≡ o → present (filter is_full xs) ≡ present xs
        → present (filter is_full (x ∷ xs)) ≡ option_to_list x.chunk ++ present xs
    by None e rest =
        ap (λ o. present (cond (is_some o) (x ∷ filter is_full xs) (filter is_full xs))) e
        ∙ rest ∙ ap (λ o. option_to_list o ++ present xs) (sym e)
    by (Some c) e rest =
        ap (λ o. present (cond (is_some o) (x ∷ filter is_full xs) (filter is_full xs))) e
        ∙ ap (λ l. option_to_list x.chunk ++ l) rest

-- ---- by number

-- a slot of another number
find-past : (o : Option Chunk) (n m : ℕ) (rest : List Chunk)
    → AllByRecursion (λ c. c.number ≡ m) (option_to_list o) → (m ≡ n → ⊥)
    → find (is_at n) (option_to_list o ++ rest) ≡ find (is_at n) rest
find-past None n m rest own apart = refl
find-past (Some c) n m rest own apart =
    ap (λ b. cond b (Some c) (find (is_at n) rest)) (not_from (is_at n c) (λ e. apart (sym own.0 ∙ eqb-true c.number n e)))

-- the slot of the number
find-here : (o : Option Chunk) (n m : ℕ) (rest : List Chunk)
    → AllByRecursion (λ c. c.number ≡ m) (option_to_list o) → m ≡ n
    → find (is_at n) rest ≡ None → find (is_at n) (option_to_list o ++ rest) ≡ o
find-here None n m rest own same none = none
find-here (Some c) n m rest own same none =
    ap (λ b. cond b (Some c) (find (is_at n) rest)) (ap (λ k. eqb k n) (own.0 ∙ same) ∙ eq_same n)

-- no slot has the number
find-nowhere : (xs : List Slot) (n : ℕ) → AllByRecursion IsOwn xs
    → AllByRecursion (λ s. s.number ≡ n → ⊥) xs → find (is_at n) (present xs) ≡ None
find-nowhere [] n own apart = refl
find-nowhere (x ∷ xs) n own apart = find-past x.chunk n x.number (present xs) own.0 apart.0 ∙ find-nowhere xs n own.1 apart.1

-- later slots have higher numbers
apart-behind : (x : Slot) (xs : List Slot) (n : ℕ) → x.number ≡ n → AllByRecursion (IsLower x) xs
    → AllByRecursion (λ s. s.number ≡ n → ⊥) xs
apart-behind x [] n same all = tt
apart-behind x (y ∷ xs) n same all = ((λ e. omega (arith, all.0, same, e)), apart-behind x xs n same all.1)

behind : (x y : Slot) (xs : List Slot) (i : ℕ) → AllByRecursion (IsLower x) xs
    → slice_get xs i ≡ Some y → x.number < y.number
behind x y [] i all e = absurd (none_some e)
behind x y (z ∷ xs) zero all e = subst (λ s. x.number < s.number) (same_Some _ _ e) all.0
behind x y (z ∷ xs) (suc i) all e = behind x y xs i all.1 e

pub find-slot : (xs : List Slot) (i : ℕ) (s : Slot) → NumbersRise xs → AllByRecursion IsOwn xs
    → slice_get xs i ≡ Some s → find (is_at s.number) (present xs) ≡ s.chunk
find-slot [] i s rise own e = absurd (none_some e)
find-slot (x ∷ xs) zero s rise own e =
    let same : x.number ≡ s.number = ap (λ y. y.number) (same_Some _ _ e) in
    find-here x.chunk s.number x.number (present xs) own.0 same
    (find-nowhere xs s.number own.1 (apart-behind x xs s.number same rise.0))
    ∙ ap (λ y. y.chunk) (same_Some _ _ e)
find-slot (x ∷ xs) (suc i) s rise own e =
    let lower = behind x s xs i rise.0 e in
    find-past x.chunk s.number x.number (present xs) own.0 (λ f. omega (arith, lower, f))
    ∙ find-slot xs i s rise.1 own.1 e

apart-absent : (n : ℕ) (xs : List Slot) → find (is_slot n) xs ≡ None
    → AllByRecursion (λ s. s.number ≡ n → ⊥) xs
apart-absent n [] f = tt
apart-absent n (y ∷ ys) f = by (is_slot n y) refl f (λ g. apart-absent n ys g)
  where
    by : (b : Bool) → is_slot n y ≡ b → cond b (Some y) (find (is_slot n) ys) ≡ None
        → (find (is_slot n) ys ≡ None → AllByRecursion (λ s. s.number ≡ n → ⊥) ys)
        → AllByRecursion (λ s. s.number ≡ n → ⊥) (y ∷ ys)
    by true at g rest = absurd (none_some (sym g))
    by false at g rest = ((λ same. true_false (is_slot n y) (ap (λ k. eqb k n) same ∙ eq_same n) at), rest g)

pub find-absent : (xs : List Slot) (n : ℕ) → AllByRecursion IsOwn xs
    → position (is_slot n) xs ≡ None → find (is_at n) (present xs) ≡ None
find-absent xs n own e = find-nowhere xs n own (apart-absent n xs (place-none (is_slot n) xs e))

-- ---- a write

-- chunks of other numbers stay
changed-past : (o : Option Chunk) (n m : ℕ) (f : Chunk → Chunk)
    → AllByRecursion (λ c. c.number ≡ m) (option_to_list o) → (m ≡ n → ⊥) → (rest : List Chunk)
    → changed (is_at n) f (option_to_list o ++ rest) ≡ option_to_list o ++ changed (is_at n) f rest
changed-past None n m f own apart rest = refl
changed-past (Some c) n m f own apart rest =
    ap (λ b. cond b (f c) c ∷ changed (is_at n) f rest) (not_from (is_at n c) (λ e. apart (sym own.0 ∙ eqb-true c.number n e)))

changed-nowhere : (xs : List Slot) (n : ℕ) (f : Chunk → Chunk) → AllByRecursion IsOwn xs
    → AllByRecursion (λ s. s.number ≡ n → ⊥) xs → changed (is_at n) f (present xs) ≡ present xs
changed-nowhere [] n f own apart = refl
changed-nowhere (x ∷ xs) n f own apart =
    changed-past x.chunk n x.number f own.0 apart.0 (present xs)
    ∙ ap (λ l. option_to_list x.chunk ++ l) (changed-nowhere xs n f own.1 apart.1)

changed-here : (o : Option Chunk) (c : Chunk) (n m : ℕ) (f : Chunk → Chunk)
    → AllByRecursion (λ d. d.number ≡ m) (option_to_list o) → o ≡ Some c → m ≡ n
    → (rest : List Chunk) → changed (is_at n) f rest ≡ rest
    → f c ∷ rest ≡ changed (is_at n) f (option_to_list o ++ rest)
changed-here None c n m f own e same rest stay = absurd (none_some e)
changed-here (Some d) c n m f own e same rest stay =
    let is : d ≡ c = cc in
    let test : is_at n d ≡ true = ap (λ k. eqb k n) (own.0 ∙ same) ∙ eq_same n in
    (λ j. f (sym is j) ∷ sym stay j) ∙ ap (λ b. cond b (f d) d ∷ changed (is_at n) f rest) (sym test)

-- the slot's chunk is another
pub changed-slot : (xs : List Slot) (i : ℕ) (s : Slot) (c : Chunk) (f : Chunk → Chunk)
    → NumbersRise xs → AllByRecursion IsOwn xs → slice_get xs i ≡ Some s → s.chunk ≡ Some c
    → present (set xs i (record s { chunk = Some (f c) })) ≡ changed (is_at s.number) f (present xs)
changed-slot [] i s c f rise own e at = absurd (none_some e)
changed-slot (x ∷ xs) zero s c f rise own e at =
    let same : x.number ≡ s.number = ap (λ y. y.number) (same_Some _ _ e) in
    changed-here x.chunk c s.number x.number f own.0 (ap (λ y. y.chunk) (same_Some _ _ e) ∙ at) same (present xs)
    (changed-nowhere xs s.number f own.1 (apart-behind x xs s.number same rise.0))
changed-slot (x ∷ xs) (suc i) s c f rise own e at =
    let lower = behind x s xs i rise.0 e in
    ap (λ l. option_to_list x.chunk ++ l) (changed-slot xs i s c f rise.1 own.1 e at)
    ∙ sym (changed-past x.chunk s.number x.number f own.0 (λ g. omega (arith, lower, g)) (present xs))

pub changed-empty : (xs : List Slot) (i : ℕ) (s : Slot) (f : Chunk → Chunk)
    → NumbersRise xs → AllByRecursion IsOwn xs → slice_get xs i ≡ Some s → s.chunk ≡ None
    → changed (is_at s.number) f (present xs) ≡ present xs
changed-empty [] i s f rise own e at = absurd (none_some e)
changed-empty (x ∷ xs) zero s f rise own e at =
    let same : x.number ≡ s.number = ap (λ y. y.number) (same_Some _ _ e) in
    let none : x.chunk ≡ None = ap (λ y. y.chunk) (same_Some _ _ e) ∙ at in
    ap (λ o. changed (is_at s.number) f (option_to_list o ++ present xs)) none
    ∙ changed-nowhere xs s.number f own.1 (apart-behind x xs s.number same rise.0)
    ∙ ap (λ o. option_to_list o ++ present xs) (sym none)
changed-empty (x ∷ xs) (suc i) s f rise own e at =
    let lower = behind x s xs i rise.0 e in
    changed-past x.chunk s.number x.number f own.0 (λ g. omega (arith, lower, g)) (present xs)
    ∙ ap (λ l. option_to_list x.chunk ++ l) (changed-empty xs i s f rise.1 own.1 e at)

pub changed-absent : (xs : List Slot) (n : ℕ) (f : Chunk → Chunk) → AllByRecursion IsOwn xs
    → position (is_slot n) xs ≡ None → changed (is_at n) f (present xs) ≡ present xs
changed-absent xs n f own e = changed-nowhere xs n f own (apart-absent n xs (place-none (is_slot n) xs e))

filter-past : (o : Option Chunk) (n m : ℕ) (rest : List Chunk)
    → AllByRecursion (λ c. c.number ≡ m) (option_to_list o) → (m ≡ n → ⊥)
    → filter (λ c. not (is_at n c)) (option_to_list o ++ rest)
    ≡ option_to_list o ++ filter (λ c. not (is_at n c)) rest
filter-past None n m rest own apart = refl
filter-past (Some c) n m rest own apart =
    ap (λ b. cond (not b) (c ∷ filter (λ d. not (is_at n d)) rest) (filter (λ d. not (is_at n d)) rest)) (not_from (is_at n c) (λ e. apart (sym own.0 ∙ eqb-true c.number n e)))

filter-nowhere : (xs : List Slot) (n : ℕ) → AllByRecursion IsOwn xs
    → AllByRecursion (λ s. s.number ≡ n → ⊥) xs
    → filter (λ c. not (is_at n c)) (present xs) ≡ present xs
filter-nowhere [] n own apart = refl
filter-nowhere (x ∷ xs) n own apart =
    filter-past x.chunk n x.number (present xs) own.0 apart.0
    ∙ ap (λ l. option_to_list x.chunk ++ l) (filter-nowhere xs n own.1 apart.1)

filter-here : (o : Option Chunk) (n m : ℕ) (rest : List Chunk)
    → AllByRecursion (λ c. c.number ≡ m) (option_to_list o) → m ≡ n
    → filter (λ c. not (is_at n c)) rest ≡ rest
    → rest ≡ filter (λ c. not (is_at n c)) (option_to_list o ++ rest)
filter-here None n m rest own same stay = sym stay
filter-here (Some d) n m rest own same stay =
    let test : is_at n d ≡ true = ap (λ k. eqb k n) (own.0 ∙ same) ∙ eq_same n in
    sym stay ∙ ap (λ b. cond (not b) (d ∷ filter (λ c. not (is_at n c)) rest) (filter (λ c. not (is_at n c)) rest)) (sym test)

-- the slot's chunk leaves
pub removed-slot : (xs : List Slot) (i : ℕ) (s : Slot)
    → NumbersRise xs → AllByRecursion IsOwn xs → slice_get xs i ≡ Some s
    → present (set xs i (record s { chunk = None })) ≡ filter (λ c. not (is_at s.number c))
    (present xs)
removed-slot [] i s rise own e = absurd (none_some e)
removed-slot (x ∷ xs) zero s rise own e =
    let same : x.number ≡ s.number = ap (λ y. y.number) (same_Some _ _ e) in
    filter-here x.chunk s.number x.number (present xs) own.0 same
    (filter-nowhere xs s.number own.1 (apart-behind x xs s.number same rise.0))
removed-slot (x ∷ xs) (suc i) s rise own e =
    let lower = behind x s xs i rise.0 e in
    ap (λ l. option_to_list x.chunk ++ l) (removed-slot xs i s rise.1 own.1 e)
    ∙ sym (filter-past x.chunk s.number x.number (present xs) own.0 (λ g. omega (arith, lower, g)))

pub removed-absent : (xs : List Slot) (n : ℕ) → AllByRecursion IsOwn xs
    → position (is_slot n) xs ≡ None → filter (λ c. not (is_at n c)) (present xs) ≡ present xs
removed-absent xs n own e = filter-nowhere xs n own (apart-absent n xs (place-none (is_slot n) xs e))

-- a chunk less
pub removed-count : (xs : List Slot) (i : ℕ) (s : Slot) (c : Chunk) → slice_get xs i ≡ Some s
    → s.chunk ≡ Some c
    → length (present xs) ≡ suc (length (present (set xs i (record s { chunk = None }))))
removed-count [] i s c e at = absurd (none_some e)
removed-count (x ∷ xs) zero s c e at = ap (λ o. length (option_to_list o ++ present xs)) (ap (λ y. y.chunk) (same_Some _ _ e) ∙ at)
removed-count (x ∷ xs) (suc i) s c e at = by x.chunk (removed-count xs i s c e at)
  where
    by : (o : Option Chunk)
        → length (present xs) ≡ suc (length (present (set xs i (record s { chunk = None }))))
        → length (option_to_list o ++ present xs) ≡ suc
        (length (option_to_list o ++ present (set xs i (record s { chunk = None }))))
    by None rest = rest
    by (Some d) rest = ap suc rest

-- ---- what holds of each slot

lower-all : (x y : Slot) (xs : List Slot) → x.number ≡ y.number → AllByRecursion (IsLower x) xs
    → AllByRecursion (IsLower y) xs
lower-all x y [] same all = tt
lower-all x y (z ∷ zs) same all = (subst (λ k. k < z.number) same all.0, lower-all x y zs same all.1)

higher-set : (x s : Slot) (o : Option Chunk) (xs : List Slot) (i : ℕ)
    → AllByRecursion (IsLower x) xs → slice_get xs i ≡ Some s
    → AllByRecursion (IsLower x) (set xs i (record s { chunk = o }))
higher-set x s o [] i all e = tt
higher-set x s o (y ∷ ys) zero all e = (subst (λ z. x.number < z.number) (same_Some _ _ e) all.0, all.1)
higher-set x s o (y ∷ ys) (suc i) all e = (all.0, higher-set x s o ys i all.1 e)

pub set-rising : (xs : List Slot) (i : ℕ) (s : Slot) (o : Option Chunk) → NumbersRise xs
    → slice_get xs i ≡ Some s → NumbersRise (set xs i (record s { chunk = o }))
set-rising [] i s o rise e = tt
set-rising (x ∷ xs) zero s o rise e = (lower-all x (record s { chunk = o }) xs (ap (λ z. z.number) (same_Some _ _ e)) rise.0, rise.1)
set-rising (x ∷ xs) (suc i) s o rise e = (higher-set x s o xs i rise.0 e, set-rising xs i s o rise.1 e)

pub set-own : (xs : List Slot) (i : ℕ) (s : Slot) (o : Option Chunk) → AllByRecursion IsOwn xs
    → AllByRecursion (λ c. c.number ≡ s.number) (option_to_list o)
    → AllByRecursion IsOwn (set xs i (record s { chunk = o }))
set-own [] i s o own fits = tt
set-own (x ∷ xs) zero s o own fits = (fits, own.1)
set-own (x ∷ xs) (suc i) s o own fits = (own.0, set-own xs i s o own.1 fits)

own-by : (o : Option Chunk) (c : Chunk) (m : ℕ) → o ≡ Some c
    → AllByRecursion (λ d. d.number ≡ m) (option_to_list o) → c.number ≡ m
own-by None c m e all = absurd (none_some e)
own-by (Some d) c m e all = (let is : d ≡ c = cc in sym (ap (λ y. y.number) is) ∙ all.0)

pub own-at : (xs : List Slot) (i : ℕ) (s : Slot) (c : Chunk) → AllByRecursion IsOwn xs
    → slice_get xs i ≡ Some s → s.chunk ≡ Some c → c.number ≡ s.number
own-at [] i s c own e at = absurd (none_some e)
own-at (x ∷ xs) zero s c own e at = own-by x.chunk c x.number (ap (λ y. y.chunk) (same_Some _ _ e) ∙ at) own.0 ∙ ap (λ y. y.number) (same_Some _ _ e)
own-at (x ∷ xs) (suc i) s c own e at = own-at xs i s c own.1 e at

pub set-timed : (xs : List Slot) (i : ℕ) (s : Slot) (o : Option Chunk) → AllByRecursion IsTimed xs
    → AllByRecursion (λ c. c.since < 2 ^ 64) (option_to_list o)
    → AllByRecursion IsTimed (set xs i (record s { chunk = o }))
set-timed [] i s o timed fits = tt
set-timed (x ∷ xs) zero s o timed fits = (fits, timed.1)
set-timed (x ∷ xs) (suc i) s o timed fits = (timed.0, set-timed xs i s o timed.1 fits)

timed-by : (o : Option Chunk) (c : Chunk) → o ≡ Some c
    → AllByRecursion (λ d. d.since < 2 ^ 64) (option_to_list o) → c.since < 2 ^ 64
timed-by None c e all = absurd (none_some e)
timed-by (Some d) c e all = (let is : d ≡ c = cc in subst (λ y. y.since < 2 ^ 64) is all.0)

pub timed-at : (xs : List Slot) (i : ℕ) (s : Slot) (c : Chunk) → AllByRecursion IsTimed xs
    → slice_get xs i ≡ Some s → s.chunk ≡ Some c → c.since < 2 ^ 64
timed-at [] i s c timed e at = absurd (none_some e)
timed-at (x ∷ xs) zero s c timed e at = timed-by x.chunk c (ap (λ y. y.chunk) (same_Some _ _ e) ∙ at) timed.0
timed-at (x ∷ xs) (suc i) s c timed e at = timed-at xs i s c timed.1 e at

timed-front : (o : Option Chunk) (rest : List Chunk)
    → AllByRecursion (λ c. c.since < 2 ^ 64) (option_to_list o)
    → AllByRecursion (λ c. c.since < 2 ^ 64) rest
    → AllByRecursion (λ c. c.since < 2 ^ 64) (option_to_list o ++ rest)
timed-front None rest own all = all
timed-front (Some c) rest own all = (own.0, all)

pub timed-present : (xs : List Slot) → AllByRecursion IsTimed xs
    → AllByRecursion (λ c. c.since < 2 ^ 64) (present xs)
timed-present [] timed = tt
timed-present (x ∷ xs) timed = timed-front x.chunk (present xs) timed.0 (timed-present xs timed.1)

pub set-below : (xs : List Slot) (i : ℕ) (s : Slot) (o : Option Chunk) (top : ℕ)
    → AllByRecursion (λ t. t.number < top) xs → slice_get xs i ≡ Some s
    → AllByRecursion (λ t. t.number < top) (set xs i (record s { chunk = o }))
set-below [] i s o top all e = tt
set-below (x ∷ xs) zero s o top all e = (subst (λ y. y.number < top) (same_Some _ _ e) all.0, all.1)
set-below (x ∷ xs) (suc i) s o top all e = (all.0, set-below xs i s o top all.1 e)

pub all-more : {X : Type 0} (P : X → Type 0) (xs : List X) (x : X) → AllByRecursion P xs → P x
    → AllByRecursion P (xs ++ x ∷ [])
all-more P [] x all p = (p, tt)
all-more P (y ∷ ys) x all p = (all.0, all-more P ys x all.1 p)

pub all-imply : {X : Type 0} (P Q : X → Type 0) → ((x : X) → P x → Q x) → (xs : List X)
    → AllByRecursion P xs → AllByRecursion Q xs
all-imply P Q h [] all = tt
all-imply P Q h (x ∷ xs) all = (h x all.0, all-imply P Q h xs all.1)

-- a slot behind all others
pub rising-more : (xs : List Slot) (s : Slot) → NumbersRise xs
    → AllByRecursion (λ t. t.number < s.number) xs → NumbersRise (xs ++ s ∷ [])
rising-more [] s rise below = (tt, tt)
rising-more (x ∷ xs) s rise below = (all-more (IsLower x) xs s rise.0 below.0, rising-more xs s rise.1 below.1)

pub rising-full : (p : Slot → Bool) (xs : List Slot) → NumbersRise xs → NumbersRise (filter p xs)
rising-full p [] rise = tt
rising-full p (x ∷ xs) rise = by (p x) (rising-full p xs rise.1)
  where
    by : (b : Bool) → NumbersRise (filter p xs)
        → NumbersRise (cond b (x ∷ filter p xs) (filter p xs))
    by true rest = (all-filter (IsLower x) p xs rise.0, rest)
    by false rest = rest

-- ---- keys

pub keys-set : (key : Chunk → Option ℕ) (xs : List Slot) (ks : List (Option ℕ)) (i : ℕ) (s : Slot)
    (o : Option Chunk) → AreKeys key xs ks → slice_get xs i ≡ Some s
    → AreKeys key (set xs i (record s { chunk = o })) (set ks i (key_by key o))
keys-set key [] ks i s o all e = absurd (none_some e)
keys-set key (x ∷ xs) [] i s o all e = absurd all
keys-set key (x ∷ xs) (k ∷ ks) zero s o all e = (refl, all.1)
keys-set key (x ∷ xs) (k ∷ ks) (suc i) s o all e = (all.0, keys-set key xs ks i s o all.1 e)

-- a key that is written as it was
pub keys-same : (key : Chunk → Option ℕ) (xs : List Slot) (ks : List (Option ℕ)) (i : ℕ) (s : Slot)
    (k : Option ℕ) → AreKeys key xs ks → slice_get xs i ≡ Some s → k ≡ key_by key s.chunk
    → set ks i k ≡ ks
keys-same key [] ks i s k all e same = absurd (none_some e)
keys-same key (x ∷ xs) [] i s k all e same = absurd all
keys-same key (x ∷ xs) (l ∷ ks) zero s k all e same =
    ap (λ o. o ∷ ks) (same ∙ ap (λ y. key_by key y.chunk) (sym (same_Some _ _ e)) ∙ sym all.0)
keys-same key (x ∷ xs) (l ∷ ks) (suc i) s k all e same = ap (λ r. l ∷ r) (keys-same key xs ks i s k all.1 e same)

pub keys-long : (key : Chunk → Option ℕ) (xs : List Slot) (ks : List (Option ℕ))
    → AreKeys key xs ks → length xs ≤ length ks
keys-long key [] ks all = omega arith
keys-long key (x ∷ xs) [] all = absurd all
keys-long key (x ∷ xs) (k ∷ ks) all = (let rest = keys-long key xs ks all.1 in omega (arith, rest))

pub keys-push : (key : Chunk → Option ℕ) (xs : List Slot) (ks : List (Option ℕ)) (s : Slot)
    → AreKeys key xs ks → length xs < length ks
    → AreKeys key (xs ++ s ∷ []) (set ks (length xs) (key_by key s.chunk))
keys-push key [] [] s all lt = absurd (omega (arith, lt))
keys-push key [] (k ∷ ks) s all lt = (refl, all.1)
keys-push key (x ∷ xs) [] s all lt = absurd all
keys-push key (x ∷ xs) (k ∷ ks) s all lt = (all.0, keys-push key xs ks s all.1 (omega (arith, lt)))

none-all : (n : ℕ) → AllByRecursion IsNone (replicate n None)
none-all zero = tt
none-all (suc n) = (refl, none-all n)

keys-of : (key : Chunk → Option ℕ) (xs : List Slot) (rest : List (Option ℕ))
    → AllByRecursion IsNone rest → AreKeys key (filter is_full xs) (map key (present xs) ++ rest)
keys-of key [] rest all = all
keys-of key (x ∷ xs) rest all = by x.chunk refl (keys-of key xs rest all)
  where
    by : (o : Option Chunk) → x.chunk ≡ o
        → AreKeys key (filter is_full xs) (map key (present xs) ++ rest)
        → AreKeys key (cond (is_some x.chunk) (x ∷ filter is_full xs) (filter is_full xs))
        (map key (option_to_list x.chunk ++ present xs) ++ rest)
    by None e more = subst (λ o. AreKeys key (cond (is_some o) (x ∷ filter is_full xs) (filter is_full xs)) (map key (option_to_list o ++ present xs) ++ rest)) (sym e) more
    by (Some c) e more = subst (λ o. AreKeys key (cond (is_some o) (x ∷ filter is_full xs) (filter is_full xs)) (map key (option_to_list o ++ present xs) ++ rest)) (sym e) (ap (key_by key) (sym e), more)

pub keys-padded : (key : Chunk → Option ℕ) (xs : List Slot) (places : ℕ)
    → AreKeys key (filter is_full xs) (padded places (map key (present xs)))
keys-padded key xs places = keys-of key xs (replicate (places - length (map key (present xs))) None) (none-all (places - length (map key (present xs))))

-- the keys of one slot more
pub keys-more : (key : Chunk → Option ℕ) (xs : List Slot) (i : ℕ) (ks : List (Option ℕ))
    → i < length xs → ks ≡ map key (present (take i xs))
    → ks ++ map key (option_to_list (chunk_in (slice_get xs i))) ≡ map key (present (take (i + 1) xs))
keys-more key xs i ks lt e =
    ap (λ l. l ++ map key (option_to_list (chunk_in (slice_get xs i)))) e
    ∙ sym (map-append key (present (take i xs)) (option_to_list (chunk_in (slice_get xs i))))
    ∙ ap (map key) (sym (present-take xs i lt))

-- ---- the first key within a limit

module _ (key : Chunk → Option ℕ) (limit : ℕ) (test : Chunk → Bool) (agree : (c : Chunk) → is_within limit (key c) ≡ test c) where
  in-by : (o : Option Chunk) (rest : List Chunk) → is_within limit (key_by key o) ≡ true
      → find test (option_to_list o ++ rest) ≡ o
  in-by None rest e = absurd (true_false false e refl)
  in-by (Some c) rest e = ap (λ b. cond b (Some c) (find test rest)) (sym (agree c) ∙ e)

  out-by : (o : Option Chunk) (rest : List Chunk) → is_within limit (key_by key o) ≡ false
      → find test (option_to_list o ++ rest) ≡ find test rest
  out-by None rest e = refl
  out-by (Some c) rest e = ap (λ b. cond b (Some c) (find test rest)) (sym (agree c) ∙ e)

  pub first-key : (xs : List Slot) (ks : List (Option ℕ)) → AreKeys key xs ks
      → find test (present xs) ≡ chunk_in (slice_get xs (position_or_len (is_within limit) ks))
  first-key [] ks all = refl
  first-key (x ∷ xs) [] all = absurd all
  first-key (x ∷ xs) (k ∷ ks) all = by (is_within limit k) refl (first-key xs ks all.1)
    where
      by : (b : Bool) → is_within limit k ≡ b
          → find test (present xs) ≡ chunk_in (slice_get xs (position_or_len (is_within limit) ks))
          → find test (option_to_list x.chunk ++ present xs) ≡ chunk_in
          (slice_get (x ∷ xs)
          (cond (not (is_within limit k)) (1 + position_or_len (is_within limit) ks) 0))
      by true e rest = in-by x.chunk (present xs) (ap (is_within limit) (sym all.0) ∙ e) ∙ ap (λ b. chunk_in (slice_get (x ∷ xs) (cond (not b) (1 + position_or_len (is_within limit) ks) 0))) (sym e)
      by false e rest =
          let next : suc (position_or_len (is_within limit) ks) ≡ 1 + position_or_len (is_within limit) ks = omega arith in
          out-by x.chunk (present xs) (ap (is_within limit) (sym all.0) ∙ e) ∙ rest
          ∙ ap (λ n. chunk_in (slice_get (x ∷ xs) n)) next
          ∙ ap (λ b. chunk_in (slice_get (x ∷ xs) (cond (not b) (1 + position_or_len (is_within limit) ks) 0))) (sym e)

-- the chunk of the first key within a limit
module _ (key : Chunk → Option ℕ) (limit : ℕ) (test : Chunk → Bool) (agree : (c : Chunk) → is_within limit (key c) ≡ test c) (xs : List Slot) (ks : List (Option ℕ)) (all : AreKeys key xs ks) where
  pub key-none : position (is_within limit) ks ≡ None → find test (present xs) ≡ None
  key-none e =
      let past : length xs ≤ position_or_len (is_within limit) ks = omega (arith, keys-long key xs ks all, place-past (is_within limit) ks e) in
      first-key key limit test agree xs ks all ∙ ap chunk_in (get-past xs (position_or_len (is_within limit) ks) past)

  pub key-some : (i : ℕ) → position (is_within limit) ks ≡ Some i
      → find test (present xs) ≡ chunk_in (slice_get xs i)
  key-some i e = first-key key limit test agree xs ks all ∙ ap (λ n. chunk_in (slice_get xs n)) (place-is (is_within limit) ks i e)

-- ---- which keys are within a limit

pub due-agrees : (limit : ℕ) (c : Chunk)
    → is_within limit (due_key c) ≡ began_by limit c
due-agrees limit c = by (is_open c.stage)
  where
    by : (b : Bool) → is_within limit (cond b (Some c.since) None) ≡ (b && nat_le c.since limit)
    by true = refl
    by false = refl

bits-by : (b : Bool) (n moment : ℕ) → nat_lt n (2 ^ 64) ≡ b → moment < 2 ^ 64
    → is_within moment (cond b (Some n) None) ≡ nat_le n moment
bits-by true n moment e lt = refl
bits-by false n moment e lt =
    let above : 2 ^ 64 ≤ n = ltb-false n (2 ^ 64) e in
    sym (not_from (nat_le n moment) (λ f. (let below : n ≤ moment = leb-true n moment f in omega (arith, above, below, lt))))

pub ready-agrees : (retry : Retry) (moment : ℕ) → moment < 2 ^ 64 → (c : Chunk)
    → is_within moment (ready_key retry c)
    ≡ (is_closed c.stage && live_is_over retry.wait retry.max c.losses moment)
ready-agrees retry moment lt c = by (is_closed c.stage) c.losses
  where
    by : (b : Bool) (l : Option Losses)
        → is_within moment (cond b (end_of_wait retry l) None) ≡
        (b && live_is_over retry.wait retry.max l moment)
    by false l = refl
    by true None = at_least moment
      where
        at_least : (m : ℕ) → nat_le 0 m ≡ true
        at_least m = le-leb 0 m (omega arith)
    by true (Some l) = bits-by (nat_lt (l.last + wait_after retry.wait retry.max l.count) (2 ^ 64)) (l.last + wait_after retry.wait retry.max l.count) moment refl lt
