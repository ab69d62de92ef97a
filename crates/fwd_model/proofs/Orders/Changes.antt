-- What an event changes of a history, one part at a time. Changes of two parts may be made in
-- either order, and each leaves what stands at the other part.
use Rattle.std.proofs.Common.{◌≡◌, ◌≢◌, ℕ, zero, suc, Bool, true, false, cond, eqb, List, [], ◌∷◌, ◌++◌, Option, Some, refl, sym, ap, ◌∙◌, arith}
use Rattle.std.proofs.Math.ListN.{set}
use Rattle.std.specs.Prelude.{option_map, slice_get, ◌&&◌}
use Rattle.std.proofs.lemmas.Bool.Decides.{nat_tests}
use Rattle.fwd_source.specs.History.{SourceHistory}
use Rattle.fwd_session.specs.History.{SessionHistory}
use Rattle.fwd_model.specs.Outputs.{OutputHistory}
use Rattle.fwd_model.specs.History.{Connection, Lane, History, source_at, with_source, with_gone, is_fresh, with_output}
use Rattle.fwd_model.specs.Names as part
use Rattle.fwd_model.specs.Names.{Named, is_same}
use Rattle.fwd_model.proofs.Places.{option_id, is_fresh-with_source, is_fresh-with_gone}

-- ---- a change

-- a connection comes, has another history, or is known no more; an output has another history;
-- the place of an output's worker has another session, or none
pub data Change : Type 0 where
  Arrives : Connection → Change
  AtSource : ℕ → SourceHistory → Change
  Departs : ℕ → Change
  AtOutput : ℕ → OutputHistory → Change
  AtSession : ℕ → ℕ → Option SessionHistory → Change

-- the part that is changed
abbrev pub part_of : Change → Named
part_of (Arrives c) = part.Connection c.id
part_of (AtSource id s) = part.Connection id
part_of (Departs id) = part.Connection id
part_of (AtOutput o x) = part.Output o
part_of (AtSession o w s) = part.Session o w

abbrev pub comes : Change → Bool
comes (Arrives c) = true
comes _ = false

-- a list with another element at a place
abbrev pub changed : {X : Type 0} → (X → X) → ℕ → List X → List X
changed g o [] = []
changed g zero (x ∷ xs) = g x ∷ xs
changed g (suc o) (x ∷ xs) = x ∷ changed g o xs

-- the worker's place has this session, or none
abbrev pub with_place : ℕ → Option SessionHistory → Lane → Lane
with_place w s l = record l { sessions = set l.sessions w s }

abbrev pub at_connections : Change → List Connection → List Connection
at_connections (Arrives c) cs = cs ++ c ∷ []
at_connections (AtSource id s) cs = with_source id s cs
at_connections (Departs id) cs = with_gone id cs
at_connections _ cs = cs

abbrev pub at_lanes : Change → List Lane → List Lane
at_lanes (AtOutput o x) ls = changed (λ l. with_output l x) o ls
at_lanes (AtSession o w s) ls = changed (with_place w s) o ls
at_lanes _ ls = ls

-- the change is made
abbrev pub made : Change → History → History
made p h = record h { connections = at_connections p h.connections; lanes = at_lanes p h.lanes }

-- one change after the other
abbrev pub all_made : List Change → History → History
all_made [] h = h
all_made (p ∷ ps) h = all_made ps (made p h)

-- what the change makes of the output of this number
abbrev pub changed_lane : Change → ℕ → Lane → Lane
changed_lane (AtOutput a x) o l = cond (eqb a o) (with_output l x) l
changed_lane (AtSession a w s) o l = cond (eqb a o) (with_place w s l) l
changed_lane _ o l = l

-- ---- numbers

pub differ : (a b : ℕ) → eqb a b ≡ false → a ≢ b
differ a b e same = grind (arith, nat_tests, e, same)

pub same_number : (a b : ℕ) → eqb a b ≡ true → a ≡ b
same_number a b e = grind (arith, nat_tests, e)

turned : (a b : ℕ) → eqb a b ≡ false → eqb b a ≡ false
turned a b e = grind (arith, nat_tests, e)

tests_same : (o j : ℕ) → eqb o j ≡ eqb (suc o) (suc j)
tests_same o j = grind (arith, nat_tests)

first_differs : (j : ℕ) → eqb zero (suc j) ≡ false
first_differs j = grind (arith, nat_tests)

second_differs : (o : ℕ) → eqb (suc o) zero ≡ false
second_differs o = grind (arith, nat_tests)

-- ---- connections

with_source-push : (id : ℕ) (s : SourceHistory) (c : Connection) (cs : List Connection)
    → eqb c.id id ≡ false → with_source id s (cs ++ c ∷ []) ≡ with_source id s cs ++ c ∷ []
with_source-push id s c [] e = grind (arith, nat_tests, e)
with_source-push id s c (d ∷ cs) e = grind (arith, nat_tests, with_source-push id s c cs e)

with_gone-push : (id : ℕ) (c : Connection) (cs : List Connection)
    → eqb c.id id ≡ false → with_gone id (cs ++ c ∷ []) ≡ with_gone id cs ++ c ∷ []
with_gone-push id c [] e = grind (arith, nat_tests, e)
with_gone-push id c (d ∷ cs) e = grind (arith, nat_tests, with_gone-push id c cs e)

with_source-with_source : (a b : ℕ) (s t : SourceHistory) (cs : List Connection)
    → eqb a b ≡ false
    → with_source a s (with_source b t cs) ≡ with_source b t (with_source a s cs)
with_source-with_source a b s t [] e = refl
with_source-with_source a b s t (c ∷ cs) e = grind (arith, nat_tests, e, with_source-with_source a b s t cs e)

with_source-with_gone : (a b : ℕ) (s : SourceHistory) (cs : List Connection)
    → eqb a b ≡ false → with_source a s (with_gone b cs) ≡ with_gone b (with_source a s cs)
with_source-with_gone a b s [] e = refl
with_source-with_gone a b s (c ∷ cs) e = grind (arith, nat_tests, e, with_source-with_gone a b s cs e)

with_gone-with_gone : (a b : ℕ) (cs : List Connection)
    → eqb a b ≡ false → with_gone a (with_gone b cs) ≡ with_gone b (with_gone a cs)
with_gone-with_gone a b [] e = refl
with_gone-with_gone a b (c ∷ cs) e = grind (arith, nat_tests, e, with_gone-with_gone a b cs e)

-- changes of two connections in either order, unless both come
pub connections_commute : (q p : Change) (cs : List Connection)
    → is_same (part_of q) (part_of p) ≡ false → (comes q && comes p) ≡ false
    → at_connections p (at_connections q cs) ≡ at_connections q (at_connections p cs)
connections_commute (Arrives c) (Arrives d) cs apart one = absurd cc
connections_commute (Arrives c) (AtSource id s) cs apart one = with_source-push id s c cs apart
connections_commute (Arrives c) (Departs id) cs apart one = with_gone-push id c cs apart
connections_commute (AtSource id s) (Arrives c) cs apart one =
    sym (with_source-push id s c cs (turned id c.id apart))
connections_commute (AtSource a s) (AtSource b t) cs apart one =
    with_source-with_source b a t s cs (turned a b apart)
connections_commute (AtSource a s) (Departs b) cs apart one =
    sym (with_source-with_gone a b s cs apart)
connections_commute (Departs id) (Arrives c) cs apart one =
    sym (with_gone-push id c cs (turned id c.id apart))
connections_commute (Departs a) (AtSource b t) cs apart one =
    with_source-with_gone b a t cs (turned a b apart)
connections_commute (Departs a) (Departs b) cs apart one =
    with_gone-with_gone b a cs (turned a b apart)
connections_commute (AtOutput o x) p cs apart one = refl
connections_commute (AtSession o w s) p cs apart one = refl
connections_commute q p cs apart one = refl

source_at-push : (id : ℕ) (c : Connection) (cs : List Connection) → eqb c.id id ≡ false
    → source_at id (cs ++ c ∷ []) ≡ source_at id cs
source_at-push id c [] e = grind (arith, nat_tests, e)
source_at-push id c (d ∷ cs) e = grind (arith, nat_tests, source_at-push id c cs e)

source_at-with_source : (id a : ℕ) (s : SourceHistory) (cs : List Connection)
    → eqb id a ≡ false → source_at id (with_source a s cs) ≡ source_at id cs
source_at-with_source id a s [] e = refl
source_at-with_source id a s (c ∷ cs) e = grind (arith, nat_tests, e, source_at-with_source id a s cs e)

source_at-with_gone : (id a : ℕ) (cs : List Connection)
    → eqb id a ≡ false → source_at id (with_gone a cs) ≡ source_at id cs
source_at-with_gone id a [] e = refl
source_at-with_gone id a (c ∷ cs) e = grind (arith, nat_tests, e, source_at-with_gone id a cs e)

-- the connection of an id is what it was, where another part is changed
pub source_stays : (id : ℕ) (p : Change) (cs : List Connection)
    → is_same (part.Connection id) (part_of p) ≡ false
    → source_at id (at_connections p cs) ≡ source_at id cs
source_stays id (Arrives c) cs apart = source_at-push id c cs (turned id c.id apart)
source_stays id (AtSource a s) cs apart = source_at-with_source id a s cs apart
source_stays id (Departs a) cs apart = source_at-with_gone id a cs apart
source_stays id (AtOutput o x) cs apart = refl
source_stays id (AtSession o w s) cs apart = refl

-- an id is as fresh as it was, unless one comes
pub fresh_stays : (id : ℕ) (p : Change) (cs : List Connection) → comes p ≡ false
    → is_fresh id (at_connections p cs) ≡ is_fresh id cs
fresh_stays id (Arrives c) cs none = absurd cc
fresh_stays id (AtSource a s) cs none = is_fresh-with_source id a s cs
fresh_stays id (Departs a) cs none = is_fresh-with_gone id a cs
fresh_stays id (AtOutput o x) cs none = refl
fresh_stays id (AtSession o w s) cs none = refl

-- ---- places in a list

pub set-set : {X : Type 0} (xs : List X) (i j : ℕ) (x y : X) → i ≢ j
    → set (set xs j y) i x ≡ set (set xs i x) j y
set-set [] i j x y apart = refl
set-set (a ∷ xs) zero zero x y apart = absurd (apart refl)
set-set (a ∷ xs) zero (suc j) x y apart = refl
set-set (a ∷ xs) (suc i) zero x y apart = refl
set-set (a ∷ xs) (suc i) (suc j) x y apart = ap (λ ys. a ∷ ys) (set-set xs i j x y (λ e. apart (ap suc e)))

pub slice_get-set_other : {X : Type 0} (xs : List X) (i j : ℕ) (x : X) → i ≢ j
    → slice_get (set xs i x) j ≡ slice_get xs j
slice_get-set_other [] i j x apart = refl
slice_get-set_other (a ∷ xs) zero zero x apart = absurd (apart refl)
slice_get-set_other (a ∷ xs) zero (suc j) x apart = refl
slice_get-set_other (a ∷ xs) (suc i) zero x apart = refl
slice_get-set_other (a ∷ xs) (suc i) (suc j) x apart = slice_get-set_other xs i j x (λ e. apart (ap suc e))

-- the place itself has the other element, if there is the place
pub slice_get-set_any : {X : Type 0} (xs : List X) (i j : ℕ) (x : X)
    → slice_get (set xs i x) j ≡ option_map (λ y. cond (eqb i j) x y) (slice_get xs j)
slice_get-set_any [] i j x = refl
slice_get-set_any (a ∷ xs) zero zero x = refl
slice_get-set_any (a ∷ xs) zero (suc j) x =
    option_id (slice_get xs j)
    ∙ ap (λ b. option_map (λ y. cond b x y) (slice_get xs j)) (sym (first_differs j))
slice_get-set_any (a ∷ xs) (suc i) zero x = ap (λ b. Some (cond b x a)) (sym (second_differs i))
slice_get-set_any (a ∷ xs) (suc i) (suc j) x =
    slice_get-set_any xs i j x
    ∙ ap (λ b. option_map (λ y. cond b x y) (slice_get xs j)) (tests_same i j)

changed-changed : {X : Type 0} (g k : X → X) (o j : ℕ) (xs : List X)
    → (o ≡ j → (x : X) → g (k x) ≡ k (g x))
    → changed g o (changed k j xs) ≡ changed k j (changed g o xs)
changed-changed g k o j [] turn = refl
changed-changed g k zero zero (x ∷ xs) turn = ap (λ y. y ∷ xs) (turn refl x)
changed-changed g k zero (suc j) (x ∷ xs) turn = refl
changed-changed g k (suc o) zero (x ∷ xs) turn = refl
changed-changed g k (suc o) (suc j) (x ∷ xs) turn =
    ap (λ ys. x ∷ ys) (changed-changed g k o j xs (λ e. turn (ap suc e)))

pub changed-here : {X : Type 0} (g : X → X) (o : ℕ) (xs : List X) (x : X)
    → slice_get xs o ≡ Some x → changed g o xs ≡ set xs o (g x)
changed-here g o [] x here = refl
changed-here g zero (y ∷ xs) x here = let same : y ≡ x = cc in ap (λ z. g z ∷ xs) same
changed-here g (suc o) (y ∷ xs) x here = ap (λ ys. y ∷ ys) (changed-here g o xs x here)

-- two changes of one place are one change
pub changed_twice : {X : Type 0} (g k : X → X) (o : ℕ) (xs : List X)
    → changed g o (changed k o xs) ≡ changed (λ x. g (k x)) o xs
changed_twice g k o [] = refl
changed_twice g k zero (x ∷ xs) = refl
changed_twice g k (suc o) (x ∷ xs) = ap (λ ys. x ∷ ys) (changed_twice g k o xs)

changed-get : {X : Type 0} (g : X → X) (o j : ℕ) (xs : List X)
    → slice_get (changed g o xs) j
    ≡ option_map (λ x. cond (eqb o j) (g x) x) (slice_get xs j)
changed-get g o j [] = refl
changed-get g zero zero (x ∷ xs) = refl
changed-get g zero (suc j) (x ∷ xs) =
    option_id (slice_get xs j)
    ∙ ap (λ b. option_map (λ y. cond b (g y) y) (slice_get xs j)) (sym (first_differs j))
changed-get g (suc o) zero (x ∷ xs) = ap (λ b. Some (cond b (g x) x)) (sym (second_differs o))
changed-get g (suc o) (suc j) (x ∷ xs) =
    changed-get g o j xs
    ∙ ap (λ b. option_map (λ x. cond b (g x) x) (slice_get xs j)) (tests_same o j)

changed-set : {X : Type 0} (g : X → X) (o j : ℕ) (xs : List X) (x : X)
    → changed g o (set xs j x) ≡ set (changed g o xs) j (cond (eqb o j) (g x) x)
changed-set g o j [] x = refl
changed-set g zero zero (y ∷ xs) x = refl
changed-set g zero (suc j) (y ∷ xs) x =
    ap (λ b. g y ∷ set xs j (cond b (g x) x)) (sym (first_differs j))
changed-set g (suc o) zero (y ∷ xs) x =
    ap (λ b. cond b (g x) x ∷ changed g o xs) (sym (second_differs o))
changed-set g (suc o) (suc j) (y ∷ xs) x =
    ap (λ ys. y ∷ ys) (changed-set g o j xs x ∙ ap (λ b. set (changed g o xs) j (cond b (g x) x)) (tests_same o j))

-- ---- outputs and their workers

place_differs : (a b v w : ℕ) → (eqb a b && eqb v w) ≡ false → b ≡ a → w ≢ v
place_differs a b v w apart e same = grind (arith, nat_tests, apart, e, same)

pub lanes_commute : (q p : Change) (ls : List Lane)
    → is_same (part_of q) (part_of p) ≡ false
    → at_lanes p (at_lanes q ls) ≡ at_lanes q (at_lanes p ls)
lanes_commute (AtOutput a x) (AtOutput b y) ls apart =
    changed-changed (λ l. with_output l y) (λ l. with_output l x) b a ls (λ e. absurd (differ a b apart (sym e)))
lanes_commute (AtOutput a x) (AtSession b w s) ls apart =
    changed-changed (with_place w s) (λ l. with_output l x) b a ls (λ e l. refl)
lanes_commute (AtSession a w s) (AtOutput b y) ls apart =
    changed-changed (λ l. with_output l y) (with_place w s) b a ls (λ e l. refl)
lanes_commute (AtSession a v s) (AtSession b w t) ls apart =
    changed-changed (with_place w t) (with_place v s) b a ls (λ e l.
    ap (λ ss. record l { sessions = ss }) (set-set l.sessions w v t s (place_differs a b v w apart e)))
lanes_commute (Arrives c) p ls apart = refl
lanes_commute (AtSource id s) p ls apart = refl
lanes_commute (Departs id) p ls apart = refl
lanes_commute q p ls apart = refl

-- changes of two parts may be made in either order, unless in both a connection comes
pub changes_commute : (q p : Change) (h : History)
    → is_same (part_of q) (part_of p) ≡ false → (comes q && comes p) ≡ false
    → made p (made q h) ≡ made q (made p h)
changes_commute q p h apart one = λ i. record h {
  connections = connections_commute q p h.connections apart one i;
  lanes = lanes_commute q p h.lanes apart i;
}

pub lane_found : (p : Change) (ls : List Lane) (o : ℕ)
    → slice_get (at_lanes p ls) o ≡ option_map (changed_lane p o) (slice_get ls o)
lane_found (AtOutput a x) ls o = changed-get (λ l. with_output l x) a o ls
lane_found (AtSession a w s) ls o = changed-get (with_place w s) a o ls
lane_found (Arrives c) ls o = option_id (slice_get ls o)
lane_found (AtSource id s) ls o = option_id (slice_get ls o)
lane_found (Departs id) ls o = option_id (slice_get ls o)

pub lane_put : (p : Change) (ls : List Lane) (o : ℕ) (l : Lane)
    → at_lanes p (set ls o l) ≡ set (at_lanes p ls) o (changed_lane p o l)
lane_put (AtOutput a x) ls o l = changed-set (λ l. with_output l x) a o ls l
lane_put (AtSession a w s) ls o l = changed-set (with_place w s) a o ls l
lane_put (Arrives c) ls o l = refl
lane_put (AtSource id s) ls o l = refl
lane_put (Departs id) ls o l = refl

-- ---- what a change makes of an output: nothing, another history, or another session

pub data Touches (p : Change) (o : ℕ) : Type 0 where
  Nothing : changed_lane p o ≡ (λ l. l) → Touches p o
  TheOutput : (x : OutputHistory) → changed_lane p o ≡ (λ l. with_output l x)
      → part_of p ≡ part.Output o → Touches p o
  TheSession : (w : ℕ) (s : Option SessionHistory) → changed_lane p o ≡ with_place w s
      → part_of p ≡ part.Session o w → Touches p o

pub touch_of : (p : Change) (o : ℕ) → Touches p o
touch_of (Arrives c) o = Nothing refl
touch_of (AtSource id s) o = Nothing refl
touch_of (Departs id) o = Nothing refl
touch_of (AtOutput a x) o = by (eqb a o) refl
  where
    by : (b : Bool) → eqb a o ≡ b → Touches (AtOutput a x) o
    by true e = TheOutput x (λ i l. cond (e i) (with_output l x) l) (ap part.Output (same_number a o e))
    by false e = Nothing (λ i l. cond (e i) (with_output l x) l)
touch_of (AtSession a w s) o = by (eqb a o) refl
  where
    by : (b : Bool) → eqb a o ≡ b → Touches (AtSession a w s) o
    by true e = TheSession w s (λ i l. cond (e i) (with_place w s l) l) (ap (λ b. part.Session b w) (same_number a o e))
    by false e = Nothing (λ i l. cond (e i) (with_place w s l) l)
