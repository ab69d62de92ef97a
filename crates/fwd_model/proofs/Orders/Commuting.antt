-- Events that name nothing in common come to the same in either order: each is alike beside the
-- other's changes, and these may be made in either order.
use Rattle.std.proofs.Common.{◌≡◌, Bool, true, false, List, [], ◌∷◌, refl, sym, ap, ◌∙◌}
use Rattle.std.proofs.lemmas.Bool.{and_parts}
use Rattle.std.specs.Prelude.{not, ◌==◌, ◌&&◌, ◌||◌}
use Rattle.std.specs.List.{list_all, list_any}
use Rattle.fwd_model.specs.declared.event.Event.{Event}
use Rattle.fwd_model.specs.Outcome.{Outcome, Stays, Goes, answer_of, state_of, within}
use Rattle.fwd_model.specs.Step.{step, after}
use Rattle.fwd_model.specs.History.{History, histories}
use Rattle.fwd_model.specs.Names as part
use Rattle.fwd_model.specs.Names.{Named, is_same, names, does_name, are_unrelated, is_accept, Commute}
use Rattle.fwd_model.proofs.Onward.{at_next}
use Rattle.fwd_model.proofs.Reached.{IsSane}
use Rattle.fwd_model.proofs.Orders.Changes.{Change, part_of, comes, made, all_made, same_number, changes_commute}
use Rattle.fwd_model.proofs.Orders.Besides.{Spares, beside, no_test}
use Rattle.fwd_model.proofs.Orders.Effects.{IsNamed, AllOwn, Effect, no_effect, event_leads}

-- ---- what one names, the other does not

is_false : (b : Bool) → (b ≡ true → ⊥) → b ≡ false
is_false true never = absurd (never refl)
is_false false never = refl

both_true : (a b : Bool) → (a && b) ≡ true → (a ≡ true) × (b ≡ true)
both_true true true e = (refl, refl)
both_true true false e = absurd cc
both_true false b e = absurd cc

same_is : (a b : Named) → is_same a b ≡ true → a ≡ b
same_is (part.Connection a) (part.Connection b) e = ap part.Connection (same_number a b e)
same_is (part.Output a) (part.Output b) e = ap part.Output (same_number a b e)
same_is (part.Session a v) (part.Session b w) e =
    let parts = both_true (a == b) (v == w) e in
    λ i. part.Session (same_number a b parts.0 i) (same_number v w parts.1 i)
same_is a b e = absurd cc

apart_in : (ns : List Named) (g : Named → Bool) (t : Named)
    → list_all (λ n. not (g n)) ns ≡ true → list_any (λ n. is_same n t) ns ≡ true → g t ≡ false
apart_in [] g t all any = absurd cc
apart_in (n ∷ ns) g t all any = by (λ e. apart_in ns g t parts.1 e) (is_same n t) refl any
  where
    parts : (not (g n) ≡ true) × (list_all (λ k. not (g k)) ns ≡ true)
    parts = and_parts (not (g n)) (list_all (λ k. not (g k)) ns) all

    turned : (b : Bool) → not b ≡ true → b ≡ false
    turned true e = absurd cc
    turned false e = refl

    by : (list_any (λ k. is_same k t) ns ≡ true → g t ≡ false) → (b : Bool) → is_same n t ≡ b
        → (b || list_any (λ k. is_same k t) ns) ≡ true → g t ≡ false
    by rest true e f = ap g (sym (same_is n t e)) ∙ turned (g n) parts.0
    by rest false e f = rest f

-- the first names nothing that the second does
abbrev Apart : Event → Event → Type 0
Apart e f = (t : Named) → does_name e t ≡ true → does_name f t ≡ false

unrelated_apart : (e f : Event) → are_unrelated e f ≡ true → Apart e f
unrelated_apart e f unrelated t named =
    apart_in (names e) (does_name f) t unrelated named

apart_back : (e f : Event) → Apart e f → Apart f e
apart_back e f all t named = is_false (does_name e t) (λ has. no_test named (all t has))

-- two changes that two such events make are of two parts
parts_differ : (e f : Event) → Apart e f → (p q : Change) → does_name e (part_of p) ≡ true
    → does_name f (part_of q) ≡ true → is_same (part_of q) (part_of p) ≡ false
parts_differ e f all p q one other = is_false (is_same (part_of q) (part_of p)) (λ same.
    no_test other (ap (does_name f) (same_is (part_of q) (part_of p) same) ∙ all (part_of p) one))

-- they do not both come
one_comes : (p e f : Bool) → (p && not e) ≡ false → (e && f) ≡ false → (f && p) ≡ false
one_comes false e true g one = refl
one_comes false e false g one = refl
one_comes true e false g one = refl
one_comes true false true g one = absurd cc
one_comes true true true g one = absurd cc

two_come : (p q e f : Bool) → (p && not e) ≡ false → (q && not f) ≡ false → (e && f) ≡ false
    → (q && p) ≡ false
two_come p false e f g h one = refl
two_come p true e false g h one = absurd cc
two_come p true e true g h one = one_comes p e true g one

-- ---- outcomes through changes

within_id : {S : Type 0} (x : Outcome S) → within (λ s. s) x ≡ x
within_id (Stays a) = refl
within_id (Goes a s) = refl

within_twice : {S T U : Type 0} (g : T → U) (k : S → T) (x : Outcome S)
    → within (λ s. g (k s)) x ≡ within g (within k x)
within_twice g k (Stays a) = refl
within_twice g k (Goes a s) = refl

answer_within : {S T : Type 0} (g : S → T) (x : Outcome S) → answer_of (within g x) ≡ answer_of x
answer_within g (Stays a) = refl
answer_within g (Goes a s) = refl

state_within : {S : Type 0} (g : S → S) (h : S) (x : Outcome S)
    → state_of (g h) (within g x) ≡ g (state_of h x)
state_within g h (Stays a) = refl
state_within g h (Goes a s) = refl

module _ (e f : Event) (away : Apart e f) (one : (is_accept e && is_accept f) ≡ false) where
  -- an event beside another's changes
  beside_all : (ps : List Change) (h : History) → AllOwn e ps h
      → within (all_made ps) (step histories h f) ≡ step histories (all_made ps h) f
  beside_all [] h own = within_id (step histories h f)
  beside_all (p ∷ ps) h own =
      within_twice (all_made ps) (made p) (step histories h f)
      ∙ ap (within (all_made ps)) (beside p h f (away (part_of p) own.0.own.named) (one_comes (comes p) (is_accept e) (is_accept f) own.0.own.accepts one) spares).same
      ∙ beside_all ps (made p h) own.1
    where
      spares : Spares p f h
      spares o w l named here = own.0.keeps o w l (apart_back e f away (part.Session o w) named) here

  -- one change and another event's changes
  change_past : (p : Change) (qs : List Change) (h k : History) → IsNamed e p → AllOwn f qs k
      → made p (all_made qs h) ≡ all_made qs (made p h)
  change_past p [] h k named own = refl
  change_past p (q ∷ qs) h k named own =
      change_past p qs (made q h) (made q k) named own.1
      ∙ ap (all_made qs) (changes_commute q p h (parts_differ e f away p q named.named own.0.own.named) (two_come (comes p) (comes q) (is_accept e) (is_accept f) named.accepts own.0.own.accepts one))

  changes_past : (ps qs : List Change) (h j k : History) → AllOwn e ps j → AllOwn f qs k
      → all_made ps (all_made qs h) ≡ all_made qs (all_made ps h)
  changes_past [] qs h j k own its = refl
  changes_past (p ∷ ps) qs h j k own its =
      ap (all_made ps) (change_past p qs h k own.0.own its)
      ∙ changes_past ps qs (made p h) (made p j) k own.1 its

  module _ (h : History) (first : Effect e h (state_of h (step histories h e))) where
    -- the second is answered after the first as before
    answered_after : answer_of (step histories (after histories h (e ∷ [])) f)
        ≡ answer_of (step histories h f)
    answered_after =
        ap (λ k. answer_of (step histories k f)) first.leads
        ∙ ap answer_of (sym (beside_all first.changes h first.own))
        ∙ answer_within (all_made first.changes) (step histories h f)

    -- and leads after the first to where it leads before, with the first's changes
    leads_after : after histories h (e ∷ f ∷ [])
        ≡ all_made first.changes (state_of h (step histories h f))
    leads_after =
        ap (λ k. state_of k (step histories k f)) first.leads
        ∙ ap (state_of (all_made first.changes h)) (sym (beside_all first.changes h first.own))
        ∙ state_within (all_made first.changes) h (step histories h f)

effect_of : (h : History) (e : Event) → IsSane h → Effect e h (state_of h (step histories h e))
effect_of h e sane =
    at_next h (step histories h e) (Effect e h) (λ a s. no_effect e h) (event_leads h sane e) (λ a k s leads. leads)

and_turned : (a b : Bool) → (a && b) ≡ false → (b && a) ≡ false
and_turned true true e = absurd cc
and_turned true false e = refl
and_turned false true e = refl
and_turned false false e = refl

pub unrelated_commute : (h : History) (e f : Event) → IsSane h → are_unrelated e f ≡ true
    → (is_accept e && is_accept f) ≡ false → Commute h e f
unrelated_commute h e f sane unrelated one =
    let away = unrelated_apart e f unrelated in
    let back = apart_back e f away in
    let other = and_turned (is_accept e) (is_accept f) one in
    let x = effect_of h e sane in
    let y = effect_of h f sane in record {
      first = sym (answered_after f e back other h y);
      second = answered_after e f away one h x;
      state = leads_after e f away one h x
          ∙ ap (all_made x.changes) y.leads
          ∙ changes_past e f away one x.changes y.changes h h h x.own y.own
          ∙ ap (all_made y.changes) (sym x.leads)
          ∙ sym (leads_after f e back other h y);
    }
