-- Two lists of events that name nothing in common come to the same however they are merged.
use Rattle.std.proofs.Common.{◌≡◌, Bool, true, false, List, [], ◌∷◌, ◌++◌, refl, sym, ap, subst, ◌∙◌, inl, inr}
use Rattle.std.proofs.lemmas.Bool.{and_parts}
use Rattle.std.specs.Prelude.{not, ◌&&◌}
use Rattle.std.specs.List.{list_all}
use Rattle.fwd_model.specs.declared.event.Event.{Event}
use Rattle.fwd_model.specs.Step.{after, answers}
use Rattle.fwd_model.specs.History.{History, histories}
use Rattle.fwd_model.specs.Names.{Commute, are_unrelated, is_accept}
use Rattle.fwd_model.proofs.Reached.{IsSane}
use Rattle.fwd_model.proofs.Orders.Commuting.{unrelated_commute}
use Rattle.fwd_laws.specs.Merging.{Merges, are_free, all_free}
use Rattle.fwd_laws.proofs.Sane.{next-sane}

is-not : (b : Bool) → not b ≡ true → b ≡ false
is-not true e = absurd cc
is-not false e = refl

-- two events that are free of each other come to the same in either order
pub free-commute : (h : History) (e f : Event) → IsSane h → are_free e f ≡ true → Commute h e f
free-commute h e f sane free =
    let parts = and_parts (are_unrelated e f) (not (is_accept e && is_accept f)) free in
    unrelated_commute h e f sane parts.0 (is-not (is_accept e && is_accept f) parts.1)

-- each event of the list is free of this one
abbrev pub FreeOf : List Event → Event → Type 0
FreeOf es f = list_all (λ e. are_free e f) es ≡ true

-- an event of the first list is free of the second, and the rest of the first is
pub first-free : (e : Event) (es fs : List Event) → all_free (e ∷ es) fs ≡ true
    → (list_all (λ f. are_free e f) fs ≡ true) × (all_free es fs ≡ true)
first-free e es fs all = and_parts (list_all (λ f. are_free e f) fs) (all_free es fs) all

-- the first list is free of an event of the second, and of the rest of the second
pub second-free : (es : List Event) (f : Event) (fs : List Event) → all_free es (f ∷ fs) ≡ true
    → FreeOf es f × (all_free es fs ≡ true)
second-free [] f fs all = (refl, refl)
second-free (e ∷ es) f fs all =
    let own = first-free e es (f ∷ fs) all in
    let one = and_parts (are_free e f) (list_all (λ g. are_free e g) fs) own.0 in
    let rest = second-free es f fs own.1 in
    ((λ i. one.0 i && rest.0 i), (λ i. one.1 i && rest.1 i))

-- ---- one event past a list

-- an event before a list that is free of it leads where it leads behind the list
past-list : (es : List Event) (f : Event) (h : History) → IsSane h → FreeOf es f
    → after histories (after histories h (f ∷ [])) es
    ≡ after histories (after histories h es) (f ∷ [])
past-list [] f h sane free = refl
past-list (e ∷ es) f h sane free =
    let parts = and_parts (are_free e f) (list_all (λ g. are_free g f) es) free in
    ap (λ k. after histories k es) (sym (free-commute h e f sane parts.0).state)
    ∙ past-list es f (after histories h (e ∷ [])) (next-sane h e sane) parts.1

-- and each event of the list is answered alike
list-answers : (es : List Event) (f : Event) (h : History) → IsSane h → FreeOf es f
    → answers histories (after histories h (f ∷ [])) es ≡ answers histories h es
list-answers [] f h sane free = refl
list-answers (e ∷ es) f h sane free =
    let parts = and_parts (are_free e f) (list_all (λ g. are_free g f) es) free in
    let both = free-commute h e f sane parts.0 in λ i.
    sym both.first i ∷ (ap (λ k. answers histories k es) (sym both.state) ∙ list-answers es f (after histories h (e ∷ [])) (next-sane h e sane) parts.1) i

-- and the event is answered alike behind the list
behind-list : (e : Event) (fs : List Event) (h : History) → IsSane h
    → list_all (λ f. are_free e f) fs ≡ true
    → answers histories (after histories h (e ∷ [])) fs ≡ answers histories h fs
behind-list e [] h sane free = refl
behind-list e (f ∷ fs) h sane free =
    let parts = and_parts (are_free e f) (list_all (λ g. are_free e g) fs) free in
    let both = free-commute h e f sane parts.0 in λ i.
    both.second i ∷ (ap (λ k. answers histories k fs) both.state ∙ behind-list e fs (after histories h (f ∷ [])) (next-sane h f sane) parts.1) i

after-append : (es fs : List Event) (h : History)
    → after histories h (es ++ fs) ≡ after histories (after histories h es) fs
after-append [] fs h = refl
after-append (e ∷ es) fs h = after-append es fs (after histories h (e ∷ []))

-- ---- merged lists

pub merged-after : (gs es fs : List Event) (h : History) → IsSane h → all_free es fs ≡ true
    → Merges es fs gs → after histories h gs ≡ after histories h (es ++ fs)
merged-after [] es fs h sane free none =
    λ i. after histories h (sym none.0 i ++ sym none.1 i)
merged-after (g ∷ gs) es fs h sane free (inl (rest, is, merges)) =
    let all = first-free g rest fs (subst (λ xs. all_free xs fs ≡ true) is free) in
    merged-after gs rest fs (after histories h (g ∷ [])) (next-sane h g sane) all.1 merges
    ∙ ap (λ xs. after histories h (xs ++ fs)) (sym is)
merged-after (g ∷ gs) es fs h sane free (inr (rest, is, merges)) =
    let all = second-free es g rest (subst (λ xs. all_free es xs ≡ true) is free) in
    merged-after gs es rest (after histories h (g ∷ [])) (next-sane h g sane) all.1 merges
    ∙ after-append es rest (after histories h (g ∷ []))
    ∙ ap (λ k. after histories k rest) (past-list es g h sane all.0)
    ∙ sym (after-append es (g ∷ rest) h)
    ∙ ap (λ xs. after histories h (es ++ xs)) (sym is)

pub merged-answers : (gs es fs : List Event) (h : History) → IsSane h → all_free es fs ≡ true
    → Merges es fs gs
    → Merges (answers histories h es) (answers histories h fs) (answers histories h gs)
merged-answers [] es fs h sane free none =
    (ap (answers histories h) none.0, ap (answers histories h) none.1)
merged-answers (g ∷ gs) es fs h sane free (inl (rest, is, merges)) =
    let all = first-free g rest fs (subst (λ xs. all_free xs fs ≡ true) is free) in
    let k = after histories h (g ∷ []) in
    inl (
      answers histories k rest,
      ap (answers histories h) is,
      subst (λ xs. Merges (answers histories k rest) xs (answers histories k gs)) (behind-list g fs h sane all.0)
          (merged-answers gs rest fs k (next-sane h g sane) all.1 merges),
    )
merged-answers (g ∷ gs) es fs h sane free (inr (rest, is, merges)) =
    let all = second-free es g rest (subst (λ xs. all_free es xs ≡ true) is free) in
    let k = after histories h (g ∷ []) in
    inr (
      answers histories k rest,
      ap (answers histories h) is,
      subst (λ xs. Merges xs (answers histories k rest) (answers histories k gs)) (list-answers es g h sane all.0)
          (merged-answers gs es rest k (next-sane h g sane) all.1 merges),
    )
