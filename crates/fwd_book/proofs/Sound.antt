-- A sound book stays sound.
use Rattle.std.proofs.Common.{◌≡◌, ℕ, Bool, true, false, zero, suc, cond, Some, None, List, [], ◌∷◌, ◌++◌, refl, sym, ap, subst, ◌∙◌, inl, inr}
use Rattle.std.specs.Option.{option_or}
use Rattle.std.proofs.lemmas.List.Folds.{find-append}
use Rattle.std.specs.Prelude.{find, ◌&&◌, ◌⊎◌, map, filter, drop, not, ◌==◌, slice_get}
use Rattle.std.specs.List.{list_any}
use Rattle.std.proofs.lemmas.Bool.{eqb-true, eq-eqb}
use Rattle.fwd_modes.specs.Acks.{ack_name}
use Rattle.fwd_modes.specs.declared.origin.Origin.{Origin}
use Rattle.fwd_chunks.specs.declared.span.Span.{Span}
use Rattle.fwd_session.specs.ServerAcks.{ServerAck}
use Rattle.fwd_chunks.specs.Spans.{AreCutBy, AreRising}
use Rattle.fwd_book.specs.History.{BookSetting, Entered, is_origin, request_at, is_among, evidence_of, has_run, is_fresh, name_at}
use Rattle.fwd_book.specs.Live.{LiveBook, evidence_for, live_opening, live_enters, live_settles, live_drops, live_leaves, HasItsRuns, AreApart, IsOf, IsSound}
use Rattle.fwd_book.proofs.Following.{filter-at}
use Rattle.fwd_book.proofs.Found.{comes, found_there, in_both}
use Rattle.fwd_book.proofs.Facts.{apart, none_some, neither_left, neither_right, is_not}
use Rattle.std.proofs.lemmas.Option.{same_Some}

-- one origin is the other, either way
one_way : (a b : Origin) → is_origin a b ≡ is_origin b a
one_way a b = λ i. either (a.conn) (b.conn) i && either (a.request) (b.request) i
  where
    either : (m n : ℕ) → (m == n) ≡ (n == m)
    either m n = by (m == n) (n == m) refl refl
      where
        by : (x y : Bool) → (m == n) ≡ x → (n == m) ≡ y → x ≡ y
        by true true e f = refl
        by false false e f = refl
        by true false e f = sym (sym e ∙ ap (λ k. k == n) (eqb-true m n e) ∙ eq-eqb n n refl) ∙ absurd (apart (sym f ∙ ap (λ k. n == k) (eqb-true m n e) ∙ eq-eqb n n refl))
        by false true e f = absurd (apart (sym e ∙ ap (λ k. m == k) (eqb-true n m f) ∙ eq-eqb m m refl))

-- what is nowhere is nowhere once some leave
pub find_left : {X : Type 0} (p q : X → Bool) (xs : List X) → find p xs ≡ None
    → find p (filter q xs) ≡ None
find_left p q [] none = refl
find_left p q (x ∷ xs) none = by (p x) (q x) refl none (find_left p q xs)
  where
    by : (a b : Bool) → p x ≡ a → cond a (Some x) (find p xs) ≡ None
        → (find p xs ≡ None → find p (filter q xs) ≡ None)
        → find p (cond b (x ∷ filter q xs) (filter q xs)) ≡ None
    by true b e n more = absurd (none_some (sym n))
    by false true e n more = ap (λ k. cond k (Some x) (find p (filter q xs))) e ∙ more n
    by false false e n more = more n

-- the last one is the only one of a list of one
only : {X : Type 0} (x y : X) (i : ℕ) → slice_get (x ∷ []) i ≡ Some y → x ≡ y
only x y zero e = same_Some _ _ e
only x y (suc i) e = absurd (none_some e)

-- where none pass, one that stands there does not
none_passes : {X : Type 0} (p : X → Bool) (xs : List X) (i : ℕ) (x : X) → list_any p xs ≡ false
    → slice_get xs i ≡ Some x → p x ≡ false
none_passes p [] i x none e = absurd (none_some e)
none_passes p (y ∷ xs) zero x none e = sym (ap p (same_Some _ _ e)) ∙ neither_left (p y) (list_any p xs) none
none_passes p (y ∷ xs) (suc i) x none e = none_passes p xs i x (neither_right (p y) (list_any p xs) none) e

-- a request that has not the number has no run of it
no_runs : (number : ℕ) (chunk : List (List ℕ)) (spans : List Span) (own : List (List ℕ))
    → list_any (λ s. s.number == number) spans ≡ false → HasItsRuns number chunk spans own
no_runs number chunk [] own none = tt
no_runs number chunk (s ∷ spans) own none = (
  λ same. absurd (apart (sym (neither_left (s.number == number) (list_any (λ t. t.number == number) spans) none) ∙ eq-eqb s.number number same)),
  no_runs number chunk spans (drop s.count own) (neither_right (s.number == number) (list_any (λ t. t.number == number) spans) none),
)

pub sound-opening : (setting : BookSetting) → IsSound (live_opening setting)
sound-opening setting = record {
  apart = tt;
  cut = λ i q e. absurd (none_some e);
  rising = λ i q e. absurd (none_some e);
  names = λ j e at. absurd (none_some at);
  of = λ i j q e at there. absurd (none_some at);
}

-- a request of a new origin stands apart from the others
apart_behind : (qs : List Entered) (q : Entered) → AreApart qs → request_at qs q.origin ≡ None
    → AreApart (qs ++ q ∷ [])
apart_behind [] q alone new = (refl, tt)
apart_behind (r ∷ qs) q alone new = by (is_origin q.origin r.origin) refl new (λ e. apart_behind qs q alone.1 e)
  where
    other : is_origin q.origin r.origin ≡ false → is_origin r.origin q.origin ≡ false
    other e = sym (one_way q.origin r.origin) ∙ e

    by : (a : Bool) → is_origin q.origin r.origin ≡ a
        → cond a (Some r) (request_at qs q.origin) ≡ None
        → (request_at qs q.origin ≡ None → AreApart (qs ++ q ∷ [])) → AreApart (r ∷ qs ++ q ∷ [])
    by true same n more = absurd (none_some (sym n))
    by false same n more = (
      find-append (λ (x : Entered). is_origin r.origin x.origin) qs (q ∷ [])
          ∙ (λ i. option_or (alone.0 i) (cond (other same i) (Some q) None)),
      more n,
    )

-- what stands apart stands so where some leave
apart_left : (p : Entered → Bool) (qs : List Entered) → AreApart qs → AreApart (filter p qs)
apart_left p [] alone = tt
apart_left p (q ∷ qs) alone = by (p q) (apart_left p qs alone.1)
  where
    by : (a : Bool) → AreApart (filter p qs) → AreApart (cond a (q ∷ filter p qs) (filter p qs))
    by true more = (find_left (λ (r : Entered). is_origin q.origin r.origin) p qs alone.0, more)
    by false more = more

pub sound-enters : (b : LiveBook) (q : Entered) → IsSound b → request_at b.requests q.origin ≡ None
    → AreCutBy q.spans q.entries
    → AreRising (map (λ s. s.number) q.spans) → is_fresh b.settled q ≡ true
    → IsSound (live_enters b q)
sound-enters b q sound new cut rising fresh = record {
  apart = apart_behind b.requests q sound.apart new;
  cut = λ i r at. by_cut i r (in_both b.requests (q ∷ []) i r at);
  rising = λ i r at. by_rising i r (in_both b.requests (q ∷ []) i r at);
  names = sound.names;
  of = λ i j r e at there. by_of i j r e (in_both b.requests (q ∷ []) i r at) there;
}
  where
    Where : Entered → Type 0
    Where r = ((j : ℕ) × (slice_get b.requests j ≡ Some r)) ⊎ ((j : ℕ) × (slice_get (q ∷ []) j ≡ Some r))

    by_cut : (i : ℕ) (r : Entered) → Where r → AreCutBy r.spans r.entries
    by_cut i r (inl at) = sound.cut at.0 r at.1
    by_cut i r (inr at) = subst (λ x. AreCutBy x.spans x.entries) (only q r at.0 at.1) cut

    by_rising : (i : ℕ) (r : Entered) → Where r → AreRising (map (λ s. s.number) r.spans)
    by_rising i r (inl at) = sound.rising at.0 r at.1
    by_rising i r (inr at) = subst (λ x. AreRising (map (λ s. s.number) x.spans)) (only q r at.0 at.1) rising

    by_of : (i j : ℕ) (r : Entered) (e : ServerAck) → Where r → slice_get b.settled j ≡ Some e
        → IsOf r e
    by_of i j r e (inl at) there = sound.of at.0 j r e at.1 there
    by_of i j r e (inr at) there =
        let none = none_passes (λ (x : ServerAck). has_run x.number q) b.settled j e (is_not (list_any (λ x. has_run x.number q) b.settled) fresh) there in
        subst (λ x. IsOf x e) (only q r at.0 at.1) (record {
          tag = λ has. absurd (apart (sym none ∙ has));
          runs = no_runs e.number e.entries q.spans q.entries none;
        })

pub sound-settles : (b : LiveBook) (e : ServerAck) → IsSound b
    → ack_name e.reply ≡ Some (name_at b.setting e.number)
    → ((i : ℕ) (q : Entered) → slice_get b.requests i ≡ Some q → IsOf q e)
    → IsSound (live_settles b e)
sound-settles b e sound names of = record {
  apart = sound.apart;
  cut = sound.cut;
  rising = sound.rising;
  names = λ j d there. by_names d (where_from j d there);
  of = λ i j q d here there. by_of i q d here (where_from j d there);
}
  where
    Where : ServerAck → Type 0
    Where d = ((j : ℕ) × (slice_get b.settled j ≡ Some d)) ⊎ ((j : ℕ) × (slice_get (e ∷ []) j ≡ Some d))

    where_from : (j : ℕ) (d : ServerAck)
        → slice_get (evidence_for b.requests (b.settled ++ e ∷ [])) j ≡ Some d → Where d
    where_from j d there =
        let from = comes (evidence_of (b.settled ++ e ∷ [])) b.requests j d there in
        let at = found_there (b.settled ++ e ∷ []) from.number d from.found in
        in_both b.settled (e ∷ []) at.0 d at.1

    by_names : (d : ServerAck) → Where d → ack_name d.reply ≡ Some (name_at b.setting d.number)
    by_names d (inl at) = sound.names at.0 d at.1
    by_names d (inr at) = subst (λ x. ack_name x.reply ≡ Some (name_at b.setting x.number)) (only e d at.0 at.1) names

    by_of : (i : ℕ) (q : Entered) (d : ServerAck) → slice_get b.requests i ≡ Some q → Where d
        → IsOf q d
    by_of i q d here (inl at) = sound.of i at.0 q d here at.1
    by_of i q d here (inr at) = subst (λ x. IsOf q x) (only e d at.0 at.1) (of i q here)

pub sound-drops : (b : LiveBook) (gone : Entered → Bool) → IsSound b → IsSound (live_drops gone b)
sound-drops b gone sound = record {
  apart = apart_left (λ q. not (gone q)) b.requests sound.apart;
  cut = λ i q here. let at = in_left i q here in sound.cut at.0 q at.1;
  rising = λ i q here. let at = in_left i q here in sound.rising at.0 q at.1;
  names = λ j e there. let on = in_kept j e there in sound.names on.0 e on.1;
  of = λ i j q e here there. let at = in_left i q here in let on = in_kept j e there in sound.of at.0 on.0 q e at.1 on.1;
}
  where
    in_left : (i : ℕ) (q : Entered) → slice_get (filter (λ r. not (gone r)) b.requests) i ≡ Some q
        → (j : ℕ) × (slice_get b.requests j ≡ Some q)
    in_left i q here = filter-at (λ r. not (gone r)) b.requests i q here

    in_kept : (j : ℕ) (e : ServerAck)
        → slice_get (evidence_for (filter (λ r. not (gone r)) b.requests) b.settled) j ≡ Some e
        → (k : ℕ) × (slice_get b.settled k ≡ Some e)
    in_kept j e there =
        let from = comes (evidence_of b.settled) (filter (λ r. not (gone r)) b.requests) j e there in
        found_there b.settled from.number e from.found

pub sound-leaves : (b : LiveBook) (origins : List Origin) → IsSound b
    → IsSound (live_leaves b origins)
sound-leaves b origins sound = sound-drops b (λ q. is_among origins q.origin) sound
