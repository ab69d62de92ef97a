use Rattle.std.proofs.Common.{arith, ◌≡◌, ◌≤◌, ℕ, suc, Bool, true, false, cond, Option, Some, None, List, [], ◌∷◌, length, refl, sym, ap, subst, ◌∙◌}
use Rattle.std.specs.Prelude.{filter, find, option_map}
use Rattle.fwd_modes.specs.declared.origin.Origin.{Origin}
use Rattle.fwd_book.specs.History.{Entered, is_of}
use Rattle.fwd_book.specs.Live.{LiveBook, BookState, IsSound, evidence_for, live_leaves, live_forgets_of, live_owed_of}
use Rattle.fwd_book.proofs.Whose.{forgets-then, owed-less, none-forgotten}
use Rattle.fwd_book.proofs.book.Book.forget_of.Goals as goal
use Rattle.std.proofs.lemmas.Option.{same_Some}

pub loop-count-init : goal.loop-count-init
loop-count-init c = record { same = refl; left = refl; count = omega arith }

-- the request whose origin is found
first_is : (p : Entered → Bool) (qs : List Entered) (o : Origin)
    → Some o ≡ option_map (λ q. q.origin) (find p qs)
    → (q : Entered) × (find p qs ≡ Some q) × (q.origin ≡ o)
first_is p qs o e = by (find p qs) refl e
  where
    by : (k : Option Entered) → find p qs ≡ k → Some o ≡ option_map (λ (q : Entered). q.origin) k
        → (q : Entered) × (find p qs ≡ Some q) × (q.origin ≡ o)
    by None f g = absurd cc
    by (Some q) f g = (q, f, sym (same_Some _ _ g))

none_is : (p : Entered → Bool) (qs : List Entered)
    → None ≡ option_map (λ q. q.origin) (find p qs) → find p qs ≡ None
none_is p qs e = by (find p qs) e
  where
    by : (k : Option Entered) → None ≡ option_map (λ (q : Entered). q.origin) k → k ≡ None
    by None f = refl
    by (Some q) f = absurd cc

few_of : (p : Entered → Bool) (qs : List Entered) → length (filter p qs) ≤ length qs
few_of p [] = omega arith
few_of p (q ∷ qs) = by (p q) (few_of p qs)
  where
    by : (b : Bool) → length (filter p qs) ≤ length qs
        → length (cond b (q ∷ filter p qs) (filter p qs)) ≤ suc (length qs)
    by true h = omega (arith, h)
    by false h = omega (arith, h)

-- one less is owed
step : (b d : LiveBook) (conn : ℕ) (o : Origin)
    → Some o ≡ option_map (λ q. q.origin) (find (is_of conn) b.requests)
    → IsSound b → d ≡ live_leaves b (o ∷ [])
    → (live_forgets_of d conn ≡ live_forgets_of b conn)
    × (live_owed_of b conn ≡ suc (live_owed_of d conn))
step b d conn o found sound is =
    let q = first_is (is_of conn) b.requests o found in
    let left : live_leaves b (q.0.origin ∷ []) ≡ d = ap (λ x. live_leaves b (x ∷ [])) q.2 ∙ sym is in (
      ap (λ x. live_forgets_of x conn) (sym left) ∙ forgets-then b conn q.0 sound.apart q.1,
      owed-less b conn q.0 sound.apart q.1 ∙ ap (λ x. suc (live_owed_of x conn)) left,
    )

pub overflow_add-count : goal.overflow_add-count
overflow_add-count c =
    let b : LiveBook = c.loop-count.self.live in
    let d = step b (c.leave_first.new.self).live c.args.conn c.in-Some.field-0 c.in-Some.ensures.first c.in-Some.ensures.sound (ap (λ (s : BookState). s.live) c.in-Some.ensures.left) in
    let few = few_of (is_of c.args.conn) c.args.self.now.live.requests in
    let all = c.are_few.ensures in
    omega (arith, c.loop-count.invariant.count, d.1, few, all, ap (λ (s : BookState). length s.live.requests) c.self.view_is)

pub loop-count-smaller : goal.loop-count-smaller
loop-count-smaller c =
    let b : LiveBook = c.loop-count.self.live in
    let d = step b (c.leave_first.new.self).live c.args.conn c.in-Some.field-0 c.in-Some.ensures.first c.in-Some.ensures.sound (ap (λ (s : BookState). s.live) c.in-Some.ensures.left) in
    omega (arith, d.1)

pub loop-count-preserved : goal.loop-count-preserved
loop-count-preserved c =
    let b : LiveBook = c.loop-count.self.live in
    let d = step b (c.leave_first.new.self).live c.args.conn c.in-Some.field-0 c.in-Some.ensures.first c.in-Some.ensures.sound (ap (λ (s : BookState). s.live) c.in-Some.ensures.left) in
    record {
      same = (λ i. record { live = (c.leave_first.new.self).live; ready = (ap (λ (s : BookState). s.ready) c.in-Some.ensures.left ∙ ap (λ (s : BookState). s.ready) c.loop-count.invariant.same) i });
      left = d.0 ∙ c.loop-count.invariant.left;
      count = omega (arith, c.loop-count.invariant.count, d.1);
    }

pub returns-clause-count : goal.returns-clause-count
returns-clause-count c =
    let b : LiveBook = c.loop-count.self.live in
    let same = c.in_default.ensures.same in
    let kept = subst (λ (s : BookState). evidence_for s.live.requests s.live.settled ≡ s.live.settled) same c.is_sound.ensures.kept in
    let all = (none-forgotten b c.args.conn kept (none_is (is_of c.args.conn) b.requests c.in_default.ensures.first)).1 in
    omega (arith, c.loop-count.invariant.count, all)

pub returns-clause-left : goal.returns-clause-left
returns-clause-left c =
    let b : LiveBook = c.loop-count.self.live in
    let same = c.in_default.ensures.same in
    let kept = subst (λ (s : BookState). evidence_for s.live.requests s.live.settled ≡ s.live.settled) same c.is_sound.ensures.kept in
    let all = (none-forgotten b c.args.conn kept (none_is (is_of c.args.conn) b.requests c.in_default.ensures.first)).0 in
    same ∙ c.loop-count.invariant.same ∙ (λ i. record { live = (sym all ∙ c.loop-count.invariant.left) i; ready = c.args.self.now.ready })
