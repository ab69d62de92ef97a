-- Two lists that have the same events at each part lead to one history: what the first begins with
-- stands in the second behind events that it has nothing in common with.
use Rattle.std.proofs.Common.{◌≡◌, Bool, true, false, cond, eqb, List, [], ◌∷◌, refl, sym, ap, subst, ◌∙◌, inl, inr}
use Rattle.std.proofs.lemmas.Bool.{and_parts}
use Rattle.std.specs.Prelude.{◌⊎◌, filter, not, ◌&&◌, ◌||◌}
use Rattle.std.specs.List.{list_all, list_any}
use Rattle.fwd_model.specs.declared.event.Event.{Event}
use Rattle.fwd_model.specs.declared.event.Event.TheVariants as event
use Rattle.fwd_model.specs.declared.answer.Answer.{Answer}
use Rattle.fwd_model.specs.Outcome.{answer_of}
use Rattle.fwd_model.specs.Step.{step, after}
use Rattle.fwd_model.specs.History.{History, histories}
use Rattle.fwd_model.specs.Names as part
use Rattle.fwd_model.specs.Names.{Named, names, is_same, does_name, are_unrelated, is_accept, Commute}
use Rattle.fwd_model.proofs.Reached.{IsSane}
use Rattle.fwd_model.proofs.Orders.Changes.{same_number}
use Rattle.fwd_model.proofs.Orders.Besides.{no_test, same_self}
use Rattle.fwd_model.proofs.Orders.Commuting.{unrelated_commute}
use Rattle.fwd_laws.specs.Merging.{at_part, answers_at, AreOneAtEach}
use Rattle.fwd_laws.proofs.Sane.{next-sane}

-- ---- what an event names

-- each event names a part
record NamesOne (e : Event) : Type 0 where
  first : Named
  others : List Named
  is : names e ≡ first ∷ others

one : {e : Event} (a : Named) (others : List Named) → names e ≡ a ∷ others → NamesOne e
one a others is = record { first = a; others = others; is = is }

names-one : (e : Event) → NamesOne e
names-one (event.Accept id nonce auth) = one (part.Connection id) [] refl
names-one (event.Piece id bytes) = one (part.Connection id) [] refl
names-one (event.Admit id o now) = one (part.Connection id) (part.Output o ∷ []) refl
names-one (event.Flush o now kind) = one (part.Output o) [] refl
names-one (event.Choose o w now) = one (part.Output o) [] refl
names-one (event.Up o w server salt now) = one (part.Session o w) [] refl
names-one (event.Take o w now wanted) = one (part.Output o) (part.Session o w ∷ []) refl
names-one (event.Load o w now) = one (part.Session o w) [] refl
names-one (event.Wrote o w count) = one (part.Session o w) [] refl
names-one (event.Heard o w bytes) = one (part.Session o w) [] refl
names-one (event.Settle o w) = one (part.Output o) (part.Session o w ∷ []) refl
names-one (event.Late o w now) = one (part.Session o w) [] refl
names-one (event.End o w kind now) = one (part.Output o) (part.Session o w ∷ []) refl
names-one (event.Collect id o) = one (part.Connection id) (part.Output o ∷ []) refl
names-one (event.Forget id o) = one (part.Connection id) (part.Output o ∷ []) refl
names-one (event.Drained id count) = one (part.Connection id) [] refl
names-one (event.Shut id) = one (part.Connection id) [] refl

named : (e : Event) → does_name e (names-one e).first ≡ true
named e =
    let n = names-one e in
    ap (list_any (λ k. is_same k n.first)) n.is
    ∙ ap (λ b. b || list_any (λ k. is_same k n.first) n.others) (same_self n.first)

-- a part that is among some, and that a test takes
record Shared (test : Named → Bool) (ns : List Named) : Type 0 where
  part : Named
  among : list_any (λ k. is_same k part) ns ≡ true
  taken : test part ≡ true

or-true : (b : Bool) → (b || true) ≡ true
or-true true = refl
or-true false = refl

shared-or-none : (test : Named → Bool) (ns : List Named)
    → (list_all (λ n. not (test n)) ns ≡ true) ⊎ Shared test ns
shared-or-none test [] = inl refl
shared-or-none test (n ∷ ns) = by (shared-or-none test ns) (test n) refl
  where
    by : (list_all (λ n. not (test n)) ns ≡ true) ⊎ Shared test ns → (b : Bool) → test n ≡ b
        → (list_all (λ n. not (test n)) (n ∷ ns) ≡ true) ⊎ Shared test (n ∷ ns)
    by rest true e = inr (record {
      part = n;
      among = ap (λ b. b || list_any (λ k. is_same k n) ns) (same_self n);
      taken = e;
    })
    by (inl none) false e = inl (λ i. not (e i) && none i)
    by (inr s) false e = inr (record {
      part = s.part;
      among = ap (λ b. is_same n s.part || b) s.among ∙ or-true (is_same n s.part);
      taken = s.taken;
    })

-- ---- an event that stands first at each of its parts

record Begins (test : Event → Bool) (e : Event) (fs : List Event) : Type 0 where
  rest : List Event
  is : filter test fs ≡ e ∷ rest

record IsFirst (e : Event) (fs : List Event) : Type 0 where
  parts : (n : Named) → does_name e n ≡ true → Begins (λ f. does_name f n) e fs
  accepts : is_accept e ≡ true → Begins is_accept e fs

-- the rest of a list that has the event first at each of its parts
record Front (e : Event) (fs : List Event) : Type 0 where
  rest : List Event
  leads : (h : History) → IsSane h
      → after histories h fs ≡ after histories (after histories h (e ∷ [])) rest
  answers : (h : History) → IsSane h → (n : Named)
      → answers_at n h fs ≡ answers_at n h (e ∷ rest)
  parts : (n : Named) → at_part n fs ≡ at_part n (e ∷ rest)
  accepts : filter is_accept fs ≡ filter is_accept (e ∷ rest)

front-here : (test : Event → Bool) (e f : Event) (fs : List Event) → test f ≡ true
    → Begins test e (f ∷ fs) → f ≡ e
front-here test e f fs takes b =
    let same : f ∷ filter test fs ≡ e ∷ b.rest =
    sym (ap (λ t. cond t (f ∷ filter test fs) (filter test fs)) takes) ∙ b.is in
    cc

front-there : (test : Event → Bool) (e f : Event) (fs : List Event) → test f ≡ false
    → Begins test e (f ∷ fs) → Begins test e fs
front-there test e f fs leaves b = record {
  rest = b.rest;
  is = sym (ap (λ t. cond t (f ∷ filter test fs) (filter test fs)) leaves) ∙ b.is;
}

-- two elements of which a test takes one at most, in either order
pub turned : {X : Type 0} (a b : Bool) (x y : X) (zs : List X) → (a && b) ≡ false
    → cond a (x ∷ cond b (y ∷ zs) zs) (cond b (y ∷ zs) zs)
    ≡ cond b (y ∷ cond a (x ∷ zs) zs) (cond a (x ∷ zs) zs)
turned true true x y zs e = absurd cc
turned true false x y zs e = refl
turned false true x y zs e = refl
turned false false x y zs e = refl

not-both : (a b : Bool) → (a ≡ true → b ≡ true → ⊥) → (a && b) ≡ false
not-both true true never = absurd (never refl refl)
not-both true false never = refl
not-both false b never = refl

is-false : (b : Bool) → (b ≡ true → ⊥) → b ≡ false
is-false true never = absurd (never refl)
is-false false never = refl

both-true : (a b : Bool) → (a && b) ≡ true → (a ≡ true) × (b ≡ true)
both-true true true e = (refl, refl)
both-true true false e = absurd cc
both-true false b e = absurd cc

same-is : (a b : Named) → is_same a b ≡ true → a ≡ b
same-is (part.Connection a) (part.Connection b) e = ap part.Connection (same_number a b e)
same-is (part.Output a) (part.Output b) e = ap part.Output (same_number a b e)
same-is (part.Session a v) (part.Session b w) e =
    let parts = both-true (eqb a b) (eqb v w) e in
    λ i. part.Session (same_number a b parts.0 i) (same_number v w parts.1 i)
same-is a b e = absurd cc

turn-not : (b : Bool) → not b ≡ true → b ≡ true → ⊥
turn-not true e f = cc
turn-not false e f = cc

any-none : (ns : List Named) (test : Named → Bool) (n : Named)
    → list_all (λ k. not (test k)) ns ≡ true → list_any (λ k. is_same k n) ns ≡ true
    → test n ≡ true → ⊥
any-none [] test n none any takes = cc
any-none (k ∷ ns) test n none any takes =
    by (any-none ns test n parts.1) (is_same k n) refl any
  where
    parts : (not (test k) ≡ true) × (list_all (λ k. not (test k)) ns ≡ true)
    parts = and_parts (not (test k)) (list_all (λ k. not (test k)) ns) none

    by : (list_any (λ k. is_same k n) ns ≡ true → test n ≡ true → ⊥) → (b : Bool)
        → is_same k n ≡ b → (b || list_any (λ k. is_same k n) ns) ≡ true → ⊥
    by rest true e any = turn-not (test k) parts.0 (ap test (same-is k n e) ∙ takes)
    by rest false e any = rest any takes

-- ---- an event of others before it

-- events that name nothing in common
module _ (e f : Event) (unrelated : are_unrelated f e ≡ true) where
  apart : (n : Named) → (does_name f n && does_name e n) ≡ false
  apart n = not-both (does_name f n) (does_name e n) (λ its mine. any-none (names f) (does_name e) n unrelated its mine)

  first-past : (fs : List Event) → IsFirst e (f ∷ fs) → (is_accept f && is_accept e) ≡ false
      → IsFirst e fs
  first-past fs first one = record {
    parts = λ n mine. front-there (λ g. does_name g n) e f fs (is-false (does_name f n) (λ its. any-none (names f) (does_name e) n unrelated its mine)) (first.parts n mine);
    accepts = λ mine. front-there is_accept e f fs (is-false (is_accept f) (λ its. no_test (λ i. its i && mine i) one)) (first.accepts mine);
  }

  -- both do not accept, where this one is the first that does
  one-accepts : (fs : List Event) → IsFirst e (f ∷ fs) → (is_accept f && is_accept e) ≡ false
  one-accepts fs first = not-both (is_accept f) (is_accept e) (λ its mine.
      let same : f ≡ e = front-here is_accept e f fs its (first.accepts mine) in
      any-none (names f) (does_name e) (names-one f).first unrelated (named f) (ap (λ g. does_name g (names-one f).first) (sym same) ∙ named f))

  front-past : (fs : List Event) → (is_accept f && is_accept e) ≡ false → Front e fs
      → Front e (f ∷ fs)
  front-past fs alone x = record {
    rest = f ∷ x.rest;
    leads = λ h sane. x.leads (after histories h (f ∷ [])) (next-sane h f sane)
        ∙ ap (λ k. after histories k x.rest) (unrelated_commute h f e sane unrelated alone).state;
    answers = λ h sane n.
        let c = unrelated_commute h f e sane unrelated alone in
        let k = after histories h (f ∷ e ∷ []) in
        let a = answer_of (step histories h f) in
        let b = answer_of (step histories (after histories h (f ∷ [])) e) in
        ap (λ (ys : List Answer). cond (does_name f n) (a ∷ ys) ys) (x.answers (after histories h (f ∷ [])) (next-sane h f sane) n)
        ∙ turned (does_name f n) (does_name e n) a b (answers_at n k x.rest) (apart n)
        ∙ (λ i. cond (does_name e n) (c.second i ∷ cond (does_name f n) (c.first i ∷ answers_at n (c.state i) x.rest) (answers_at n (c.state i) x.rest)) (cond (does_name f n) (c.first i ∷ answers_at n (c.state i) x.rest) (answers_at n (c.state i) x.rest)));
    parts = λ n. ap (λ ys. cond (does_name f n) (f ∷ ys) ys) (x.parts n)
        ∙ turned (does_name f n) (does_name e n) f e (at_part n x.rest) (apart n);
    accepts = ap (λ ys. cond (is_accept f) (f ∷ ys) ys) x.accepts
        ∙ turned (is_accept f) (is_accept e) f e (filter is_accept x.rest) alone;
  }

front-now : (e f : Event) (fs : List Event) → f ≡ e → Front e (f ∷ fs)
front-now e f fs same = subst (λ g. Front g (f ∷ fs)) same (record {
  rest = fs;
  leads = λ h sane. refl;
  answers = λ h sane n. refl;
  parts = λ n. refl;
  accepts = refl;
})

no-begin : (test : Event → Bool) (e : Event) → Begins test e [] → ⊥
no-begin test e b = let none : [] ≡ e ∷ b.rest = b.is in cc

front-of : (fs : List Event) (e : Event) → IsFirst e fs → Front e fs
front-of [] e first =
    absurd (no-begin (λ g. does_name g (names-one e).first) e (first.parts (names-one e).first (named e)))
front-of (f ∷ fs) e first = by (front-of fs e) (shared-or-none (does_name e) (names f))
  where
    by : (IsFirst e fs → Front e fs)
        → (are_unrelated f e ≡ true) ⊎ Shared (does_name e) (names f) → Front e (f ∷ fs)
    by past (inl none) =
        let alone = one-accepts e f none fs first in
        front-past e f none fs alone (past (first-past e f none fs first alone))
    by past (inr s) =
        front-now e f fs (front-here (λ g. does_name g s.part) e f fs s.among (first.parts s.part s.taken))

-- ---- whole lists

is-first : (e : Event) (es fs : List Event) → AreOneAtEach (e ∷ es) fs → IsFirst e fs
is-first e es fs one = record {
  parts = λ n mine. record {
    rest = at_part n es;
    is = sym (one.parts n) ∙ ap (λ t. cond t (e ∷ at_part n es) (at_part n es)) mine;
  };
  accepts = λ mine. record {
    rest = filter is_accept es;
    is = sym one.accepts ∙ ap (λ t. cond t (e ∷ filter is_accept es) (filter is_accept es)) mine;
  };
}

without-first : (b : Bool) (e : Event) (xs ys : List Event)
    → cond b (e ∷ xs) xs ≡ cond b (e ∷ ys) ys → xs ≡ ys
without-first true e xs ys same = cc
without-first false e xs ys same = same

rest-one : (e : Event) (es fs : List Event) (x : Front e fs) → AreOneAtEach (e ∷ es) fs
    → AreOneAtEach es x.rest
rest-one e es fs x one = record {
  parts = λ n. without-first (does_name e n) e (at_part n es) (at_part n x.rest) (one.parts n ∙ x.parts n);
  accepts = without-first (is_accept e) e (filter is_accept es) (filter is_accept x.rest) (one.accepts ∙ x.accepts);
}

-- nothing at any part is nothing
is-none : (fs : List Event) → AreOneAtEach [] fs → fs ≡ []
is-none [] one = refl
is-none (f ∷ fs) one =
    let n = (names-one f).first in
    let none : [] ≡ f ∷ at_part n fs =
    one.parts n ∙ ap (λ t. cond t (f ∷ at_part n fs) (at_part n fs)) (named f) in
    absurd cc

pub one-after : (es fs : List Event) (h : History) → IsSane h → AreOneAtEach es fs
    → after histories h es ≡ after histories h fs
one-after [] fs h sane one = ap (after histories h) (sym (is-none fs one))
one-after (e ∷ es) fs h sane one =
    let x = front-of fs e (is-first e es fs one) in
    one-after es x.rest (after histories h (e ∷ [])) (next-sane h e sane) (rest-one e es fs x one)
    ∙ sym (x.leads h sane)

pub one-answers : (es fs : List Event) (h : History) (n : Named) → IsSane h
    → AreOneAtEach es fs → answers_at n h es ≡ answers_at n h fs
one-answers [] fs h n sane one = ap (answers_at n h) (sym (is-none fs one))
one-answers (e ∷ es) fs h n sane one =
    let x = front-of fs e (is-first e es fs one) in
    let a = answer_of (step histories h e) in
    ap (λ (ys : List Answer). cond (does_name e n) (a ∷ ys) ys) (one-answers es x.rest (after histories h (e ∷ [])) n (next-sane h e sane) (rest-one e es fs x one))
    ∙ sym (x.answers h sane n)
