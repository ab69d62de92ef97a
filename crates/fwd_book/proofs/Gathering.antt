-- Where origins rise, each stands once; and what a request's receipt is.
use Rattle.std.proofs.Common.{arith, ◌≡◌, ◌⊎◌, inl, inr, ◌<◌, ◌≤◌, length, drop, get_or, ℕ, zero, suc, Bool, true, false, cond, Option, Some, None, Result, Ok, Err, IfOk, List, [], ◌∷◌, ◌++◌, refl, sym, ap, subst, ◌∙◌}
use Rattle.std.specs.Prelude.{not, filter, ◌&&◌, ◌||◌, ◌==◌, nat_lt}
use Rattle.std.specs.List.{flat_map}
use Rattle.std.proofs.lemmas.Bool.{eqb-true, ltb-true, lt-ltb}
use Rattle.fwd_modes.specs.declared.origin.Origin.{Origin}
use Rattle.fwd_session.specs.ServerAcks.{ServerAck}
use Rattle.fwd_book.specs.History.{Entered, is_origin, is_settled, request_at}
use Rattle.fwd_book.specs.Receipts.{once, receipt_of, receipt_if}
use Rattle.fwd_book.specs.Live.{LiveBook, settled_if, live_is_settled}
use Rattle.std.proofs.lemmas.Option.{same_Some}
use Rattle.fwd_book.specs.Gathering.{is_behind, stands_behind, rise_behind}
use Rattle.fwd_book.proofs.Facts.{none_some, both_left, both_right}

-- ---- one behind the other

either : (a b : Bool) → (a || b) ≡ true → (a ≡ true) ⊎ (b ≡ true)
either true b e = inl refl
either false b e = inr e

or_left : (a b : Bool) → a ≡ true → (a || b) ≡ true
or_left a b e = ap (λ k. k || b) e

or_right : (a b : Bool) → b ≡ true → (a || b) ≡ true
or_right true b e = refl
or_right false b e = e

less_then : (a b c : ℕ) → nat_lt a b ≡ true → nat_lt b c ≡ true → nat_lt a c ≡ true
less_then a b c e f =
    let left : a < b = ltb-true a b e in
    let right : b < c = ltb-true b c f in
    lt-ltb a c (omega (arith, left, right))

-- what is behind one that is behind another is behind that
behind-then : (a b c : Origin) → is_behind a b ≡ true → is_behind b c ≡ true → is_behind a c ≡ true
behind-then a b c e f = by (either (nat_lt a.conn b.conn) ((a.conn == b.conn) && nat_lt a.request b.request) e) (either (nat_lt b.conn c.conn) ((b.conn == c.conn) && nat_lt b.request c.request) f)
  where
    own : (x y : Origin) → ((x.conn == y.conn) && nat_lt x.request y.request) ≡ true → x.conn ≡ y.conn
    own x y g = eqb-true x.conn y.conn (both_left (x.conn == y.conn) (nat_lt x.request y.request) g)

    by : ((nat_lt a.conn b.conn ≡ true) ⊎ (((a.conn == b.conn) && nat_lt a.request b.request) ≡ true))
        → ((nat_lt b.conn c.conn ≡ true) ⊎ (((b.conn == c.conn) && nat_lt b.request c.request) ≡ true))
        → is_behind a c ≡ true
    by (inl x) (inl y) = or_left (nat_lt a.conn c.conn) ((a.conn == c.conn) && nat_lt a.request c.request) (less_then a.conn b.conn c.conn x y)
    by (inl x) (inr y) = or_left (nat_lt a.conn c.conn) ((a.conn == c.conn) && nat_lt a.request c.request) (subst (λ k. nat_lt a.conn k ≡ true) (own b c y) x)
    by (inr x) (inl y) = or_left (nat_lt a.conn c.conn) ((a.conn == c.conn) && nat_lt a.request c.request) (subst (λ k. nat_lt k c.conn ≡ true) (sym (own a b x)) y)
    by (inr x) (inr y) =
        or_right (nat_lt a.conn c.conn) ((a.conn == c.conn) && nat_lt a.request c.request)
        ((λ i. (own a b x i == c.conn) && nat_lt a.request c.request)
        ∙ ap (λ k. (b.conn == c.conn) && k) (less_then a.request b.request c.request (both_right (a.conn == b.conn) (nat_lt a.request b.request) x) (both_right (b.conn == c.conn) (nat_lt b.request c.request) y))
        ∙ ap (λ k. k && true) (both_left (b.conn == c.conn) (nat_lt b.request c.request) y))

not_itself : (n : ℕ) → nat_lt n n ≡ true → ⊥
not_itself n e = let less : n < n = ltb-true n n e in absurd (omega (arith, less))

-- and it is another
behind-other : (a b : Origin) → is_behind a b ≡ true → is_origin a b ≡ false
behind-other a b e = by (is_origin a b) refl (either (nat_lt a.conn b.conn) ((a.conn == b.conn) && nat_lt a.request b.request) e)
  where
    by : (d : Bool) → is_origin a b ≡ d
        → ((nat_lt a.conn b.conn ≡ true) ⊎ (((a.conn == b.conn) && nat_lt a.request b.request) ≡ true))
        → is_origin a b ≡ false
    by false is less = is
    by true is (inl x) = absurd (not_itself b.conn (subst (λ k. nat_lt k b.conn ≡ true) (eqb-true a.conn b.conn (both_left (a.conn == b.conn) (a.request == b.request) is)) x))
    by true is (inr x) = absurd (not_itself b.request (subst (λ k. nat_lt k b.request ≡ true) (eqb-true a.request b.request (both_right (a.conn == b.conn) (a.request == b.request) is)) (both_right (a.conn == b.conn) (nat_lt a.request b.request) x)))

-- ---- origins that rise

-- an origin is none of those that rise behind it
others-stay : (a : Origin) (os : List Origin) → rise_behind (Some a) os ≡ true
    → filter (λ o. not (is_origin a o)) os ≡ os
others-stay a [] rise = refl
others-stay a (o ∷ os) rise =
    let first : is_behind a o ≡ true = both_left (is_behind a o) (rise_behind (Some o) os) rise in
    let rest : rise_behind (Some o) os ≡ true = both_right (is_behind a o) (rise_behind (Some o) os) rise in
    ap (λ b. cond (not b) (o ∷ filter (λ p. not (is_origin a p)) os) (filter (λ p. not (is_origin a p)) os)) (behind-other a o first)
    ∙ ap (λ ps. o ∷ ps) (others-stay a os (further os first rest))
  where
    further : (ps : List Origin) → is_behind a o ≡ true → rise_behind (Some o) ps ≡ true
        → rise_behind (Some a) ps ≡ true
    further [] e f = refl
    further (p ∷ ps) e f =
        ap (λ b. b && rise_behind (Some p) ps) (behind-then a o p e (both_left (is_behind o p) (rise_behind (Some p) ps) f))
        ∙ both_right (is_behind o p) (rise_behind (Some p) ps) f

pub rise-once : (before : Option Origin) (os : List Origin) → rise_behind before os ≡ true
    → once os ≡ os
rise-once before [] rise = refl
rise-once before (o ∷ os) rise =
    let rest : rise_behind (Some o) os ≡ true = both_right (stands_behind before o) (rise_behind (Some o) os) rise in
    ap (λ ps. o ∷ filter (λ p. not (is_origin o p)) ps) (rise-once (Some o) os rest)
    ∙ ap (λ ps. o ∷ ps) (others-stay o os rest)

pub none-left : {X : Type 0} (xs : List X) (i : ℕ) → length xs ≤ i → drop i xs ≡ []
none-left [] zero past = refl
none-left [] (suc i) past = refl
none-left (x ∷ xs) zero past = absurd (omega (arith, past))
none-left (x ∷ xs) (suc i) past = none-left xs i (omega (arith, past))

-- ---- the receipt of a request

pub given-one : (settled : List ServerAck) (qs : List Entered) (o : Origin) (q : Entered)
    → request_at qs o ≡ Some q → is_settled settled q ≡ true
    → receipt_if settled (request_at qs o) ≡ receipt_of settled q ∷ []
given-one settled qs o q is all = ap (receipt_if settled) is ∙ ap (λ a. cond a (receipt_of settled q ∷ []) []) all

some-there : {X : Type 0} (xs : List X) (x : X) (ys : List X) → xs ++ x ∷ ys ≡ [] → ⊥
some-there [] x ys e = absurd cc
some-there (z ∷ xs) x ys e = absurd cc

-- where some origin's request has a receipt, there are receipts
pub given-some : {X : Type 0} (f : Origin → List X) (os : List Origin) (i : ℕ) (d : Origin) (x : X)
    → i < length os → f (get_or os i d) ≡ x ∷ [] → flat_map f os ≡ [] → ⊥
given-some f [] i d x within one none = absurd (omega (arith, within))
given-some f (p ∷ os) zero d x within one none =
    some-there [] x (flat_map f os) (sym (ap (λ xs. xs ++ flat_map f os) one) ∙ none)
given-some {X = X} f (p ∷ os) (suc i) d x within one none = by (f p) (given-some f os i d x (omega (arith, within)) one) none
  where
    by : (xs : List X) → (flat_map f os ≡ [] → ⊥) → xs ++ flat_map f os ≡ [] → ⊥
    by [] more e = more e
    by (y ∷ xs) more e = absurd cc

-- where nothing is given, the request of no origin has all its entries acknowledged
pub none-settled : (b : LiveBook) (os : List Origin) (i : ℕ) (d : Origin) → i < length os
    → flat_map (λ o. receipt_if b.settled (request_at b.requests o)) os ≡ []
    → live_is_settled b (get_or os i d) ≡ false
none-settled b os i d within none = by (request_at b.requests (get_or os i d)) refl
  where
    by : (found : Option Entered) → request_at b.requests (get_or os i d) ≡ found
        → live_is_settled b (get_or os i d) ≡ false
    by None is = ap (settled_if b.settled) is
    by (Some q) is = ap (settled_if b.settled) is ∙ at (is_settled b.settled q) refl
      where
        at : (a : Bool) → is_settled b.settled q ≡ a → is_settled b.settled q ≡ false
        at false all = all
        at true all =
            absurd (given-some (λ o. receipt_if b.settled (request_at b.requests o)) os i d (receipt_of b.settled q) within
            (given-one b.settled b.requests (get_or os i d) q is all) none)

-- what is there only where a test passes
pub when-all : {X : Type 0} (a : Bool) (x y : X) → Some x ≡ cond a (Some y) None
    → (a ≡ true) × (x ≡ y)
when-all true x y e = (refl, same_Some _ _ e)
when-all false x y e = absurd (none_some (sym e))

pub when-none : {X : Type 0} (a : Bool) (y : X) → None ≡ cond a (Some y) None → a ≡ false
when-none true y e = absurd (none_some e)
when-none false y e = refl

pub when-given : {X : Type 0} (a : Bool) (x y : X) → x ∷ [] ≡ cond a (y ∷ []) []
    → (a ≡ true) × (x ≡ y)
when-given {X = X} true x y e = (refl, head e)
  where
    head : {v w : X} → v ∷ [] ≡ w ∷ [] → v ≡ w
    head f = cc
when-given false x y e = absurd (some-there [] x [] e)

-- what is true of what is given is true of what follows
pub ok-then : {X E : Type 0} (r : Result X E) (p q : X → Type 0) → ((x : X) → p x → q x)
    → IfOk r p → IfOk r q
ok-then (Ok x) p q f given = f x given
ok-then (Err e) p q f given = tt
