-- What a connection is to be told is found under its origins, and when nothing is told.
use Rattle.std.proofs.Common.{◌≡◌, ℕ, Bool, true, false, cond, suc, Option, Some, None, List, [], ◌∷◌, ◌++◌, refl, ap, ◌∙◌}
use Rattle.std.specs.Prelude.{map, filter, not, ◌&&◌, ◌||◌, slice_get}
use Rattle.std.specs.List.{flat_map, list_any}
use Rattle.fwd_modes.specs.declared.origin.Origin.{Origin}
use Rattle.fwd_session.specs.ServerAcks.{ServerAck}
use Rattle.fwd_book.specs.History.{Entered, is_origin, is_of, request_at, is_settled}
use Rattle.fwd_book.specs.Receipts.{Receipt, receipt_of, receipt_if, once, receipts}
use Rattle.fwd_book.specs.Live.{LiveBook, settled_if, live_is_settled, live_is_due, live_due, AreApart}
use Rattle.fwd_book.proofs.Facts.{neither_left, neither_right, origin-is}
use Rattle.fwd_book.proofs.Following.{filter-alike, filter-at}
use Rattle.fwd_book.proofs.Whose.{found-own, receipts-passed}

-- ---- what is due is found under its origins

-- each request is found by its origin
pub due-found : (b : LiveBook) (conn : ℕ) → AreApart b.requests
    → map (λ o. request_at b.requests o) (map (λ q. q.origin) (live_due b conn))
    ≡ map Some (live_due b conn)
due-found b conn alone = each (live_due b conn) (λ i q at. let all = filter-at (live_is_due b conn) b.requests i q at in found-own b.requests alone all.0 q all.1)
  where
    each : (qs : List Entered)
        → ((i : ℕ) (q : Entered) → slice_get qs i ≡ Some q
        → request_at b.requests q.origin ≡ Some q)
        → map (λ o. request_at b.requests o) (map (λ (q : Entered). q.origin) qs) ≡ map Some qs
    each [] found = refl
    each (q ∷ qs) found = let more = each qs (λ i r at. found (suc i) r at) in λ i. found 0 q refl i ∷ more i

both-again : (a s : Bool) → ((a && s) && s) ≡ (a && s)
both-again true true = refl
both-again true false = refl
both-again false s = refl

-- each one's receipt is given
pub due-receipts : (b : LiveBook) (conn : ℕ) → AreApart b.requests
    → receipts b.settled b.requests (map (λ q. q.origin) (live_due b conn))
    ≡ map (receipt_of b.settled) (live_due b conn)
due-receipts b conn alone =
    receipts-passed b (live_is_due b conn) alone
    ∙ ap (map (receipt_of b.settled)) (filter-alike (λ q. live_is_due b conn q && is_settled b.settled q) (live_is_due b conn) b.requests (λ i q at. both-again (is_of conn q) (is_settled b.settled q)))

-- ---- no receipt is given where nothing that is asked for is settled

empty-left : {X : Type 0} (xs ys : List X) → xs ++ ys ≡ [] → xs ≡ []
empty-left [] ys e = refl
empty-left (x ∷ xs) ys e = absurd cc

empty-right : {X : Type 0} (xs ys : List X) → xs ++ ys ≡ [] → ys ≡ []
empty-right [] ys e = e
empty-right (x ∷ xs) ys e = absurd cc

-- what gives nothing gives nothing where some leave
flat-left : {X Y : Type 0} (f : X → List Y) (p : X → Bool) (xs : List X) → flat_map f xs ≡ []
    → flat_map f (filter p xs) ≡ []
flat-left f p [] none = refl
flat-left f p (x ∷ xs) none = by (p x) (empty-left (f x) (flat_map f xs) none) (flat-left f p xs (empty-right (f x) (flat_map f xs) none))
  where
    by : (a : Bool) → f x ≡ [] → flat_map f (filter p xs) ≡ []
        → flat_map f (cond a (x ∷ filter p xs) (filter p xs)) ≡ []
    by true here more = (λ i. here i ++ flat_map f (filter p xs)) ∙ more
    by false here more = more

-- and where what left gives nothing
flat-others : {Y : Type 0} (f : Origin → List Y) (o : Origin) (xs : List Origin) → f o ≡ []
    → flat_map f (filter (λ x. not (is_origin o x)) xs) ≡ [] → flat_map f xs ≡ []
flat-others f o [] own none = refl
flat-others f o (x ∷ xs) own none = by (is_origin o x) refl none (flat-others f o xs own)
  where
    rest : List Origin
    rest = filter (λ y. not (is_origin o y)) xs

    by : (a : Bool) → is_origin o x ≡ a → flat_map f (cond (not a) (x ∷ rest) rest) ≡ []
        → (flat_map f rest ≡ [] → flat_map f xs ≡ []) → f x ++ flat_map f xs ≡ []
    by true e n more = (λ i. (ap f (origin-is o x e) ∙ own) i ++ flat_map f xs) ∙ more n
    by false e n more = (λ i. empty-left (f x) (flat_map f rest) n i ++ flat_map f xs) ∙ more (empty-right (f x) (flat_map f rest) n)

-- a request that is not settled has no receipt
not-given : (settled : List ServerAck) (k : Option Entered) → settled_if settled k ≡ false
    → receipt_if settled k ≡ []
not-given settled None e = refl
not-given settled (Some q) e = ap (λ a. cond a (receipt_of settled q ∷ []) []) e

-- one that has none is not settled
not-settled : (settled : List ServerAck) (k : Option Entered) → receipt_if settled k ≡ []
    → settled_if settled k ≡ false
not-settled settled None e = refl
not-settled settled (Some q) e = by (is_settled settled q) e
  where
    by : (a : Bool) → cond a (receipt_of settled q ∷ []) [] ≡ [] → a ≡ false
    by true f = absurd cc
    by false f = refl

-- nothing is settled: no receipt is given
pub none-given : (b : LiveBook) (origins : List Origin)
    → list_any (live_is_settled b) origins ≡ false → receipts b.settled b.requests origins ≡ []
none-given b [] none = refl
none-given b (o ∷ origins) none =
    let f : Origin → List Receipt = λ x. receipt_if b.settled (request_at b.requests x) in
    let here : f o ≡ [] = not-given b.settled (request_at b.requests o) (neither_left (live_is_settled b o) (list_any (live_is_settled b) origins) none) in
    let more = none-given b origins (neither_right (live_is_settled b o) (list_any (live_is_settled b) origins) none) in
    (λ i. here i ++ flat_map f (filter (λ x. not (is_origin o x)) (once origins)))
    ∙ flat-left f (λ x. not (is_origin o x)) (once origins) more

-- no receipt is given: nothing is settled
pub none-settled : (b : LiveBook) (origins : List Origin)
    → receipts b.settled b.requests origins ≡ [] → list_any (live_is_settled b) origins ≡ false
none-settled b [] none = refl
none-settled b (o ∷ origins) none =
    let f : Origin → List Receipt = λ x. receipt_if b.settled (request_at b.requests x) in
    let others : List Origin = filter (λ x. not (is_origin o x)) (once origins) in
    let here : f o ≡ [] = empty-left (f o) (flat_map f others) none in
    let more = none-settled b origins (flat-others f o (once origins) here (empty-right (f o) (flat_map f others) none)) in
    both (live_is_settled b o) (list_any (live_is_settled b) origins) (not-settled b.settled (request_at b.requests o) here) more
  where
    both : (x y : Bool) → x ≡ false → y ≡ false → (x || y) ≡ false
    both false y e f = f
    both true y e f = e
