-- What collecting tickets one after the other comes to.
use Rattle.std.proofs.Common.{arith, ◌≡◌, ◌⊎◌, inl, inr, ℕ, Bool, true, false, cond, List, [], ◌∷◌, ◌++◌, map, length, Option, Some, None, refl, sym, ap, subst, ◌∙◌}
use Rattle.std.specs.Prelude.{not, filter, flat_map, is_some, option_to_list, unwrap_or, ◌||◌, All, IfNone, IfSome, IsSome}
use Rattle.std.specs.List.Sorted.{IsPermutation}
use Rattle.std.proofs.lemmas.List.Sorted.{
  IsPermutation-refl,
  IsPermutation-sym,
  IsPermutation-trans,
  IsPermutation-cons,
  IsPermutation-middle,
}
use Rattle.std.proofs.lemmas.List.{append_assoc, append-nil, map-append}
use Rattle.std.proofs.lemmas.List.Folds.{list_any-append}
use Rattle.std.proofs.lemmas.List.Elements.{All-nil, All-cons}
use Rattle.fwd_modes.specs.declared.origin.Origin.{Origin}
use Rattle.fwd_book.specs.History.{Entered, is_among, is_origin, is_settled, request_at}
use Rattle.fwd_book.specs.Live.{LiveBook, IsSound, live_left, live_leaves}
use Rattle.fwd_book.specs.Receipts.{Receipt, IsRightFor, once, receipt_if, receipt_of, receipts}
use Rattle.fwd_book.proofs.Facts.{apart, origin-is}
use Rattle.fwd_book.proofs.Keeping.{leaves-then}
use Rattle.fwd_book.proofs.Right.{good, found_stands}
use Rattle.fwd_output.specs.Tickets.{Ticket, IsDue, IsRight, entered, receipt_for, ticket_of}
use Rattle.fwd_output.specs.Turns.{
  AreCollected,
  AreDue,
  origins_of,
  receipts_for,
}

-- ---- what comes of all tickets

-- the receipts of tickets that are due are right for them
pub right-for : (b : LiveBook) (t : Ticket) → IsSound b → IsDue b t
    → IsRightFor b.setting (entered t) (receipt_for b t)
right-for b t sound due =
    let st = found_stands (λ q. is_origin t.origin q.origin) b.requests (entered t) due.shown.owed in
    good b (entered t) st.place sound st.here due.settled

-- the ticket of the receipt of a ticket that is due
pub ticket-of-receipt : (b : LiveBook) (t : Ticket) → IsSound b → IsDue b t
    → ticket_of b.setting (receipt_for b t) ≡ t
ticket-of-receipt b t sound due =
    λ i. record {
      setting = sym due.shown.here i;
      origin = t.origin;
      batch = t.batch;
      spans = (right-for b t sound due).spans i;
    }

-- the tickets that are given receipts, and those that come back, are the tickets
pub shares : (b : LiveBook) (before : List Origin) (ts given back : List Ticket)
    → AreCollected b before ts given back → IsPermutation ts (given ++ back)
shares b before [] given back none =
    subst (λ ys. IsPermutation [] ys) (λ i. sym none.0 i ++ sym none.1 i) (IsPermutation-refl [])
shares b before (t ∷ ts) given back (inl one) =
    let more = one.2 in
    subst (λ gs. IsPermutation (t ∷ ts) (gs ++ back)) (sym more.1)
    (IsPermutation-cons t ts (more.0 ++ back)
    (shares b (before ++ t.origin ∷ []) ts more.0 back more.2))
shares b before (t ∷ ts) given back (inr one) =
    let more = one.1 in
    subst (λ bs. IsPermutation (t ∷ ts) (given ++ bs)) (sym more.1)
    (IsPermutation-trans (t ∷ ts) (t ∷ (given ++ more.0)) (given ++ t ∷ more.0)
    (IsPermutation-cons t ts (given ++ more.0) (shares b before ts given more.0 more.2))
    (IsPermutation-sym (given ++ t ∷ more.0) (t ∷ (given ++ more.0))
    (IsPermutation-middle given t more.0)))

-- the tickets of the receipts are those that were given them
pub tickets-of : (b : LiveBook) (before : List Origin) (ts given back : List Ticket) → IsSound b
    → AreCollected b before ts given back
    → map (ticket_of b.setting) (receipts_for b given) ≡ given
tickets-of b before [] given back sound none =
    ap (λ gs. map (ticket_of b.setting) (receipts_for b gs)) none.0 ∙ sym none.0
tickets-of b before (t ∷ ts) given back sound (inl one) =
    let more = one.2 in
    ap (λ gs. map (ticket_of b.setting) (receipts_for b gs)) more.1
    ∙ (λ i. ticket-of-receipt b t sound one.0 i
    ∷ tickets-of b (before ++ t.origin ∷ []) ts more.0 back sound more.2 i)
    ∙ sym more.1
tickets-of b before (t ∷ ts) given back sound (inr one) =
    tickets-of b before ts given one.1.0 sound one.1.2

-- the receipts are right for them
pub rights : (b : LiveBook) (before : List Origin) (ts given back : List Ticket) → IsSound b
    → AreCollected b before ts given back
    → All (λ r. IsRight r (ticket_of b.setting r)) (receipts_for b given)
rights b before [] given back sound none =
    subst (λ gs. All (λ r. IsRight r (ticket_of b.setting r)) (receipts_for b gs))
    (sym none.0) (All-nil (λ r. IsRight r (ticket_of b.setting r)))
rights b before (t ∷ ts) given back sound (inl one) =
    let more = one.2 in
    subst (λ gs. All (λ r. IsRight r (ticket_of b.setting r)) (receipts_for b gs))
    (sym more.1)
    (All-cons (λ r. IsRight r (ticket_of b.setting r)) (receipt_for b t) (receipts_for b more.0)
    (subst (λ u. IsRight (receipt_for b t) u) (sym (ticket-of-receipt b t sound one.0))
    (subst (λ s. IsRightFor s (entered t) (receipt_for b t)) (sym one.0.shown.here)
    (right-for b t sound one.0)))
    (rights b (before ++ t.origin ∷ []) ts more.0 back sound more.2))
rights b before (t ∷ ts) given back sound (inr one) =
    rights b before ts given one.1.0 sound one.1.2

-- ---- what stands while tickets are handed out

-- Of all tickets, these were given receipts, and these came back; what comes of the rest comes of
-- all of them behind that.
pub record Hands (b : LiveBook) (all told back rest : List Ticket) : Type 0 where
  pub onward : (given more : List Ticket) → AreCollected b (origins_of told) rest given more
      → AreCollected b [] all (told ++ given) (back ++ more)

-- before the first
pub hands-none : (b : LiveBook) (all : List Ticket) → Hands b all [] [] all
hands-none b all = record { onward = λ given more all. all }

-- the next is given a receipt
pub hands-told : (b : LiveBook) (all told back rest : List Ticket) (t : Ticket)
    → Hands b all told back (t ∷ rest) → IsDue b t → is_among (origins_of told) t.origin ≡ false
    → Hands b all (told ++ t ∷ []) back rest
hands-told b all told back rest t hands due fresh = record {
  onward = λ given more these.
      subst (λ gs. AreCollected b [] all gs (back ++ more)) (sym (append_assoc told (t ∷ []) given))
      (hands.onward (t ∷ given) more
      (inl (
        due,
        fresh,
        (
          given,
          refl,
          subst (λ os. AreCollected b os rest given more) (map-append (λ (u : Ticket). u.origin) told (t ∷ []))
              these,
        ),
      )));
}

-- the next comes back
pub hands-back : (b : LiveBook) (all told back rest : List Ticket) (t : Ticket)
    → Hands b all told back (t ∷ rest) → (IsDue b t → is_among (origins_of told) t.origin ≡ true)
    → Hands b all told (back ++ t ∷ []) rest
hands-back b all told back rest t hands stale = record {
  onward = λ given more these.
      subst (λ bs. AreCollected b [] all (told ++ given) bs) (sym (append_assoc back (t ∷ []) more))
      (hands.onward given (t ∷ more) (inr (stale, (more, refl, these))));
}

-- none is left
pub hands-all : (b : LiveBook) (all told back : List Ticket) → Hands b all told back []
    → AreCollected b [] all told back
hands-all b all told back hands =
    subst (λ gs. AreCollected b [] all gs back) (append-nil told)
    (subst (λ bs. AreCollected b [] all (told ++ []) bs) (append-nil back)
    (hands.onward [] [] (refl, refl)))

-- ---- origins, each once

-- the receipts of the requests of these origins, each once, but for those of the first ones
abbrev pub receipts_beyond : LiveBook → List Origin → List Origin → List Receipt
receipts_beyond b before os =
    flat_map (λ o. receipt_if b.settled (request_at b.requests o))
    (filter (λ o. not (is_among before o)) (once os))

among-push : (before : List Origin) (o p : Origin)
    → is_among (before ++ o ∷ []) p ≡ (is_among before p || is_origin o p)
among-push before o p =
    list_any-append (λ q. is_origin q p) before (o ∷ [])
    ∙ ap (λ c. is_among before p || c) (last (is_origin o p))
  where
    last : (c : Bool) → (c || false) ≡ c
    last true = refl
    last false = refl

-- an origin that is new is one of the first ones from then on
beyond-fresh : (before : List Origin) (o : Origin) (xs : List Origin)
    → filter (λ p. not (is_among before p)) (filter (λ p. not (is_origin o p)) xs)
    ≡ filter (λ p. not (is_among (before ++ o ∷ []) p)) xs
beyond-fresh before o [] = refl
beyond-fresh before o (x ∷ xs) =
    by (is_among before x) refl (is_origin o x) refl (beyond-fresh before o xs)
  where
    old : List Origin
    old = filter (λ p. not (is_origin o p)) xs

    new : List Origin
    new = filter (λ p. not (is_among (before ++ o ∷ []) p)) xs

    by : (a : Bool) → is_among before x ≡ a → (c : Bool) → is_origin o x ≡ c
        → filter (λ p. not (is_among before p)) old ≡ new
        → filter (λ p. not (is_among before p)) (cond (not (is_origin o x)) (x ∷ old) old)
        ≡ cond (not (is_among (before ++ o ∷ []) x)) (x ∷ new) new
    by true a true c rest =
        ap (λ e. filter (λ p. not (is_among before p)) (cond (not e) (x ∷ old) old)) c ∙ rest
        ∙ sym (ap (λ e. cond (not e) (x ∷ new) new) (among-push before o x ∙ ap (λ e. e || is_origin o x) a))
    by true a false c rest =
        ap (λ e. filter (λ p. not (is_among before p)) (cond (not e) (x ∷ old) old)) c
        ∙ ap (λ e. cond (not e) (x ∷ filter (λ p. not (is_among before p)) old) (filter (λ p. not (is_among before p)) old)) a
        ∙ rest
        ∙ sym (ap (λ e. cond (not e) (x ∷ new) new) (among-push before o x ∙ ap (λ e. e || is_origin o x) a))
    by false a true c rest =
        ap (λ e. filter (λ p. not (is_among before p)) (cond (not e) (x ∷ old) old)) c ∙ rest
        ∙ sym (ap (λ e. cond (not e) (x ∷ new) new) (among-push before o x ∙ (λ i. a i || c i)))
    by false a false c rest =
        ap (λ e. filter (λ p. not (is_among before p)) (cond (not e) (x ∷ old) old)) c
        ∙ ap (λ e. cond (not e) (x ∷ filter (λ p. not (is_among before p)) old) (filter (λ p. not (is_among before p)) old)) a
        ∙ ap (λ l. x ∷ l) rest
        ∙ sym (ap (λ e. cond (not e) (x ∷ new) new) (among-push before o x ∙ (λ i. a i || c i)))

-- of none before, each is one
beyond-none : (xs : List Origin) → filter (λ p. not (is_among [] p)) xs ≡ xs
beyond-none [] = refl
beyond-none (x ∷ xs) = ap (λ l. x ∷ l) (beyond-none xs)

-- what a ticket that is due and whose origin is new comes to
beyond-told : (b : LiveBook) (before os : List Origin) (t : Ticket) → IsDue b t
    → is_among before t.origin ≡ false
    → receipts_beyond b before (t.origin ∷ os)
    ≡ receipt_for b t ∷ receipts_beyond b (before ++ t.origin ∷ []) os
beyond-told b before os t due fresh =
    ap (λ c. given (cond (not c) (t.origin ∷ kept) kept)) fresh
    ∙ ap (λ found. receipt_if b.settled found ++ given kept) due.shown.owed
    ∙ ap (λ c. cond c (receipt_for b t ∷ []) [] ++ given kept) due.settled
    ∙ ap (λ l. receipt_for b t ∷ given l) (beyond-fresh before t.origin (once os))
  where
    given : List Origin → List Receipt
    given os = flat_map (λ o. receipt_if b.settled (request_at b.requests o)) os

    kept : List Origin
    kept = filter (λ p. not (is_among before p)) (filter (λ p. not (is_origin t.origin p)) (once os))

-- the receipts of the tickets that are given them are those of their origins
given-beyond : (b : LiveBook) (before : List Origin) (ts given back : List Ticket)
    → AreCollected b before ts given back
    → receipts_beyond b before (origins_of given) ≡ receipts_for b given
given-beyond b before [] given back none =
    ap (λ gs. receipts_beyond b before (origins_of gs)) none.0 ∙ sym (ap (receipts_for b) none.0)
given-beyond b before (t ∷ ts) given back (inl one) =
    let more = one.2 in
    ap (λ gs. receipts_beyond b before (origins_of gs)) more.1
    ∙ beyond-told b before (origins_of more.0) t one.0 one.1
    ∙ ap (λ rs. receipt_for b t ∷ rs) (given-beyond b (before ++ t.origin ∷ []) ts more.0 back more.2)
    ∙ sym (ap (receipts_for b) more.1)
given-beyond b before (t ∷ ts) given back (inr one) =
    given-beyond b before ts given one.1.0 one.1.2

pub given-once : (b : LiveBook) (ts given back : List Ticket) → AreCollected b [] ts given back
    → receipts_for b given ≡ receipts b.settled b.requests (origins_of given)
given-once b ts given back these =
    sym (given-beyond b [] ts given back these)
    ∙ ap (λ os. flat_map (λ o. receipt_if b.settled (request_at b.requests o)) os) (beyond-none (once (origins_of given)))

-- the receipts of tickets are those of their origins
pub origins-of_receipts : (b : LiveBook) (ts : List Ticket)
    → map (λ (r : Receipt). r.origin) (receipts_for b ts) ≡ origins_of ts
origins-of_receipts b [] = refl
origins-of_receipts b (t ∷ ts) = ap (λ os. t.origin ∷ os) (origins-of_receipts b ts)

-- ---- requests of other origins

-- a request whose origin left is there no more
left-none : (qs : List Entered) (os : List Origin) (o : Origin) → is_among os o ≡ true
    → request_at (filter (λ q. not (is_among os q.origin)) qs) o ≡ None
left-none [] os o among = refl
left-none (q ∷ qs) os o among = by (is_among os q.origin) refl (is_origin o q.origin) refl (left-none qs os o among)
  where
    left : List Entered
    left = filter (λ r. not (is_among os r.origin)) qs

    by : (a : Bool) → is_among os q.origin ≡ a → (c : Bool) → is_origin o q.origin ≡ c
        → request_at left o ≡ None
        → request_at (cond (not (is_among os q.origin)) (q ∷ left) left) o ≡ None
    by true a c d more = ap (λ e. request_at (cond (not e) (q ∷ left) left) o) a ∙ more
    by false a true d more =
        absurd (apart (sym a ∙ ap (is_among os) (origin-is o q.origin d) ∙ among))
    by false a false d more =
        ap (λ e. request_at (cond (not e) (q ∷ left) left) o) a
        ∙ ap (λ e. cond e (Some q) (request_at left o)) d ∙ more

-- and a request of another origin is there still
left-there : (qs : List Entered) (os : List Origin) (o : Origin) → is_among os o ≡ false
    → request_at (filter (λ q. not (is_among os q.origin)) qs) o ≡ request_at qs o
left-there [] os o other = refl
left-there (q ∷ qs) os o other = by (is_among os q.origin) refl (is_origin o q.origin) refl (left-there qs os o other)
  where
    left : List Entered
    left = filter (λ r. not (is_among os r.origin)) qs

    by : (a : Bool) → is_among os q.origin ≡ a → (c : Bool) → is_origin o q.origin ≡ c
        → request_at left o ≡ request_at qs o
        → request_at (cond (not (is_among os q.origin)) (q ∷ left) left) o
        ≡ cond (is_origin o q.origin) (Some q) (request_at qs o)
    by true a true d more =
        absurd (apart (sym other ∙ ap (is_among os) (sym (origin-is o q.origin d)) ∙ a))
    by true a false d more =
        ap (λ e. request_at (cond (not e) (q ∷ left) left) o) a ∙ more
        ∙ sym (ap (λ e. cond e (Some q) (request_at qs o)) d)
    by false a c d more =
        ap (λ e. request_at (cond (not e) (q ∷ left) left) o) a
        ∙ ap (λ r. cond (is_origin o q.origin) (Some q) r) more

-- so one that is still there is of none of the origins that left
fresh-there : (b : LiveBook) (os : List Origin) (o : Origin)
    → is_some (request_at (live_left b os) o) ≡ true → is_among os o ≡ false
fresh-there b os o there = by (is_among os o) refl
  where
    by : (a : Bool) → is_among os o ≡ a → is_among os o ≡ false
    by false a = a
    by true a = absurd (apart (sym (ap is_some (left-none b.requests os o a)) ∙ there))

-- and one that is there no more is of one of them
stale-gone : (b : LiveBook) (os : List Origin) (o : Origin) (q : Entered)
    → request_at b.requests o ≡ Some q → is_some (request_at (live_left b os) o) ≡ false
    → is_among os o ≡ true
stale-gone b os o q there gone = by (is_among os o) refl
  where
    by : (a : Bool) → is_among os o ≡ a → is_among os o ≡ true
    by true a = a
    by false a = absurd (apart (sym gone ∙ ap is_some (left-there b.requests os o a ∙ there)))

-- ---- one ticket after the other, as the loop sees them

-- Of all tickets these are left, with what is due to them; those so far were given these receipts
-- or came back; and the requests of those that were given one left the book.
pub record Giving (b : LiveBook) (all back rest : List Ticket) (due : List (Option Receipt))
    (given : List Receipt) (now : LiveBook) : Type 0 where
  pub told : List Ticket
  pub hands : Hands b all told back rest
  pub due_are : AreDue b rest due
  pub given_are : given ≡ receipts_for b told
  pub now_is : now ≡ live_leaves b (origins_of told)

pub giving-none : (b : LiveBook) (all : List Ticket) (due : List (Option Receipt))
    → AreDue b all due → b ≡ live_leaves b [] → Giving b all [] all due [] b
giving-none b all due are none = record {
  told = [];
  hands = hands-none b all;
  due_are = are;
  given_are = refl;
  now_is = none;
}

-- the next one is given its receipt
pub giving-told : (b : LiveBook) (all back rest : List Ticket) (t : Ticket)
    (due : List (Option Receipt)) (r : Receipt) (given : List Receipt) (now next : LiveBook)
    → Giving b all back (t ∷ rest) (Some r ∷ due) given now
    → is_some (request_at now.requests t.origin) ≡ true
    → next ≡ live_leaves now (t.origin ∷ [])
    → Giving b all back rest due (given ++ r ∷ []) next
giving-told b all back rest t due r given now next so there left =
    let os = origins_of so.told in
    let more : origins_of (so.told ++ t ∷ []) ≡ os ++ t.origin ∷ [] =
    map-append (λ (u : Ticket). u.origin) so.told (t ∷ []) in
    record {
      told = so.told ++ t ∷ [];
      hands = hands-told b all so.told back rest t so.hands so.due_are.0.0 (fresh-there b os t.origin (ap (λ (k : LiveBook). is_some (request_at k.requests t.origin)) (sym so.now_is) ∙ there));
      due_are = so.due_are.1;
      given_are =
          (λ i. so.given_are i ++ so.due_are.0.1 i ∷ [])
          ∙ sym (map-append (receipt_for b) so.told (t ∷ []));
      now_is =
          left ∙ ap (λ k. live_leaves k (t.origin ∷ [])) so.now_is ∙ leaves-then b os t.origin
          ∙ ap (live_leaves b) (sym more);
    }

-- the next one comes back: it is not due, or its request left
pub giving-back : (b : LiveBook) (all back rest : List Ticket) (t : Ticket)
    (due : List (Option Receipt)) (r : Option Receipt) (given : List Receipt) (now : LiveBook)
    → Giving b all back (t ∷ rest) (r ∷ due) given now
    → (IsSome r → is_some (request_at now.requests t.origin) ≡ false)
    → Giving b all (back ++ t ∷ []) rest due given now
giving-back b all back rest t due None given now so gone = record {
  told = so.told;
  hands = hands-back b all so.told back rest t so.hands (λ is. absurd (so.due_are.0 is));
  due_are = so.due_are.1;
  given_are = so.given_are;
  now_is = so.now_is;
}
giving-back b all back rest t due (Some r) given now so gone =
    let os = origins_of so.told in
    record {
      told = so.told;
      hands = hands-back b all so.told back rest t so.hands (λ is. stale-gone b os t.origin (entered t) is.shown.owed (ap (λ (k : LiveBook). is_some (request_at k.requests t.origin)) (sym so.now_is) ∙ gone refl));
      due_are = so.due_are.1;
      given_are = so.given_are;
      now_is = so.now_is;
    }

-- what is due to the next one, as the loop takes it
pub giving-next : (b : LiveBook) (all back ts rest : List Ticket) (t : Ticket)
    (due left : List (Option Receipt)) (x : Option (Option Receipt)) (given : List Receipt)
    (now : LiveBook)
    → Giving b all back ts due given now → ts ≡ t ∷ rest → due ≡ option_to_list x ++ left
    → (x ≡ None → due ≡ [])
    → Giving b all back (t ∷ rest) (unwrap_or x None ∷ left) given now
giving-next b all back ts rest t due left (Some d) given now so next first none =
    subst (λ us. Giving b all back us (d ∷ left) given now) next
    (subst (λ ds. Giving b all back ts ds given now) first so)
giving-next b all back ts rest t due left None given now so next first none =
    absurd (subst (λ ds. AreDue b (t ∷ rest) ds) (none refl) (subst (λ us. AreDue b us due) next so.due_are))

-- what a book gives for a ticket of its own, and where it gives nothing
pub due-given : (b : LiveBook) (t : Ticket) (o : Origin) (q : Entered) (x : Option Receipt)
    → o ≡ t.origin → q ≡ entered t → t.setting ≡ b.setting
    → IfSome x (λ r. (request_at b.requests o ≡ Some q) × (is_settled b.settled q ≡ true)
    × (r ≡ receipt_of b.settled q))
    → IfSome x (λ r. IsDue b t × (r ≡ receipt_for b t))
due-given b t o q None at is here given = tt
due-given b t o q (Some r) at is here given = (
  record {
    shown = record { here = here; owed = ap (request_at b.requests) (sym at) ∙ given.0 ∙ ap Some is };
    settled = ap (is_settled b.settled) (sym is) ∙ given.1;
  },
  given.2 ∙ ap (receipt_of b.settled) is,
)

pub not-given : (b : LiveBook) (t : Ticket) (o : Origin) (q : Entered) (x : Option Receipt)
    → o ≡ t.origin → q ≡ entered t
    → IfNone x (request_at b.requests o ≡ Some q → is_settled b.settled q ≡ false)
    → IfNone x (¬ (IsDue b t))
not-given b t o q None at is none = λ due.
    absurd (apart (sym (none (ap (request_at b.requests) at ∙ due.shown.owed ∙ ap Some (sym is))) ∙ ap (is_settled b.settled) is ∙ due.settled))
not-given b t o q (Some r) at is none = tt

-- a ticket more is due what it is due
pub due-then : (b : LiveBook) (ts : List Ticket) (due : List (Option Receipt)) (t : Ticket)
    (r : Option Receipt) → AreDue b ts due
    → IfSome r (λ receipt. IsDue b t × (receipt ≡ receipt_for b t)) → IfNone r (¬ (IsDue b t))
    → AreDue b (ts ++ t ∷ []) (due ++ r ∷ [])
due-then b [] [] t (Some r) all is other = (is, tt)
due-then b [] [] t None all is other = (other, tt)
due-then b [] (d ∷ due) t r all is other = absurd all
due-then b (u ∷ ts) [] t r all is other = absurd all
due-then b (u ∷ ts) (Some d ∷ due) t r all is other = (all.0, due-then b ts due t r all.1 is other)
due-then b (u ∷ ts) (None ∷ due) t r all is other = (all.0, due-then b ts due t r all.1 is other)

-- a list that is as long as nothing is nothing
pub nothing : {X : Type 0} (xs : List X) (n : ℕ) → n ≡ length xs → n ≡ 0 → xs ≡ []
nothing [] n e none = refl
nothing (x ∷ xs) n e none = absurd (omega (arith, e, none))

-- ---- what a whole call answers

-- the tickets of the receipts and those that come back are those that were handed in
pub each-of : (b : LiveBook) (all told back : List Ticket) (given : List Receipt) → IsSound b
    → AreCollected b [] all told back → given ≡ receipts_for b told
    → IsPermutation all (map (ticket_of b.setting) given ++ back)
each-of b all told back given sound these are =
    subst (λ rs. IsPermutation all (map (ticket_of b.setting) rs ++ back)) (sym are)
    (subst (λ ts. IsPermutation all (ts ++ back)) (sym (tickets-of b [] all told back sound these))
    (shares b [] all told back these))

-- the receipts are right
pub right-of : (b : LiveBook) (all told back : List Ticket) (given : List Receipt) → IsSound b
    → AreCollected b [] all told back → given ≡ receipts_for b told
    → All (λ r. IsRight r (ticket_of b.setting r)) given
right-of b all told back given sound these are =
    subst (λ rs. All (λ r. IsRight r (ticket_of b.setting r)) rs) (sym are)
    (rights b [] all told back sound these)
