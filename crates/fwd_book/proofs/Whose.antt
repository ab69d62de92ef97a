-- A connection's requests, handed in by their origins.
use Rattle.std.proofs.Common.{◌≡◌, ℕ, length, Bool, true, false, cond, zero, suc, Some, None, List, [], ◌∷◌, ◌++◌, refl, sym, ap, ◌∙◌}
use Rattle.std.specs.Prelude.{map, filter, find, not, ◌&&◌, ◌||◌, ◌==◌, slice_get}
use Rattle.std.specs.List.{flat_map}
use Rattle.fwd_modes.specs.declared.origin.Origin.{Origin}
use Rattle.fwd_book.specs.History.{Entered, is_origin, is_among, is_of, request_at, evidence_of, is_settled}
use Rattle.fwd_book.specs.Receipts.{Receipt, receipt_of, receipt_if, once, receipts}
use Rattle.fwd_book.specs.Live.{LiveBook, live_drops, live_leaves, live_forgets_of, live_owed_of, evidence_for, AreApart}
use Rattle.fwd_book.proofs.Facts.{apart, none_some, origin-is, or-false, same-origin}
use Rattle.fwd_book.proofs.Found.{numbered}
use Rattle.fwd_book.proofs.Following.{filter-alike, filter-at, left-found}
use Rattle.fwd_book.proofs.Right.{found_stands}
use Rattle.std.proofs.lemmas.Option.{same_Some}

abbrev origins_of : List Entered → List Origin
origins_of qs = map (λ q. q.origin) qs

-- an origin that is looked for among requests that have not got it
none-there : (qs : List Entered) (o : Origin) → request_at qs o ≡ None → (i : ℕ) (q : Entered)
    → slice_get qs i ≡ Some q → (is_origin o q.origin ≡ false) × (is_origin q.origin o ≡ false)
none-there [] o none i q at = absurd (none_some at)
none-there (r ∷ qs) o none i q at = by (is_origin o r.origin) refl none i at (λ e j there. none-there qs o e j q there)
  where
    turned-origin : (a b : Origin) → is_origin a b ≡ false → is_origin b a ≡ false
    turned-origin a b e = is (is_origin b a) refl
      where
        is : (t : Bool) → is_origin b a ≡ t → is_origin b a ≡ false
        is false f = f
        is true f = absurd (apart (sym e ∙ ap (λ x. is_origin x b) (origin-is b a f) ∙ same-origin b))

    by : (t : Bool) → is_origin o r.origin ≡ t → cond t (Some r) (request_at qs o) ≡ None → (j : ℕ)
        → slice_get (r ∷ qs) j ≡ Some q
        → (request_at qs o ≡ None → (k : ℕ) → slice_get qs k ≡ Some q →
        (is_origin o q.origin ≡ false) × (is_origin q.origin o ≡ false)) → (is_origin o q.origin
        ≡ false) × (is_origin q.origin o ≡ false)
    by true f g j there more = absurd (none_some (sym g))
    by false f g zero there more = let same : r.origin ≡ q.origin = ap (λ (x : Entered). x.origin) (same_Some _ _ there) in let e = ap (is_origin o) (sym same) ∙ f in (e, turned-origin o q.origin e)
    by false f g (suc j) there more = more g j there

none-among : (qs : List Entered) (o : Origin)
    → ((i : ℕ) (q : Entered) → slice_get qs i ≡ Some q → is_origin q.origin o ≡ false)
    → is_among (origins_of qs) o ≡ false
none-among [] o none = refl
none-among (q ∷ qs) o none = ap (λ t. t || is_among (origins_of qs) o) (none 0 q refl) ∙ none-among qs o (λ i r at. none (suc i) r at)

-- a request's origin is among those of the requests that pass a test where it passes it
among-passed : (p : Entered → Bool) (qs : List Entered) → AreApart qs → (i : ℕ) (q : Entered)
    → slice_get qs i ≡ Some q → is_among (origins_of (filter p qs)) q.origin ≡ p q
among-passed p [] alone i q at = absurd (none_some at)
among-passed p (r ∷ qs) alone zero q at = by (p q) refl
  where
    same : r ≡ q
    same = same_Some _ _ at

    others : is_among (origins_of (filter p qs)) q.origin ≡ false
    others = none-among (filter p qs) q.origin (λ i x there. let f = filter-at p qs i x there in
        (none-there qs q.origin (ap (λ (x : Entered). request_at qs x.origin) (sym same) ∙ alone.0) f.0 x f.1).1)

    by : (t : Bool) → p q ≡ t
        → is_among (origins_of (cond (p r) (r ∷ filter p qs) (filter p qs))) q.origin ≡ p q
    by true e =
        ap (λ k. is_among (origins_of (cond k (r ∷ filter p qs) (filter p qs))) q.origin) (ap p same ∙ e)
        ∙ ap (λ (x : Entered). is_origin x.origin q.origin || is_among (origins_of (filter p qs)) q.origin) same
        ∙ ap (λ k. k || is_among (origins_of (filter p qs)) q.origin) (same-origin q.origin) ∙ sym e
    by false e =
        ap (λ k. is_among (origins_of (cond k (r ∷ filter p qs) (filter p qs))) q.origin) (ap p same ∙ e) ∙ others ∙ sym e
among-passed p (r ∷ qs) alone (suc i) q at = by (p r) (among-passed p qs alone.1 i q at)
  where
    differ : is_origin r.origin q.origin ≡ false
    differ = (none-there qs r.origin alone.0 i q at).0

    by : (t : Bool) → is_among (origins_of (filter p qs)) q.origin ≡ p q
        → is_among (origins_of (cond t (r ∷ filter p qs) (filter p qs))) q.origin ≡ p q
    by true more = ap (λ k. k || is_among (origins_of (filter p qs)) q.origin) differ ∙ more
    by false more = more

-- the requests that pass a test leave by their origins
pub leaves-passed : (b : LiveBook) (p : Entered → Bool) → AreApart b.requests
    → live_leaves b (map (λ q. q.origin) (filter p b.requests)) ≡ live_drops p b
leaves-passed b p alone = λ i. record b { requests = left i; settled = evidence_for (left i) b.settled }
  where
    left : filter (λ q. not (is_among (origins_of (filter p b.requests)) q.origin)) b.requests
        ≡ filter (λ q. not (p q)) b.requests
    left = filter-alike (λ q. not (is_among (origins_of (filter p b.requests)) q.origin)) (λ q. not (p q)) b.requests
        (λ i q at. ap not (among-passed p b.requests alone i q at))

-- a request is found by its origin
pub found-own : (qs : List Entered) → AreApart qs → (i : ℕ) (q : Entered) → slice_get qs i ≡ Some q
    → request_at qs q.origin ≡ Some q
found-own [] alone i q at = absurd (none_some at)
found-own (r ∷ qs) alone zero q at =
    let same : r ≡ q = same_Some _ _ at in
    ap (λ k. cond k (Some r) (request_at qs q.origin)) (ap (λ (x : Entered). is_origin q.origin x.origin) same ∙ same-origin q.origin) ∙ ap (λ x. Some x) same
found-own (r ∷ qs) alone (suc i) q at =
    ap (λ k. cond k (Some r) (request_at qs q.origin)) (none-there qs r.origin alone.0 i q at).1 ∙ found-own qs alone.1 i q at

-- origins of requests that stand apart are each there once
once-passed : (p : Entered → Bool) (qs : List Entered) → AreApart qs
    → once (origins_of (filter p qs)) ≡ origins_of (filter p qs)
once-passed p [] alone = refl
once-passed p (q ∷ qs) alone = by (p q) (once-passed p qs alone.1)
  where
    stay : (rs : List Entered)
        → ((i : ℕ) (r : Entered) → slice_get rs i ≡ Some r → is_origin q.origin r.origin ≡ false)
        → filter (λ o. not (is_origin q.origin o)) (origins_of rs) ≡ origins_of rs
    stay [] none = refl
    stay (r ∷ rs) none =
        ap (λ k. cond (not k) (r.origin ∷ filter (λ o. not (is_origin q.origin o)) (origins_of rs)) (filter (λ o. not (is_origin q.origin o)) (origins_of rs))) (none 0 r refl)
        ∙ ap (λ os. r.origin ∷ os) (stay rs (λ i x at. none (suc i) x at))

    by : (t : Bool) → once (origins_of (filter p qs)) ≡ origins_of (filter p qs)
        → once (origins_of (cond t (q ∷ filter p qs) (filter p qs)))
        ≡ origins_of (cond t (q ∷ filter p qs) (filter p qs))
    by true more =
        ap (λ os. q.origin ∷ filter (λ o. not (is_origin q.origin o)) os) more
        ∙ ap (λ os. q.origin ∷ os) (stay (filter p qs) (λ i r at. let f = filter-at p qs i r at in (none-there qs q.origin alone.0 f.0 r f.1).0))
    by false more = more

-- the receipts of the requests that pass a test
pub receipts-passed : (b : LiveBook) (p : Entered → Bool) → AreApart b.requests
    → receipts b.settled b.requests (map (λ q. q.origin) (filter p b.requests))
    ≡ map (receipt_of b.settled) (filter (λ q. p q && is_settled b.settled q) b.requests)
receipts-passed b p alone =
    ap (flat_map (λ origin. receipt_if b.settled (request_at b.requests origin))) (once-passed p b.requests alone)
    ∙ each b.requests (λ i q at. found-own b.requests alone i q at)
  where
    by : (m s : Bool) (q : Entered) (rest : List Entered) (rs : List Receipt)
        → (flat_map (λ origin. receipt_if b.settled (request_at b.requests origin))
        (origins_of rest)) ≡ rs
        → request_at b.requests q.origin ≡ Some q → is_settled b.settled q ≡ s
        → flat_map (λ origin. receipt_if b.settled (request_at b.requests origin))
        (origins_of (cond m (q ∷ rest) rest)) ≡ cond (m && s) (receipt_of b.settled q ∷ rs) rs
    by false s q rest rs more own is = more
    by true s q rest rs more own is =
        ap (λ o. receipt_if b.settled o ++ flat_map (λ origin. receipt_if b.settled (request_at b.requests origin)) (origins_of rest)) own
        ∙ ap (λ k. cond k (receipt_of b.settled q ∷ []) [] ++ flat_map (λ origin. receipt_if b.settled (request_at b.requests origin)) (origins_of rest)) is
        ∙ at s
      where
        at : (k : Bool)
            → cond k (receipt_of b.settled q ∷ []) []
            ++ flat_map (λ origin. receipt_if b.settled (request_at b.requests origin))
            (origins_of rest) ≡ cond k (receipt_of b.settled q ∷ rs) rs
        at true = ap (λ xs. receipt_of b.settled q ∷ xs) more
        at false = more

    pushed : (k : Bool) (q : Entered) (qs : List Entered)
        → cond k (receipt_of b.settled q ∷ map (receipt_of b.settled) qs)
        (map (receipt_of b.settled) qs) ≡ map (receipt_of b.settled) (cond k (q ∷ qs) qs)
    pushed true q qs = refl
    pushed false q qs = refl

    each : (qs : List Entered)
        → ((i : ℕ) (q : Entered) → slice_get qs i ≡ Some q → request_at b.requests q.origin
        ≡ Some q)
        → flat_map (λ origin. receipt_if b.settled (request_at b.requests origin))
        (origins_of (filter p qs))
        ≡ map (receipt_of b.settled) (filter (λ q. p q && is_settled b.settled q) qs)
    each [] own = refl
    each (q ∷ qs) own =
        by (p q) (is_settled b.settled q) q (filter p qs) (map (receipt_of b.settled) (filter (λ r. p r && is_settled b.settled r) qs)) (each qs (λ i r at. own (suc i) r at)) (own 0 q refl) refl
        ∙ pushed (p q && is_settled b.settled q) q (filter (λ r. p r && is_settled b.settled r) qs)

-- ---- a connection's requests leave one after the other

-- the first of a connection's requests is found by its origin
pub first-own : (conn : ℕ) (qs : List Entered) (q : Entered) → AreApart qs
    → find (is_of conn) qs ≡ Some q
    → (request_at qs q.origin ≡ Some q) × (is_of conn q ≡ true)
first-own conn qs q alone found =
    let st = found_stands (is_of conn) qs q found in
    (found-own qs alone st.place q st.here, st.passes)

one-among : (o : Origin) (r : Entered) → is_among (o ∷ []) r.origin ≡ is_origin o r.origin
one-among o r = or-false (is_origin o r.origin)

-- the others of the connection are those that are left
others-left : (conn : ℕ) (q : Entered) (qs : List Entered) → is_of conn q ≡ true
    → filter (λ r. not (is_of conn r)) (filter (λ r. not (is_among (q.origin ∷ []) r.origin)) qs)
    ≡ filter (λ r. not (is_of conn r)) qs
others-left conn q [] its = refl
others-left conn q (r ∷ qs) its = by (is_origin q.origin r.origin) refl (others-left conn q qs its)
  where
    rest : List Entered
    rest = filter (λ x. not (is_among (q.origin ∷ []) x.origin)) qs

    others : List Entered
    others = filter (λ x. not (is_of conn x)) qs

    by : (b : Bool) → is_origin q.origin r.origin ≡ b
        → filter (λ x. not (is_of conn x)) rest ≡ others
        → filter (λ x. not (is_of conn x)) (cond (not (is_among (q.origin ∷ []) r.origin))
        (r ∷ rest) rest) ≡ cond (not (is_of conn r)) (r ∷ others) others
    by true e more =
        let its_too : is_of conn r ≡ true = ap (λ (o : Origin). o.conn == conn) (origin-is q.origin r.origin e) ∙ its in
        ap (λ b. filter (λ x. not (is_of conn x)) (cond (not b) (r ∷ rest) rest)) (one-among q.origin r ∙ e) ∙ more ∙ ap (λ b. cond (not b) (r ∷ others) others) (sym its_too)
    by false e more =
        ap (λ b. filter (λ x. not (is_of conn x)) (cond (not b) (r ∷ rest) rest)) (one-among q.origin r ∙ e) ∙ ap (λ xs. cond (not (is_of conn r)) (r ∷ xs) xs) more

-- one leaves
one-less : (p : Entered → Bool) (qs : List Entered) (o : Origin) (q : Entered) → AreApart qs
    → request_at qs o ≡ Some q → p q ≡ true
    → length (filter p qs)
    ≡ suc (length (filter p (filter (λ r. not (is_among (o ∷ []) r.origin)) qs)))
one-less p [] o q alone there its = absurd (none_some there)
one-less p (r ∷ qs) o q alone there its = by (is_origin o r.origin) refl there (one-less p qs o q alone.1)
  where
    rest : List Entered
    rest = filter (λ x. not (is_among (o ∷ []) x.origin)) qs

    by : (b : Bool) → is_origin o r.origin ≡ b → cond b (Some r) (request_at qs o) ≡ Some q
        → (request_at qs o ≡ Some q → p q ≡ true → length (filter p qs) ≡ suc
        (length (filter p rest)))
        → length (cond (p r) (r ∷ filter p qs) (filter p qs))
        ≡ suc (length (filter p (cond (not (is_among (o ∷ []) r.origin)) (r ∷ rest) rest)))
    by true e f more =
        let same : r ≡ q = same_Some _ _ f in
        let origin : r.origin ≡ o = origin-is o r.origin e in
        let stay : filter (λ x. not (is_among (o ∷ []) x.origin)) qs ≡ filter (λ x. not false) qs =
        filter-alike (λ x. not (is_among (o ∷ []) x.origin)) (λ x. not false) qs (λ i x at. ap not (one-among o x ∙ (none-there qs o (ap (request_at qs) (sym origin) ∙ alone.0) i x at).0)) in
        ap (λ b. length (cond b (r ∷ filter p qs) (filter p qs))) (ap p same ∙ its)
        ∙ ap (λ xs. suc (length (filter p xs))) (sym (stay ∙ all qs))
        ∙ ap (λ b. suc (length (filter p (cond (not b) (r ∷ rest) rest)))) (sym (one-among o r ∙ e))
      where
        all : (xs : List Entered) → filter (λ x. not false) xs ≡ xs
        all [] = refl
        all (x ∷ xs) = ap (λ ys. x ∷ ys) (all xs)
    by false e f more =
        counted (p r) (more f its) ∙ ap (λ b. suc (length (filter p (cond (not b) (r ∷ rest) rest)))) (sym (one-among o r ∙ e))
      where
        counted : (b : Bool) → length (filter p qs) ≡ suc (length (filter p rest))
            → length (cond b (r ∷ filter p qs) (filter p qs))
            ≡ suc (length (cond b (r ∷ filter p rest) (filter p rest)))
        counted true g = ap suc g
        counted false g = g

-- what leaves with the connection leaves alike once one of it left
pub forgets-then : (b : LiveBook) (conn : ℕ) (q : Entered) → AreApart b.requests
    → find (is_of conn) b.requests ≡ Some q
    → live_forgets_of (live_leaves b (q.origin ∷ [])) conn ≡ live_forgets_of b conn
forgets-then b conn q alone found =
    let its = (first-own conn b.requests q alone found).1 in
    let left : List Entered = filter (λ r. not (is_among (q.origin ∷ []) r.origin)) b.requests in
    let others = others-left conn q b.requests its in
    let same : evidence_for (filter (λ r. not (is_of conn r)) left) (evidence_for left b.settled) ≡ evidence_for (filter (λ r. not (is_of conn r)) left) b.settled =
    sym (left-found (evidence_of b.settled) left (λ r. not (is_of conn r)) (numbered b.settled)) in
    λ i. record { setting = b.setting; requests = others i; settled = (same ∙ ap (λ qs. evidence_for qs b.settled) others) i }

pub owed-less : (b : LiveBook) (conn : ℕ) (q : Entered) → AreApart b.requests
    → find (is_of conn) b.requests ≡ Some q
    → live_owed_of b conn ≡ suc (live_owed_of (live_leaves b (q.origin ∷ [])) conn)
owed-less b conn q alone found =
    let own = first-own conn b.requests q alone found in
    one-less (is_of conn) b.requests q.origin q alone own.0 own.1

none-of : (p : Entered → Bool) (qs : List Entered) → find p qs ≡ None
    → (filter p qs ≡ []) × (filter (λ q. not (p q)) qs ≡ qs)
none-of p [] none = (refl, refl)
none-of p (q ∷ qs) none = by (p q) none (none-of p qs)
  where
    by : (b : Bool) → cond b (Some q) (find p qs) ≡ None
        → (find p qs ≡ None → (filter p qs ≡ []) × (filter (λ r. not (p r)) qs ≡ qs))
        → (cond b (q ∷ filter p qs) (filter p qs) ≡ [])
        × (cond (not b) (q ∷ filter (λ r. not (p r)) qs) (filter (λ r. not (p r)) qs) ≡ q ∷ qs)
    by true e more = absurd (none_some (sym e))
    by false e more = let rest = more e in (rest.0, ap (λ xs. q ∷ xs) rest.1)

-- of a connection without requests nothing leaves
pub none-forgotten : (b : LiveBook) (conn : ℕ) → evidence_for b.requests b.settled ≡ b.settled
    → find (is_of conn) b.requests ≡ None
    → (live_forgets_of b conn ≡ b) × (live_owed_of b conn ≡ 0)
none-forgotten b conn kept none =
    let all = none-of (is_of conn) b.requests none in (
      λ i. record { setting = b.setting; requests = all.1 i; settled = (ap (λ qs. evidence_for qs b.settled) all.1 ∙ kept) i },
      ap length all.0,
    )
