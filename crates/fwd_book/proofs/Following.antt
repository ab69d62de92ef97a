-- What a book keeps goes on as its history does.
use Rattle.std.proofs.Common.{◌≡◌, ℕ, Bool, true, false, cond, Option, Some, None, List, [], ◌∷◌, ◌++◌, length, refl, sym, ap, ◌∙◌, zero, suc}
use Rattle.std.specs.Prelude.{map, filter, find, not, ◌&&◌, ◌||◌, ◌==◌, is_some, option_to_list, slice_get}
use Rattle.std.specs.Option.{option_or}
use Rattle.std.specs.List.{list_any, list_all, flat_map}
use Rattle.std.proofs.lemmas.Bool.{eq-eqb}
use Rattle.std.proofs.lemmas.List.{append-nil}
use Rattle.std.proofs.lemmas.List.Elements.{filter-append}
use Rattle.std.proofs.lemmas.List.Folds.{find-append}
use Rattle.std.proofs.lemmas.Grind.{flat_map-append}
use Rattle.fwd_modes.specs.declared.origin.Origin.{Origin}
use Rattle.fwd_chunks.specs.declared.span.Span.{Span}
use Rattle.fwd_session.specs.ServerAcks.{ServerAck}
use Rattle.fwd_book.specs.History.{BookSetting, Entered, Fate, Untold, Told, Forgotten, Admission, BookHistory, opening, is_untold, untold, is_among, is_origin, request_at, evidence_of, has_run, is_settled, is_fresh, enters, settles, becomes, is_owed, leaves, tells, forgets, CanBeTold, owed, is_of, is_owed_to, is_due, due, tells_due, forgets_of, owed_of}
use Rattle.fwd_book.specs.Receipts.{part_of, parts_of, receipt_if, once, receipts}
use Rattle.fwd_book.specs.Live.{found_under, found_for, evidence_for, live_book, live_opening, live_enters, live_settles, live_drops, live_leaves, live_owed, live_is_due, live_due, live_tells_due, live_forgets_of, live_owed_of}
use Rattle.fwd_book.proofs.Found.{IsNumbered, numbered, for-alike, for-found}
use Rattle.fwd_book.proofs.Facts.{apart, neither_left, neither_right, or-false, true-or, or-true, is_not, turned}

-- ---- lists

pub any-last : {X : Type 0} (p : X → Bool) (xs : List X) (x : X)
    → list_any p (xs ++ x ∷ []) ≡ (list_any p xs || p x)
any-last p [] x = or-false (p x)
any-last p (y ∷ xs) x = by (p y) (any-last p xs x)
  where
    by : (a : Bool) → list_any p (xs ++ x ∷ []) ≡ (list_any p xs || p x)
        → (a || list_any p (xs ++ x ∷ [])) ≡ ((a || list_any p xs) || p x)
    by false e = e
    by true e = refl

pub any-filter : {X : Type 0} (p r : X → Bool) (xs : List X) → list_any r (filter p xs) ≡ true
    → list_any r xs ≡ true
any-filter p r [] e = e
any-filter p r (x ∷ xs) e = by (p x) (r x) refl (any-filter p r xs) e
  where
    by : (a b : Bool) → r x ≡ b → (list_any r (filter p xs) ≡ true → list_any r xs ≡ true)
        → list_any r (cond a (x ∷ filter p xs) (filter p xs)) ≡ true → (b || list_any r xs) ≡ true
    by a true f more e = refl
    by false false f more e = more e
    by true false f more e = more (sym (ap (λ k. k || list_any r (filter p xs)) f) ∙ e)

-- ---- a request is entered

untold-enters : (b : BookHistory) (q : Entered) → untold (enters b q) ≡ untold b ++ q ∷ []
untold-enters b q =
    ap (map (λ a. a.request)) (filter-append (λ a. is_untold a.fate) b.admissions (record { request = q; fate = Untold } ∷ []))
    ∙ last (filter (λ a. is_untold a.fate) b.admissions)
  where
    last : (xs : List Admission)
        → map (λ a. a.request) (xs ++ record { request = q; fate = Untold } ∷ []) ≡ map
        (λ a. a.request) xs ++ q ∷ []
    last [] = refl
    last (a ∷ xs) = ap (λ qs. a.request ∷ qs) (last xs)

-- where none was acknowledged, nothing is found under runs
pub none-found : (spans : List Span) (settled : List ServerAck)
    → list_any (λ e. list_any (λ s. s.number == e.number) spans) settled ≡ false
    → found_under (evidence_of settled) spans ≡ []
none-found [] settled fresh = refl
none-found (s ∷ spans) settled fresh =
    ap (λ o. option_to_list o ++ found_under (evidence_of settled) spans) (first settled fresh) ∙ none-found spans settled (others settled fresh)
  where
    first : (es : List ServerAck)
        → list_any (λ e. list_any (λ t. t.number == e.number) (s ∷ spans)) es ≡ false
        → evidence_of es s.number ≡ None
    first [] none = refl
    first (e ∷ es) none =
        let here = neither_left (list_any (λ t. t.number == e.number) (s ∷ spans)) (list_any (λ d. list_any (λ t. t.number == d.number) (s ∷ spans)) es) none in
        let not_s = neither_left (s.number == e.number) (list_any (λ t. t.number == e.number) spans) here in
        ap (λ k. cond k (Some e) (evidence_of es s.number)) (turned e.number s.number not_s)
        ∙ first es (neither_right (list_any (λ t. t.number == e.number) (s ∷ spans)) (list_any (λ d. list_any (λ t. t.number == d.number) (s ∷ spans)) es) none)

    others : (es : List ServerAck)
        → list_any (λ e. list_any (λ t. t.number == e.number) (s ∷ spans)) es ≡ false
        → list_any (λ e. list_any (λ t. t.number == e.number) spans) es ≡ false
    others [] none = refl
    others (e ∷ es) none =
        let here = neither_left (list_any (λ t. t.number == e.number) (s ∷ spans)) (list_any (λ d. list_any (λ t. t.number == d.number) (s ∷ spans)) es) none in
        let more = neither_right (list_any (λ t. t.number == e.number) (s ∷ spans)) (list_any (λ d. list_any (λ t. t.number == d.number) (s ∷ spans)) es) none in
        ap (λ k. k || list_any (λ d. list_any (λ t. t.number == d.number) spans) es) (neither_right (s.number == e.number) (list_any (λ t. t.number == e.number) spans) here) ∙ others es more

pub enters-found : (f : ℕ → Option ServerAck) (qs : List Entered) (q : Entered)
    → found_under f q.spans ≡ [] → found_for f (qs ++ q ∷ []) ≡ found_for f qs
enters-found f qs q none =
    flat_map-append (λ (r : Entered). found_under f r.spans) qs (q ∷ [])
    ∙ ap (λ xs. found_for f qs ++ (xs ++ [])) none ∙ append-nil (found_for f qs)

pub follows-opening : (setting : BookSetting) → live_book (opening setting) ≡ live_opening setting
unfolding live_book
follows-opening setting = refl

pub follows-enters : (b : BookHistory) (q : Entered) → is_fresh b.settled q ≡ true
    → live_book (enters b q) ≡ live_enters (live_book b) q
unfolding live_book
follows-enters b q fresh =
    let more = untold-enters b q in
    let none = none-found q.spans b.settled (is_not (list_any (λ e. has_run e.number q) b.settled) fresh) in
    let kept = enters-found (evidence_of b.settled) (untold b) q none in
    λ i. record { setting = b.setting; requests = more i; settled = (ap (λ qs. evidence_for qs b.settled) more ∙ kept) i }

-- ---- a server acknowledged a chunk

-- what was acknowledged under a request's number is found in what is kept, and what comes behind it
pub kept-then : (f : ℕ → Option ServerAck) (qs : List Entered) (e : ServerAck) (n : ℕ) → IsNumbered f
    → list_any (has_run n) qs ≡ true
    → evidence_of (found_for f qs ++ e ∷ []) n ≡ option_or (f n) (evidence_of (e ∷ []) n)
kept-then f qs e n numbers used =
    find-append (λ x. x.number == n) (found_for f qs) (e ∷ [])
    ∙ ap (λ o. option_or o (evidence_of (e ∷ []) n)) (for-found f qs n numbers used)

pub follows-settles : (b : BookHistory) (e : ServerAck)
    → live_book (settles b e) ≡ live_settles (live_book b) e
unfolding live_book
follows-settles b e =
    let alike = for-alike (evidence_of (b.settled ++ e ∷ [])) (evidence_of (evidence_for (untold b) b.settled ++ e ∷ [])) (untold b)
    (λ n used. find-append (λ x. x.number == n) b.settled (e ∷ []) ∙ sym (kept-then (evidence_of b.settled) (untold b) e n (numbered b.settled) used)) in
    λ i. record (live_book b) { settled = alike i }

-- ---- requests leave

push_map : {X Y : Type 0} (f : X → Y) (k : Bool) (x : X) (xs : List X)
    → map f (cond k (x ∷ xs) xs) ≡ cond k (f x ∷ map f xs) (map f xs)
push_map f true x xs = refl
push_map f false x xs = refl

push_filter : {X : Type 0} (p : X → Bool) (k : Bool) (x : X) (xs : List X)
    → filter p (cond k (x ∷ xs) xs) ≡ cond (k && p x) (x ∷ filter p xs) (filter p xs)
push_filter p true x xs = refl
push_filter p false x xs = refl

untold-leaves : (fate : Fate) (b : BookHistory) (test : Entered → Bool) (gone : Admission → Bool)
    → is_untold fate ≡ false
    → ((a : Admission) → (is_untold a.fate && gone a) ≡ (is_untold a.fate && test a.request))
    → untold (leaves fate gone b) ≡ filter (λ q. not (test q)) (untold b)
unfolding leaves
untold-leaves fate b test gone left same = each b.admissions
  where
    stays : Entered → Bool
    stays q = not (test q)

    new : Admission → Admission
    new a = becomes fate (is_untold a.fate && gone a) a

    two : (u m : Bool) (a : Admission) → is_untold a.fate ≡ u → (qs rs : List Entered) → qs ≡ rs
        → cond (is_untold (becomes fate (u && m) a).fate)
        ((becomes fate (u && m) a).request ∷ qs) qs ≡ cond (u && not m) (a.request ∷ rs) rs
    two true true a is_u qs rs more = ap (λ k. cond k (a.request ∷ qs) qs) left ∙ more
    two true false a is_u qs rs more = ap (λ k. cond k (a.request ∷ qs) qs) is_u ∙ ap (λ xs. a.request ∷ xs) more
    two false m a is_u qs rs more = ap (λ k. cond k (a.request ∷ qs) qs) is_u ∙ more

    each : (xs : List Admission)
        → map (λ a. a.request) (filter (λ a. is_untold a.fate) (map new xs))
        ≡ filter stays (map (λ a. a.request) (filter (λ a. is_untold a.fate) xs))
    each [] = refl
    each (a ∷ xs) =
        let rest : List Entered = map (λ x. x.request) (filter (λ x. is_untold x.fate) (map new xs)) in
        push_map (λ x. x.request) (is_untold (new a).fate) (new a) (filter (λ x. is_untold x.fate) (map new xs))
        ∙ ap (λ k. cond (is_untold (becomes fate k a).fate) ((becomes fate k a).request ∷ rest) rest) (same a)
        ∙ two (is_untold a.fate) (test a.request) a refl rest (filter stays (map (λ x. x.request) (filter (λ x. is_untold x.fate) xs))) (each xs)
        ∙ sym (ap (filter stays) (push_map (λ x. x.request) (is_untold a.fate) a (filter (λ x. is_untold x.fate) xs)) ∙ push_filter stays (is_untold a.fate) a.request (map (λ x. x.request) (filter (λ x. is_untold x.fate) xs)))

-- what leaves takes nothing from what is found for the others
pub left-found : (f : ℕ → Option ServerAck) (qs : List Entered) (stays : Entered → Bool)
    → IsNumbered f
    → found_for f (filter stays qs) ≡ evidence_for (filter stays qs) (found_for f qs)
left-found f qs stays numbers =
    for-alike f (evidence_of (found_for f qs)) (filter stays qs) (λ n used. sym (for-found f qs n numbers (any-filter stays (has_run n) qs used)))

pub follows-leaves : (fate : Fate) (b : BookHistory) (test : Entered → Bool)
    (gone : Admission → Bool)
    → is_untold fate ≡ false
    → ((a : Admission) → (is_untold a.fate && gone a) ≡ (is_untold a.fate && test a.request))
    → live_book (leaves fate gone b) ≡ live_drops test (live_book b)
unfolding live_book leaves
follows-leaves fate b test gone told same =
    let left = untold-leaves fate b test gone told same in
    let less = left-found (evidence_of b.settled) (untold b) (λ q. not (test q)) (numbered b.settled) in
    λ i. record { setting = b.setting; requests = left i; settled = (ap (λ qs. evidence_for qs b.settled) left ∙ less) i }

pub follows-forgets : (b : BookHistory) (origins : List Origin)
    → live_book (forgets b origins) ≡ live_leaves (live_book b) origins
follows-forgets b origins = follows-leaves Forgotten b (λ q. is_among origins q.origin) (λ a. is_among origins a.request.origin) refl (λ a. refl)

-- a test that is alike on all of a list
pub filter-alike : {X : Type 0} (p r : X → Bool) (xs : List X)
    → ((i : ℕ) (x : X) → slice_get xs i ≡ Some x → p x ≡ r x) → filter p xs ≡ filter r xs
filter-alike p r [] same = refl
filter-alike p r (x ∷ xs) same =
    (λ i. cond (same 0 x refl i) (x ∷ filter p xs) (filter p xs))
    ∙ ap (λ ys. cond (r x) (x ∷ ys) ys) (filter-alike p r xs (λ i y at. same (suc i) y at))

-- what stands at a place passes some test of the list
any-at : {X : Type 0} (r : X → Bool) (xs : List X) (i : ℕ) (x : X) → slice_get xs i ≡ Some x
    → r x ≡ true → list_any r xs ≡ true
any-at r [] i x at is = absurd cc
any-at r (y ∷ xs) zero x at is = let same : y ≡ x = cc in ap (λ k. k || list_any r xs) (ap r same ∙ is)
any-at r (y ∷ xs) (suc i) x at is = or-true (r y) (list_any r xs) (any-at r xs i x at is)

-- a place in what a test leaves is a place in the list
pub filter-at : {X : Type 0} (p : X → Bool) (xs : List X) (i : ℕ) (x : X)
    → slice_get (filter p xs) i ≡ Some x → (j : ℕ) × (slice_get xs j ≡ Some x)
filter-at p [] i x at = absurd cc
filter-at {X = X} p (y ∷ xs) i x at = by (p y) i at (λ j there. filter-at p xs j x there)
  where
    Later : Type 0
    Later = (j : ℕ) → slice_get (filter p xs) j ≡ Some x → (k : ℕ) × (slice_get xs k ≡ Some x)

    by : (t : Bool) (j : ℕ) → slice_get (cond t (y ∷ filter p xs) (filter p xs)) j ≡ Some x → Later
        → (k : ℕ) × (slice_get (y ∷ xs) k ≡ Some x)
    by true zero there more = (0, there)
    by true (suc j) there more = let at = more j there in (suc at.0, at.1)
    by false j there more = let at = more j there in (suc at.0, at.1)

tells-parted : (b : BookHistory) (origins : List Origin) → CanBeTold b origins
    → filter (λ q. not (is_among origins q.origin && is_settled b.settled q)) (untold b)
    ≡ filter (λ q. not (is_among origins q.origin)) (untold b)
tells-parted b origins can = each b.admissions can
  where
    by : (u m s : Bool) → ((u && m) ≡ true → s ≡ true) → (x : Entered) (xs ys : List Entered)
        → xs ≡ ys
        → cond (u && not (m && s)) (x ∷ xs) xs ≡ cond (u && not m) (x ∷ ys) ys
    by false m s all x xs ys e = e
    by true false s all x xs ys e = ap (λ zs. x ∷ zs) e
    by true true s all x xs ys e = ap (λ k. cond (not k) (x ∷ xs) xs) (all refl) ∙ e

    each : (as' : List Admission)
        → ((i : ℕ) (a : Admission) → slice_get as' i ≡ Some a → is_owed origins a ≡ true
        → is_settled b.settled a.request ≡ true)
        → filter (λ q. not (is_among origins q.origin && is_settled b.settled q))
        (map (λ a. a.request) (filter (λ a. is_untold a.fate) as'))
        ≡ filter (λ q. not (is_among origins q.origin))
        (map (λ a. a.request) (filter (λ a. is_untold a.fate) as'))
    each [] all = refl
    each (a ∷ as') all =
        let rest : List Entered = map (λ x. x.request) (filter (λ x. is_untold x.fate) as') in
        ap (filter (λ q. not (is_among origins q.origin && is_settled b.settled q))) (push_map (λ x. x.request) (is_untold a.fate) a (filter (λ x. is_untold x.fate) as'))
        ∙ push_filter (λ q. not (is_among origins q.origin && is_settled b.settled q)) (is_untold a.fate) a.request rest
        ∙ by (is_untold a.fate) (is_among origins a.request.origin) (is_settled b.settled a.request) (all 0 a refl) a.request
        (filter (λ q. not (is_among origins q.origin && is_settled b.settled q)) rest) (filter (λ q. not (is_among origins q.origin)) rest) (each as' (λ i x at. all (suc i) x at))
        ∙ sym (ap (filter (λ q. not (is_among origins q.origin))) (push_map (λ x. x.request) (is_untold a.fate) a (filter (λ x. is_untold x.fate) as'))
        ∙ push_filter (λ q. not (is_among origins q.origin)) (is_untold a.fate) a.request rest)

pub follows-tells : (b : BookHistory) (origins : List Origin) → CanBeTold b origins
    → live_book (tells b origins) ≡ live_leaves (live_book b) origins
unfolding live_book
follows-tells b origins can =
    follows-leaves Told b (λ q. is_among origins q.origin && is_settled b.settled q) (λ a. is_among origins a.request.origin && is_settled b.settled a.request) refl (λ a. refl)
    ∙ (λ i. record (live_book b) { requests = tells-parted b origins can i; settled = evidence_for (tells-parted b origins can i) (live_book b).settled })

pub follows-owed : (b : BookHistory) (origins : List Origin)
    → owed b origins ≡ live_owed (live_book b) origins
unfolding live_book
follows-owed b origins = each b.admissions
  where
    counts : {X Y : Type 0} (k : Bool) (x : X) (y : Y) (xs : List X) (ys : List Y)
        → length xs ≡ length ys → length (cond k (x ∷ xs) xs) ≡ length (cond k (y ∷ ys) ys)
    counts true x y xs ys e = ap suc e
    counts false x y xs ys e = e

    each : (xs : List Admission)
        → length (filter (is_owed origins) xs) ≡ length
        (filter (λ q. is_among origins q.origin)
        (map (λ a. a.request) (filter (λ a. is_untold a.fate) xs)))
    each [] = refl
    each (a ∷ xs) =
        let rest = map (λ (a : Admission). a.request) (filter (λ a. is_untold a.fate) xs) in
        counts (is_owed origins a) a a.request (filter (is_owed origins) xs) (filter (λ q. is_among origins q.origin) rest) (each xs)
        ∙ sym (ap length (ap (filter (λ q. is_among origins q.origin)) (push_map (λ a. a.request) (is_untold a.fate) a (filter (λ a. is_untold a.fate) xs)) ∙ push_filter (λ q. is_among origins q.origin) (is_untold a.fate) a.request rest))

-- ---- receipts

-- what is found is there
any-found : {X : Type 0} (p r : X → Bool) (xs : List X) (x : X) → find p xs ≡ Some x → r x ≡ true
    → list_any r xs ≡ true
any-found p r [] x found is = absurd cc
any-found p r (y ∷ xs) x found is = by (p y) (r y) refl found (any-found p r xs x)
  where
    by : (a c : Bool) → r y ≡ c → cond a (Some y) (find p xs) ≡ Some x
        → (find p xs ≡ Some x → r x ≡ true → list_any r xs ≡ true) → (c || list_any r xs) ≡ true
    by a true f e more = refl
    by true false f e more = let same : y ≡ x = cc in absurd (apart (sym f ∙ ap r same ∙ is))
    by false false f e more = more e is

-- where what was acknowledged under the runs' numbers is alike, so are the parts
parts-alike : (xs ys : List ServerAck) (spans : List Span)
    → ((n : ℕ) → list_any (λ s. s.number == n) spans ≡ true → evidence_of xs n ≡ evidence_of ys n)
    → (parts_of xs spans ≡ parts_of ys spans) ×
    (list_all (λ s. is_some (evidence_of xs s.number)) spans
    ≡ list_all (λ s. is_some (evidence_of ys s.number)) spans)
parts-alike xs ys [] same = (refl, refl)
parts-alike xs ys (s ∷ spans) same =
    let here = same s.number (true-or (s.number == s.number) (list_any (λ t. t.number == s.number) spans) (eq-eqb s.number s.number refl)) in
    let more = parts-alike xs ys spans (λ n there. same n (or-true (s.number == n) (list_any (λ t. t.number == n) spans) there)) in (
      λ i. part_of (here i) s ++ more.0 i,
      λ i. is_some (here i) && more.1 i,
    )

pub follows-receipts : (b : BookHistory) (origins : List Origin)
    → receipts b.settled (untold b) origins
    ≡ receipts (live_book b).settled (live_book b).requests origins
unfolding live_book
follows-receipts b origins = λ i. flat_map (λ origin. one origin i) (once origins)
  where
    qs : List Entered
    qs = untold b

    kept : List ServerAck
    kept = evidence_for qs b.settled

    by : (origin : Origin) (o : Option Entered) → request_at qs origin ≡ o
        → receipt_if b.settled o ≡ receipt_if kept o
    by origin None found = refl
    by origin (Some q) found =
        let alike = parts-alike b.settled kept q.spans (λ n some.
        sym (for-found (evidence_of b.settled) qs n (numbered b.settled) (any-found (λ r. is_origin origin r.origin) (has_run n) qs q found some))) in
        λ i. cond (alike.1 i) (record { origin = q.origin; tag = q.tag; entries = q.entries; chunk = q.chunk; parts = alike.0 i } ∷ []) []

    one : (origin : Origin)
        → receipt_if b.settled (request_at qs origin) ≡ receipt_if kept (request_at qs origin)
    one origin = by origin (request_at qs origin) refl

-- ---- a connection's requests

-- what is kept for what is not told says of it whether all its entries are acknowledged
settled-alike : (b : BookHistory) (i : ℕ) (q : Entered) → slice_get (untold b) i ≡ Some q
    → is_settled b.settled q ≡ is_settled (evidence_for (untold b) b.settled) q
settled-alike b i q at =
    (parts-alike b.settled (evidence_for (untold b) b.settled) q.spans
    (λ n some. sym (for-found (evidence_of b.settled) (untold b) n (numbered b.settled) (any-at (has_run n) (untold b) i q at some)))).1

due-alike : (b : BookHistory) (conn i : ℕ) (q : Entered) → slice_get (untold b) i ≡ Some q
    → (is_of conn q && is_settled b.settled q) ≡ live_is_due (live_book b) conn q
unfolding live_book
due-alike b conn i q at = ap (λ k. is_of conn q && k) (settled-alike b i q at)

pub follows-due : (b : BookHistory) (conn : ℕ) → due b conn ≡ live_due (live_book b) conn
unfolding live_book
follows-due b conn = each b.admissions ∙ filter-alike (λ q. is_of conn q && is_settled b.settled q) (live_is_due (live_book b) conn) (untold b) (λ i q at. due-alike b conn i q at)
  where
    by : (u m s : Bool) (a : Admission) (xs : List Admission) (ys : List Entered)
        → map (λ x. x.request) xs ≡ ys
        → map (λ (x : Admission). x.request) (cond ((u && m) && s) (a ∷ xs) xs)
        ≡ cond (u && (m && s)) (a.request ∷ ys) ys
    by false m s a xs ys e = e
    by true false s a xs ys e = e
    by true true false a xs ys e = e
    by true true true a xs ys e = ap (λ zs. a.request ∷ zs) e

    each : (as' : List Admission)
        → map (λ a. a.request) (filter (is_due conn b.settled) as')
        ≡ filter (λ q. is_of conn q && is_settled b.settled q)
        (map (λ a. a.request) (filter (λ a. is_untold a.fate) as'))
    each [] = refl
    each (a ∷ as') =
        let rest : List Entered = map (λ x. x.request) (filter (λ x. is_untold x.fate) as') in
        by (is_untold a.fate) (is_of conn a.request) (is_settled b.settled a.request) a (filter (is_due conn b.settled) as') (filter (λ q. is_of conn q && is_settled b.settled q) rest) (each as')
        ∙ sym (ap (filter (λ q. is_of conn q && is_settled b.settled q)) (push_map (λ x. x.request) (is_untold a.fate) a (filter (λ x. is_untold x.fate) as'))
        ∙ push_filter (λ q. is_of conn q && is_settled b.settled q) (is_untold a.fate) a.request rest)

pub follows-tells_due : (b : BookHistory) (conn : ℕ)
    → live_book (tells_due b conn) ≡ live_tells_due (live_book b) conn
unfolding live_book
follows-tells_due b conn =
    follows-leaves Told b (λ q. is_of conn q && is_settled b.settled q) (is_due conn b.settled) refl (λ a. by (is_untold a.fate) (is_of conn a.request) (is_settled b.settled a.request))
    ∙ (λ i. record (live_book b) { requests = left i; settled = evidence_for (left i) (live_book b).settled })
  where
    by : (u m s : Bool) → (u && ((u && m) && s)) ≡ (u && (m && s))
    by false m s = refl
    by true m s = refl

    left : filter (λ q. not (is_of conn q && is_settled b.settled q)) (untold b)
        ≡ filter (λ q. not (live_is_due (live_book b) conn q)) (untold b)
    left = filter-alike (λ q. not (is_of conn q && is_settled b.settled q)) (λ q. not (live_is_due (live_book b) conn q)) (untold b) (λ i q at. ap not (due-alike b conn i q at))

pub follows-forgets_of : (b : BookHistory) (conn : ℕ)
    → live_book (forgets_of b conn) ≡ live_forgets_of (live_book b) conn
follows-forgets_of b conn = follows-leaves Forgotten b (is_of conn) (is_owed_to conn) refl (λ a. by (is_untold a.fate) (is_of conn a.request))
  where
    by : (u m : Bool) → (u && (u && m)) ≡ (u && m)
    by false m = refl
    by true m = refl

pub follows-owed_of : (b : BookHistory) (conn : ℕ)
    → owed_of b conn ≡ live_owed_of (live_book b) conn
unfolding live_book
follows-owed_of b conn = each b.admissions
  where
    by : (u m : Bool) (a : Admission) (xs : List Admission) (ys : List Entered)
        → length xs ≡ length ys
        → length (cond (u && m) (a ∷ xs) xs) ≡ length (cond (u && m) (a.request ∷ ys) ys)
    by false m a xs ys e = e
    by true false a xs ys e = e
    by true true a xs ys e = ap suc e

    each : (as' : List Admission)
        → length (filter (is_owed_to conn) as')
        ≡ length (filter (is_of conn) (map (λ a. a.request) (filter (λ a. is_untold a.fate) as')))
    each [] = refl
    each (a ∷ as') =
        let rest : List Entered = map (λ x. x.request) (filter (λ x. is_untold x.fate) as') in
        by (is_untold a.fate) (is_of conn a.request) a (filter (is_owed_to conn) as') (filter (is_of conn) rest) (each as')
        ∙ sym (ap length (ap (filter (is_of conn)) (push_map (λ x. x.request) (is_untold a.fate) a (filter (λ x. is_untold x.fate) as'))
        ∙ push_filter (is_of conn) (is_untold a.fate) a.request rest))
