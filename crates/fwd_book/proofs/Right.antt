-- The receipts that a sound book gives are right.
use Rattle.std.proofs.Common.{◌≡◌, ◌<◌, ◌≤◌, ◌+◌, ℕ, Bool, true, false, zero, suc, cond, Option, Some, None, List, [], ◌∷◌, ◌++◌, length, take, arith, refl, sym, ap, subst, ◌∙◌, inl, inr}
use Rattle.std.specs.Prelude.{◌⊎◌, map, find, drop, ◌==◌, is_some, slice_get}
use Rattle.std.specs.List.{list_any, list_all, flat_map}
use Rattle.std.proofs.lemmas.Bool.{eqb-true, eq-eqb}
use Rattle.std.proofs.lemmas.List.{take-append-drop}
use Rattle.fwd_modes.specs.declared.origin.Origin.{Origin}
use Rattle.fwd_chunks.specs.declared.span.Span.{Span}
use Rattle.fwd_session.specs.ServerAcks.{ServerAck}
use Rattle.fwd_chunks.specs.Spans.{AreCutBy, AreRising}
use Rattle.fwd_book.specs.History.{Entered, is_origin, request_at, evidence_of, is_settled}
use Rattle.fwd_book.specs.Receipts.{AckedRange, Receipt, span_of, shown_by, part_of, parts_of, receipt_of, receipt_if, once, receipts, IsRightFor}
use Rattle.fwd_book.specs.Live.{LiveBook, HasItsRuns, IsSound}
use Rattle.fwd_book.proofs.Facts.{origin-is, apart, none_some, true-or, or-true, both_left, both_right}
use Rattle.std.proofs.lemmas.Option.{same_Some}

-- what is found stands at a place
pub record Stands {X : Type 0} (p : X → Bool) (xs : List X) (x : X) : Type 0 where
  pub place : ℕ
  pub here : slice_get xs place ≡ Some x
  pub passes : p x ≡ true

pub found_stands : {X : Type 0} (p : X → Bool) (xs : List X) (x : X) → find p xs ≡ Some x
    → Stands p xs x
found_stands p [] x found = absurd cc
found_stands p (y ∷ xs) x found = by (p y) refl found (λ e. found_stands p xs x e)
  where
    by : (a : Bool) → p y ≡ a → cond a (Some y) (find p xs) ≡ Some x
        → (find p xs ≡ Some x → Stands p xs x) → Stands p (y ∷ xs) x
    by true e f more = record { place = 0; here = f; passes = sym (ap p (same_Some _ _ f)) ∙ e }
    by false e f more = let m = more f in record { place = suc m.place; here = m.here; passes = m.passes }

-- ---- the parts of a request whose numbers are all acknowledged

-- the parts are the runs, show the entries, and are of what was acknowledged
pub record AreParts (settled : List ServerAck) (spans : List Span) (own : List (List ℕ)) (parts : List AckedRange) : Type 0 where
  pub spans_are : map span_of parts ≡ spans
  pub numbers_are : map (λ (p : AckedRange). p.evidence.number) parts ≡ map (λ (s : Span). s.number) spans
  pub shown_are : flat_map shown_by parts ≡ own
  pub from : (i : ℕ) (p : AckedRange) → slice_get parts i ≡ Some p → Stands (λ e. list_any (λ s. s.number == e.number) spans) settled p.evidence
  pub fits : (i : ℕ) (p : AckedRange) → slice_get parts i ≡ Some p
      → p.from + p.count ≤ length p.evidence.entries

-- so many entries from a place on are there
taken-within : (n f : ℕ) (xs ys : List (List ℕ)) → 0 < n → n ≤ length ys
    → take n (drop f xs) ≡ take n ys → f + n ≤ length xs
taken-within n f xs ys some fits same =
    let long : length (take n (drop f xs)) ≡ n = ap length same ∙ length-take n ys fits in
    let short = length-drop n f xs in
    omega (arith, long, short, some)
  where
    length-take : (n : ℕ) (ys : List (List ℕ)) → n ≤ length ys → length (take n ys) ≡ n
    length-take zero ys h = refl
    length-take (suc n) [] h = absurd (omega (arith, h))
    length-take (suc n) (y ∷ ys) h = ap suc (length-take n ys (omega (arith, h)))

    -- nothing is taken behind the end
    length-drop : (n f : ℕ) (xs : List (List ℕ))
        → (length (take n (drop f xs)) ≡ 0) ⊎ (f + length (take n (drop f xs)) ≤ length xs)
    length-drop zero f xs = inl refl
    length-drop (suc n) zero [] = inl refl
    length-drop (suc n) zero (x ∷ xs) = inr (more (length-drop n zero xs))
      where
        more : (length (take n xs) ≡ 0) ⊎ (0 + length (take n xs) ≤ length xs)
            → 0 + suc (length (take n xs)) ≤ suc (length xs)
        more (inl e) = omega (arith, e)
        more (inr h) = omega (arith, h)
    length-drop (suc n) (suc f) [] = inl refl
    length-drop (suc n) (suc f) (x ∷ xs) = by (length-drop (suc n) f xs)
      where
        by : (length (take (suc n) (drop f xs)) ≡ 0)
            ⊎ (f + length (take (suc n) (drop f xs)) ≤ length xs)
            → (length (take (suc n) (drop f xs)) ≡ 0)
            ⊎ (suc f + length (take (suc n) (drop f xs)) ≤ suc (length xs))
        by (inl e) = inl e
        by (inr h) = inr (omega (arith, h))

parts_are : (settled : List ServerAck) (spans : List Span) (own : List (List ℕ))
    → list_all (λ s. is_some (evidence_of settled s.number)) spans ≡ true
    → AreCutBy spans own
    →
    ((j : ℕ) (e : ServerAck) → slice_get settled j ≡ Some e
    → HasItsRuns e.number e.entries spans own)
    → AreParts settled spans own (parts_of settled spans)
parts_are settled [] own all cut runs = record { spans_are = refl; numbers_are = refl; shown_are = sym cut; from = λ i p e. absurd (none_some e); fits = λ i p e. absurd (none_some e) }
parts_are settled (s ∷ spans) own all cut runs =
    by (evidence_of settled s.number) refl
    (parts_are settled spans (drop s.count own) (both_right (is_some (evidence_of settled s.number)) (list_all (λ t. is_some (evidence_of settled t.number)) spans) all) cut.2 (λ j e here. (runs j e here).1))
  where
    by : (o : Option ServerAck) → evidence_of settled s.number ≡ o
        → AreParts settled spans (drop s.count own) (parts_of settled spans)
        → AreParts settled (s ∷ spans) own (part_of o s ++ parts_of settled spans)
    by None none more = absurd (apart (sym (ap is_some none) ∙ both_left (is_some (evidence_of settled s.number)) (list_all (λ t. is_some (evidence_of settled t.number)) spans) all))
    by (Some e) some more =
        let at = found_stands (λ x. x.number == s.number) settled e some in
        let number : e.number ≡ s.number = eqb-true e.number s.number at.passes in
        let shown = (runs at.place e at.here).0 (sym number) in record {
          spans_are = λ i. record { number = number i; from = s.from; count = s.count } ∷ more.spans_are i;
          numbers_are = λ i. number i ∷ more.numbers_are i;
          shown_are = (λ i. shown i ++ more.shown_are i) ∙ take-append-drop s.count own;
          from = λ i p here. among e at.place at.here (true-or (s.number == e.number) (list_any (λ t. t.number == e.number) spans) (eq-eqb s.number e.number (sym number))) more i p here;
          fits = λ i p here. fit e (taken-within s.count s.from e.entries own cut.0 cut.1 shown) more i p here;
        }
      where
        fit : (e : ServerAck) → s.from + s.count ≤ length e.entries
            → AreParts settled spans (drop s.count own) (parts_of settled spans)
            → (i : ℕ) (p : AckedRange)
            → slice_get
            (record { evidence = e; from = s.from; count = s.count } ∷ parts_of settled spans) i
            ≡ Some p
            → p.from + p.count ≤ length p.evidence.entries
        fit e own-fits more zero p same = subst (λ (k : AckedRange). k.from + k.count ≤ length k.evidence.entries) (same_Some _ _ same) own-fits
        fit e own-fits more (suc i) p same = more.fits i p same

        among : (e : ServerAck) (place : ℕ) → slice_get settled place ≡ Some e
            → list_any (λ t. t.number == e.number) (s ∷ spans) ≡ true
            → AreParts settled spans (drop s.count own) (parts_of settled spans)
            → (i : ℕ) (p : AckedRange)
            → slice_get
            (record { evidence = e; from = s.from; count = s.count } ∷ parts_of settled spans) i
            ≡ Some p
            → Stands (λ x. list_any (λ t. t.number == x.number) (s ∷ spans)) settled p.evidence
        among e place here is more zero p same = let one = ap (λ (k : AckedRange). k.evidence) (same_Some _ _ same) in record { place = place; here = here ∙ ap Some one; passes = sym (ap (λ (x : ServerAck). list_any (λ t. t.number == x.number) (s ∷ spans)) one) ∙ is }
        among e place here is more (suc i) p same = let st = more.from i p same in record { place = st.place; here = st.here; passes = or-true (s.number == p.evidence.number) (list_any (λ t. t.number == p.evidence.number) spans) st.passes }

-- ---- what stands in a list of lists

-- an element of two lists, one behind the other, is of one of them
pub in_both : {X : Type 0} (xs ys : List X) (i : ℕ) (x : X) → slice_get (xs ++ ys) i ≡ Some x
    → ((j : ℕ) × (slice_get xs j ≡ Some x)) ⊎ ((j : ℕ) × (slice_get ys j ≡ Some x))
in_both [] ys i x e = inr (i, e)
in_both (y ∷ xs) ys zero x e = inl (0, e)
in_both (y ∷ xs) ys (suc i) x e = by (in_both xs ys i x e)
  where
    by : ((j : ℕ) × (slice_get xs j ≡ Some x)) ⊎ ((j : ℕ) × (slice_get ys j ≡ Some x))
        → ((j : ℕ) × (slice_get (y ∷ xs) j ≡ Some x)) ⊎ ((j : ℕ) × (slice_get ys j ≡ Some x))
    by (inl at) = inl (suc at.0, at.1)
    by (inr at) = inr at

in_flat : {X Y : Type 0} (f : X → List Y) (xs : List X) (i : ℕ) (y : Y)
    → slice_get (flat_map f xs) i ≡ Some y → (x : X) × (j : ℕ) × (slice_get (f x) j ≡ Some y)
in_flat f [] i y e = absurd (none_some e)
in_flat {X = X} {Y = Y} f (x ∷ xs) i y e = by (in_both (f x) (flat_map f xs) i y e) (in_flat f xs)
  where
    by : ((j : ℕ) × (slice_get (f x) j ≡ Some y)) ⊎
        ((j : ℕ) × (slice_get (flat_map f xs) j ≡ Some y))
        →
        ((j : ℕ) (z : Y) → slice_get (flat_map f xs) j ≡ Some z → (w : X) × (k : ℕ)
        × (slice_get (f w) k ≡ Some z))
        → (w : X) × (k : ℕ) × (slice_get (f w) k ≡ Some y)
    by (inl at) more = (x, at.0, at.1)
    by (inr at) more = more at.0 y at.1

-- ---- a receipt

-- the receipt of a request whose entries are all acknowledged is right
pub good : (b : LiveBook) (q : Entered) (place : ℕ) → IsSound b
    → slice_get b.requests place ≡ Some q
    → is_settled b.settled q ≡ true → IsRightFor b.setting q (receipt_of b.settled q)
good b q place sound here all =
    let parts = parts_are b.settled q.spans q.entries all (sound.cut place q here) (λ j e there. (sound.of place j q e here there).runs) in record {
      origin = refl;
      tag = refl;
      entries = refl;
      chunk = refl;
      spans = parts.spans_are;
      shown = parts.shown_are;
      within = λ i p e. parts.fits i p e;
      rising = subst AreRising (sym parts.numbers_are) (sound.rising place q here);
      tags = λ i p e. let st = parts.from i p e in (sound.of place st.place q p.evidence here st.here).tag st.passes;
      names = λ i p e. let st = parts.from i p e in sound.names st.place p.evidence st.here;
    }

pub right : (b : LiveBook) (origins : List Origin) (i : ℕ) (r : Receipt) → IsSound b
    → slice_get (receipts b.settled b.requests origins) i ≡ Some r
    → (q : Entered) × (request_at b.requests r.origin ≡ Some q) × IsRightFor b.setting q r
right b origins i r sound here = at (in_flat (λ origin. receipt_if b.settled (request_at b.requests origin)) (once origins) i r here)
  where
    Result : Type 0
    Result = (q : Entered) × (request_at b.requests r.origin ≡ Some q) × IsRightFor b.setting q r

    one : (origin : Origin) (q : Entered) (place j : ℕ) → slice_get b.requests place ≡ Some q
        → request_at b.requests origin ≡ Some q → is_origin origin q.origin ≡ true
        → (a : Bool) → is_settled b.settled q ≡ a
        → slice_get (cond a (receipt_of b.settled q ∷ []) []) j ≡ Some r → Result
    one origin q place j stands found is false all e = absurd (none_some e)
    one origin q place zero stands found is true all e =
        (q, ap (λ (x : Receipt). request_at b.requests x.origin) (sym (same_Some _ _ e)) ∙ ap (request_at b.requests) (origin-is origin q.origin is) ∙ found, subst (λ x. IsRightFor b.setting q x) (same_Some _ _ e) (good b q place sound stands all))
    one origin q place (suc j) stands found is true all e = absurd (none_some e)

    by : (origin : Origin) (o : Option Entered) (j : ℕ) → request_at b.requests origin ≡ o
        → slice_get (receipt_if b.settled o) j ≡ Some r → Result
    by origin None j found e = absurd (none_some e)
    by origin (Some q) j found e =
        let st = found_stands (λ x. is_origin origin x.origin) b.requests q found in
        one origin q st.place j st.here found st.passes (is_settled b.settled q) refl e

    at : (origin : Origin) × (j : ℕ) ×
        (slice_get (receipt_if b.settled (request_at b.requests origin)) j ≡ Some r)
        → Result
    at found = by found.0 (request_at b.requests found.0) found.1 refl found.2
