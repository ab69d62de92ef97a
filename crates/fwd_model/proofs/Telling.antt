-- What a collect tells: just the requests that are untold and settled, by rising number.
use Rattle.std.proofs.Common.{◌≡◌, ℕ, zero, suc, Bool, true, false, cond, eqb, List, [], ◌∷◌, Option, Some, None, refl, sym, ap, subst, ◌∙◌, arith}
use Rattle.std.specs.Prelude.{◌<◌, map, filter, is_some, ◌&&◌, slice_get}
use Rattle.std.proofs.lemmas.Bool.{and_parts}
use Rattle.std.proofs.lemmas.Bool.Decides.{nat_tests}
use Rattle.fwd_modes.specs.declared.origin.Origin.{Origin}
use Rattle.fwd_chunks.specs.Cells.{Cell, has_number}
use Rattle.fwd_chunks.specs.Spans.{AreRising}
use Rattle.fwd_chunks.proofs.CellLemmas.{has_cell, numbers-has}
use Rattle.fwd_session.specs.ServerAcks.{ServerAck}
use Rattle.fwd_book.specs.History.{Fate, Untold, Told, Forgotten, Admission, evidence_of, is_settled, is_of, is_untold, is_owed_to, is_due}
use Rattle.fwd_source.specs.History.{SourceHistory}
use Rattle.fwd_model.specs.declared.config.Config.{Config}
use Rattle.fwd_model.specs.declared.event.Event.{Event}
use Rattle.fwd_model.specs.declared.event.Event.TheVariants as event
use Rattle.fwd_model.specs.declared.answer.Answer.TheVariants as answer
use Rattle.fwd_model.specs.declared.fault.Refusal.TheVariants.{Closed, NoSuch}
use Rattle.fwd_model.specs.Outcome.{answer_of, within, found as sought, refuse_if, Goes, ◌>>=◌, ◌>>◌}
use Rattle.fwd_model.specs.Step as steps
use Rattle.fwd_model.specs.Books.{numbers_of}
use Rattle.fwd_model.specs.History.{Connection, source_at, Lane, with_connection, with_lane, histories}
use Rattle.fwd_model.specs.Delivered.{answered, reached, cells_from, IsDueAt}
use Rattle.fwd_model.proofs.Settled.{found-numbered}
use Rattle.fwd_model.proofs.Reached.{IsSaneLane, AllSane-at}
use Rattle.fwd_model.proofs.Follows.{reached_sane}
use Rattle.fwd_model.proofs.Chronicle.{RequestStory, AllTold, AllAfter, AreNumbered, LaneStory}
use Rattle.fwd_model.proofs.Deliver.{every_story}
use Rattle.fwd_model.proofs.WayBack.{listed}
use Rattle.std.proofs.lemmas.Option.{same_Some}
use Rattle.std.proofs.lemmas.Bool.{eqb-true}

-- ---- which requests are told

-- the requests that a collect of the connection tells
abbrev told_of : ℕ → List ServerAck → List Admission → List ℕ
told_of id acked admissions = numbers_of (map (λ (a : Admission). a.request) (filter (is_due id acked) admissions))

told_front : (id : ℕ) (acked : List ServerAck) (a : Admission) (admissions : List Admission)
    (b : Bool) → is_due id acked a ≡ b
    → told_of id acked (a ∷ admissions)
    ≡ cond b (a.request.origin.request ∷ told_of id acked admissions) (told_of id acked admissions)
told_front id acked a admissions true h = ap (λ t. numbers_of (map (λ (x : Admission). x.request) (cond t (a ∷ filter (is_due id acked) admissions) (filter (is_due id acked) admissions)))) h
told_front id acked a admissions false h = ap (λ t. numbers_of (map (λ (x : Admission). x.request) (cond t (a ∷ filter (is_due id acked) admissions) (filter (is_due id acked) admissions)))) h

-- an admission that is due, with this number
record Found (id r : ℕ) (acked : List ServerAck) (admissions : List Admission) : Type 0 where
  place : ℕ
  admission : Admission
  here : slice_get admissions place ≡ Some admission
  due : is_due id acked admission ≡ true
  number : admission.request.origin.request ≡ r

further : (id r : ℕ) (acked : List ServerAck) (a : Admission) (admissions : List Admission)
    → Found id r acked admissions → Found id r acked (a ∷ admissions)
further id r acked a admissions f = record { place = suc f.place; admission = f.admission; here = f.here; due = f.due; number = f.number }

told_found : (id r : ℕ) (acked : List ServerAck) (admissions : List Admission)
    → has_number r (told_of id acked admissions) ≡ true → Found id r acked admissions
told_found id r acked [] h = absurd cc
told_found id r acked (a ∷ admissions) h = by (is_due id acked a) refl (eqb a.request.origin.request r) refl (λ g. further id r acked a admissions (told_found id r acked admissions g))
  where
    by : (b : Bool) → is_due id acked a ≡ b → (c : Bool) → eqb a.request.origin.request r ≡ c
        → (has_number r (told_of id acked admissions) ≡ true → Found id r acked (a ∷ admissions))
        → Found id r acked (a ∷ admissions)
    by true due true same later = record { place = zero; admission = a; here = refl; due = due; number = eqb-true a.request.origin.request r same }
    by true due false same later =
        let in_front : has_number r (a.request.origin.request ∷ told_of id acked admissions) ≡ true = ap (has_number r) (sym (told_front id acked a admissions true due)) ∙ h in
        later (grind (arith, nat_tests, in_front, same))
    by false due c same later = later (ap (has_number r) (sym (told_front id acked a admissions false due)) ∙ h)

story_at : (routes : List (List (List ℕ))) (cs : List Connection) (o : ℕ) (all : List Cell)
    (admissions : List Admission) (i : ℕ) (a : Admission) → AllTold routes cs o all admissions
    → slice_get admissions i ≡ Some a → RequestStory routes cs o all a.request
story_at routes cs o all [] i a told h = absurd cc
story_at routes cs o all (b ∷ admissions) zero a told h = subst (λ (x : Admission). RequestStory routes cs o all x.request) (same_Some _ _ h) told.0
story_at routes cs o all (b ∷ admissions) (suc i) a told h = story_at routes cs o all admissions i a told.1 h

untold_is : (fate : Fate) → is_untold fate ≡ true → fate ≡ Untold
untold_is Untold h = refl
untold_is Told h = absurd cc
untold_is Forgotten h = absurd cc

-- ---- by rising number

-- each number is greater
abbrev pub AllAbove : ℕ → List ℕ → Type 0
AllAbove n [] = Unit {0}
AllAbove n (m ∷ ns) = (n < m) × AllAbove n ns

above_at : (n : ℕ) (ns : List ℕ) (i m : ℕ) → AllAbove n ns → slice_get ns i ≡ Some m → n < m
above_at n [] i m all h = absurd cc
above_at n (k ∷ ns) zero m all h = subst (λ x. n < x) (same_Some _ _ h) all.0
above_at n (k ∷ ns) (suc i) m all h = above_at n ns i m all.1 h

pub rising-none : AreRising []
rising-none i j m n before at_i at_j = absurd cc

pub rising-cons : (n : ℕ) (ns : List ℕ) → AllAbove n ns → AreRising ns → AreRising (n ∷ ns)
rising-cons n ns above rising zero zero m k before at_i at_j = absurd (omega (arith, before))
rising-cons n ns above rising zero (suc j) m k before at_i at_j = subst (λ x. x < k) (same_Some _ _ at_i) (above_at n ns j k above at_j)
rising-cons n ns above rising (suc i) zero m k before at_i at_j = absurd (omega (arith, before))
rising-cons n ns above rising (suc i) (suc j) m k before at_i at_j = rising i j m k (omega (arith, before)) at_i at_j

-- a request that is due is the connection's
due_conn : (id : ℕ) (acked : List ServerAck) (a : Admission) → is_due id acked a ≡ true
    → a.request.origin.conn ≡ id
due_conn id acked a h =
    let parts = and_parts (is_owed_to id a) (is_settled acked a.request) h in
    let its = and_parts (is_untold a.fate) (is_of id a.request) parts.0 in
    eqb-true a.request.origin.conn id its.1

told_above : (id : ℕ) (acked : List ServerAck) (origin : Origin) (admissions : List Admission)
    → origin.conn ≡ id → AllAfter origin admissions
    → AllAbove origin.request (told_of id acked admissions)
told_above id acked origin [] own all = tt
told_above id acked origin (a ∷ admissions) own all = by (is_due id acked a) refl (told_above id acked origin admissions own all.1)
  where
    by : (b : Bool) → is_due id acked a ≡ b → AllAbove origin.request (told_of id acked admissions)
        → AllAbove origin.request (told_of id acked (a ∷ admissions))
    by true due rest = subst (AllAbove origin.request) (sym (told_front id acked a admissions true due)) (all.0 (due_conn id acked a due ∙ sym own), rest)
    by false due rest = subst (AllAbove origin.request) (sym (told_front id acked a admissions false due)) rest

told_rising : (id : ℕ) (acked : List ServerAck) (admissions : List Admission)
    → AreNumbered admissions → AreRising (told_of id acked admissions)
told_rising id acked [] own = rising-none
told_rising id acked (a ∷ admissions) own = by (is_due id acked a) refl (told_rising id acked admissions own.1)
  where
    by : (b : Bool) → is_due id acked a ≡ b → AreRising (told_of id acked admissions)
        → AreRising (told_of id acked (a ∷ admissions))
    by true due rest = subst AreRising (sym (told_front id acked a admissions true due)) (rising-cons a.request.origin.request (told_of id acked admissions) (told_above id acked a.request.origin admissions (due_conn id acked a due) own.0) rest)
    by false due rest = subst AreRising (sym (told_front id acked a admissions false due)) rest

-- ---- at an output of a run

told_numbers-by : (config : Config) (es : List Event) (id o : ℕ) (numbers out : List ℕ)
    (s : Option SourceHistory) (l : Lane)
    → answer_of
    (sought s NoSuch >>= (λ x. sought (Some l) NoSuch >>= (λ y. within
    (λ two. with_lane o two.1 (with_connection id two.0 (reached config es)))
    (steps.collect histories id x y)))) ≡ answer.Told numbers out
    → (histories.due l id).numbers ≡ numbers
told_numbers-by config es id o numbers out None l told = absurd cc
told_numbers-by config es id o numbers out (Some s) l told = at s.shut told
  where
    at : (b : Bool)
        → answer_of
        (within (λ (two : SourceHistory × Lane). with_lane o two.1
        (with_connection id two.0 (reached config es))) (refuse_if b Closed
        >> Goes (answer.Told (histories.due l id).numbers (histories.due l id).acks)
        (histories.appends s (histories.due l id).acks, histories.tells l id)))
        ≡ answer.Told numbers out → (histories.due l id).numbers ≡ numbers
    at true e = absurd cc
    at false e = cc

-- what is answered is what is due
told_numbers : (config : Config) (es : List Event) (id o : ℕ) (numbers out : List ℕ) (l : Lane)
    → slice_get (reached config es).lanes o ≡ Some l
    → answered config es (event.Collect id o) ≡ answer.Told numbers out
    → told_of id l.output.book.settled l.output.book.admissions ≡ numbers
told_numbers config es id o numbers out l here told =
    told_numbers-by config es id o numbers out (source_at id (reached config es).connections) l
    (ap (λ y. answer_of (sought (source_at id (reached config es).connections) NoSuch >>= (λ x. sought y NoSuch >>= (λ z. within (λ two. with_lane o two.1 (with_connection id two.0 (reached config es))) (steps.collect histories id x z))))) (sym here) ∙ told)

module _ (config : Config) (es : List Event) (o : ℕ) (l : Lane) (here : slice_get (reached config es).lanes o ≡ Some l) where
  story : LaneStory config es (reached config es).connections o l
  story = (every_story config es).lanes o l here

  sane : IsSaneLane l
  sane = AllSane-at (reached config es).lanes o l (reached_sane config (reached config es) (es, refl)).lanes here

  -- a number is known as acknowledged where its evidence is kept
  known : (k : ℕ) → is_some (evidence_of l.output.book.settled k)
      ≡ has_number k l.output.buffer.acknowledged
  known k = found-numbered k l.output.book.settled ∙ ap (has_number k) sane.marks

  pub due_at : (id r : ℕ)
      → has_number r (told_of id l.output.book.settled l.output.book.admissions) ≡ true
      → IsDueAt l id r
  due_at id r h =
      let f = told_found id r l.output.book.settled l.output.book.admissions h in
      let a = f.admission in
      let parts = and_parts (is_owed_to id a) (is_settled l.output.book.settled a.request) f.due in
      let its = and_parts (is_untold a.fate) (is_of id a.request) parts.0 in
      let conn = due_conn id l.output.book.settled a f.due in
      let t = story_at config.routes (reached config es).connections o l.output.buffer.cells l.output.book.admissions f.place a story.requests f.here in
      let own : cells_from id r l.output.buffer.cells ≡ t.mine = (λ i. cells_from (sym conn i) (sym f.number i) l.output.buffer.cells) ∙ t.own in
      record {
        place = f.place;
        admission = a;
        here = f.here;
        conn = conn;
        number = f.number;
        untold = untold_is a.fate its.0;
        settled = λ k has.
            sym (known k)
            ∙ t.runs (λ j. is_some (evidence_of l.output.book.settled j)) k parts.1
            (subst (λ cs. has_cell k cs ≡ true) own (sym (numbers-has k (cells_from id r l.output.buffer.cells)) ∙ has));
      }

  pub at_due : (id r : ℕ) → IsDueAt l id r
      → has_number r (told_of id l.output.book.settled l.output.book.admissions) ≡ true
  at_due id r d =
      let a = d.admission in
      let t = story_at config.routes (reached config es).connections o l.output.buffer.cells l.output.book.admissions d.place a story.requests d.here in
      let own : cells_from id r l.output.buffer.cells ≡ t.mine = (λ i. cells_from (sym d.conn i) (sym d.number i) l.output.buffer.cells) ∙ t.own in
      let settled : is_settled l.output.book.settled a.request ≡ true =
      t.needs (λ j. is_some (evidence_of l.output.book.settled j)) (λ k has.
      known k ∙ d.settled k (numbers-has k (cells_from id r l.output.buffer.cells) ∙ subst (λ cs. has_cell k cs ≡ true) (sym own) has)) in
      let untold : is_untold a.fate ≡ true = ap is_untold d.untold in
      let of : is_of id a.request ≡ true = grind (arith, nat_tests, d.conn) in
      let due : is_due id l.output.book.settled a ≡ true = λ i. (untold i && of i) && settled i in
      subst (λ n. has_number n (told_of id l.output.book.settled l.output.book.admissions) ≡ true) d.number
      (listed id l.output.book.settled l.output.book.admissions d.place a d.here due)

pub told-due : (config : Config) (es : List Event) (id r o : ℕ) (numbers out : List ℕ) (l : Lane)
    → slice_get (reached config es).lanes o ≡ Some l
    → answered config es (event.Collect id o) ≡ answer.Told numbers out
    → has_number r numbers ≡ true → IsDueAt l id r
told-due config es id r o numbers out l here told among =
    due_at config es o l here id r (ap (has_number r) (told_numbers config es id o numbers out l here told) ∙ among)

pub due-told : (config : Config) (es : List Event) (id r o : ℕ) (numbers out : List ℕ) (l : Lane)
    → slice_get (reached config es).lanes o ≡ Some l
    → answered config es (event.Collect id o) ≡ answer.Told numbers out
    → IsDueAt l id r → has_number r numbers ≡ true
due-told config es id r o numbers out l here told due =
    ap (has_number r) (sym (told_numbers config es id o numbers out l here told)) ∙ at_due config es o l here id r due

pub told-rising : (config : Config) (es : List Event) (id o : ℕ) (numbers out : List ℕ) (l : Lane)
    → slice_get (reached config es).lanes o ≡ Some l
    → answered config es (event.Collect id o) ≡ answer.Told numbers out → AreRising numbers
told-rising config es id o numbers out l here told =
    subst AreRising (told_numbers config es id o numbers out l here told)
    (told_rising id l.output.book.settled l.output.book.admissions ((every_story config es).lanes o l here).numbered)
