-- Whoever is told was delivered.
use Rattle.std.proofs.Common.{◌≡◌, ℕ, zero, suc, ◌+◌, Bool, true, false, cond, eqb, List, [], ◌∷◌, ◌++◌, length, Option, Some, None, refl, sym, ap, subst, ◌∙◌, arith}
use Rattle.std.specs.Prelude.{map, filter, is_some, not, ◌&&◌, ◌||◌, ◌==◌, slice_get}
use Rattle.std.specs.List.{list_all}
use Rattle.std.specs.Str.{bytes_eq}
use Rattle.std.proofs.lemmas.Slice.Eq.{bytes_eq-Decides}
use Rattle.std.proofs.lemmas.Bool.Decides.{nat_tests}
use Rattle.fwd_modes.specs.Frames.{chunk_frame, chunk_name}
use Rattle.fwd_chunks.specs.Cells.{Cell, cells_at, contents, entries_of, first_tag, has_entry, has_number}
use Rattle.fwd_chunks.specs.Cells as cells
use Rattle.fwd_chunks.proofs.CellLemmas.{has_cell, numbers-has}
use Rattle.fwd_chunks.proofs.News.{AreOf}
use Rattle.fwd_book.specs.History.{Entered, Admission, evidence_of, is_settled, is_of, is_untold, is_owed_to, is_due}
use Rattle.fwd_modes.specs.declared.origin.Origin.{Origin}
use Rattle.fwd_model.specs.declared.config.Config.{Config}
use Rattle.fwd_model.specs.declared.event.Event.{Event}
use Rattle.fwd_model.specs.declared.answer.Answer.TheVariants as answer
use Rattle.fwd_model.specs.declared.event.Event.TheVariants as event
use Rattle.fwd_source.specs.History.{SourceHistory}
use Rattle.fwd_model.specs.declared.fault.Refusal.TheVariants.{Closed, NoSuch}
use Rattle.fwd_model.specs.Outcome.{answer_of, state_of, within, found as sought, refuse_if, Goes, ◌>>=◌, ◌>>◌}
use Rattle.fwd_model.specs.Step as steps
use Rattle.fwd_model.specs.Step.{step}
use Rattle.fwd_model.specs.Books.{numbers_of}
use Rattle.fwd_model.proofs.Settled.{found-numbered}
use Rattle.fwd_model.specs.Outputs.{OutputHistory}
use Rattle.fwd_model.specs.History.{Connection, ever_at, source_at, Lane, History, opening, new_lane, new_lanes, with_connection, with_lane, histories}
use Rattle.fwd_model.specs.Delivered.{reached, cells_from, whole_frame, WasAcknowledged, IsDelivered, IsTold, IsToldAmong}
use Rattle.fwd_model.proofs.Reached.{IsSaneLane, AllSane-at}
use Rattle.fwd_model.proofs.Follows.{reached_sane}
use Rattle.fwd_model.proofs.Chronicle.{ever_from, frame_at, RequestStory, AllTold, LaneStory, Story, by_last, after-push}
use Rattle.fwd_model.proofs.Chronicle.Steps.{goes_on}
use Rattle.fwd_model.specs.declared.config.OutputConfig.{OutputConfig}
use Rattle.std.proofs.lemmas.Option.{same_Some}
use Rattle.std.proofs.lemmas.Bool.{eqb-true}

-- ---- the chronicle of every run

no_sessions : {X : Type 0} (n w : ℕ) (t : X)
    → slice_get (Rattle.std.specs.Prelude.replicate n None) w ≡ Some (Some t) → ⊥
no_sessions zero w t e = cc
no_sessions (suc n) zero t e = cc
no_sessions (suc n) (suc w) t e = no_sessions n w t e

new_lane_story : (config : Config) (cs : List Connection) (o : ℕ) (c : OutputConfig)
    → LaneStory config [] cs o (new_lane config.run o c)
new_lane_story config cs o c = record {
  sessions = λ w s h. absurd (no_sessions c.workers w s h);
  numbers = λ k h. absurd cc;
  own = λ id r h. absurd cc;
  requests = tt;
  numbered = tt;
  named = (refl, refl);
}

new_stories : (config : Config) (cs : List Connection) (configs : List OutputConfig)
    (base o : ℕ) (l : Lane) → slice_get (new_lanes config.run base configs) o ≡ Some l
    → LaneStory config [] cs (base + o) l
new_stories config cs [] base o l h = absurd cc
new_stories config cs (c ∷ configs) base zero l h =
    let same : new_lane config.run base c ≡ l = cc in
    subst (λ n. LaneStory config [] cs n l) (omega arith) (subst (λ x. LaneStory config [] cs base x) same (new_lane_story config cs base c))
new_stories config cs (c ∷ configs) base (suc o) l h = subst (λ n. LaneStory config [] cs n l) (omega arith) (new_stories config cs configs (suc base) o l h)

opening_story : (config : Config) → Story config [] (reached config [])
unfolding opening
opening_story config = record { run = refl; routes = refl; lanes = λ o l h. subst (λ n. LaneStory config [] [] n l) (omega arith) (new_stories config [] config.outputs 0 o l h) }

pub every_story : (config : Config) (es : List Event) → Story config es (reached config es)
every_story config es =
    by_last (λ es. Story config es (reached config es)) (opening_story config)
    (λ es e t. subst (λ h. Story config (es ++ e ∷ []) h) (sym (after-push (opening config) es e)) (goes_on config es (reached_sane config (reached config es) (es, refl)) t e)) es

-- ---- what a collect tells

-- a request that is told: entered for the connection, with this number, and settled
pub record IsFound (routes : List (List (List ℕ))) (cs : List Connection) (o id r : ℕ) (output : OutputHistory) : Type 0 where
  pub entered : Entered
  pub story : RequestStory routes cs o output.buffer.cells entered
  pub conn : entered.origin.conn ≡ id
  pub number : entered.origin.request ≡ r
  pub settled : is_settled output.book.settled entered ≡ true

and_parts : (a b : Bool) → (a && b) ≡ true → (a ≡ true) × (b ≡ true)
and_parts true b h = (refl, h)
and_parts false b h = absurd cc

found_by : (routes : List (List (List ℕ))) (cs : List Connection) (o id r : ℕ)
    (output : OutputHistory) (a : Admission) (rest : List Entered) (b c : Bool)
    → is_due id output.book.settled a ≡ b → eqb a.request.origin.request r ≡ c
    → RequestStory routes cs o output.buffer.cells a.request
    → (has_number r (numbers_of rest) ≡ true → IsFound routes cs o id r output)
    → has_number r (numbers_of (cond b (a.request ∷ rest) rest)) ≡ true
    → IsFound routes cs o id r output
found_by routes cs o id r output a rest true true due_is same one later h =
    let parts = and_parts (is_owed_to id a) (is_settled output.book.settled a.request) due_is in
    let its = and_parts (is_untold a.fate) (is_of id a.request) parts.0 in
    record { entered = a.request; story = one; conn = eqb-true a.request.origin.conn id its.1; number = eqb-true a.request.origin.request r same; settled = parts.1 }
found_by routes cs o id r output a rest true false due_is same one later h = later (grind (arith, nat_tests, h, same))
found_by routes cs o id r output a rest false c due_is same one later h = later h

due_map : (id : ℕ) (output : OutputHistory) (a : Admission) (admissions : List Admission)
    (b : Bool)
    → map (λ (x : Admission). x.request)
    (cond b (a ∷ filter (is_due id output.book.settled) admissions)
    (filter (is_due id output.book.settled) admissions)) ≡ cond b
    (a.request ∷ map (λ x. x.request) (filter (is_due id output.book.settled) admissions))
    (map (λ x. x.request) (filter (is_due id output.book.settled) admissions))
due_map id output a admissions true = refl
due_map id output a admissions false = refl

found : (routes : List (List (List ℕ))) (cs : List Connection) (o id r : ℕ)
    (output : OutputHistory) (admissions : List Admission)
    → AllTold routes cs o output.buffer.cells admissions
    → has_number r (numbers_of (map (λ a.
    a.request) (filter (is_due id output.book.settled) admissions))) ≡ true
    → IsFound routes cs o id r output
found routes cs o id r output [] all h = absurd cc
found routes cs o id r output (a ∷ admissions) all h =
    found_by routes cs o id r output a (map (λ x. x.request) (filter (is_due id output.book.settled) admissions)) (is_due id output.book.settled a) (eqb a.request.origin.request r) refl refl all.0 (λ g. found routes cs o id r output admissions all.1 g)
    (subst (λ xs. has_number r (numbers_of xs) ≡ true) (due_map id output a admissions (is_due id output.book.settled a)) h)

-- ---- what is found was delivered

tags_are : (tag : List ℕ) (origin : Origin) (mine : List Cell) → AreOf tag origin mine
    → list_all (λ c. bytes_eq c.tag tag) mine ≡ true
tags_are tag origin [] all = refl
tags_are tag origin (c ∷ mine) all =
    let same : bytes_eq c.tag tag ≡ true = (bytes_eq-Decides c.tag tag).1 all.0 in
    λ i. same i && tags_are tag origin mine all.2 i

-- a number of cells that all have a tag is an entry's of that tag
entry_of : (tag : List ℕ) (k : ℕ) (mine : List Cell)
    → list_all (λ c. bytes_eq c.tag tag) mine ≡ true → has_cell k mine ≡ true
    → has_entry tag k mine ≡ true
entry_of tag k [] all h = absurd cc
entry_of tag k (c ∷ mine) all h = grind (arith, nat_tests, entry_of tag k mine)

-- and an entry of some cells is one of all
entry_in : (p : Cell → Bool) (tag : List ℕ) (k : ℕ) (all : List Cell)
    → has_entry tag k (filter p all) ≡ true → has_entry tag k all ≡ true
entry_in p tag k [] h = h
entry_in p tag k (c ∷ all) h = grind (arith, nat_tests, entry_in p tag k all)

frame_is : (config : Config) (o : ℕ) (tag : List ℕ) (cells : List Cell) (k : ℕ)
    → first_tag (cells_at k cells) ≡ tag
    → frame_at config o cells k ≡ whole_frame config o tag cells k
frame_is config o tag cells k e = ap (λ x. chunk_frame x (contents k cells) (chunk_name config.run o k)) e

module _ (config : Config) (es : List Event) (id r o : ℕ) (l : Lane) (here : slice_get (reached config es).lanes o ≡ Some l) (story : LaneStory config es (reached config es).connections o l) (f : IsFound config.routes (reached config es).connections o id r l.output) (sane : IsSaneLane l)
    (s : SourceHistory) (known : source_at id (reached config es).connections ≡ Some s) where
  abbrev t : RequestStory config.routes
      (reached config es).connections o l.output.buffer.cells f.entered
  t = f.story

  own : cells_from id r l.output.buffer.cells ≡ t.mine
  own = (λ i. cells_from (sym f.conn i) (sym f.number i) l.output.buffer.cells) ∙ t.own

  tags : list_all (λ c. bytes_eq c.tag t.request.tag) (cells_from id r l.output.buffer.cells) ≡ true
  tags = ap (list_all (λ c. bytes_eq c.tag t.request.tag)) own ∙ tags_are t.request.tag f.entered.origin t.mine t.tags

  has : (k : ℕ) → has_number k (cells.numbers_of (cells_from id r l.output.buffer.cells)) ≡ true
      → has_cell k (cells_from id r l.output.buffer.cells) ≡ true
  has k h = sym (numbers-has k (cells_from id r l.output.buffer.cells)) ∙ h

  acked : (k : ℕ) → has_number k (cells.numbers_of (cells_from id r l.output.buffer.cells)) ≡ true
      → has_number k l.output.buffer.acknowledged ≡ true
  acked k h =
      ap (has_number k) (sym sane.marks) ∙ sym (found-numbered k l.output.book.settled) ∙ t.runs (λ j. is_some (evidence_of l.output.book.settled j)) k f.settled (subst (λ cs. has_cell k cs ≡ true) own (has k h))

  tag_of : (k : ℕ) → has_number k (cells.numbers_of (cells_from id r l.output.buffer.cells)) ≡ true
      → first_tag (cells_at k l.output.buffer.cells) ≡ t.request.tag
  tag_of k h =
      sane.buffer.one_tag k t.request.tag (entry_in (λ c. (c.origin.conn == id) && (c.origin.request == r)) t.request.tag k l.output.buffer.cells (entry_of t.request.tag k (cells_from id r l.output.buffer.cells) tags (has k h)))

  pub found_delivered : IsDelivered config es id r o
  found_delivered = record {
    source = t.source;
    stands = known ∙ sym (ever_from id (reached config es).connections s known) ∙ subst (λ x. ever_at x (reached config es).connections ≡ Some t.source) f.conn t.stands;
    place = t.place;
    number = sym f.number ∙ t.nth;
    request = t.request;
    asked = t.asked;
    first_match = t.first_match;
    lane = l;
    here = here;
    entries = ap entries_of own ∙ t.entries;
    tags = tags;
    settled = acked;
    sent = λ k h.
        let n = story.numbers k (acked k h) in
        (n.0, subst (λ frame. WasAcknowledged config es o n.0 frame (chunk_name config.run o k)) (frame_is config o t.request.tag l.output.buffer.cells k (tag_of k h)) n.1);
  }

told_by : (config : Config) (es : List Event) (id r o : ℕ) (numbers out : List ℕ)
    (s : Option SourceHistory) (l : Option Lane)
    → source_at id (reached config es).connections ≡ s
    → slice_get (reached config es).lanes o ≡ l → Story config es (reached config es)
    → answer_of
    (sought s NoSuch >>= (λ x. sought l NoSuch >>= (λ y. within
    (λ two. with_lane o two.1 (with_connection id two.0 (reached config es)))
    (steps.collect histories id x y)))) ≡ answer.Told numbers out
    → has_number r numbers ≡ true → IsDelivered config es id r o
told_by config es id r o numbers out None l known here story told among = absurd cc
told_by config es id r o numbers out (Some s) None known here story told among = absurd cc
told_by config es id r o numbers out (Some s) (Some l) known here story told among = at s.shut told
  where
    at : (b : Bool)
        → answer_of
        (within (λ (two : SourceHistory × Lane). with_lane o two.1
        (with_connection id two.0 (reached config es))) (refuse_if b Closed
        >> Goes (answer.Told (histories.due l id).numbers (histories.due l id).acks)
        (histories.appends s (histories.due l id).acks, histories.tells l id)))
        ≡ answer.Told numbers out → IsDelivered config es id r o
    at true e = absurd cc
    at false e =
        let same : (histories.due l id).numbers ≡ numbers = cc in
        let lane = story.lanes o l here in
        let own = AllSane-at (reached config es).lanes o l (reached_sane config (reached config es) (es, refl)).lanes here in
        found_delivered config es id r o l here lane (found config.routes (reached config es).connections o id r l.output l.output.book.admissions lane.requests (subst (λ ns. has_number r ns ≡ true) (sym same) among)) own s known

pub told_delivered : (config : Config) (es : List Event) (id r o : ℕ)
    (t : IsTold config es id r o) → IsDelivered config t.before id r o
told_delivered config es id r o t =
    told_by config t.before id r o t.numbers t.out (source_at id (reached config t.before).connections) (slice_get (reached config t.before).lanes o) refl refl (every_story config t.before) t.told t.among

-- ---- the same of the answers to further events

after-append : (h : History) (es fs : List Event)
    → steps.after histories h (es ++ fs) ≡ steps.after histories (steps.after histories h es) fs
after-append h [] fs = refl
after-append h (e ∷ es) fs = after-append (state_of h (step histories h e)) es fs

-- the answer at a place is what the event there is answered after those before it
answer_at : (h : History) (before : List Event) (e : Event) (later : List Event)
    → slice_get (steps.answers histories h (before ++ e ∷ later)) (length before)
    ≡ Some (answer_of (step histories (steps.after histories h before) e))
answer_at h [] e later = refl
answer_at h (d ∷ before) e later = answer_at (state_of h (step histories h d)) before e later

pub told_among-delivered : (config : Config) (es events : List Event) (id r o : ℕ)
    (t : IsToldAmong events (steps.answers histories (reached config es) events) id r o)
    → IsDelivered config (es ++ t.before) id r o
told_among-delivered config es events id r o t =
    told_delivered config ((es ++ t.before) ++ event.Collect id o ∷ t.later) id r o (record {
      before = es ++ t.before;
      numbers = t.numbers;
      out = t.out;
      later = t.later;
      split = refl;
      told = ap (λ h. answer_of (step histories h (event.Collect id o))) (after-append (opening config) es t.before)
          ∙ same_Some _ _ (sym (answer_at (reached config es) t.before (event.Collect id o) t.later) ∙ ap (λ xs. slice_get (steps.answers histories (reached config es) xs) (length t.before)) (sym t.split) ∙ t.told);
      among = t.among;
    })
