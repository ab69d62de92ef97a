-- Each request that entered an output is delivered by a run behind which the output holds nothing.
use Rattle.std.proofs.Common.{◌≡◌, ℕ, ◌+◌, Bool, true, false, cond, eqb, List, [], ◌∷◌, ◌++◌, Option, Some, None, refl, sym, ap, subst, ◌∙◌, arith, inl, inr}
use Rattle.std.specs.Prelude.{◌==◌, ◌&&◌, ◌||◌, not, length, filter, is_some, option_map, slice_get}
use Rattle.std.specs.List.{AllByRecursion}
use Rattle.std.proofs.lemmas.Bool.{eqb-true}
use Rattle.std.proofs.lemmas.Bool.Decides.{nat_tests}
use Rattle.std.proofs.lemmas.Option.{slice_get-map}
use Rattle.fwd_match.specs.Patterns.{route}
use Rattle.fwd_modes.specs.Requests.{Request}
use Rattle.fwd_modes.specs.declared.origin.Origin.{Origin}
use Rattle.fwd_source.specs.History.{SourceHistory, waiting}
use Rattle.fwd_chunks.specs.Cells.{Cell, has_number}
use Rattle.fwd_chunks.specs.declared.fault.AdmitError.{AdmitError}
use Rattle.fwd_chunks.specs.declared.fault.AdmitError.TheVariants.{Full, NumbersSpent, Memory}
use Rattle.fwd_chunks.specs.History.{spans_of, unsettled}
use Rattle.fwd_chunks.specs.Live.{held_in, live_counts}
use Rattle.fwd_chunks.proofs.CellLemmas.{has_cell}
use Rattle.fwd_chunks.proofs.Follows.{held-live}
use Rattle.fwd_book.specs.History.{Admission, Entered, Untold, entered_as, evidence_of, is_settled}
use Rattle.fwd_model.specs.declared.answer.Answer.TheVariants as answer
use Rattle.fwd_model.specs.declared.config.Config.{Config}
use Rattle.fwd_model.specs.declared.event.Event.{Event}
use Rattle.fwd_model.specs.declared.event.Event.TheVariants as event
use Rattle.fwd_model.specs.declared.fault.Refusal.TheVariants.{NoSuch, NotNow}
use Rattle.fwd_model.specs.Outcome.{Outcome, Stays, Goes, answer_of, state_of, within, found, refuse_if, first_of, ◌>>=◌, ◌>>◌}
use Rattle.fwd_model.specs.Outputs.{LiveOutput}
use Rattle.fwd_model.specs.Step as steps
use Rattle.fwd_model.specs.Step.{step, after}
use Rattle.fwd_model.specs.History.{Connection, Lane, History, ever_at, histories, opening, source_at, with_connection, with_lane, with_source}
use Rattle.fwd_model.specs.Live.{LiveRelay}
use Rattle.fwd_model.specs.Delivered.{IsDelivered, reached}
use Rattle.fwd_model.proofs.Chronicle.{AllTold, LaneStory, RequestStory}
use Rattle.fwd_model.proofs.Deliver.{IsFound, every_story, found_delivered}
use Rattle.fwd_model.proofs.Follows.{reached_sane}
use Rattle.fwd_model.proofs.Onward.{Onward, to, past, at_next, source_on, lane_on, both_on}
use Rattle.fwd_model.proofs.Reached.{IsSaneLane, AllSane-at}
use Rattle.fwd_model.proofs.Settled.{found-numbered}
use Rattle.fwd_history.specs.Histories.{IsLegal}
use Rattle.fwd_run.specs.Entered.{HasEntered}
use Rattle.fwd_run.specs.Runs.{RunEvent, Opens, Relay, Leave, MayHappen, config_of, is_left_out, output_at, output_in, relay_events, run_after, with_event}
use Rattle.fwd_run.proofs.Staying.{always}
use Rattle.fwd_run.proofs.Marks.{unmarked_lane, after_append}
use Rattle.fwd_run.proofs.Receiving.{IsEntered}
use Rattle.fwd_run.proofs.Growing.{Has, alike, further, event_has, entered_on, one_lane, put_here}
use Rattle.fwd_run.proofs.Delivering.{Behind, behind, has_begun, lane_behind}

-- ---- the events that a run has

-- a run may have each of these events
abbrev AllPlain : List Event → Type 0
AllPlain es = AllByRecursion (λ e. is_left_out e ≡ false) es

plain-push : (es : List Event) (e : Event) → AllPlain es → is_left_out e ≡ false → AllPlain (es ++ e ∷ [])
plain-push [] e all one = (one, tt)
plain-push (d ∷ es) e all one = (all.0, plain-push es e all.1 one)

plain-later : (before later : List Event) → AllPlain (before ++ later) → AllPlain later
plain-later [] later all = all
plain-later (e ∷ before) later all = plain-later before later all.1

with_plain : (c : Option Config) (e : RunEvent) (past : List RunEvent) (es : List Event) → MayHappen past e → AllPlain es → AllPlain (with_event c e es)
with_plain None e past es may all = all
with_plain (Some c) (Opens other) past es may all = all
with_plain (Some c) (Relay e) past es may all = plain-push es e all may
with_plain (Some c) (Leave o origins) past es may all = all

all_plain : (past : List RunEvent) → IsLegal MayHappen past → AllPlain (relay_events past)
all_plain [] legal = tt
all_plain (e ∷ past) legal = with_plain (config_of past) e past (relay_events past) legal.1 (all_plain past legal.0)

-- ---- each connection stays known

abbrev NoneGone : List Connection → Type 0
NoneGone cs = AllByRecursion (λ (c : Connection). c.gone ≡ false) cs

known-ever : (id : ℕ) (cs : List Connection) → NoneGone cs → source_at id cs ≡ ever_at id cs
known-ever id [] none = refl
known-ever id (c ∷ cs) none = λ i. cond (eqb c.id id) (cond (none.0 i) None (Some c.source)) (known-ever id cs none.1 i)

none_gone-push : (cs : List Connection) (c : Connection) → NoneGone cs → c.gone ≡ false → NoneGone (cs ++ c ∷ [])
none_gone-push [] c none one = (one, tt)
none_gone-push (d ∷ cs) c none one = (none.0, none_gone-push cs c none.1 one)

none_gone-with : (id : ℕ) (s : SourceHistory) (cs : List Connection) → NoneGone cs → NoneGone (with_source id s cs)
none_gone-with id s [] none = tt
none_gone-with id s (c ∷ cs) none = by (none_gone-with id s cs none.1) (eqb c.id id)
  where
    by : NoneGone (with_source id s cs) → (b : Bool) → NoneGone (cond b (record c { source = s } ∷ cs) (c ∷ with_source id s cs))
    by rest true = (none.0, none.1)
    by rest false = (none.0, rest)

module _ (h : History) (none : NoneGone h.connections) where
  next_none : (x : Outcome History) → Onward (λ a s. NoneGone s.connections) x → NoneGone (state_of h x).connections
  next_none x on = at_next h x (λ s. NoneGone s.connections) (λ a e. none) on (λ a s e all. all)

  lane_none : (o : ℕ) (f : Lane → Outcome Lane) → NoneGone (state_of h (steps.at_lane histories h o f)).connections
  lane_none o f = next_none (steps.at_lane histories h o f) (lane_on histories h o (λ a s. NoneGone s.connections) f (λ l here. always (f l) (λ a m. none)))

  source_none : (id : ℕ) (f : SourceHistory → Outcome SourceHistory) → NoneGone (state_of h (steps.at_source histories h id f)).connections
  source_none id f =
      next_none (steps.at_source histories h id f)
      (source_on histories h id (λ a s. NoneGone s.connections) f (λ s known. always (f s) (λ a t. none_gone-with id t h.connections none)))

  event_none : (e : Event) → is_left_out e ≡ false → NoneGone (state_of h (step histories h e)).connections
  event_none (event.Accept id nonce auth) plain = next_none (step histories h (event.Accept id nonce auth)) (past _ (λ fresh. to (none_gone-push h.connections _ none refl)))
  event_none (event.Piece id bytes) plain = source_none id (λ s. steps.piece histories s bytes)
  event_none (event.Admit id o now) plain =
      next_none (step histories h (event.Admit id o now))
      (both_on histories h id o (λ a s. NoneGone s.connections) (steps.admit histories h.routes id o now) (λ s l known here. always (steps.admit histories h.routes id o now s l) (λ a two. none_gone-with id two.0 h.connections none)))
  event_none (event.Flush o now kind) plain = lane_none o (λ l. steps.flush histories l now kind)
  event_none (event.Choose o w now) plain = lane_none o (λ l. steps.choose histories l w now)
  event_none (event.Up o w server salt now) plain = lane_none o (λ l. steps.at_worker histories l w (steps.up histories l.config server salt now))
  event_none (event.Take o w now wanted) plain = lane_none o (λ l. steps.take histories l w wanted now)
  event_none (event.Load o w now) plain = lane_none o (λ l. steps.at_worker histories l w (steps.load histories now))
  event_none (event.Wrote o w count) plain = lane_none o (λ l. steps.at_worker histories l w (λ x. steps.at_session histories x (steps.wrote histories count)))
  event_none (event.Heard o w bytes) plain = lane_none o (λ l. steps.at_worker histories l w (λ x. steps.at_session histories x (steps.heard histories bytes)))
  event_none (event.Late o w now) plain = lane_none o (λ l. steps.at_worker histories l w (λ x. steps.at_session histories x (steps.late histories now)))
  event_none (event.Settle o w) plain = lane_none o (λ l. steps.settle histories l w)
  event_none (event.End o w kind now) plain = lane_none o (λ l. steps.end histories l w kind now)
  event_none (event.Collect id o) plain = absurd (cc plain)
  event_none (event.Forget id o) plain = absurd (cc plain)
  event_none (event.Drained id count) plain = source_none id (λ s. steps.drained histories s count)
  event_none (event.Shut id) plain = absurd (cc plain)

after_none : (h : History) (es : List Event) → AllPlain es → NoneGone h.connections → NoneGone (after histories h es).connections
after_none h [] plain none = none
after_none h (e ∷ es) plain none = after_none (state_of h (step histories h e)) es plain.1 (event_none h none e plain.0)

none_gone : (c : Config) (es : List Event) → AllPlain es → NoneGone (reached c es).connections
unfolding opening
none_gone c es plain = after_none (opening c) es plain tt

-- ---- a request enters

-- an output has a request of this number of the connection
record IsIn (id r : ℕ) (l : Lane) : Type 0 where
  request : Entered
  entered : IsEntered request l.output.book.admissions
  conn : request.origin.conn ≡ id
  number : request.origin.request ≡ r

entered_last : (q : Entered) (ads : List Admission) (a : Admission) → a.request ≡ q → IsEntered q (ads ++ a ∷ [])
entered_last q [] a is = inl is
entered_last q (b ∷ ads) a is = inr (entered_last q ads a is)

-- an event of a connection and an output lets the request in
record LetsIn (id r count : ℕ) (x : Outcome (SourceHistory × Lane)) : Type 0 where
  two : SourceHistory × Lane
  goes : x ≡ Goes (answer.Admitted r count) two
  has : IsIn id r two.1

enters_in : (fault : Option AdmitError) (s : SourceHistory) (q : Request) (id k r count now : ℕ) (l : Lane)
    → answer_of (steps.enter_unless histories fault s q (record { conn = id; request = k }) l now) ≡ answer.Admitted r count
    → LetsIn id r count (steps.enter_unless histories fault s q (record { conn = id; request = k }) l now)
enters_in (Some Full) s q id k r count now l e = absurd cc
enters_in (Some NumbersSpent) s q id k r count now l e = absurd cc
enters_in (Some Memory) s q id k r count now l e = absurd cc
enters_in None s q id k r count now l e =
    let origin : Origin = record { conn = id; request = k } in
    let number : k ≡ r = cc in
    let entered = entered_as q origin (spans_of l.output.buffer origin q now) in
    let two : SourceHistory × Lane = (histories.gives s, histories.enters l origin q now) in
    record {
      two = two;
      goes = ap (λ a. Goes a two) e;
      has = record {
        request = entered;
        entered = entered_last entered l.output.book.admissions (record { request = entered; fate = Untold }) refl;
        conn = refl;
        number = number;
      };
    }

routed_in : (first : Option ℕ) (s : SourceHistory) (q : Request) (id o r count now : ℕ) (l : Lane)
    → answer_of (steps.routed histories first s q id o l now) ≡ answer.Admitted r count
    → LetsIn id r count (steps.routed histories first s q id o l now)
routed_in None s q id o r count now l e = absurd cc
routed_in (Some first) s q id o r count now l e = by (not (first == o)) e
  where
    enters : Outcome (SourceHistory × Lane)
    enters = steps.enter histories s q id l now

    by : (b : Bool) → answer_of (refuse_if b NotNow >> enters) ≡ answer.Admitted r count → LetsIn id r count (refuse_if b NotNow >> enters)
    by true e = absurd cc
    by false e = enters_in (histories.refusal l (record { conn = id; request = s.admitted + 1 }) q now) s q id (s.admitted + 1) r count now l e

admits_in : (patterns : List (List (List ℕ))) (id o r count now : ℕ) (s : SourceHistory) (l : Lane)
    → answer_of (steps.admit histories patterns id o now s l) ≡ answer.Admitted r count
    → LetsIn id r count (steps.admit histories patterns id o now s l)
admits_in patterns id o r count now s l e = by (first_of (waiting s)) e
  where
    by : (x : Option Request)
        → answer_of (found x NotNow >>= (λ q. steps.routed histories (route patterns q.tag) s q id o l now)) ≡ answer.Admitted r count
        → LetsIn id r count (found x NotNow >>= (λ q. steps.routed histories (route patterns q.tag) s q id o l now))
    by None e = absurd cc
    by (Some q) e = routed_in (route patterns q.tag) s q id o r count now l e

-- an output of the relay has it
record IsThere (id r o : ℕ) (h : History) : Type 0 where
  lane : Lane
  here : slice_get h.lanes o ≡ Some lane
  has : IsIn id r lane

answer-within : {S T : Type 0} (put : S → T) (x : Outcome S) → answer_of (within put x) ≡ answer_of x
answer-within put (Stays a) = refl
answer-within put (Goes a s) = refl

admitted : (h : History) (id r o count now : ℕ) → answer_of (step histories h (event.Admit id o now)) ≡ answer.Admitted r count
    → IsThere id r o (state_of h (step histories h (event.Admit id o now)))
admitted h id r o count now e = by (source_at id h.connections) (slice_get h.lanes o) refl e
  where
    put : SourceHistory × Lane → History
    put two = with_lane o two.1 (with_connection id two.0 h)

    goes : (x : Option SourceHistory) (y : Option Lane) → Outcome History
    goes x y = found x NoSuch >>= (λ s. found y NoSuch >>= (λ l. within put (steps.admit histories h.routes id o now s l)))

    by : (x : Option SourceHistory) (y : Option Lane) → slice_get h.lanes o ≡ y → answer_of (goes x y) ≡ answer.Admitted r count
        → IsThere id r o (state_of h (goes x y))
    by None y here e = absurd cc
    by (Some s) None here e = absurd cc
    by (Some s) (Some l) here e =
        let x = steps.admit histories h.routes id o now s l in
        let t = admits_in h.routes id o r count now s l (sym (answer-within put x) ∙ e) in
        subst (λ y. IsThere id r o (state_of h (within put y))) (sym t.goes)
        (record { lane = t.two.1; here = put_here h.lanes o l t.two.1 here; has = t.has })

-- ---- it stays there

after_has : (h : History) (o : ℕ) (l : Lane) (es : List Event) → AllPlain es → slice_get h.lanes o ≡ Some l → Has o l (after histories h es)
after_has h o l [] plain here = record { lane = l; here = here; grown = alike l l refl }
after_has h o l (e ∷ es) plain here =
    let one = event_has h o l here e plain.0 in
    let rest = after_has (state_of h (step histories h e)) o one.lane es plain.1 one.here in
    record { lane = rest.lane; here = rest.here; grown = further l one.lane rest.lane one.grown rest.grown }

still_there : (h : History) (id r o : ℕ) (es : List Event) → AllPlain es → IsThere id r o h → IsThere id r o (after histories h es)
still_there h id r o es plain there =
    let on = after_has h o there.lane es plain there.here in
    record {
      lane = on.lane;
      here = on.here;
      has = record {
        request = there.has.request;
        entered =
            subst (IsEntered there.has.request) (sym on.grown.requests)
            (entered_on there.has.request there.lane.output.book.admissions on.grown.admissions there.has.entered);
        conn = there.has.conn;
        number = there.has.number;
      };
    }

entered_there : (c : Config) (es : List Event) (id r o : ℕ) → AllPlain es → HasEntered c es id r o → IsThere id r o (reached c es)
entered_there c es id r o plain e =
    subst (λ fs. IsThere id r o (reached c fs)) (sym e.split)
    (subst (IsThere id r o) (sym (after_append e.before (admit ∷ e.later) (opening c)))
    (still_there (state_of h (step histories h admit)) id r o e.later later (admitted h id r o e.entries e.moment e.entered)))
  where
    admit : Event
    admit = event.Admit id o e.moment

    h : History
    h = reached c e.before

    later : AllPlain e.later
    later = (plain-later e.before (admit ∷ e.later) (subst AllPlain e.split plain)).1

-- ---- where an output holds nothing, all is settled

none_held : (acked : List ℕ) (cells : List Cell) (k : ℕ) → length (filter (λ (c : Cell). not (has_number c.number acked)) cells) ≡ 0
    → has_cell k cells ≡ true → has_number k acked ≡ true
none_held acked [] k none has = absurd cc
none_held acked (c ∷ cells) k none has = by (none_held acked cells k) (has_number c.number acked) refl none (eqb c.number k) refl has
  where
    rest : List Cell
    rest = filter (λ (c : Cell). not (has_number c.number acked)) cells

    by : (length rest ≡ 0 → has_cell k cells ≡ true → has_number k acked ≡ true) → (b : Bool) → has_number c.number acked ≡ b → length (cond (not b) (c ∷ rest) rest) ≡ 0
        → (d : Bool) → eqb c.number k ≡ d → (d || has_cell k cells) ≡ true → has_number k acked ≡ true
    by others false is none d same has = absurd cc
    by others true is none true same has = ap (λ n. has_number n acked) (sym (eqb-true c.number k same)) ∙ is
    by others true is none false same has = others none has

cell_among : (p : Cell → Bool) (k : ℕ) (cells : List Cell) → has_cell k (filter p cells) ≡ true → has_cell k cells ≡ true
cell_among p k [] h = h
cell_among p k (c ∷ cells) h = grind (arith, nat_tests, cell_among p k cells)

settled_there : (l : Lane) → IsSaneLane l → length (unsettled l.output.buffer) ≡ 0 → (routes : List (List (List ℕ))) (cs : List Connection) (o : ℕ) (q : Entered)
    → RequestStory routes cs o l.output.buffer.cells q → is_settled l.output.book.settled q ≡ true
settled_there l sane none routes cs o q t =
    t.needs (λ j. is_some (evidence_of l.output.book.settled j)) (λ k has.
    found-numbered k l.output.book.settled ∙ ap (has_number k) sane.marks ∙ none_held l.output.buffer.acknowledged l.output.buffer.cells k none (of k has))
  where
    of : (k : ℕ) → has_cell k t.mine ≡ true → has_cell k l.output.buffer.cells ≡ true
    of k has =
        cell_among (λ c. (c.origin.conn == q.origin.conn) && (c.origin.request == q.origin.request)) k l.output.buffer.cells
        (subst (λ cs. has_cell k cs ≡ true) (sym t.own) has)

-- what an output's report says that it holds, the abstract relay's output holds
holds_nothing : (c : Config) (es : List Event) (r : LiveRelay) (b : Behind c es r) (o : ℕ) (p : LiveOutput) (l : Lane)
    → output_in r o ≡ Some p → held_in p.buffer.chunks ≡ 0 → slice_get (reached c es).lanes o ≡ Some l → length (unsettled l.output.buffer) ≡ 0
holds_nothing c es r b o p l at none here =
    let its = lane_behind b.history o p (ap (λ x. output_in x o) b.is ∙ at) in
    let there : slice_get (reached c es).lanes o ≡ Some (unmarked_lane its.lane) =
    ap (λ k. slice_get k.lanes o) (sym b.one) ∙ slice_get-map unmarked_lane b.history.lanes o ∙ ap (option_map unmarked_lane) its.here in
    let same : unmarked_lane its.lane ≡ l = one_lane (sym there ∙ here) in
    ap (λ (k : Lane). length (unsettled k.output.buffer)) (sym same)
    ∙ (sym (held-live its.lane.output.buffer) ∙ (ap (λ b. held_in b.chunks) its.buffer ∙ none))

-- ---- the law

story_of : (routes : List (List (List ℕ))) (cs : List Connection) (o : ℕ) (cells : List Cell) (q : Entered) (ads : List Admission)
    → AllTold routes cs o cells ads → IsEntered q ads → RequestStory routes cs o cells q
story_of routes cs o cells q [] all entered = absurd entered
story_of routes cs o cells q (a ∷ ads) all (inl is) = subst (RequestStory routes cs o cells) is all.0
story_of routes cs o cells q (a ∷ ads) all (inr entered) = story_of routes cs o cells q ads all.1 entered

there_delivered : (c : Config) (es : List Event) (id r o : ℕ) (t : IsThere id r o (reached c es)) → NoneGone (reached c es).connections
    → length (unsettled t.lane.output.buffer) ≡ 0 → IsDelivered c es id r o
there_delivered c es id r o t none held =
    found_delivered c es id r o t.lane t.here lane found sane story.source known
  where
    lane : LaneStory c es (reached c es).connections o t.lane
    lane = (every_story c es).lanes o t.lane t.here

    sane : IsSaneLane t.lane
    sane = AllSane-at (reached c es).lanes o t.lane (reached_sane c (reached c es) (es, refl)).lanes t.here

    story : RequestStory c.routes (reached c es).connections o t.lane.output.buffer.cells t.has.request
    story = story_of c.routes (reached c es).connections o t.lane.output.buffer.cells t.has.request t.lane.output.book.admissions lane.requests t.has.entered

    found : IsFound c.routes (reached c es).connections o id r t.lane.output
    found = record {
      entered = t.has.request;
      story = story;
      conn = t.has.conn;
      number = t.has.number;
      settled = settled_there t.lane sane held c.routes (reached c es).connections o t.has.request story;
    }

    known : source_at id (reached c es).connections ≡ Some story.source
    known = known-ever id (reached c es).connections none ∙ subst (λ x. ever_at x (reached c es).connections ≡ Some story.source) t.has.conn story.stands

pub empty_output_has_delivered : (past : List RunEvent) (c : Config) (o : ℕ) (p : LiveOutput) (id r : ℕ)
    → IsLegal MayHappen past → config_of past ≡ Some c → output_at past o ≡ Some p → (live_counts p.buffer).held ≡ 0
    → HasEntered c (relay_events past) id r o → IsDelivered c (relay_events past) id r o
empty_output_has_delivered past c o p id r legal begun at none entered =
    let es = relay_events past in
    let plain = all_plain past legal in
    let is = has_begun (λ r. output_in r o) (run_after past) p at in
    let there = entered_there c es id r o plain entered in
    there_delivered c es id r o there (none_gone c es plain)
    (holds_nothing c es is.0 (behind past c is.0 legal begun is.1) o p there.lane is.2 none there.here)
