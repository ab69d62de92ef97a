-- What an event goes on to: changes of parts that it names. What the workers have that it does not
-- name stays.
use Rattle.std.proofs.Common.{◌≡◌, ◌≢◌, ℕ, ◌+◌, Bool, true, false, cond, eqb, List, [], ◌∷◌, length, Option, Some, None, refl, sym, ap, ◌∙◌}
use Rattle.std.specs.Prelude.{slice_get, is_some, not, ◌==◌, ◌&&◌, ◌||◌}
use Rattle.fwd_modes.specs.Requests.{Request}
use Rattle.fwd_match.specs.Patterns.{route}
use Rattle.fwd_modes.specs.declared.origin.Origin.{Origin}
use Rattle.fwd_source.specs.History.{Setup, SourceHistory, opened, opening_text, waiting}
use Rattle.fwd_chunks.specs.declared.flush.FlushKind.{FlushKind}
use Rattle.fwd_chunks.specs.declared.wanted.Wanted.{Wanted}
use Rattle.fwd_chunks.specs.declared.fault.AdmitError.{AdmitError}
use Rattle.fwd_chunks.specs.declared.fault.AdmitError.TheVariants.{Full, NumbersSpent, Memory}
use Rattle.fwd_chunks.specs.History.{looks, given_for, flushes, takes}
use Rattle.fwd_session.specs.ServerAcks.{evidence_of}
use Rattle.fwd_session.specs.History.{SessionHistory, unloads}
use Rattle.fwd_book.specs.History.{tells_due, forgets_of}
use Rattle.fwd_model.specs.declared.event.Event.{Event}
use Rattle.fwd_model.specs.declared.event.Event.TheVariants as event
use Rattle.fwd_model.specs.declared.event.EndKind.{EndKind}
use Rattle.fwd_model.specs.declared.answer.Answer.{Answer}
use Rattle.fwd_model.specs.declared.answer.Answer.TheVariants as answer
use Rattle.fwd_model.specs.declared.fault.Refusal.TheVariants.{Closed, NoSuch, NotNow}
use Rattle.fwd_model.specs.Outcome.{Outcome, Stays, Goes, first_of, chunk_answer}
use Rattle.fwd_model.specs.Layers.{Worker}
use Rattle.fwd_model.specs.Step as steps
use Rattle.fwd_model.specs.Step.{step}
use Rattle.fwd_model.specs.Setups.{setup_of}
use Rattle.fwd_model.specs.Outputs.{OutputHistory, carried_by, numbers_back, output_history_enters, output_history_settles, output_history_looks, output_history_ends}
use Rattle.fwd_model.specs.History.{Lane, History, histories, accepts, with_connection, leaves, with_output, with_lane}
use Rattle.fwd_model.specs.Names as part
use Rattle.fwd_model.specs.Names.{Named, is_same, does_name, is_accept}
use Rattle.fwd_model.proofs.Onward.{Onward, to, past, past_found, source_on, lane_on, both_on, worker_on}
use Rattle.fwd_model.proofs.Places.{same_at}
use Rattle.fwd_model.proofs.Reached.{IsSane, IsSaneLane, AllSane-at}
use Rattle.fwd_model.proofs.Settling.{loads_of}
use Rattle.fwd_model.proofs.Follows.Workers.{session_here}
use Rattle.fwd_model.proofs.Follows.Admits.{worker_stays}
use Rattle.fwd_model.proofs.Follows.Takes.{others_carry}
use Rattle.fwd_model.proofs.Follows.Settles.{others_have as settles-others}
use Rattle.fwd_model.proofs.Follows.Ends.{gives_all, others_have as ends-others}
use Rattle.fwd_model.proofs.Orders.Changes.{Change, Arrives, AtSource, Departs, AtOutput, AtSession, part_of, comes, made, all_made, changed_lane, with_place, same_number, changed-here, changed_twice}
use Rattle.fwd_model.proofs.Orders.Besides.{same_self, named_alone, no_test}
use Rattle.std.proofs.lemmas.Option.{same_Some}

-- ---- changes that an event may make

-- the event names the changed part, and where a connection comes it is an accept
pub record IsNamed (e : Event) (p : Change) : Type 0 where
  pub named : does_name e (part_of p) ≡ true
  pub accepts : (comes p && not (is_accept e)) ≡ false

-- and what the workers have that it does not name stays
pub record IsOwn (e : Event) (p : Change) (h : History) : Type 0 where
  pub own : IsNamed e p
  pub keeps : (o w : ℕ) (l : Lane) → does_name e (part.Session o w) ≡ false
      → slice_get h.lanes o ≡ Some l
      → carried_by (changed_lane p o l).output.buffer w ≡ carried_by l.output.buffer w

abbrev pub AllOwn : Event → List Change → History → Type 0
AllOwn e [] h = Unit {0}
AllOwn e (p ∷ ps) h = IsOwn e p h × AllOwn e ps (made p h)

-- the second history is the first after changes that the event may make
pub record Effect (e : Event) (h k : History) : Type 0 where
  pub changes : List Change
  pub leads : k ≡ all_made changes h
  pub own : AllOwn e changes h

pub no_effect : (e : Event) (h : History) → Effect e h h
no_effect e h = record { changes = []; leads = refl; own = tt }

-- ---- the one or the two that it names

named_first : (a b : Named) → (is_same a a || (is_same b a || false)) ≡ true
named_first a b = ap (λ t. t || (is_same b a || false)) (same_self a)

or_true : (b : Bool) → (b || true) ≡ true
or_true true = refl
or_true false = refl

named_second : (a b : Named) → (is_same a b || (is_same b b || false)) ≡ true
named_second a b = ap (λ t. is_same a b || (t || false)) (same_self b) ∙ or_true (is_same a b)

-- ---- a change of the connections

module _ (e : Event) (h : History) where
  arrival : (setup : Setup) → does_name e (part.Connection setup.conn) ≡ true
      → is_accept e ≡ true → Effect e h (accepts h setup)
  arrival setup named accepts = record {
    changes = Arrives (record { id = setup.conn; source = opened setup; gone = false }) ∷ [];
    leads = refl;
    own = (record { own = record { named = named; accepts = ap not accepts }; keeps = λ o w l none here. refl }, tt);
  }

  continuation : (id : ℕ) (s : SourceHistory) → does_name e (part.Connection id) ≡ true
      → Effect e h (with_connection id s h)
  continuation id s named = record {
    changes = AtSource id s ∷ [];
    leads = refl;
    own = (record { own = record { named = named; accepts = refl }; keeps = λ o w l none here. refl }, tt);
  }

  departure : (id : ℕ) → does_name e (part.Connection id) ≡ true → Effect e h (leaves id h)
  departure id named = record {
    changes = Departs id ∷ [];
    leads = refl;
    own = (record { own = record { named = named; accepts = refl }; keeps = λ o w l none here. refl }, tt);
  }

-- ---- a change of an output

-- the chunks of workers whose sessions the event does not name stay
abbrev Keeps : Event → ℕ → Lane → OutputHistory → Type 0
Keeps e o l x = (w : ℕ) → does_name e (part.Session o w) ≡ false
    → carried_by x.buffer w ≡ carried_by l.output.buffer w

place_output : (b : Bool) (w : ℕ) (s : Option SessionHistory) (l : Lane)
    → (cond b (with_place w s l) l).output ≡ l.output
place_output true w s l = refl
place_output false w s l = refl

module _ (e : Event) (h : History) (a : ℕ) (l : Lane) (here : slice_get h.lanes a ≡ Some l) where
  output_own : (x : OutputHistory) → does_name e (part.Output a) ≡ true → Keeps e a l x
      → IsOwn e (AtOutput a x) h
  output_own x named keeps = record {
    own = record { named = named; accepts = refl };
    keeps = λ o w k none at. by o w k none at (eqb a o) refl;
  }
    where
      by : (o w : ℕ) (k : Lane) → does_name e (part.Session o w) ≡ false
          → slice_get h.lanes o ≡ Some k → (b : Bool) → eqb a o ≡ b
          → carried_by (cond b (with_output k x) k).output.buffer w
          ≡ carried_by k.output.buffer w
      by o w k none at false f = refl
      by o w k none at true f =
          let same = same_number a o f in
          let lane : l ≡ k = same_Some _ _ (sym here ∙ ap (slice_get h.lanes) same ∙ at) in
          keeps w (ap (λ j. does_name e (part.Session j w)) same ∙ none) ∙ ap (λ (m : Lane). carried_by m.output.buffer w) lane

  session_own : (k : History) (w : ℕ) (s : Option SessionHistory)
      → does_name e (part.Session a w) ≡ true → IsOwn e (AtSession a w s) k
  session_own k w s named = record {
    own = record { named = named; accepts = refl };
    keeps = λ o v m none at. ap (λ (x : OutputHistory). carried_by x.buffer v) (place_output (eqb a o) w s m);
  }

  -- the output has another history
  turns : (x : OutputHistory) → does_name e (part.Output a) ≡ true → Keeps e a l x
      → Effect e h (with_lane a (with_output l x) h)
  turns x named keeps = record {
    changes = AtOutput a x ∷ [];
    leads = λ i. record h { lanes = sym (changed-here (λ m. with_output m x) a h.lanes l here) i };
    own = (output_own x named keeps, tt);
  }

  -- a worker has another session
  seats : (w : ℕ) (s : Option SessionHistory) → does_name e (part.Session a w) ≡ true
      → Effect e h (with_lane a (with_place w s l) h)
  seats w s named = record {
    changes = AtSession a w s ∷ [];
    leads = λ i. record h { lanes = sym (changed-here (with_place w s) a h.lanes l here) i };
    own = (session_own h w s named, tt);
  }

  -- the output has another history, and a worker another session
  turns_and_seats : (x : OutputHistory) (w : ℕ) (s : Option SessionHistory)
      → does_name e (part.Output a) ≡ true → does_name e (part.Session a w) ≡ true
      → Keeps e a l x → Effect e h (with_lane a (with_place w s (with_output l x)) h)
  turns_and_seats x w s output session keeps = record {
    changes = AtOutput a x ∷ AtSession a w s ∷ [];
    leads = λ i. record h { lanes = sym (changed_twice (with_place w s) (λ m. with_output m x) a h.lanes ∙ changed-here (λ m. with_place w s (with_output m x)) a h.lanes l here) i };
    own = (output_own x output keeps, (session_own (made (AtOutput a x) h) w s session, tt));
  }

  -- the output and a connection have another history
  turns_and_continues : (id : ℕ) (s : SourceHistory) (x : OutputHistory)
      → does_name e (part.Connection id) ≡ true → does_name e (part.Output a) ≡ true
      → Keeps e a l x → Effect e h (with_lane a (with_output l x) (with_connection id s h))
  turns_and_continues id s x source output keeps = record {
    changes = AtOutput a x ∷ AtSource id s ∷ [];
    leads = λ i. record (with_connection id s h) { lanes = sym (changed-here (λ m. with_output m x) a h.lanes l here) i };
    own = (output_own x output keeps, (record { own = record { named = source; accepts = refl }; keeps = λ o w m none at. refl }, tt));
  }

-- ---- what the events go on to

always : {S : Type 0} {P : Answer → S → Type 0} (x : Outcome S) → ((a : Answer) (s : S) → P a s)
    → Onward P x
always (Stays a) all = record { holds = tt }
always (Goes a s) all = record { holds = all a s }

-- another worker of the output
other_named : (o v w : ℕ)
    → (is_same (part.Output o) (part.Session o v)
    || (is_same (part.Session o w) (part.Session o v) || false)) ≡ false
    → w ≢ v
other_named o v w none same =
    no_test (ap (λ k. is_same (part.Session o k) (part.Session o v) || false) same ∙ named_alone (part.Session o v)) none

-- where an event leads: the whole, an output, or a connection and an output
abbrev Leads : Event → History → Answer → History → Type 0
Leads e h a k = Effect e h k

abbrev LaneLeads : Event → History → ℕ → Answer → Lane → Type 0
LaneLeads e h o a m = Effect e h (with_lane o m h)

abbrev BothLead : Event → History → (id o : ℕ) → Answer → SourceHistory × Lane → Type 0
BothLead e h id o a two = Effect e h (with_lane o two.1 (with_connection id two.0 h))

module _ (h : History) (sane : IsSane h) where
  own_lane : (o : ℕ) (l : Lane) → slice_get h.lanes o ≡ Some l → IsSaneLane l
  own_lane o l here = AllSane-at h.lanes o l sane.lanes here

  at_source : (e : Event) (id : ℕ) (event : SourceHistory → Outcome SourceHistory)
      → does_name e (part.Connection id) ≡ true
      → Onward (Leads e h) (steps.at_source histories h id event)
  at_source e id event named =
      source_on histories h id (Leads e h) event (λ s here. always (event s) (λ a t. continuation e h id t named))

  at_session : (e : Event) (o w : ℕ)
      (event : Lane → Worker SessionHistory → Outcome (Worker SessionHistory))
      → does_name e (part.Session o w) ≡ true
      → Onward (Leads e h)
      (steps.at_lane histories h o (λ l. steps.at_worker histories l w (event l)))
  at_session e o w event named =
      lane_on histories h o (Leads e h) (λ l. steps.at_worker histories l w (event l)) (λ l here.
      worker_on histories l w (LaneLeads e h o) (event l) (λ x at.
      always (event l x) (λ a y. seats e h o l here w y.session named)))

  at_output : (e : Event) (o : ℕ) (event : Lane → Outcome Lane)
      → ((l : Lane) → slice_get h.lanes o ≡ Some l → IsSaneLane l
      → Onward (LaneLeads e h o) (event l))
      → Onward (Leads e h) (steps.at_lane histories h o event)
  at_output e o event leads = lane_on histories h o (Leads e h) event (λ l here. leads l here (own_lane o l here))

  flush : (o now : ℕ) (kind : FlushKind) (l : Lane) → slice_get h.lanes o ≡ Some l
      → Onward (LaneLeads (event.Flush o now kind) h o) (steps.flush histories l now kind)
  flush o now kind l here =
      let next : OutputHistory = record (l.output) { buffer = flushes l.output.buffer now kind } in
      to {a = answer.Closed (histories.closing l now kind)}
      (turns (event.Flush o now kind) h o l here next (named_alone (part.Output o)) (λ w none. refl))

  choose : (o w now : ℕ) (l : Lane) → slice_get h.lanes o ≡ Some l
      → Onward (LaneLeads (event.Choose o w now) h o) (steps.choose histories l w now)
  choose o w now l here =
      past_found NoSuch {x = histories.worker_at l w} (λ x at. to {a = answer.Chose (histories.chosen l w now)}
      (turns (event.Choose o w now) h o l here (output_history_looks l.output now) (named_alone (part.Output o)) (λ v none. refl)))

  forget : (id o : ℕ) (l : Lane) → slice_get h.lanes o ≡ Some l
      → Onward (LaneLeads (event.Forget id o) h o) (steps.forget histories l id)
  forget id o l here =
      let next : OutputHistory = record (l.output) { book = forgets_of l.output.book id } in
      to {a = answer.Forgot (histories.owed l id)}
      (turns (event.Forget id o) h o l here next (named_second (part.Connection id) (part.Output o)) (λ w none. refl))

  take : (o w now : ℕ) (wanted : Wanted) (l : Lane) → slice_get h.lanes o ≡ Some l
      → Onward (LaneLeads (event.Take o w now wanted) h o) (steps.take histories l w wanted now)
  take o w now wanted l here =
      let b = l.output.buffer in
      let next : OutputHistory = record (l.output) { buffer = takes b w wanted now } in
      past_found NoSuch {x = histories.worker_at l w} (λ x at.
      past NotNow {b = is_some x.taken || steps.is_full histories x.session} (λ none. to {a = chunk_answer (histories.given l wanted now)}
      (turns (event.Take o w now wanted) h o l here next (named_first (part.Output o) (part.Session o w))
      (λ v others. ap (loads_of b) (others_carry w v (given_for (looks b now) wanted) b.carried (other_named o v w others))))))

  settle : (o w : ℕ) (l : Lane) → slice_get h.lanes o ≡ Some l → IsSaneLane l
      → Onward (LaneLeads (event.Settle o w) h o) (steps.settle histories l w)
  settle o w l here own =
      past_found NoSuch {x = histories.worker_at l w} (λ x at.
      past_found NotNow {x = x.session} (λ s f.
      past_found NotNow {x = histories.acked s} (λ a g. to {a = answer.Settled (histories.entries_at l a.chunk.number)}
      (let its = session_here l w x s at f in
      let next = output_history_settles l.output (evidence_of s.setup.server a) in
      turns_and_seats (event.Settle o w) h o l here next w (Some (unloads s)) (named_first (part.Output o) (part.Session o w)) (named_second (part.Output o) (part.Session o w))
      (λ v others. settles-others l w s a s.setup.server its own g v (other_named o v w others))))))

  end : (o w : ℕ) (kind : EndKind) (now : ℕ) (l : Lane) → slice_get h.lanes o ≡ Some l
      → IsSaneLane l
      → Onward (LaneLeads (event.End o w kind now) h o) (steps.end histories l w kind now)
  end o w kind now l here own =
      past_found NoSuch {x = histories.worker_at l w} (λ x at.
      past NotNow {b = steps.is_idle histories x} (λ some.
      past NotNow {b = steps.has_acked histories x.session} (λ none. to {a = answer.Ended (numbers_back (steps.gives_back histories x))}
      (let back = steps.gives_back histories x in
      let is = gives_all l w x own at none in
      let next = output_history_ends l.output back (steps.lost_server histories kind x.session) now in
      turns_and_seats (event.End o w kind now) h o l here next w None (named_first (part.Output o) (part.Session o w)) (named_second (part.Output o) (part.Session o w))
      (λ v others. ends-others l w back now own is v (other_named o v w others))))))

  module _ (id o now : ℕ) (l : Lane) (here : slice_get h.lanes o ≡ Some l) (own : IsSaneLane l) where
    admits : (s : SourceHistory) (x : OutputHistory) → Keeps (event.Admit id o now) o l x
        → Effect (event.Admit id o now) h (with_lane o (with_output l x) (with_connection id s h))
    admits s x keeps =
        turns_and_continues (event.Admit id o now) h o l here id s x (named_first (part.Connection id) (part.Output o)) (named_second (part.Connection id) (part.Output o)) keeps

    enter_unless : (fault : Option AdmitError) (s : SourceHistory) (q : Request)
        (origin : Origin)
        → Onward (BothLead (event.Admit id o now) h id o)
        (steps.enter_unless histories fault s q origin l now)
    enter_unless None s q origin =
        let next = output_history_enters l.output origin q now in
        to {a = answer.Admitted origin.request (length q.entries)}
        (admits (histories.gives s) next (λ w none. worker_stays l.output.buffer origin q now w own.buffer))
    enter_unless (Some Full) s q origin = to {a = answer.Full} (admits (histories.shuts s) l.output (λ w none. refl))
    enter_unless (Some NumbersSpent) s q origin = to {a = answer.NumbersSpent} (admits (histories.shuts s) l.output (λ w none. refl))
    enter_unless (Some Memory) s q origin = record { holds = tt }

    routed : (first : Option ℕ) (s : SourceHistory) (q : Request)
        → Onward (BothLead (event.Admit id o now) h id o)
        (steps.routed histories first s q id o l now)
    routed None s q = to {a = answer.NoRoute} (admits (histories.shuts s) l.output (λ w none. refl))
    routed (Some first) s q =
        let origin : Origin = record { conn = id; request = histories.admitted s + 1 } in
        past NotNow {b = not (first == o)} (λ this. enter_unless (histories.refusal l origin q now) s q origin)

    admit : (s : SourceHistory)
        → Onward (BothLead (event.Admit id o now) h id o)
        (steps.admit histories h.routes id o now s l)
    admit s = past_found NotNow {x = first_of (waiting s)} (λ q first. routed (route h.routes q.tag) s q)

  collect : (id o : ℕ) (s : SourceHistory) (l : Lane) → slice_get h.lanes o ≡ Some l
      → Onward (BothLead (event.Collect id o) h id o) (steps.collect histories id s l)
  collect id o s l here =
      let due = histories.due l id in
      let next : OutputHistory = record (l.output) { book = tells_due l.output.book id } in
      past Closed {b = histories.is_shut s} (λ up. to {a = answer.Told due.numbers due.acks}
      (turns_and_continues (event.Collect id o) h o l here id (histories.appends s due.acks) next (named_first (part.Connection id) (part.Output o)) (named_second (part.Connection id) (part.Output o)) (λ w none. refl)))

  accept : (id : ℕ) (nonce auth : List ℕ)
      → Onward (Leads (event.Accept id nonce auth) h)
      (steps.accept histories h (setup_of h.security h.limits id nonce auth))
  accept id nonce auth =
      let setup = setup_of h.security h.limits id nonce auth in
      past NotNow {b = not (histories.is_fresh h setup.conn)} (λ fresh. to {a = answer.Accepted (opening_text setup)}
      (arrival (event.Accept id nonce auth) h setup (named_alone (part.Connection id)) refl))

  shut : (id : ℕ) → Onward (Leads (event.Shut id) h) (steps.shut histories h id)
  shut id = past_found NoSuch {x = histories.source_at h id} (λ s here. to {a = answer.Done} (departure (event.Shut id) h id (named_alone (part.Connection id))))

  -- an event goes on to changes of parts that it names
  pub event_leads : (e : Event) → Onward (Leads e h) (step histories h e)
  event_leads (event.Accept id nonce auth) = accept id nonce auth
  event_leads (event.Piece id bytes) = at_source (event.Piece id bytes) id _ (named_alone (part.Connection id))
  event_leads (event.Admit id o now) =
      both_on histories h id o (Leads (event.Admit id o now) h) (steps.admit histories h.routes id o now) (λ s l here lane. admit id o now l lane (own_lane o l lane) s)
  event_leads (event.Flush o now kind) = at_output (event.Flush o now kind) o (λ l. steps.flush histories l now kind) (λ l here own. flush o now kind l here)
  event_leads (event.Choose o w now) = at_output (event.Choose o w now) o (λ l. steps.choose histories l w now) (λ l here own. choose o w now l here)
  event_leads (event.Up o w server salt now) = at_session (event.Up o w server salt now) o w (λ l. steps.up histories l.config server salt now) (named_alone (part.Session o w))
  event_leads (event.Take o w now wanted) = at_output (event.Take o w now wanted) o (λ l. steps.take histories l w wanted now) (λ l here own. take o w now wanted l here)
  event_leads (event.Load o w now) = at_session (event.Load o w now) o w (λ l. steps.load histories now) (named_alone (part.Session o w))
  event_leads (event.Wrote o w count) = at_session (event.Wrote o w count) o w (λ l x. steps.at_session histories x (steps.wrote histories count)) (named_alone (part.Session o w))
  event_leads (event.Heard o w bytes) = at_session (event.Heard o w bytes) o w (λ l x. steps.at_session histories x (steps.heard histories bytes)) (named_alone (part.Session o w))
  event_leads (event.Settle o w) = at_output (event.Settle o w) o (λ l. steps.settle histories l w) (λ l here own. settle o w l here own)
  event_leads (event.Late o w now) = at_session (event.Late o w now) o w (λ l x. steps.at_session histories x (steps.late histories now)) (named_alone (part.Session o w))
  event_leads (event.End o w kind now) = at_output (event.End o w kind now) o (λ l. steps.end histories l w kind now) (λ l here own. end o w kind now l here own)
  event_leads (event.Collect id o) = both_on histories h id o (Leads (event.Collect id o) h) (steps.collect histories id) (λ s l here lane. collect id o s l lane)
  event_leads (event.Forget id o) = at_output (event.Forget id o) o (λ l. steps.forget histories l id) (λ l here own. forget id o l here)
  event_leads (event.Drained id count) = at_source (event.Drained id count) id _ (named_alone (part.Connection id))
  -- a connection is shut, or nothing changes
  event_leads e = Prim.first_of (search (shut), search (same_at, no_effect))
