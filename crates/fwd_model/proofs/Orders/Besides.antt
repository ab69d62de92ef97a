-- An event is answered alike, and leads to the same, beside a change of a part that it does not
-- name: each proof has the shape of its event.
use Rattle.std.proofs.Common.{◌≡◌, ◌≢◌, ℕ, ◌+◌, Bool, true, false, cond, eqb, List, Option, Some, None, refl, sym, ap, subst, ◌∙◌, arith}
use Rattle.std.proofs.lemmas.Bool.Decides.{nat_tests}
use Rattle.std.proofs.lemmas.Bool.{or_parts}
use Rattle.std.specs.Prelude.{option_map, slice_get, is_some, not, ◌&&◌, ◌||◌}
use Rattle.fwd_modes.specs.Requests.{Request}
use Rattle.fwd_match.specs.Patterns.{route}
use Rattle.fwd_modes.specs.declared.origin.Origin.{Origin}
use Rattle.fwd_source.specs.History.{Setup, SourceHistory, opened, waiting}
use Rattle.fwd_chunks.specs.declared.flush.FlushKind.{FlushKind}
use Rattle.fwd_chunks.specs.declared.wanted.Wanted.{Wanted}
use Rattle.fwd_chunks.specs.declared.fault.AdmitError.{AdmitError}
use Rattle.fwd_chunks.specs.declared.fault.AdmitError.TheVariants.{Full, NumbersSpent, Memory}
use Rattle.fwd_session.specs.ServerAcks.{Accepted, evidence_of}
use Rattle.fwd_session.specs.History.{SessionHistory, unloads}
use Rattle.fwd_model.specs.declared.config.OutputConfig.{OutputConfig}
use Rattle.fwd_model.specs.declared.event.Event.{Event}
use Rattle.fwd_model.specs.declared.event.Event.TheVariants as event
use Rattle.fwd_model.specs.declared.answer.Answer.{Answer}
use Rattle.fwd_model.specs.declared.event.EndKind.{EndKind}
use Rattle.fwd_model.specs.declared.fault.Refusal.TheVariants.{Closed, NotNow}
use Rattle.fwd_model.specs.Outcome.{Outcome, Stays, Goes, first_of}
use Rattle.fwd_model.specs.Layers.{Worker}
use Rattle.fwd_model.specs.Step as steps
use Rattle.fwd_model.specs.Step.{step}
use Rattle.fwd_model.specs.Setups.{setup_of}
use Rattle.fwd_model.specs.Outputs.{OutputHistory, carried_by, not_loaded, output_history_settles, output_history_ends}
use Rattle.fwd_model.specs.History.{Connection, Lane, History, histories, history_worker, loaded_in, with_output}
use Rattle.fwd_model.specs.Names as part
use Rattle.fwd_model.specs.Names.{Named, is_same, does_name, is_accept}
use Rattle.fwd_model.proofs.Agree.{Agrees, stays, goes, checked, sought, inside}
use Rattle.fwd_model.proofs.Places.{option_id}
use Rattle.fwd_model.proofs.Orders.Changes.{Change, Arrives, AtSource, Departs, part_of, comes, at_connections, at_lanes, made, changed_lane, with_place, set-set, slice_get-set_other, slice_get-set_any, connections_commute, source_stays, fresh_stays, lane_found, lane_put, Touches, Nothing, TheOutput, TheSession, touch_of}

-- ---- an event beside a change

abbrev Any : {S : Type 0} → S → Type 0
Any s = Unit {0}

-- what an event comes to after a change is what it comes to before, with the change
abbrev IsBeside : {S : Type 0} → (S → S) → (S → Outcome S) → S → Type 0
IsBeside change event s = Agrees change Any (event s) (event (change s))

alike : {S : Type 0} (x : Outcome S) → Agrees (λ s. s) Any x x
alike (Stays a) = stays
alike (Goes a s) = goes refl (refl, tt)

-- ---- what is named, and what is not

one_named : (a t : Named) → (is_same a t || false) ≡ false → is_same a t ≡ false
one_named a t h = (or_parts (is_same a t) false h).0

two_named : (a b t : Named) → (is_same a t || (is_same b t || false)) ≡ false
    → (is_same a t ≡ false) × (is_same b t ≡ false)
two_named a b t h =
    let parts = or_parts (is_same a t) (is_same b t || false) h in (parts.0, one_named b t parts.1)

same_test : (o : ℕ) → eqb o o ≡ true
same_test o = grind (arith, nat_tests)

-- each part is itself
pub same_self : (a : Named) → is_same a a ≡ true
same_self (part.Connection id) = same_test id
same_self (part.Output o) = same_test o
same_self (part.Session o w) = λ i. same_test o i && same_test w i

pub named_alone : (a : Named) → (is_same a a || false) ≡ true
named_alone a = ap (λ b. b || false) (same_self a)

pub no_test : {b : Bool} → b ≡ true → b ≡ false → ⊥
no_test e f = cc

-- another worker of the output
other_worker : (o v w : ℕ) → (eqb o o && eqb v w) ≡ false → v ≢ w
other_worker o v w apart same = grind (arith, nat_tests, apart, same, same_test o)

-- to an event that names an output, a change is nothing or the session of a worker
lock_case : (p : Change) (o : ℕ) → is_same (part.Output o) (part_of p) ≡ false
    → (P : (Lane → Lane) → Type 0) → P (λ l. l)
    → ((w : ℕ) (s : Option SessionHistory) → part_of p ≡ part.Session o w → P (with_place w s))
    → P (changed_lane p o)
lock_case p o apart P nothing session = by (touch_of p o)
  where
    by : Touches p o → P (changed_lane p o)
    by (Nothing e) = subst P (sym e) nothing
    by (TheOutput x e is) = absurd (no_test (same_test o) (ap (is_same (part.Output o)) (sym is) ∙ apart))
    by (TheSession w s e is) = subst P (sym e) (session w s is)

-- to an event that names a session, it is nothing, the output's history, or another session
session_case : (p : Change) (o w : ℕ) → is_same (part.Session o w) (part_of p) ≡ false
    → (P : (Lane → Lane) → Type 0) → P (λ l. l)
    → ((x : OutputHistory) → changed_lane p o ≡ (λ l. with_output l x) → P (λ l. with_output l x))
    → ((v : ℕ) (s : Option SessionHistory) → v ≢ w → P (with_place v s))
    → P (changed_lane p o)
session_case p o w apart P nothing output session = by (touch_of p o)
  where
    by : Touches p o → P (changed_lane p o)
    by (Nothing e) = subst P (sym e) nothing
    by (TheOutput x e is) = subst P (sym e) (output x e)
    by (TheSession v s e is) = subst P (sym e) (session v s (λ same. other_worker o w v (ap (is_same (part.Session o w)) (sym is) ∙ apart) (sym same)))

-- ---- an output and its workers

-- beside another worker's session a worker is what it was
worker_stays : (l : Lane) (v w : ℕ) (s : Option SessionHistory) → v ≢ w
    → histories.worker_at (with_place v s l) w ≡ histories.worker_at l w
worker_stays l v w s apart = ap (option_map (history_worker l w)) (slice_get-set_other l.sessions v w s apart)

-- and beside another history of the output, where that leaves the worker's chunks
chunk_stays : (l : Lane) (x : OutputHistory) (w : ℕ)
    → carried_by x.buffer w ≡ carried_by l.output.buffer w
    → histories.worker_at (with_output l x) w ≡ histories.worker_at l w
chunk_stays l x w same = λ i. option_map (λ s. record { taken = not_loaded (loaded_in s) (same i); session = s }) (slice_get l.sessions w)

-- a worker that may have another session
abbrev seated : Lane → ℕ → Bool → Option SessionHistory → Worker SessionHistory
    → Worker SessionHistory
seated l w b s x = history_worker l w (cond b s x.session)

-- beside any session there are the same workers
still_seated : (l : Lane) (v w : ℕ) (s : Option SessionHistory)
    → histories.worker_at (with_place v s l) w
    ≡ option_map (seated l w (eqb v w) s) (histories.worker_at l w)
still_seated l v w s = ap (option_map (history_worker l w)) (slice_get-set_any l.sessions v w s) ∙ by (slice_get l.sessions w)
  where
    by : (t : Option (Option SessionHistory))
        → option_map (history_worker l w) (option_map (λ y. cond (eqb v w) s y) t)
        ≡ option_map (seated l w (eqb v w) s) (option_map (history_worker l w) t)
    by None = refl
    by (Some t) = refl

at_worker : (m : Lane → Lane) (l : Lane) (w : ℕ)
    (p : Worker SessionHistory → Outcome (Worker SessionHistory))
    → histories.worker_at (m l) w ≡ histories.worker_at l w
    → ((x : Worker SessionHistory)
    → m (histories.puts_worker l w x) ≡ histories.puts_worker (m l) w x)
    → Agrees m Any (steps.at_worker histories l w p) (steps.at_worker histories (m l) w p)
at_worker m l w p same puts =
    sought {g = λ (x : Worker SessionHistory). x} _ _ (same ∙ option_id (histories.worker_at l w)) (λ x e.
    inside _ _ (alike (p x)) (λ y any. (puts y, tt)))

-- ---- an output's events beside the session of a worker

module _ (l : Lane) (v : ℕ) (s : Option SessionHistory) where
  forget : (id : ℕ) → IsBeside (with_place v s) (λ l. steps.forget histories l id) l
  forget id = goes refl (refl, tt)

  flush : (now : ℕ) (kind : FlushKind)
      → IsBeside (with_place v s) (λ l. steps.flush histories l now kind) l
  flush now kind = goes refl (refl, tt)

  choose : (w now : ℕ) → IsBeside (with_place v s) (λ l. steps.choose histories l w now) l
  choose w now = sought {g = seated l w (eqb v w) s} _ _ (still_seated l v w s) (λ x e. goes refl (refl, tt))

  module _ (w : ℕ) (apart : v ≢ w) where
    worker_here : histories.worker_at (with_place v s l) w
        ≡ option_map (λ (x : Worker SessionHistory). x) (histories.worker_at l w)
    worker_here = worker_stays l v w s apart ∙ option_id (histories.worker_at l w)

    both_places : (o : OutputHistory) (t : Option SessionHistory)
        → with_place v s (with_place w t (with_output l o))
        ≡ with_place w t (with_output (with_place v s l) o)
    both_places o t = ap (λ ss. record l { output = o; sessions = ss }) (set-set l.sessions v w s t apart)

    take : (wanted : Wanted) (now : ℕ)
        → IsBeside (with_place v s) (λ l. steps.take histories l w wanted now) l
    take wanted now =
        sought {g = λ (x : Worker SessionHistory). x} _ _ worker_here (λ x e.
        checked NotNow {b = is_some x.taken || steps.is_full histories x.session} refl (λ none. goes refl (refl, tt)))

    settle : IsBeside (with_place v s) (λ l. steps.settle histories l w) l
    settle =
        sought {g = λ (x : Worker SessionHistory). x} _ _ worker_here (λ x e.
        sought {g = λ (t : SessionHistory). t} _ _ (option_id x.session) (λ t f.
        sought {g = λ (a : Accepted). a} _ _ (option_id (histories.acked t)) (λ a g.
        goes refl (both_places (output_history_settles l.output (evidence_of t.setup.server a)) (Some (unloads t)), tt))))

    end : (kind : EndKind) (now : ℕ)
        → IsBeside (with_place v s) (λ l. steps.end histories l w kind now) l
    end kind now =
        sought {g = λ (x : Worker SessionHistory). x} _ _ worker_here (λ x e.
        checked NotNow {b = steps.is_idle histories x} refl (λ some.
        checked NotNow {b = steps.has_acked histories x.session} refl (λ none.
        goes refl (both_places (output_history_ends l.output (steps.gives_back histories x) (steps.lost_server histories kind x.session) now) None, tt))))

-- ---- a connection's and an output's events beside the session of a worker

-- the second of two is changed
abbrev on_lane : (Lane → Lane) → SourceHistory × Lane → SourceHistory × Lane
on_lane m two = (two.0, m two.1)

-- what an event of both comes to
abbrev IsBesideBoth : (Lane → Lane) → (SourceHistory → Lane → Outcome (SourceHistory × Lane))
    → SourceHistory → Lane → Type 0
IsBesideBoth m event s l = Agrees (on_lane m) Any (event s l) (event s (m l))

module _ (v : ℕ) (t : Option SessionHistory) (id o now : ℕ) (s : SourceHistory) (l : Lane) where
  enter_unless : (fault : Option AdmitError) (q : Request) (origin : Origin)
      → IsBesideBoth (with_place v t)
      (λ s l. steps.enter_unless histories fault s q origin l now) s l
  enter_unless None q origin = goes refl (refl, tt)
  enter_unless (Some Full) q origin = goes refl (refl, tt)
  enter_unless (Some NumbersSpent) q origin = goes refl (refl, tt)
  enter_unless (Some Memory) q origin = stays

  enter : (q : Request)
      → IsBesideBoth (with_place v t) (λ s l. steps.enter histories s q id l now) s l
  enter q =
      let origin : Origin = record { conn = id; request = s.admitted + 1 } in
      enter_unless (histories.refusal l origin q now) q origin

  routed : (to : Option ℕ) (q : Request)
      → IsBesideBoth (with_place v t) (λ s l. steps.routed histories to s q id o l now) s l
  routed None q = goes refl (refl, tt)
  routed (Some to) q = checked NotNow refl (λ here. enter q)

  admit : (patterns : List (List (List ℕ)))
      → IsBesideBoth (with_place v t) (steps.admit histories patterns id o now) s l
  admit patterns =
      sought {g = λ (q : Request). q} _ _ (option_id (first_of (waiting s))) (λ q e. routed (route patterns q.tag) q)

  collect : IsBesideBoth (with_place v t) (steps.collect histories id) s l
  collect = checked Closed {b = s.shut} refl (λ up. goes refl (refl, tt))

-- ---- where an event happens

-- the change leaves the chunks of the workers whose sessions the event names
abbrev pub Spares : Change → Event → History → Type 0
Spares p f h = (o w : ℕ) (l : Lane) → does_name f (part.Session o w) ≡ true
    → slice_get h.lanes o ≡ Some l
    → carried_by (changed_lane p o l).output.buffer w ≡ carried_by l.output.buffer w

module _ (p : Change) (h : History) where
  source_put : (id : ℕ) (s : SourceHistory) → is_same (part.Connection id) (part_of p) ≡ false
      → made p (histories.puts_source h id s) ≡ histories.puts_source (made p h) id s
  source_put id s apart = λ i. record h {
    connections = connections_commute (AtSource id s) p h.connections apart refl i;
    lanes = at_lanes p h.lanes;
  }

  source_here : (id : ℕ) → is_same (part.Connection id) (part_of p) ≡ false
      → histories.source_at (made p h) id
      ≡ option_map (λ (s : SourceHistory). s) (histories.source_at h id)
  source_here id apart = source_stays id p h.connections apart ∙ option_id (histories.source_at h id)

  at_source : (id : ℕ) (event : SourceHistory → Outcome SourceHistory)
      → is_same (part.Connection id) (part_of p) ≡ false
      → IsBeside (made p) (λ h. steps.at_source histories h id event) h
  at_source id event apart =
      sought {g = λ (s : SourceHistory). s} _ _ (source_here id apart) (λ s e.
      inside _ _ (alike (event s)) (λ t any. (source_put id t apart, tt)))

  at_lane : (o : ℕ) (event : Lane → Outcome Lane)
      → ((l : Lane) → slice_get h.lanes o ≡ Some l → IsBeside (changed_lane p o) event l)
      → IsBeside (made p) (λ h. steps.at_lane histories h o event) h
  at_lane o event beside =
      sought _ _ (lane_found p h.lanes o) (λ l e.
      inside _ _ (beside l e) (λ m any. (
        (λ i. record h {
          connections = at_connections p h.connections;
          lanes = lane_put p h.lanes o m i;
        }),
        tt,
      )))

  -- at an output that it leaves as it is
  same_at : (o : ℕ) (a : Answer)
      → IsBeside (made p) (λ h. steps.at_lane histories h o (λ l. Goes a l)) h
  same_at o a = at_lane o (λ l. Goes a l) (λ l here. goes refl (refl, tt))

  at_both : (id o : ℕ) (event : SourceHistory → Lane → Outcome (SourceHistory × Lane))
      → is_same (part.Connection id) (part_of p) ≡ false
      → ((s : SourceHistory) (l : Lane) → IsBesideBoth (changed_lane p o) event s l)
      → IsBeside (made p) (λ h. steps.at_both histories h id o event) h
  at_both id o event apart beside =
      sought {g = λ (s : SourceHistory). s} _ _ (source_here id apart) (λ s e.
      sought _ _ (lane_found p h.lanes o) (λ l f.
      inside _ _ (beside s l) (λ two any. (
        (λ i. record h {
          connections = connections_commute (AtSource id two.0) p h.connections apart refl i;
          lanes = lane_put p h.lanes o two.1 i;
        }),
        tt,
      ))))

  -- at an output
  at_output : (o : ℕ) (event : Lane → Outcome Lane)
      → is_same (part.Output o) (part_of p) ≡ false
      → ((l : Lane) (v : ℕ) (s : Option SessionHistory) → part_of p ≡ part.Session o v
      → IsBeside (with_place v s) event l)
      → IsBeside (made p) (λ h. steps.at_lane histories h o event) h
  at_output o event apart beside =
      at_lane o event (λ l here. lock_case p o apart (λ m. IsBeside m event l) (alike (event l)) (λ v s is. beside l v s is))

  -- at an output and a worker's session
  at_output_and_worker : (o w : ℕ) (event : Lane → Outcome Lane)
      → (is_same (part.Output o) (part_of p) ≡ false)
      × (is_same (part.Session o w) (part_of p) ≡ false)
      → ((l : Lane) (v : ℕ) (s : Option SessionHistory) → v ≢ w → IsBeside (with_place v s) event l)
      → IsBeside (made p) (λ h. steps.at_lane histories h o event) h
  at_output_and_worker o w event apart beside =
      at_output o event apart.0 (λ l v s is. beside l v s (λ same. other_worker o w v (ap (is_same (part.Session o w)) (sym is) ∙ apart.1) (sym same)))

  -- at a connection and an output
  at_source_and_output : (id o : ℕ)
      (event : SourceHistory → Lane → Outcome (SourceHistory × Lane))
      → (is_same (part.Connection id) (part_of p) ≡ false)
      × (is_same (part.Output o) (part_of p) ≡ false)
      → ((v : ℕ) (t : Option SessionHistory) (s : SourceHistory) (l : Lane)
      → IsBesideBoth (with_place v t) event s l)
      → IsBeside (made p) (λ h. steps.at_both histories h id o event) h
  at_source_and_output id o event apart beside =
      at_both id o event apart.0 (λ s l. lock_case p o apart.1 (λ m. IsBesideBoth m event s l) (alike (event s l)) (λ v t is. beside v t s l))

  -- at a worker's session
  at_session : (o w : ℕ)
      (event : OutputConfig → Worker SessionHistory → Outcome (Worker SessionHistory))
      → is_same (part.Session o w) (part_of p) ≡ false
      → ((l : Lane) → slice_get h.lanes o ≡ Some l
      → carried_by (changed_lane p o l).output.buffer w ≡ carried_by l.output.buffer w)
      → IsBeside (made p)
      (λ h. steps.at_lane histories h o (λ l. steps.at_worker histories l w (event l.config))) h
  at_session o w event apart spares =
      let here : Lane → Outcome Lane = λ l. steps.at_worker histories l w (event l.config) in
      at_lane o here (λ l e. session_case p o w apart (λ m. IsBeside m here l) (alike (here l))
      (λ x f. at_worker (λ k. with_output k x) l w (event l.config) (chunk_stays l x w (ap (λ m. carried_by (m l).output.buffer w) (sym f) ∙ spares l e)) (λ y. refl))
      (λ v s differs. at_worker (with_place v s) l w (event l.config) (worker_stays l v w s differs) (λ y. ap (λ ss. record l { sessions = ss }) (set-set l.sessions v w s y.session differs))))

  accept : (setup : Setup) → is_same (part.Connection setup.conn) (part_of p) ≡ false
      → comes p ≡ false → IsBeside (made p) (λ h. steps.accept histories h setup) h
  accept setup apart none =
      let new : Connection = record { id = setup.conn; source = opened setup; gone = false } in
      checked NotNow (ap not (fresh_stays setup.conn p h.connections none)) (λ fresh. goes refl (
        (λ i. record h {
          connections = connections_commute (Arrives new) p h.connections apart none i;
          lanes = at_lanes p h.lanes;
        }),
        tt,
      ))

  shut : (id : ℕ) → is_same (part.Connection id) (part_of p) ≡ false
      → IsBeside (made p) (λ h. steps.shut histories h id) h
  shut id apart =
      sought {g = λ (s : SourceHistory). s} _ _ (source_here id apart) (λ s e. goes refl (
        (λ i. record h {
          connections = connections_commute (Departs id) p h.connections apart refl i;
          lanes = at_lanes p h.lanes;
        }),
        tt,
      ))

  -- an event beside a change of a part that it does not name
  pub beside : (f : Event) → does_name f (part_of p) ≡ false → (is_accept f && comes p) ≡ false
      → Spares p f h → IsBeside (made p) (λ h. step histories h f) h
  beside (event.Accept id nonce auth) apart one spares = accept (setup_of h.security h.limits id nonce auth) (one_named (part.Connection id) (part_of p) apart) one
  beside (event.Piece id bytes) apart one spares = at_source id _ (one_named (part.Connection id) (part_of p) apart)
  beside (event.Admit id o now) apart one spares =
      at_source_and_output id o (steps.admit histories h.routes id o now) (two_named (part.Connection id) (part.Output o) (part_of p) apart) (λ v t s l. admit v t id o now s l h.routes)
  beside (event.Flush o now kind) apart one spares =
      at_output o (λ l. steps.flush histories l now kind) (one_named (part.Output o) (part_of p) apart) (λ l v s is. flush l v s now kind)
  beside (event.Choose o w now) apart one spares =
      at_output o (λ l. steps.choose histories l w now) (one_named (part.Output o) (part_of p) apart) (λ l v s is. choose l v s w now)
  beside (event.Up o w server salt now) apart one spares =
      at_session o w (λ c. steps.up histories c server salt now) (one_named (part.Session o w) (part_of p) apart) (λ l here. spares o w l (named_alone (part.Session o w)) here)
  beside (event.Take o w now wanted) apart one spares =
      at_output_and_worker o w (λ l. steps.take histories l w wanted now) (two_named (part.Output o) (part.Session o w) (part_of p) apart) (λ l v s differs. take l v s w differs wanted now)
  beside (event.Load o w now) apart one spares =
      at_session o w (λ c. steps.load histories now) (one_named (part.Session o w) (part_of p) apart) (λ l here. spares o w l (named_alone (part.Session o w)) here)
  beside (event.Wrote o w count) apart one spares =
      at_session o w (λ c x. steps.at_session histories x (steps.wrote histories count)) (one_named (part.Session o w) (part_of p) apart) (λ l here. spares o w l (named_alone (part.Session o w)) here)
  beside (event.Heard o w bytes) apart one spares =
      at_session o w (λ c x. steps.at_session histories x (steps.heard histories bytes)) (one_named (part.Session o w) (part_of p) apart) (λ l here. spares o w l (named_alone (part.Session o w)) here)
  beside (event.Settle o w) apart one spares =
      at_output_and_worker o w (λ l. steps.settle histories l w) (two_named (part.Output o) (part.Session o w) (part_of p) apart) (λ l v s differs. settle l v s w differs)
  beside (event.Late o w now) apart one spares =
      at_session o w (λ c x. steps.at_session histories x (steps.late histories now)) (one_named (part.Session o w) (part_of p) apart) (λ l here. spares o w l (named_alone (part.Session o w)) here)
  beside (event.End o w kind now) apart one spares =
      at_output_and_worker o w (λ l. steps.end histories l w kind now) (two_named (part.Output o) (part.Session o w) (part_of p) apart) (λ l v s differs. end l v s w differs kind now)
  beside (event.Collect id o) apart one spares =
      at_source_and_output id o (steps.collect histories id) (two_named (part.Connection id) (part.Output o) (part_of p) apart) (λ v t s l. collect v t id o 0 s l)
  beside (event.Forget id o) apart one spares =
      at_output o (λ l. steps.forget histories l id) (two_named (part.Connection id) (part.Output o) (part_of p) apart).1 (λ l v s is. forget l v s id)
  beside (event.Drained id count) apart one spares = at_source id _ (one_named (part.Connection id) (part_of p) apart)
  -- a connection is shut, or nothing changes
  beside f apart one spares = Prim.first_of (search (shut, one_named), search (same_at))
