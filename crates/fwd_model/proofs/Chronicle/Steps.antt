-- The chronicle goes on at each event of a run.
use Rattle.std.proofs.Common.{◌≡◌, ℕ, zero, suc, ◌+◌, ◌≤◌, Bool, true, false, cond, List, [], ◌∷◌, ◌++◌, length, drop, Option, Some, None, refl, sym, ap, subst, ◌∙◌, arith}
use Rattle.std.specs.Prelude.{not, is_some, ◌||◌, nat_lt, ◌==◌, slice_get}
use Rattle.std.proofs.lemmas.Bool.Decides.{nat_tests}
use Rattle.fwd_modes.specs.Requests.{Request}
use Rattle.fwd_match.specs.Patterns.{route}
use Rattle.fwd_source.specs.declared.fault.SourceFault.{SourceFault}
use Rattle.fwd_source.specs.declared.piece.Piece.TheVariants as verdict
use Rattle.fwd_source.specs.History.{Setup, SourceHistory, IsSane as IsSaneSource, judged, is_closed, waiting, opened, hears, gives, appends, drains, shuts, told, new_pong, unsent}
use Rattle.fwd_source.specs.Live.{live_source, judged_piece}
use Rattle.fwd_source.proofs.Following.{heard}
use Rattle.fwd_chunks.specs.declared.fault.AdmitError.{AdmitError}
use Rattle.fwd_chunks.specs.declared.fault.AdmitError.TheVariants.{Full, NumbersSpent, Memory}
use Rattle.fwd_chunks.specs.declared.flush.FlushKind.{FlushKind}
use Rattle.fwd_chunks.specs.declared.wanted.Wanted.{Wanted}
use Rattle.fwd_chunks.specs.History as buffer
use Rattle.fwd_chunks.specs.History.{CarriedChunk}
use Rattle.fwd_session.specs.declared.told.SessionHeard.{SessionHeard}
use Rattle.fwd_session.specs.declared.told.SessionHeard.TheVariants as heard_as
use Rattle.fwd_session.specs.ServerAcks.{frame_of, evidence_of}
use Rattle.fwd_session.specs.Said.{out_of}
use Rattle.fwd_session.specs.History as session
use Rattle.fwd_session.specs.History.{SessionHistory, handshake_of, says, told_of}
use Rattle.fwd_model.specs.declared.config.Config.{Config}
use Rattle.fwd_model.specs.declared.event.Event.{Event}
use Rattle.fwd_model.specs.declared.event.Event.TheVariants as event
use Rattle.fwd_model.specs.declared.answer.Answer.{Answer}
use Rattle.fwd_model.specs.declared.answer.Answer.TheVariants as answer
use Rattle.fwd_model.specs.declared.fault.Refusal.TheVariants.{NoSuch, NotNow, NotUp}
use Rattle.fwd_model.specs.Outcome.{Outcome, Stays, Goes, answer_of, state_of, of_piece, of_heard, first_of, chunk_answer, is_refusal}
use Rattle.fwd_model.specs.Layers.{Worker}
use Rattle.fwd_book.specs.History as book
use Rattle.fwd_model.specs.Step as steps
use Rattle.fwd_model.specs.Step.{step}
use Rattle.fwd_model.specs.declared.event.EndKind.{EndKind}
use Rattle.fwd_model.specs.Setups.{setup_of, session_setup}
use Rattle.fwd_model.specs.Outputs.{numbers_back, output_history_enters, output_history_settles, output_history_looks}
use Rattle.fwd_model.specs.History.{Connection, ever_at, source_at, with_source, with_gone, Lane, History, with_connection, with_lane, with_output, with_buffer, with_book, with_place, histories}
use Rattle.fwd_model.specs.Delivered.{reached, answered, session_of, standing, session_at}
use Rattle.fwd_model.proofs.Onward.{Onward, to, past, past_found, Resting, rests, rest_past, rest_found, rest_within, at_next, source_on, lane_on, both_on, worker_on, session_on}
use Rattle.fwd_model.proofs.Lists.{slice_get-append}
use Rattle.fwd_model.proofs.Places.{slice_get-set_same, same_at}
use Rattle.fwd_model.proofs.Reached.{IsSaneLane, IsSane, AllSources-at, AllSane-at, own_session}
use Rattle.fwd_model.proofs.Follows.Workers.{session_here}
use Rattle.fwd_model.proofs.Follows.Settles.{acked_is}
use Rattle.fwd_model.proofs.Chronicle.{Quiet, Calm, SessionStory, LaneStory, Story, Grows, ever_from, extends_push, extends_with, extends_gone, extends_same, lanes_stay, all_stays, lane_put, still, after-push}
use Rattle.fwd_model.proofs.Chronicle.Sessions.{put_session, begins, loads, sends, hears as hears_story, looks}
use Rattle.fwd_model.proofs.Chronicle.Settles.{lane_forgets, lane_settles, lane_tells}
use Rattle.fwd_model.proofs.Chronicle.Ends.{lane_ends}
use Rattle.fwd_model.proofs.Chronicle.Admits.{lane_enters}

first_of-drop : (n : ℕ) (xs : List Request) (q : Request) → first_of (drop n xs) ≡ Some q
    → slice_get xs n ≡ Some q
first_of-drop zero [] q h = absurd cc
first_of-drop zero (x ∷ xs) q h = h
first_of-drop (suc n) [] q h = absurd cc
first_of-drop (suc n) (x ∷ xs) q h = first_of-drop n xs q h

-- the first request that waits is the one behind those that were admitted
waiting_is : (s : SourceHistory) (q : Request) → first_of (waiting s) ≡ Some q
    → slice_get (judged s).requests s.admitted ≡ Some q
waiting_is s q e = at s.shut e
  where
    at : (b : Bool) → first_of (cond b [] (drop s.admitted (judged s).requests)) ≡ Some q
        → slice_get (judged s).requests s.admitted ≡ Some q
    at true f = absurd cc
    at false f = first_of-drop s.admitted (judged s).requests q f

pub grows_more : (s t : SourceHistory) → judged t ≡ judged s → s.admitted ≤ t.admitted
    → Grows s t
grows_more s t same le = (le, λ i q h. ap (λ j. slice_get j.requests i) same ∙ h)

piece_grows : (s : SourceHistory) (bytes : List ℕ) → IsSaneSource s → is_closed s ≡ false
    → Grows s (hears s bytes)
piece_grows s bytes own e =
    let more = heard s bytes own e in
    (omega arith, λ i q f. ap (λ j. slice_get j.requests i) more.all ∙ slice_get-append (judged s).requests (judged_piece (live_source s) bytes).requests i q f)

same_place : (first o : ℕ) → not (first == o) ≡ false → first ≡ o
same_place first o e = grind (arith, nat_tests, e)

source_there : (id : ℕ) (s u : SourceHistory) (cs : List Connection) → ever_at id cs ≡ Some s
    → ever_at id (with_source id u cs) ≡ Some u
source_there id s u [] f = absurd cc
source_there id s u (c ∷ cs) f = grind (arith, nat_tests, source_there id s u cs)

module _ (config : Config) (es : List Event) (sane : IsSane (reached config es)) (t : Story config es (reached config es)) where
  abbrev h : History
  h = reached config es

  own_lane : (o : ℕ) (l : Lane) → slice_get h.lanes o ≡ Some l → IsSaneLane l
  own_lane o l e = AllSane-at h.lanes o l sane.lanes e

  own_source : (id : ℕ) (s : SourceHistory) → source_at id h.connections ≡ Some s → IsSaneSource s
  own_source id s e = AllSources-at id h.connections s sane.sources e

  -- where the event is answered so and leads there, the chronicle goes on
  abbrev Next : Event → Answer → History → Type 0
  Next e a k = answered config es e ≡ a → reached config (es ++ e ∷ []) ≡ k → Story config (es ++ e ∷ []) k

  -- ---- what is put there

  connection_put : (e : Event) → Calm config es e t → (id : ℕ) (s u : SourceHistory)
      → source_at id h.connections ≡ Some s → Grows s u
      → Story config (es ++ e ∷ []) (with_connection id u h)
  connection_put e calm id s u here grows = lanes_stay config es e t (with_source id u h.connections) calm (extends_with id s u h.connections (ever_from id h.connections s here) grows)

  lane_next : (e : Event) → Calm config es e t → (o : ℕ) (m : Lane)
      → LaneStory config (es ++ e ∷ []) h.connections o m
      → Story config (es ++ e ∷ []) (with_lane o m h)
  lane_next e calm o m story = lane_put config es e t h.connections o m (λ j differ. calm j) (extends_same h.connections) story

  session_put : (e : Event) → Calm config es e t → (o w : ℕ) (l : Lane) (u : SessionHistory)
      → slice_get h.lanes o ≡ Some l → SessionStory config (es ++ e ∷ []) o w u
      → Story config (es ++ e ∷ []) (with_lane o (with_place w (Some u) l) h)
  session_put e calm o w l u here story = lane_next e calm o (with_place w (Some u) l) (put_session config es e o h.connections l w u (calm o) (t.lanes o l here) story)

  -- the session that was put stands at its place
  stands_put : (o w : ℕ) (l : Lane) (s u : SessionHistory) → slice_get h.lanes o ≡ Some l
      → slice_get l.sessions w ≡ Some (Some s)
      → session_of (with_lane o (with_place w (Some u) l) h) o w ≡ Some u
  stands_put o w l s u lane here =
      ap (λ x. standing (session_at w x)) (slice_get-set_same h.lanes o (with_place w (Some u) l) l lane) ∙ ap standing (slice_get-set_same l.sessions w (Some u) (Some s) here)

  -- ---- connections

  accept_on : (e : Event) → Calm config es e t → (setup : Setup)
      → Onward (λ a k. Story config (es ++ e ∷ []) k) (steps.accept histories h setup)
  accept_on e calm setup = past _ (λ fresh. to (lanes_stay config es e t (histories.accepts h setup).connections calm (extends_push h.connections (record { id = setup.conn; source = opened setup; gone = false }))))

  shut_on : (e : Event) → Calm config es e t → (id : ℕ)
      → Onward (λ a k. Story config (es ++ e ∷ []) k) (steps.shut histories h id)
  shut_on e calm id = past_found _ (λ s here. to (lanes_stay config es e t (with_gone id h.connections) calm (extends_gone id h.connections)))

  piece_on : (e : Event) → Calm config es e t → (id : ℕ) (bytes : List ℕ)
      → Onward (λ a k. Story config (es ++ e ∷ []) k)
      (steps.at_source histories h id (λ s. steps.piece histories s bytes))
  piece_on e calm id bytes = source_on histories h id _ (λ s. steps.piece histories s bytes) (λ s here. by s here (is_closed s) refl)
    where
      P : SourceHistory → Type 0
      P u = Story config (es ++ e ∷ []) (with_connection id u h)

      told_on : (s : SourceHistory) (f : Option SourceFault) (n : ℕ) → P (hears s bytes)
          → Onward (λ a u. P u)
          (of_piece (told f n) (length (waiting (hears s bytes))) (new_pong s bytes)
          (hears s bytes))
      told_on s None n story = to story
      told_on s (Some f) n story = to story

      by : (s : SourceHistory) → source_at id h.connections ≡ Some s → (b : Bool) → is_closed s ≡ b
          → Onward (λ a u. P u)
          (of_piece (cond b verdict.Closed
          (told (judged (hears s bytes)).fault (length (waiting (hears s bytes))))) (length
          (waiting (hears s bytes))) (new_pong s bytes) (hears s bytes))
      by s here true up = record { holds = tt }
      by s here false up = told_on s (judged (hears s bytes)).fault (length (waiting (hears s bytes))) (connection_put e calm id s (hears s bytes) here (piece_grows s bytes (own_source id s here) up))

  drained_on : (e : Event) → Calm config es e t → (id count : ℕ)
      → Onward (λ a k. Story config (es ++ e ∷ []) k)
      (steps.at_source histories h id (λ s. steps.drained histories s count))
  drained_on e calm id count = source_on histories h id _ (λ s. steps.drained histories s count) (λ s here. past _ (λ (few : nat_lt (length (unsent s)) count ≡ false). to (connection_put e calm id s (drains s count) here (grows_more s (drains s count) refl (omega arith)))))

  -- ---- a connection and an output

  -- a source that admits no more, and an output that stays
  shuts_story : (e : Event) → Calm config es e t → (id o : ℕ) (s : SourceHistory) (l : Lane)
      → source_at id h.connections ≡ Some s → slice_get h.lanes o ≡ Some l
      → Story config (es ++ e ∷ []) (with_lane o l (with_connection id (shuts s) h))
  shuts_story e calm id o s l here lane =
      let ext = extends_with id s (shuts s) h.connections (ever_from id h.connections s here) (grows_more s (shuts s) refl (omega arith)) in
      lane_put config es e t (with_source id (shuts s) h.connections) o l (λ j differ. calm j) ext (still config es e t (with_source id (shuts s) h.connections) o l ext (calm o) lane)

  enters_story : (e : Event) → Calm config es e t
      → (id o now : ℕ) (s : SourceHistory) (q : Request) (l : Lane)
      → source_at id h.connections ≡ Some s → slice_get h.lanes o ≡ Some l
      → first_of (waiting s) ≡ Some q → route h.routes q.tag ≡ Some o
      → Story config (es ++ e ∷ [])
      (with_lane o (with_output l
      (output_history_enters l.output (record { conn = id; request = s.admitted + 1 }) q now))
      (with_connection id (gives s) h))
  enters_story e calm id o now s q l here lane first to_this =
      let grows = grows_more s (gives s) refl (omega arith) in
      let stood = ever_from id h.connections s here in
      let ext = extends_with id s (gives s) h.connections stood grows in
      lane_put config es e t (with_source id (gives s) h.connections) o (with_output l (output_history_enters l.output (record { conn = id; request = s.admitted + 1 }) q now)) (λ j differ. calm j) ext
      (lane_enters config es e h.connections (with_source id (gives s) h.connections) o l id (s.admitted + 1) now q s (gives s) (own_lane o l lane) ext (calm o) (t.lanes o l lane) stood refl
      (source_there id s (gives s) h.connections stood) refl (waiting_is s q first) (ap (λ rs. route rs q.tag) (sym t.routes) ∙ to_this))

  admit_on : (e : Event) → Calm config es e t → (id o now : ℕ)
      → Onward (λ a k. Story config (es ++ e ∷ []) k)
      (steps.at_both histories h id o (steps.admit histories h.routes id o now))
  admit_on e calm id o now =
      both_on histories h id o _ (steps.admit histories h.routes id o now) (λ s l here lane. past_found _ (λ q first. by s q l (route h.routes q.tag) here lane first refl))
    where
      P : SourceHistory × Lane → Type 0
      P two = Story config (es ++ e ∷ []) (with_lane o two.1 (with_connection id two.0 h))

      unless : (s : SourceHistory) (q : Request) (l : Lane) → source_at id h.connections ≡ Some s
          → slice_get h.lanes o ≡ Some l → first_of (waiting s) ≡ Some q
          → route h.routes q.tag ≡ Some o → (fault : Option AdmitError)
          → Onward (λ a two. P two)
          (steps.enter_unless histories fault s q
          (record { conn = id; request = s.admitted + 1 }) l now)
      unless s q l here lane wait way None = to (enters_story e calm id o now s q l here lane wait way)
      unless s q l here lane wait way (Some Full) = to (shuts_story e calm id o s l here lane)
      unless s q l here lane wait way (Some NumbersSpent) = to (shuts_story e calm id o s l here lane)
      unless s q l here lane wait way (Some Memory) = record { holds = tt }

      by : (s : SourceHistory) (q : Request) (l : Lane) (first : Option ℕ)
          → source_at id h.connections ≡ Some s → slice_get h.lanes o ≡ Some l
          → first_of (waiting s) ≡ Some q → route h.routes q.tag ≡ first
          → Onward (λ a two. P two) (steps.routed histories first s q id o l now)
      by s q l None here lane wait way = to (shuts_story e calm id o s l here lane)
      by s q l (Some first) here lane wait way =
          past _ (λ this. unless s q l here lane wait (way ∙ ap Some (same_place first o this)) (histories.refusal l (record { conn = id; request = s.admitted + 1 }) q now))

  collect_on : (e : Event) → Calm config es e t → (id o : ℕ)
      → Onward (λ a k. Story config (es ++ e ∷ []) k)
      (steps.at_both histories h id o (steps.collect histories id))
  collect_on e calm id o =
      both_on histories h id o _ (steps.collect histories id) (λ s l here lane. past _ (λ (up : s.shut ≡ false). to (
      let more = appends s (histories.due l id).acks in
      let ext = extends_with id s more h.connections (ever_from id h.connections s here) (grows_more s more refl (omega arith)) in
      lane_put config es e t (with_source id more h.connections) o (with_book l (book.tells_due l.output.book id)) (λ j differ. calm j) ext
      (lane_tells config es e h.connections (with_source id more h.connections) o id l ext (calm o) (t.lanes o l lane)))))

  -- ---- an output and its workers

  forget_on : (e : Event) → Calm config es e t → (id o : ℕ)
      → Onward (λ a k. Story config (es ++ e ∷ []) k)
      (steps.at_lane histories h o (λ l. steps.forget histories l id))
  forget_on e calm id o = lane_on histories h o _ (λ l. steps.forget histories l id) (λ l lane. to (lane_next e calm o _ (lane_forgets config es e h.connections o id l (calm o) (t.lanes o l lane))))

  flushed_story : (e : Event) → Calm config es e t → (o now : ℕ) (kind : FlushKind) (l : Lane)
      → slice_get h.lanes o ≡ Some l
      → LaneStory config (es ++ e ∷ []) h.connections o
      (with_buffer l (buffer.flushes l.output.buffer now kind))
  flushed_story e calm o now kind l lane =
      let s = still config es e t h.connections o l (extends_same h.connections) (calm o) lane in
      record { sessions = s.sessions; numbers = s.numbers; own = s.own; requests = s.requests; numbered = s.numbered; named = s.named }

  flush_on : (e : Event) → Calm config es e t → (o now : ℕ) (kind : FlushKind)
      → Onward (λ a k. Story config (es ++ e ∷ []) k)
      (steps.at_lane histories h o (λ l. steps.flush histories l now kind))
  flush_on e calm o now kind = lane_on histories h o _ (λ l. steps.flush histories l now kind) (λ l lane. to (lane_next e calm o _ (flushed_story e calm o now kind l lane)))

  taken_story : (e : Event) → Calm config es e t → (o w : ℕ) (wanted : Wanted) (now : ℕ) (l : Lane)
      → slice_get h.lanes o ≡ Some l
      → LaneStory config (es ++ e ∷ []) h.connections o
      (with_buffer l (buffer.takes l.output.buffer w wanted now))
  taken_story e calm o w wanted now l lane =
      let s = still config es e t h.connections o l (extends_same h.connections) (calm o) lane in
      record { sessions = s.sessions; numbers = s.numbers; own = s.own; requests = s.requests; numbered = s.numbered; named = s.named }

  take_on : (e : Event) → Calm config es e t → (o w : ℕ) (wanted : Wanted) (now : ℕ)
      → Onward (λ a k. Story config (es ++ e ∷ []) k)
      (steps.at_lane histories h o (λ l. steps.take histories l w wanted now))
  take_on e calm o w wanted now = lane_on histories h o _ (λ l. steps.take histories l w wanted now) (λ l lane.
      past_found NoSuch {x = histories.worker_at l w} (λ x at. past NotNow {b = is_some x.taken || steps.is_full histories x.session} (λ none. to {a = chunk_answer (histories.given l wanted now)} (lane_next e calm o _ (taken_story e calm o w wanted now l lane)))))

  watched_story : (e : Event) → Calm config es e t → (o now : ℕ) (l : Lane)
      → slice_get h.lanes o ≡ Some l
      → LaneStory config (es ++ e ∷ []) h.connections o
      (with_output l (output_history_looks l.output now))
  watched_story e calm o now l lane =
      let s = still config es e t h.connections o l (extends_same h.connections) (calm o) lane in
      record { sessions = s.sessions; numbers = s.numbers; own = s.own; requests = s.requests; numbered = s.numbered; named = s.named }

  choose_on : (e : Event) → Calm config es e t → (o w now : ℕ)
      → Onward (λ a k. Story config (es ++ e ∷ []) k)
      (steps.at_lane histories h o (λ l. steps.choose histories l w now))
  choose_on e calm o w now = lane_on histories h o _ (λ l. steps.choose histories l w now) (λ l lane.
      past_found NoSuch {x = histories.worker_at l w} (λ x at. to {a = answer.Chose (histories.chosen l w now)} (lane_next e calm o _ (watched_story e calm o now l lane))))

  settle_on : (e : Event) → Calm config es e t → (o w : ℕ)
      → Onward (λ a k. Story config (es ++ e ∷ []) k)
      (steps.at_lane histories h o (λ l. steps.settle histories l w))
  settle_on e calm o w =
      lane_on histories h o _ (λ l. steps.settle histories l w) (λ l lane.
      past_found _ (λ x at.
      past_found _ (λ s f.
      past_found _ (λ a acked. to (
      let here = session_here l w x s at f in
      lane_next e calm o (with_place w (Some (session.unloads s)) (with_output l (output_history_settles l.output (evidence_of s.setup.server a))))
      (lane_settles config es e h.connections o w s.setup.server l s a here (acked_is l.output.buffer w s a ((own_lane o l lane).workers w (Some s) here) acked) acked (calm o) (t.lanes o l lane)))))))

  -- ---- sessions: what is answered and where it leads count

  up_on : (o w server : ℕ) (salt : List ℕ) (now : ℕ)
      → Onward (Next (event.Up o w server salt now))
      (step histories h (event.Up o w server salt now))
  up_on o w server salt now =
      lane_on histories h o _ (λ l. steps.at_worker histories l w (steps.up histories l.config server salt now)) (λ l lane.
      worker_on histories l w _ (steps.up histories l.config server salt now) (λ x at.
      past NoSuch {b = not (nat_lt server (length l.config.standby))} (λ known.
      past NotNow {b = is_some x.session} (λ none. to {a = answer.Done} {s = steps.with_session x (session.begins (session_setup l.config server salt now))} (λ done leads.
      session_put (event.Up o w server salt now) (λ j v kind moment numbers is done. absurd cc) o w l (session.begins (session_setup l.config server salt now)) lane
      (begins config es o w (session_setup l.config server salt now) server salt now done))))))

  not_not : (b : Bool) → not b ≡ false → b ≡ true
  not_not true e = refl
  not_not false e = absurd cc

  load_on : (o w now : ℕ)
      → Onward (Next (event.Load o w now)) (step histories h (event.Load o w now))
  load_on o w now =
      lane_on histories h o _ (λ l. steps.at_worker histories l w (steps.load histories now)) (λ l lane.
      worker_on histories l w _ (steps.load histories now) (λ x at.
      past_found _ (λ s f.
      past_found _ (λ c g.
      past NotNow {b = session.room s == 0} (λ some.
      past NotUp {b = not (session.is_ready s)} (λ ready. to {a = answer.Frame (frame_of c)} {s = steps.with_loaded (session.loads s c now)} (λ done leads.
      let here = session_here l w x s at f in
      session_put (event.Load o w now) (λ j v kind moment numbers is done. absurd cc) o w l (session.loads s c now) lane
      (loads config es o w s c now ((t.lanes o l lane).sessions w s here) (own_session l w s (own_lane o l lane) here) (not_not (session.is_ready s) ready) (ap (λ x. standing (session_at w x)) lane ∙ ap standing here) done))))))))

  wrote_on : (o w count : ℕ)
      → Onward (Next (event.Wrote o w count)) (step histories h (event.Wrote o w count))
  wrote_on o w count =
      lane_on histories h o _ (λ l. steps.at_worker histories l w (λ x. steps.at_session histories x (steps.wrote histories count))) (λ l lane.
      worker_on histories l w _ (λ x. steps.at_session histories x (steps.wrote histories count)) (λ x at.
      session_on histories x _ (steps.wrote histories count) (λ s f.
      let here = session_here l w x s at f in
      past NotNow {b = nat_lt (length (session.to_send s)) count} (λ few. to {a = answer.Done} {s = session.sends s count} (λ done leads.
      session_put (event.Wrote o w count) (λ j v kind moment numbers is done. absurd cc) o w l (session.sends s count) lane
      (sends config es o w s count ((t.lanes o l lane).sessions w s here) done
      (ap (λ k. session_of k o w) leads ∙ stands_put o w l s (session.sends s count) lane here)))))))

  -- what a piece is told goes on to the same session
  told_on : {S : Type 0} (P : Answer → S → Type 0) (told : SessionHeard) (out : List ℕ) (s : S)
      → ((a : Answer) → P a s) → Onward P (of_heard told out s)
  told_on P heard_as.NotUp out s holds = record { holds = tt }
  told_on P heard_as.Quiet out s holds = to (holds (answer.Quiet out))
  told_on P heard_as.Ready out s holds = to (holds (answer.Ready out))
  told_on P heard_as.Acked out s holds = to (holds (answer.Acked out))
  told_on P (heard_as.Fault why) out s holds = to (holds (answer.SessionFaulted why))

  heard_on : (o w : ℕ) (bytes : List ℕ)
      → Onward (λ a k. Story config (es ++ event.Heard o w bytes ∷ []) k)
      (step histories h (event.Heard o w bytes))
  heard_on o w bytes =
      lane_on histories h o _ (λ l. steps.at_worker histories l w (λ x. steps.at_session histories x (steps.heard histories bytes))) (λ l lane.
      worker_on histories l w _ (λ x. steps.at_session histories x (steps.heard histories bytes)) (λ x at.
      session_on histories x _ (steps.heard histories bytes) (λ s f. by l lane x s (session_here l w x s at f) s.down refl)))
    where
      P : Lane → Worker SessionHistory → Answer → SessionHistory → Type 0
      P l x a u = Story config (es ++ event.Heard o w bytes ∷ []) (with_lane o (with_place w (Some u) l) h)

      by : (l : Lane) → slice_get h.lanes o ≡ Some l
          → (x : Worker SessionHistory) (s : SessionHistory)
          → slice_get l.sessions w ≡ Some (Some s) → (b : Bool) → s.down ≡ b
          → Onward (P l x)
          (of_heard (cond b heard_as.NotUp (told_of (handshake_of s) (says s bytes)))
          (cond b [] (out_of (says s bytes))) (cond b s (session.listens s bytes (says s bytes))))
      by l lane x s here true down = record { holds = tt }
      by l lane x s here false up =
          told_on (P l x) (told_of (handshake_of s) (says s bytes)) (out_of (says s bytes)) (session.listens s bytes (says s bytes)) (λ a.
          session_put (event.Heard o w bytes) (λ j v kind moment numbers is done. absurd cc) o w l (session.listens s bytes (says s bytes)) lane
          (hears_story config es o w bytes s ((t.lanes o l lane).sessions w s here) (own_session l w s (own_lane o l lane) here) up (ap (λ x. standing (session_at w x)) lane ∙ ap standing here)))

  late_on : (o w now : ℕ)
      → Onward (λ a k. Story config (es ++ event.Late o w now ∷ []) k)
      (step histories h (event.Late o w now))
  late_on o w now =
      lane_on histories h o _ (λ l. steps.at_worker histories l w (λ x. steps.at_session histories x (steps.late histories now))) (λ l lane.
      worker_on histories l w _ (λ x. steps.at_session histories x (steps.late histories now)) (λ x at.
      session_on histories x _ (steps.late histories now) (λ s f.
      let here = session_here l w x s at f in
      past NotUp {b = s.down} (λ up. to {a = answer.Late (session.is_late s now)} {s = session.looks s now} (
      session_put (event.Late o w now) (λ j v kind moment numbers is done. absurd cc) o w l (session.looks s now) lane
      (looks config es o w s now ((t.lanes o l lane).sessions w s here)))))))

  end_on : (o w : ℕ) (kind : EndKind) (now : ℕ)
      → Onward (λ a k. Story config (es ++ event.End o w kind now ∷ []) k)
      (step histories h (event.End o w kind now))
  end_on o w kind now =
      lane_on histories h o _ (λ l. steps.end histories l w kind now) (λ l lane.
      past_found NoSuch {x = histories.worker_at l w} (λ x at.
      past NotNow {b = steps.is_idle histories x} (λ some.
      past NotNow {b = steps.has_acked histories x.session} (λ none. to {a = answer.Ended (numbers_back (steps.gives_back histories x))} (
      lane_put config es (event.End o w kind now) t h.connections o _ another (extends_same h.connections)
      (lane_ends config es h.connections o w kind now l (steps.gives_back histories x) (steps.lost_server histories kind x.session) (t.lanes o l lane)))))))
    where
      another : (j : ℕ) → (o ≡ j → ⊥) → Quiet config es (event.End o w kind now) j
      another j differ v kind' moment numbers is done = differ cc

  -- an end that is refused ends nothing
  end_rests : (o w : ℕ) (kind : EndKind) (now : ℕ)
      → Resting (step histories h (event.End o w kind now))
  end_rests o w kind now =
      rest_found (slice_get h.lanes o) NoSuch (λ l. rest_within _ (
      rest_found (histories.worker_at l w) NoSuch (λ x. rest_past (steps.is_idle histories x) NotNow (rest_past (steps.has_acked histories x.session) NotNow rests))))

  refused_end : (o w : ℕ) (kind : EndKind) (now : ℕ) (a : Answer)
      → step histories h (event.End o w kind now) ≡ Stays a
      → Calm config es (event.End o w kind now) t
  refused_end o w kind now a is j v kind' moment numbers same done =
      let stays : is_refusal a ≡ true = (subst Resting is (end_rests o w kind now)).stays in
      let ended : a ≡ answer.Ended numbers = sym (ap answer_of is) ∙ done in
      no (sym stays ∙ ap is_refusal ended)
    where
      no : true ≡ false → ⊥
      no e = cc

  -- ---- each event

  -- what asks nothing of the answer
  anyhow : (e : Event) (x : Outcome History) → Onward (λ a k. Story config (es ++ e ∷ []) k) x
      → Onward (Next e) x
  anyhow e (Stays a) on = record { holds = tt }
  anyhow e (Goes a k) on = record { holds = λ done leads. on.holds }

  -- an event that ends nothing, and what it goes on to
  goes_by : (e : Event) → ((a : Answer) → step histories h e ≡ Stays a → Calm config es e t)
      → Onward (Next e) (step histories h e)
      → Story config (es ++ e ∷ []) (state_of h (step histories h e))
  goes_by e calm on =
      at_next h (step histories h e) (λ k. Story config (es ++ e ∷ []) k) (λ a is. all_stays config es e t (calm a is)) on (λ a k is next.
      next (ap answer_of is) (after-push (Rattle.fwd_model.specs.History.opening config) es e ∙ ap (state_of h) is))

  calmly : (e : Event) → Calm config es e t → Onward (Next e) (step histories h e)
      → Story config (es ++ e ∷ []) (state_of h (step histories h e))
  calmly e calm on = goes_by e (λ a is. calm) on

  pub goes_on : (e : Event) → Story config (es ++ e ∷ []) (state_of h (step histories h e))
  goes_on (event.Accept id nonce auth) = calmly (event.Accept id nonce auth) (λ j v kind' moment numbers is done. absurd cc) (anyhow _ _ (accept_on (event.Accept id nonce auth) (λ j v kind' moment numbers is done. absurd cc) (setup_of h.security h.limits id nonce auth)))
  goes_on (event.Piece id bytes) = calmly (event.Piece id bytes) (λ j v kind' moment numbers is done. absurd cc) (anyhow _ _ (piece_on (event.Piece id bytes) (λ j v kind' moment numbers is done. absurd cc) id bytes))
  goes_on (event.Admit id o now) = calmly (event.Admit id o now) (λ j v kind' moment numbers is done. absurd cc) (anyhow _ _ (admit_on (event.Admit id o now) (λ j v kind' moment numbers is done. absurd cc) id o now))
  goes_on (event.Flush o now kind) = calmly (event.Flush o now kind) (λ j v kind' moment numbers is done. absurd cc) (anyhow _ _ (flush_on (event.Flush o now kind) (λ j v kind' moment numbers is done. absurd cc) o now kind))
  goes_on (event.Choose o w now) = calmly (event.Choose o w now) (λ j v kind' moment numbers is done. absurd cc) (anyhow _ _ (choose_on (event.Choose o w now) (λ j v kind' moment numbers is done. absurd cc) o w now))
  goes_on (event.Up o w server salt now) = calmly (event.Up o w server salt now) (λ j v kind' moment numbers is done. absurd cc) (up_on o w server salt now)
  goes_on (event.Take o w now wanted) = calmly (event.Take o w now wanted) (λ j v kind' moment numbers is done. absurd cc) (anyhow _ _ (take_on (event.Take o w now wanted) (λ j v kind' moment numbers is done. absurd cc) o w wanted now))
  goes_on (event.Load o w now) = calmly (event.Load o w now) (λ j v kind' moment numbers is done. absurd cc) (load_on o w now)
  goes_on (event.Wrote o w count) = calmly (event.Wrote o w count) (λ j v kind' moment numbers is done. absurd cc) (wrote_on o w count)
  goes_on (event.Heard o w bytes) = calmly (event.Heard o w bytes) (λ j v kind' moment numbers is done. absurd cc) (anyhow _ _ (heard_on o w bytes))
  goes_on (event.Late o w now) = calmly (event.Late o w now) (λ j v kind' moment numbers is done. absurd cc) (anyhow _ _ (late_on o w now))
  goes_on (event.Settle o w) = calmly (event.Settle o w) (λ j v kind' moment numbers is done. absurd cc) (anyhow _ _ (settle_on (event.Settle o w) (λ j v kind' moment numbers is done. absurd cc) o w))
  goes_on (event.End o w kind now) = goes_by (event.End o w kind now) (refused_end o w kind now) (anyhow _ _ (end_on o w kind now))
  goes_on (event.Collect id o) = calmly (event.Collect id o) (λ j v kind' moment numbers is done. absurd cc) (anyhow _ _ (collect_on (event.Collect id o) (λ j v kind' moment numbers is done. absurd cc) id o))
  goes_on (event.Forget id o) = calmly (event.Forget id o) (λ j v kind' moment numbers is done. absurd cc) (anyhow _ _ (forget_on (event.Forget id o) (λ j v kind' moment numbers is done. absurd cc) id o))
  goes_on (event.Drained id count) = calmly (event.Drained id count) (λ j v kind' moment numbers is done. absurd cc) (anyhow _ _ (drained_on (event.Drained id count) (λ j v kind' moment numbers is done. absurd cc) id count))
  -- a connection is shut, or nothing changes
  goes_on e =
      let calm : Calm config es e t = λ j v kind' moment numbers is done. absurd cc in
      calmly e calm (anyhow e (step histories h e) (Prim.first_of (search (shut_on e calm), search (same_at, all_stays config es e t calm))))
