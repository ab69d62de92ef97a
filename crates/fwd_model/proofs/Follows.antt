-- The live part follows the history at each event of a run, and over runs: each proof has the
-- shape of its event.
pub mod Sources
pub mod Outputs
pub mod Sessions
pub mod Takes
pub mod Admits
pub mod Settles
pub mod Ends
pub mod Collects
pub mod Workers
use Rattle.std.proofs.Common.{◌≡◌, ℕ, zero, suc, ◌+◌, ◌≤◌, Bool, true, false, cond, List, [], ◌∷◌, ◌++◌, length, drop, Option, Some, None, refl, sym, ap, subst, ◌∙◌, arith}
use Rattle.std.proofs.lemmas.Bool.Decides.{nat_tests}
use Rattle.std.specs.Prelude.{map, option_map, is_some, not, ◌&&◌, ◌||◌, ◌==◌, nat_lt, slice_get, replicate}
use Rattle.std.proofs.lemmas.Option.{same_Some}
use Rattle.fwd_modes.specs.Requests.{Request}
use Rattle.fwd_match.specs.Patterns.{route}
use Rattle.fwd_modes.specs.declared.origin.Origin.{Origin}
use Rattle.fwd_source.specs.declared.fault.SourceFault.{SourceFault}
use Rattle.fwd_source.specs.declared.piece.Piece.TheVariants as verdict
use Rattle.fwd_source.specs.History.{Setup, SourceHistory, IsSane as IsSaneSource, judged, is_closed, waiting, hears, told, new_pong}
use Rattle.fwd_source.specs.Live.{LiveSource, live_source, judged_piece, source_hears, source_appends}
use Rattle.fwd_source.proofs.Following.{heard, hears-live, hears-sane, gives-live, gives-sane, appends-live, appends-sane, drains-live, shuts-live, shuts-sane}
use Rattle.fwd_chunks.specs.declared.fault.AdmitError.{AdmitError}
use Rattle.fwd_chunks.specs.declared.fault.AdmitError.TheVariants.{Full, NumbersSpent, Memory}
use Rattle.fwd_chunks.specs.declared.flush.FlushKind.{FlushKind}
use Rattle.fwd_chunks.specs.declared.wanted.Wanted.{Wanted}
use Rattle.fwd_chunks.specs.History.{BufferHistory, CarriedChunk, counts as buffer_counts}
use Rattle.fwd_chunks.specs.Live.{live_counts}
use Rattle.fwd_chunks.proofs.Follows as buffer
use Rattle.fwd_chunks.specs.TagCounts.{report, live_report}
use Rattle.fwd_chunks.proofs.Reports.{report-live}
use Rattle.fwd_chunks.proofs.Sane.{opening-sane}
use Rattle.fwd_model.specs.declared.config.Config.{Config}
use Rattle.fwd_model.specs.declared.config.OutputConfig.{OutputConfig}
use Rattle.fwd_model.specs.declared.event.Event.{Event}
use Rattle.fwd_model.specs.declared.event.Event.TheVariants as event
use Rattle.fwd_model.specs.declared.answer.Answer.{Answer}
use Rattle.fwd_model.specs.declared.answer.Answer.TheVariants as answer
use Rattle.fwd_model.specs.declared.event.EndKind.{EndKind}
use Rattle.fwd_model.specs.declared.fault.Refusal.TheVariants.{NotNow, NotUp}
use Rattle.fwd_session.specs.declared.told.SessionHeard.{SessionHeard}
use Rattle.fwd_session.specs.declared.told.SessionHeard.TheVariants as heard_as
use Rattle.fwd_session.specs.ServerAcks.{Accepted, evidence_of}
use Rattle.fwd_session.specs.History.{Loaded, SessionHistory, IsSane as IsSaneHistory, begins, chunks_of, first_in, handshake_of, is_free_for, loads, hears as hears_bytes, piece_told, piece_out}
use Rattle.fwd_session.specs.Live.{LiveSession, live_loaded, live_session, live_chunks, session_hears}
use Rattle.fwd_session.proofs.Following.{begins-live, begins-sane, loads-live, sends-live, sends-sane, told-live, out-live, hears-live as hears_bytes-live, hears-sane as hears_bytes-sane, late-live, ready-live, room-live, unloads-live, looks-live, looks-sane}
use Rattle.fwd_model.specs.Outcome.{Outcome, Stays, Goes, answer_of, state_of, of_piece, of_heard, first_of, chunk_answer}
use Rattle.fwd_model.specs.Layers.{Worker}
use Rattle.fwd_model.specs.Step as steps
use Rattle.fwd_model.specs.Step.{step, answers, after, with_session, with_loaded}
use Rattle.fwd_model.specs.Setups.{setup_of, session_setup, setting_of}
use Rattle.fwd_model.specs.Outputs.{carried_by, returned, numbers_back, live_output}
use Rattle.fwd_model.specs.History.{Lane, History, histories, history_worker, taken_by, source_at, new_lane, new_lanes, counts, reports, opening, is_fresh, with_connection, IsReached}
use Rattle.fwd_model.specs.Live.{LiveLane, live, live_lane, lives, last_id, is_above, live_source_at, with_live_lane, with_live_worker, live_relay_counts, live_relay_reports}
use Rattle.fwd_model.proofs.Agree.{Agrees, Leads, stays, goes, checked, sought, inside}
use Rattle.fwd_model.proofs.Places.{source_at-live, option_id}
use Rattle.fwd_model.proofs.Chunks.{IsAmong}
use Rattle.fwd_model.proofs.Reached.{IsSaneWorker, IsSaneLane, AllSane, IsSane, AllSources-at, AllSane-at}
use Rattle.fwd_model.proofs.Follows.Sources.{accepts-live, accepts-sane, with_connection-live, with_connection-sane, drained-sane, leaves-live, leaves-sane}
use Rattle.fwd_model.proofs.Follows.Outputs.{lane_at-live, with_lane-live, with_lane-sane, worker_at-live, flushes-live, flushes-sane, choice-same, watches-live, watches-sane}
use Rattle.fwd_model.proofs.Follows.Sessions.{with_place-live, with_place-sane, is_some-option_map, StaysSane, same_chunks, hears-times, hears-all, loads_taken, hears-window, hears-length}
use Rattle.fwd_model.proofs.Follows.Ends.{gives_all, ends-live, ends-sane}
use Rattle.fwd_model.proofs.Follows.Takes.{given-same, takes-live, takes-sane}
use Rattle.fwd_model.proofs.Follows.Admits.{enters-live, enters-sane}
use Rattle.fwd_model.proofs.Follows.Settles.{acked_is, count-same, settles-live, settles-sane}
use Rattle.fwd_book.proofs.Following.{follows-due, follows-owed_of}
use Rattle.fwd_model.specs.Books.{telling}
use Rattle.fwd_model.proofs.Follows.Collects.{tells-live, tells-sane, forgets-live, forgets-sane}
use Rattle.fwd_model.proofs.Follows.Workers.{worker_map, worker_seen, worker_is, session_here, taken_is}

-- ---- where it happens

module _ (h : History) (sane : IsSane h) where
  own_source : (id : ℕ) (s : SourceHistory) → source_at id h.connections ≡ Some s → IsSaneSource s
  own_source id s e = AllSources-at id h.connections s sane.sources e

  own_lane : (o : ℕ) (l : Lane) → slice_get h.lanes o ≡ Some l → IsSaneLane l
  own_lane o l e = AllSane-at h.lanes o l sane.lanes e

  pub live_source_here : (id : ℕ)
      → live_source_at id (live h).connections ≡ option_map live_source (source_at id h.connections)
  unfolding live
  live_source_here id = source_at-live id h.connections sane.once

  at_source : (id : ℕ) (p : SourceHistory → Outcome SourceHistory)
      (q : LiveSource → Outcome LiveSource)
      →
      ((s : SourceHistory) → IsSaneSource s
      → Agrees live_source IsSaneSource (p s) (q (live_source s)))
      → Agrees live IsSane (steps.at_source histories h id p) (steps.at_source lives (live h) id q)
  at_source id p q agrees =
      sought _ _ (live_source_here id) (λ s e.
      inside _ _ (agrees s (own_source id s e)) (λ t own. (with_connection-live id t s h e, with_connection-sane id t h sane own)))

  at_lane : (o : ℕ) (p : Lane → Outcome Lane) (q : LiveLane → Outcome LiveLane)
      → ((l : Lane) → IsSaneLane l → Agrees live_lane IsSaneLane (p l) (q (live_lane l)))
      → Agrees live IsSane (steps.at_lane histories h o p) (steps.at_lane lives (live h) o q)
  at_lane o p q agrees =
      sought _ _ (lane_at-live o h) (λ l e.
      inside _ _ (agrees l (own_lane o l e)) (λ m own. (with_lane-live o m h, with_lane-sane o m h sane own)))

-- at an output that it leaves as it is
same_at : (h : History) (o : ℕ) (a : Answer) → IsSane h
    → Agrees live IsSane (steps.at_lane histories h o (λ l. Goes a l))
    (steps.at_lane lives (live h) o (λ l. Goes a l))
same_at h o a sane = at_lane h sane o _ (λ l. Goes a l) (λ l own. goes refl (refl, own))

abbrev both : SourceHistory × Lane → LiveSource × LiveLane
both two = (live_source two.0, live_lane two.1)

abbrev SaneBoth : SourceHistory × Lane → Type 0
SaneBoth two = IsSaneSource two.0 × IsSaneLane two.1

both_lead : {s : SourceHistory} {t : LiveSource} {l : Lane} {m : LiveLane}
    → Leads live_source IsSaneSource s t → Leads live_lane IsSaneLane l m
    → Leads both SaneBoth (s, l) (t, m)
both_lead a b = (λ i. (a.0 i, b.0 i), (a.1, b.1))

at_both : (h : History) (sane : IsSane h) (id o : ℕ) (p : SourceHistory → Lane
    → Outcome (SourceHistory × Lane)) (q : LiveSource → LiveLane
    → Outcome (LiveSource × LiveLane))
    →
    ((s : SourceHistory) (l : Lane) → IsSaneSource s → IsSaneLane l
    → Agrees both SaneBoth (p s l) (q (live_source s) (live_lane l)))
    → Agrees live IsSane (steps.at_both histories h id o p) (steps.at_both lives (live h) id o q)
at_both h sane id o p q agrees =
    sought _ _ (live_source_here h sane id) (λ s e.
    sought _ _ (lane_at-live o h) (λ l f.
    inside _ _ (agrees s l (own_source h sane id s e) (own_lane h sane o l f)) (λ two own.
    let k = with_connection id two.0 h in (
      with_lane-live o two.1 k ∙ ap (with_live_lane o (live_lane two.1)) (with_connection-live id two.0 s h e),
      with_lane-sane o two.1 k (with_connection-sane id two.0 h sane own.0) own.1,
    ))))

-- a worker that is the one at its place by its session, and sane
abbrev SaneWorker : Lane → ℕ → Worker SessionHistory → Type 0
SaneWorker l w y =
    (history_worker l w y.session ≡ y) × IsSaneWorker l.config.acks.window (carried_by l.output.buffer w) y.session

pub worker_here : (w : ℕ) (l : Lane)
    → slice_get (live_lane l).workers w
    ≡ option_map (worker_map live_session) (histories.worker_at l w)
worker_here w l = worker_at-live w l ∙ worker_seen l w (slice_get l.sessions w)

puts_leads : (l : Lane) (w : ℕ) (y : Worker SessionHistory) → IsSaneLane l → SaneWorker l w y
    → Leads live_lane IsSaneLane (histories.puts_worker l w y)
    (with_live_worker (live_lane l) w (worker_map live_session y))
puts_leads l w y own fits = (
  with_place-live w y.session l ∙ ap (λ z. with_live_worker (live_lane l) w (worker_map live_session z)) fits.0,
  with_place-sane w y.session l own fits.1,
)

at_worker : (l : Lane) (w : ℕ) (p : Worker SessionHistory
    → Outcome (Worker SessionHistory)) (q : Worker LiveSession → Outcome (Worker LiveSession))
    → IsSaneLane l
    →
    ((x : Worker SessionHistory) → histories.worker_at l w ≡ Some x
    → Agrees (worker_map live_session) (SaneWorker l w) (p x) (q (worker_map live_session x)))
    → Agrees live_lane IsSaneLane (steps.at_worker histories l w p)
    (steps.at_worker lives (live_lane l) w q)
at_worker l w p q own agrees =
    sought _ _ (worker_here w l) (λ x e. inside _ _ (agrees x e) (λ y fits. puts_leads l w y own fits))

-- with a session that leaves what the worker took and did not load
session_leads : (l : Lane) (w : ℕ) (x : Worker SessionHistory) (t : SessionHistory)
    → histories.worker_at l w ≡ Some x
    → StaysSane l.config.acks.window (carried_by l.output.buffer w) x.session (Some t)
    → Leads (worker_map live_session) (SaneWorker l w) (with_session x t)
    (with_session (worker_map live_session x) (live_session t))
session_leads l w x t e stays = (refl, ((λ i. record { taken = (stays.taken ∙ taken_is l w x (worker_is l w x e)) i; session = Some t }), stays.sane))

at_session : (l : Lane) (w : ℕ) (x : Worker SessionHistory) (p : SessionHistory
    → Outcome SessionHistory) (q : LiveSession → Outcome LiveSession) → IsSaneLane l
    → histories.worker_at l w ≡ Some x
    →
    ((s : SessionHistory) → IsSaneWorker l.config.acks.window (carried_by l.output.buffer w) (Some s)
    → Agrees live_session (λ t. StaysSane l.config.acks.window (carried_by l.output.buffer w) (Some s) (Some t)) (p s) (q (live_session s)))
    → Agrees (worker_map live_session) (SaneWorker l w) (steps.at_session histories x p)
    (steps.at_session lives (worker_map live_session x) q)
at_session l w x p q own e agrees =
    sought {g = live_session} _ _ refl (λ s f.
    inside _ _ (agrees s (own.workers w (Some s) (session_here l w x s e f))) (λ t stays.
    session_leads l w x t e (subst (λ y. StaysSane l.config.acks.window (carried_by l.output.buffer w) y (Some t)) (sym f) stays)))

-- ---- connections

piece : (s : SourceHistory) (bytes : List ℕ) → IsSaneSource s
    → Agrees live_source IsSaneSource (steps.piece histories s bytes)
    (steps.piece lives (live_source s) bytes)
unfolding live_source
piece s bytes sane = by (is_closed s) refl
  where
    at : (f : Option SourceFault) → is_closed s ≡ false → Agrees live_source IsSaneSource
        (of_piece (told f (length (waiting (hears s bytes)))) (length (waiting (hears s bytes)))
        (new_pong s bytes) (hears s bytes))
        (of_piece (told f (length (waiting (hears s bytes)))) (length (waiting (hears s bytes)))
        (new_pong s bytes) (source_hears (live_source s) bytes))
    at None up = goes refl (hears-live s bytes sane up, hears-sane s bytes sane up)
    at (Some f) up = goes refl (hears-live s bytes sane up, hears-sane s bytes sane up)

    by : (b : Bool) → is_closed s ≡ b → Agrees live_source IsSaneSource
        (of_piece (cond b verdict.Closed
        (told (judged (hears s bytes)).fault (length (waiting (hears s bytes))))) (length
        (waiting (hears s bytes))) (new_pong s bytes) (hears s bytes))
        (of_piece (cond b verdict.Closed (told (judged_piece (live_source s) bytes).fault
        (length ((live_source s).waiting ++ (judged_piece (live_source s) bytes).requests))))
        (length (source_hears (live_source s) bytes).waiting)
        (cond b [] (judged_piece (live_source s) bytes).pong) (source_hears (live_source s) bytes))
    by true up = stays
    by false up =
        let g = heard s bytes sane up in
        let same = hears-live s bytes sane up in
        subst (λ y. Agrees live_source IsSaneSource (of_piece (told (judged (hears s bytes)).fault (length (waiting (hears s bytes)))) (length (waiting (hears s bytes))) (new_pong s bytes) (hears s bytes)) y)
        (λ i. of_piece (told (g.all i).fault (length (g.waits i))) (length (same i).waiting) (g.pong i) (source_hears (live_source s) bytes)) (at (judged (hears s bytes)).fault up)

drained : (s : SourceHistory) (count : ℕ) → IsSaneSource s
    → Agrees live_source IsSaneSource (steps.drained histories s count)
    (steps.drained lives (live_source s) count)
unfolding live_source
drained s count sane = checked _ refl (λ few. goes refl (drains-live s count, drained-sane s count sane few))

-- ---- a connection and an output

-- the first request that waits is one that is given away
gives_leads : (s : SourceHistory) (q : Request) (rs : List Request) → waiting s ≡ rs
    → first_of rs ≡ Some q → IsSaneSource s
    → Leads live_source IsSaneSource (histories.gives s) (lives.gives (live_source s))
gives_leads s q [] e first sane = absurd cc
gives_leads s q (r ∷ rs) e first sane = (gives-live s, gives-sane s r rs sane e)

refusal_here : (l : Lane) (origin : Origin) (q : Request) (now : ℕ) → IsSaneLane l
    → lives.refusal (live_lane l) origin q now ≡ histories.refusal l origin q now
unfolding live_lane live_output
refusal_here l origin q now own = sym (buffer.refusal-live l.output.buffer origin q now own.buffer)

enter_unless : (fault : Option AdmitError) (s : SourceHistory) (q : Request) (origin : Origin)
    (l : Lane) (now : ℕ) → IsSaneSource s → IsSaneLane l → first_of (waiting s) ≡ Some q
    → Agrees both SaneBoth (steps.enter_unless histories fault s q origin l now)
    (steps.enter_unless lives fault (live_source s) q origin (live_lane l) now)
enter_unless None s q origin l now sane own first = goes refl (both_lead (gives_leads s q (waiting s) refl first sane) (enters-live l origin q now own, enters-sane l origin q now own))
enter_unless (Some Full) s q origin l now sane own first = goes refl (both_lead (shuts-live s, shuts-sane s sane) (refl, own))
enter_unless (Some NumbersSpent) s q origin l now sane own first = goes refl (both_lead (shuts-live s, shuts-sane s sane) (refl, own))
enter_unless (Some Memory) s q origin l now sane own first = stays

enter : (s : SourceHistory) (q : Request) (id : ℕ) (l : Lane) (now : ℕ) → IsSaneSource s
    → IsSaneLane l → first_of (waiting s) ≡ Some q
    → Agrees both SaneBoth (steps.enter histories s q id l now)
    (steps.enter lives (live_source s) q id (live_lane l) now)
unfolding live_source
enter s q id l now sane own first =
    let origin : Origin = record { conn = id; request = s.admitted + 1 } in
    subst (λ fault. Agrees both SaneBoth (steps.enter histories s q id l now) (steps.enter_unless lives fault (live_source s) q origin (live_lane l) now)) (sym (refusal_here l origin q now own))
    (enter_unless (histories.refusal l origin q now) s q origin l now sane own first)

routed : (to : Option ℕ) (s : SourceHistory) (q : Request) (id o : ℕ) (l : Lane) (now : ℕ)
    → IsSaneSource s → IsSaneLane l → first_of (waiting s) ≡ Some q
    → Agrees both SaneBoth (steps.routed histories to s q id o l now)
    (steps.routed lives to (live_source s) q id o (live_lane l) now)
routed None s q id o l now sane own first = goes refl (both_lead (shuts-live s, shuts-sane s sane) (refl, own))
routed (Some to) s q id o l now sane own first = checked _ refl (λ here. enter s q id l now sane own first)

admit : (patterns : List (List (List ℕ))) (id o now : ℕ) (s : SourceHistory) (l : Lane)
    → IsSaneSource s → IsSaneLane l
    → Agrees both SaneBoth (steps.admit histories patterns id o now s l)
    (steps.admit lives patterns id o now (live_source s) (live_lane l))
unfolding live_source
admit patterns id o now s l sane own =
    sought {g = λ (q : Request). q} _ _ (option_id (first_of (waiting s))) (λ q e.
    routed (route patterns q.tag) s q id o l now sane own e)

due_here : (l : Lane) (id : ℕ) → histories.due l id ≡ lives.due (live_lane l) id
unfolding live_lane live_output
due_here l id = ap telling (follows-due l.output.book id)

owed_here : (l : Lane) (id : ℕ) → histories.owed l id ≡ lives.owed (live_lane l) id
unfolding live_lane live_output
owed_here l id = follows-owed_of l.output.book id

collect : (id : ℕ) (s : SourceHistory) (l : Lane) → IsSaneSource s → IsSaneLane l
    → Agrees both SaneBoth (steps.collect histories id s l)
    (steps.collect lives id (live_source s) (live_lane l))
unfolding live_source
collect id s l sane own =
    let acks = (histories.due l id).acks in
    checked _ refl (λ up.
    goes (ap (λ t. answer.Told t.numbers t.acks) (due_here l id)) (both_lead
    (appends-live s acks sane up ∙ ap (λ t. source_appends (live_source s) t.acks) (due_here l id), appends-sane s acks sane)
    (tells-live id l, tells-sane id l own)))

forget : (l : Lane) (id : ℕ) → IsSaneLane l
    → Agrees live_lane IsSaneLane (steps.forget histories l id)
    (steps.forget lives (live_lane l) id)
forget l id own = goes (ap answer.Forgot (owed_here l id)) (forgets-live id l, forgets-sane id l own)

-- ---- an output and its workers

closing_here : (l : Lane) (now : ℕ) (kind : FlushKind) → IsSaneLane l
    → histories.closing l now kind ≡ lives.closing (live_lane l) now kind
unfolding live_lane live_output
closing_here l now kind own = buffer.closing-live l.output.buffer now kind own.buffer

flush : (l : Lane) (now : ℕ) (kind : FlushKind) → IsSaneLane l
    → Agrees live_lane IsSaneLane (steps.flush histories l now kind)
    (steps.flush lives (live_lane l) now kind)
flush l now kind own = goes (ap answer.Closed (closing_here l now kind own)) (flushes-live l now kind own, flushes-sane l now kind own)

choose : (l : Lane) (w now : ℕ) → IsSaneLane l
    → Agrees live_lane IsSaneLane (steps.choose histories l w now)
    (steps.choose lives (live_lane l) w now)
choose l w now own =
    sought {g = worker_map live_session} _ _ (worker_here w l) (λ x e.
    goes (ap answer.Chose (choice-same l w now own)) (watches-live l now, watches-sane l now own))

no_session : (x : Option SessionHistory) → is_some x ≡ false → x ≡ None
no_session None e = refl
no_session (Some s) e = absurd cc

up : (l : Lane) (w : ℕ) (c : OutputConfig) (server : ℕ) (salt : List ℕ) (now : ℕ)
    (x : Worker SessionHistory) → IsSaneLane l → c.acks.window ≡ l.config.acks.window
    → histories.worker_at l w ≡ Some x
    → Agrees (worker_map live_session) (SaneWorker l w) (steps.up histories c server salt now x)
    (steps.up lives c server salt now (worker_map live_session x))
up l w c server salt now x own set e =
    let same : not (nat_lt server (length c.standby)) ≡ not (nat_lt server (length c.standby)) = refl in
    let n = l.config.acks.window in
    let cs = carried_by l.output.buffer w in
    let setup = session_setup c server salt now in
    checked _ same (λ known.
    checked _ (is_some-option_map live_session x.session) (λ none.
    let is : x.session ≡ None = no_session x.session none in
    let fits : IsSaneWorker n cs None = subst (IsSaneWorker n cs) is (own.workers w x.session (worker_is l w x e).here) in
    let stays : StaysSane n cs x.session (Some (begins setup)) = subst (λ y. StaysSane n cs y (Some (begins setup))) (sym is) (same_chunks n cs None (begins setup) fits (begins-sane setup) set tt (λ k. refl) refl) in
    let leads = session_leads l w x (begins setup) e stays in
    goes refl (leads.0 ∙ ap (with_session (worker_map live_session x)) (begins-live setup), leads.1)))

config_here : (l : Lane) → (live_lane l).config ≡ l.config
unfolding live_lane
config_here l = refl

-- a session has as much room as its live part
full_same : (s : Option SessionHistory)
    → steps.is_full lives (option_map live_session s) ≡ steps.is_full histories s
full_same None = refl
full_same (Some s) = ap (λ n. n == 0) (sym (room-live s))

or_left : (a b : Bool) → (a || b) ≡ false → a ≡ false
or_left true b e = e
or_left false b e = refl

or_right : (a b : Bool) → (a || b) ≡ false → b ≡ false
or_right true b e = absurd cc
or_right false b e = e

no_chunk : (c : Option CarriedChunk) → is_some c ≡ false → c ≡ None
no_chunk None e = refl
no_chunk (Some c) e = absurd cc

take : (l : Lane) (w : ℕ) (wanted : Wanted) (now : ℕ) → IsSaneLane l
    → Agrees live_lane IsSaneLane (steps.take histories l w wanted now)
    (steps.take lives (live_lane l) w wanted now)
take l w wanted now own =
    sought _ _ (worker_here w l) (λ x e.
    checked _ (ap (λ b. is_some x.taken || b) (full_same x.session)) (λ none.
    let at = worker_is l w x e in
    let free = taken_is l w x at ∙ no_chunk x.taken (or_left (is_some x.taken) (steps.is_full histories x.session) none) in
    let room = or_right (is_some x.taken) (steps.is_full histories x.session) none in
    goes (ap chunk_answer (given-same l wanted now own)) (
      takes-live l w wanted now x.session at.here free room own ∙ ap (λ y. lives.takes (live_lane l) w (worker_map live_session y) wanted now) at.is,
      takes-sane l w wanted now x.session at.here free room own,
    )))

down_here : (s : SessionHistory) → (live_session s).down ≡ s.down
unfolding live_session
down_here s = refl

and_left : (a b : Bool) → not (not a && b) ≡ false → a ≡ false
and_left true b e = absurd cc
and_left false b e = refl

load : (now : ℕ) (l : Lane) (w : ℕ) (x : Worker SessionHistory)
    → IsSaneLane l → histories.worker_at l w ≡ Some x
    → Agrees (worker_map live_session) (SaneWorker l w) (steps.load histories now x)
    (steps.load lives now (worker_map live_session x))
load now l w x own e =
    sought {g = live_session} _ _ refl (λ s f.
    sought {g = λ (c : CarriedChunk). c} _ _ (option_id x.taken) (λ c g.
    checked NotNow (ap (λ n. n == 0) (sym (room-live s))) (λ some.
    checked NotUp (ap not (sym (ready-live s))) (λ up.
    goes refl (leads s c f (session_here l w x s e f) g (and_left s.down (is_free_for (handshake_of s) s.has_loaded) up))))))
  where
    cs : List CarriedChunk
    cs = carried_by l.output.buffer w

    leads : (s : SessionHistory) (c : CarriedChunk) → x.session ≡ Some s
        → slice_get l.sessions w ≡ Some (Some s) → x.taken ≡ Some c → s.down ≡ false
        → Leads (worker_map live_session) (SaneWorker l w) (with_loaded (loads s c now))
        (with_loaded (lives.loads (live_session s) c now))
    leads s c f here g up =
        let fits = own.workers w (Some s) here in
        let taken : taken_by l.output.buffer w (Some s) ≡ Some c = ap (λ y. taken_by l.output.buffer w y) (sym f) ∙ taken_is l w x (worker_is l w x e) ∙ g in
        let one = loads_taken s c now l.config.acks.window cs fits taken in (
          (λ i. with_loaded (loads-live s c now (fits.own s refl) up i)),
          ((λ i. record { taken = one.1 i; session = Some (loads s c now) }), one.0),
        )

le_from : (a b : ℕ) → nat_lt a b ≡ false → b ≤ a
le_from a b e = grind (arith, nat_tests, e)

-- what is down takes nothing
wrote_sane : (s : SessionHistory) (count : ℕ) → IsSaneHistory s
    → nat_lt (length (histories.to_send s)) count ≡ false → IsSaneHistory (histories.sends s count)
wrote_sane s count own few = by s.down refl
  where
    by : (b : Bool) → s.down ≡ b → IsSaneHistory (histories.sends s count)
    by true e =
        let none : length (histories.to_send s) ≡ 0 = ap (λ b. length (cond b [] (drop s.sent s.appended))) e in
        let zero : count ≡ 0 = omega (arith, le_from (length (histories.to_send s)) count few, none) in
        record { started = own.started; sent = omega (arith, zero, own.sent); opened = own.opened; greets = own.greets }
    by false e = sends-sane s count own e (le_from (length (histories.to_send s)) count few)

wrote : (n : ℕ) (cs : List CarriedChunk) (count : ℕ) (s : SessionHistory) → IsSaneWorker n cs (Some s)
    → Agrees live_session (λ t. StaysSane n cs (Some s) (Some t)) (steps.wrote histories count s)
    (steps.wrote lives count (live_session s))
unfolding live_session
wrote n cs count s fits = checked NotNow refl (λ few. goes refl (sends-live s count, same_chunks n cs (Some s) (histories.sends s count) fits (wrote_sane s count (fits.own s refl) few) (fits.window s refl) fits.his (λ k. refl) refl))

heard-agrees : (n : ℕ) (cs : List CarriedChunk) (s : SessionHistory) (told : SessionHeard) (out : List ℕ)
    (t : SessionHistory) (u : LiveSession)
    → Leads live_session (λ t. StaysSane n cs (Some s) (Some t)) t u
    → Agrees live_session (λ t. StaysSane n cs (Some s) (Some t)) (of_heard told out t) (of_heard told out u)
heard-agrees n cs s heard_as.NotUp out t u leads = stays
heard-agrees n cs s heard_as.Quiet out t u leads = goes refl leads
heard-agrees n cs s heard_as.Ready out t u leads = goes refl leads
heard-agrees n cs s heard_as.Acked out t u leads = goes refl leads
heard-agrees n cs s (heard_as.Fault why) out t u leads = goes refl leads

hear : (bytes : List ℕ) (n : ℕ) (cs : List CarriedChunk) (s : SessionHistory) → IsSaneWorker n cs (Some s)
    → Agrees live_session (λ t. StaysSane n cs (Some s) (Some t)) (steps.heard histories bytes s)
    (steps.heard lives bytes (live_session s))
hear bytes n cs s fits =
    let own = fits.own s refl in
    let leads : Leads live_session (λ t. StaysSane n cs (Some s) (Some t)) (hears_bytes s bytes) (session_hears (live_session s) bytes) =
    (hears_bytes-live s bytes own, same_chunks n cs (Some s) (hears_bytes s bytes) fits (hears_bytes-sane s bytes own) (hears-window s bytes ∙ fits.window s refl) (hears-all s bytes (λ c. IsAmong c cs) fits.his) (hears-times s bytes) (hears-length s bytes)) in
    subst (λ y. Agrees live_session (λ t. StaysSane n cs (Some s) (Some t)) (steps.heard histories bytes s) y)
    (λ i. of_heard (told-live s bytes own i) (out-live s bytes own i) (session_hears (live_session s) bytes))
    (heard-agrees n cs s (piece_told s bytes) (piece_out s bytes) (hears_bytes s bytes) (session_hears (live_session s) bytes) leads)

late : (now n : ℕ) (cs : List CarriedChunk) (s : SessionHistory) → IsSaneWorker n cs (Some s)
    → Agrees live_session (λ t. StaysSane n cs (Some s) (Some t)) (steps.late histories now s)
    (steps.late lives now (live_session s))
late now n cs s fits =
    checked NotUp (down_here s) (λ up.
    goes (ap answer.Late (late-live s now)) (looks-live s now up, same_chunks n cs (Some s) (histories.looks s now) fits (looks-sane s now (fits.own s refl) up) (fits.window s refl) fits.his (λ k. refl) refl))

first_here : (s : SessionHistory) → first_in (live_session s).accepted ≡ first_in s.accepted
unfolding live_session
first_here s = refl

server_here : (s : SessionHistory) → (live_session s).setup.server ≡ s.setup.server
unfolding live_session
server_here s = refl

settle : (l : Lane) (w : ℕ) → IsSaneLane l
    → Agrees live_lane IsSaneLane (steps.settle histories l w)
    (steps.settle lives (live_lane l) w)
unfolding live_session
settle l w own =
    sought {g = worker_map live_session} _ _ (worker_here w l) (λ x e.
    sought {g = live_session} _ _ refl (λ s f.
    sought {g = λ (a : Accepted). a} _ _ (option_id (first_in s.accepted)) (λ a g.
    let here = session_here l w x s e f in
    let is = acked_is l.output.buffer w s a (own.workers w (Some s) here) g in
    let taken : taken_by l.output.buffer w (Some s) ≡ x.taken = ap (λ y. taken_by l.output.buffer w y) (sym f) ∙ taken_is l w x (worker_is l w x e) in
    goes (ap answer.Settled (count-same l w a.chunk own is)) (
      settles-live l w s a s.setup.server here own g
          ∙ (λ i. lives.settles (live_lane l) w (record { taken = taken i; session = Some (unloads-live s i) }) (evidence_of s.setup.server a)),
      settles-sane l w s a s.setup.server here own g,
    ))))

-- what an end asks of a session is asked alike of its live part
acked_same : (s : Option SessionHistory)
    → steps.has_acked lives (option_map live_session s) ≡ steps.has_acked histories s
acked_same None = refl
acked_same (Some s) = ap is_some (first_here s)

chunks_same : (s : SessionHistory) (ls : List Loaded)
    → live_chunks (map (live_loaded s) ls) ≡ chunks_of ls
chunks_same s [] = refl
chunks_same s (l ∷ ls) = ap (λ cs. l.chunk ∷ cs) (chunks_same s ls)

waiting_same : (s : SessionHistory) → chunks_of s.carried ≡ live_chunks (live_session s).carried
unfolding live_session
waiting_same s = sym (chunks_same s s.carried)

unacknowledged_same : (s : Option SessionHistory)
    → steps.unacknowledged_of histories s ≡ steps.unacknowledged_of lives (option_map live_session s)
unacknowledged_same None = refl
unacknowledged_same (Some s) = waiting_same s

lost_same : (kind : EndKind) (s : Option SessionHistory)
    → steps.lost_server histories kind s ≡ steps.lost_server lives kind (option_map live_session s)
unfolding live_session
lost_same kind None = refl
lost_same kind (Some s) = ap (λ (cs : List CarriedChunk). cond (steps.is_lost kind || (s.down || (not (histories.is_greeted s) || nat_lt 0 (length cs)))) (Some s.setup.server) None) (sym (chunks_same s s.carried))

end : (l : Lane) (w : ℕ) (kind : EndKind) (now : ℕ) → IsSaneLane l
    → Agrees live_lane IsSaneLane (steps.end histories l w kind now)
    (steps.end lives (live_lane l) w kind now)
end l w kind now own =
    sought {g = worker_map live_session} _ _ (worker_here w l) (λ x e.
    checked NotNow (ap (λ b. not (is_some x.taken) && not b) (is_some-option_map live_session x.session)) (λ some.
    checked NotNow (acked_same x.session) (λ none.
    let at = worker_is l w x e in
    let back = steps.gives_back histories x in
    let server = steps.lost_server histories kind x.session in
    let is = gives_all l w x own e none in
    goes (λ i. answer.Ended (numbers_back (returned x.taken (unacknowledged_same x.session i)))) (
      ends-live l w back now own is x.session server at.here
          ∙ (λ i. lives.ends (live_lane l) w (returned x.taken (unacknowledged_same x.session i)) (lost_same kind x.session i) now),
      ends-sane l w back now own is server,
    ))))

-- ---- the step

fresh_here : (h : History) (id : ℕ) → IsSane h
    → is_fresh id h.connections ≡ lives.is_fresh (live h) id
unfolding live
fresh_here h id sane = sane.ids id

accept : (h : History) (setup : Setup) → IsSane h
    → Agrees live IsSane (steps.accept histories h setup) (steps.accept lives (live h) setup)
accept h setup sane = checked _ (ap not (sym (fresh_here h setup.conn sane))) (λ e. goes refl (accepts-live setup h, accepts-sane setup h sane (is_true (is_fresh setup.conn h.connections) e)))
  where
    is_true : (b : Bool) → not b ≡ false → b ≡ true
    is_true true e = refl
    is_true false e = absurd cc

shut : (h : History) (id : ℕ) → IsSane h
    → Agrees live IsSane (steps.shut histories h id) (steps.shut lives (live h) id)
shut h id sane = sought _ _ (live_source_here h sane id) (λ s e. goes refl (leaves-live h id s sane e, leaves-sane h id sane))

-- at each event the outcome of the history, seen in its live part, is the outcome there
pub event_agrees : (h : History) (e : Event) → IsSane h
    → Agrees live IsSane (step histories h e) (step lives (live h) e)
unfolding live
event_agrees h (event.Accept id nonce auth) sane = accept h (setup_of h.security h.limits id nonce auth) sane
event_agrees h (event.Piece id bytes) sane = at_source h sane id _ (λ s. steps.piece lives s bytes) (λ s own. piece s bytes own)
event_agrees h (event.Admit id o now) sane = at_both h sane id o _ (steps.admit lives h.routes id o now) (λ s l own its. admit h.routes id o now s l own its)
event_agrees h (event.Flush o now kind) sane = at_lane h sane o _ (λ l. steps.flush lives l now kind) (λ l own. flush l now kind own)
event_agrees h (event.Up o w server salt now) sane = at_lane h sane o _ (λ l. steps.at_worker lives l w (steps.up lives l.config server salt now))
    (λ l own. subst (λ c. Agrees live_lane IsSaneLane (steps.at_worker histories l w (steps.up histories l.config server salt now)) (steps.at_worker lives (live_lane l) w (steps.up lives c server salt now))) (sym (config_here l))
    (at_worker l w _ (steps.up lives l.config server salt now) own (λ x e. up l w l.config server salt now x own refl e)))
event_agrees h (event.Choose o w now) sane = at_lane h sane o _ (λ l. steps.choose lives l w now) (λ l own. choose l w now own)
event_agrees h (event.Take o w now wanted) sane = at_lane h sane o _ (λ l. steps.take lives l w wanted now) (λ l own. take l w wanted now own)
event_agrees h (event.Load o w now) sane = at_lane h sane o _ (λ l. steps.at_worker lives l w (steps.load lives now)) (λ l own. at_worker l w _ (steps.load lives now) own (λ x e. load now l w x own e))
event_agrees h (event.Wrote o w count) sane =
    at_lane h sane o _ (λ l. steps.at_worker lives l w (λ x. steps.at_session lives x (steps.wrote lives count)))
    (λ l own. at_worker l w _ (λ x. steps.at_session lives x (steps.wrote lives count)) own (λ x e. at_session l w x _ (steps.wrote lives count) own e (λ s fits. wrote l.config.acks.window (carried_by l.output.buffer w) count s fits)))
event_agrees h (event.Heard o w bytes) sane =
    at_lane h sane o _ (λ l. steps.at_worker lives l w (λ x. steps.at_session lives x (steps.heard lives bytes)))
    (λ l own. at_worker l w _ (λ x. steps.at_session lives x (steps.heard lives bytes)) own (λ x e. at_session l w x _ (steps.heard lives bytes) own e (λ s fits. hear bytes l.config.acks.window (carried_by l.output.buffer w) s fits)))
event_agrees h (event.Late o w now) sane =
    at_lane h sane o _ (λ l. steps.at_worker lives l w (λ x. steps.at_session lives x (steps.late lives now)))
    (λ l own. at_worker l w _ (λ x. steps.at_session lives x (steps.late lives now)) own (λ x e. at_session l w x _ (steps.late lives now) own e (λ s fits. late now l.config.acks.window (carried_by l.output.buffer w) s fits)))
event_agrees h (event.End o w kind now) sane = at_lane h sane o _ (λ l. steps.end lives l w kind now) (λ l own. end l w kind now own)
event_agrees h (event.Settle o w) sane = at_lane h sane o _ (λ l. steps.settle lives l w) (λ l own. settle l w own)
event_agrees h (event.Collect id o) sane = at_both h sane id o _ (steps.collect lives id) (λ s l own its. collect id s l own its)
event_agrees h (event.Forget id o) sane = at_lane h sane o _ (λ l. steps.forget lives l id) (λ l own. forget l id own)
event_agrees h (event.Drained id count) sane = at_source h sane id _ (λ s. steps.drained lives s count) (λ s own. drained s count own)
-- a connection is shut, or nothing changes
event_agrees h e sane = Prim.first_of (search (shut), search (same_at))

-- ---- counts

lane_counts : (l : Lane) → buffer_counts l.output.buffer ≡ live_counts (live_lane l).output.buffer
unfolding live_lane live_output
lane_counts l = buffer.counts-live l.output.buffer

all_counts : (ls : List Lane)
    → map (λ l. buffer_counts l.output.buffer) ls
    ≡ map (λ l. live_counts l.output.buffer) (map live_lane ls)
all_counts [] = refl
all_counts (l ∷ ls) = λ i. lane_counts l i ∷ all_counts ls i

pub counts_follow : (h : History) → counts h ≡ live_relay_counts (live h)
unfolding live
counts_follow h = all_counts h.lanes

lane_report : (l : Lane) → IsSaneLane l
    → report l.output.buffer ≡ live_report (live_lane l).output.buffer
unfolding live_lane live_output
lane_report l own = report-live l.output.buffer own.buffer

all_reports : (ls : List Lane) → AllSane ls
    → map (λ l. report l.output.buffer) ls
    ≡ map (λ l. live_report l.output.buffer) (map live_lane ls)
all_reports [] all = refl
all_reports (l ∷ ls) all = λ i. lane_report l all.0 i ∷ all_reports ls all.1 i

pub reports_follow : (h : History) → IsSane h → reports h ≡ live_relay_reports (live h)
unfolding live
reports_follow h sane = all_reports h.lanes sane.lanes

-- ---- runs

no_sessions : (n w : ℕ) (x : Option SessionHistory) → slice_get (replicate n None) w ≡ Some x
    → None ≡ x
no_sessions zero w x e = absurd cc
no_sessions (suc n) zero x e = same_Some _ _ e
no_sessions (suc n) (suc w) x e = no_sessions n w x e

nothing_sane : (n : ℕ) → IsSaneWorker n [] None
nothing_sane n = record { own = λ s e. absurd cc; window = λ s e. absurd cc; his = tt; once = λ k. omega arith; rest = omega arith; whole = refl; few = omega arith }

new_lane_sane : (run : List ℕ) (o : ℕ) (c : OutputConfig) → IsSaneLane (new_lane run o c)
new_lane_sane run o c = record {
  buffer = opening-sane (setting_of run o c);
  apart = tt;
  marks = refl;
  waits = c.limits.bounded;
  workers = λ w x e. subst (IsSaneWorker c.acks.window []) (no_sessions c.workers w x e) (nothing_sane c.acks.window);
}

opening_lanes : (run : List ℕ) (o : ℕ) (cs : List OutputConfig) → AllSane (new_lanes run o cs)
opening_lanes run o [] = tt
opening_lanes run o (c ∷ cs) = (new_lane_sane run o c, opening_lanes run (suc o) cs)

opening_sane : (config : Config) → IsSane (opening config)
unfolding opening
opening_sane config = record { ids = λ id. refl; once = tt; sources = tt; lanes = opening_lanes config.run 0 config.outputs }

-- what holds of a run: its answers, what it leads to, and that this is sane
pub record RunsAgree (h : History) (es : List Event) : Type 0 where
  pub answers : steps.answers histories h es ≡ steps.answers lives (live h) es
  pub after : live (steps.after histories h es) ≡ steps.after lives (live h) es
  pub sane : IsSane (steps.after histories h es)

state_kept : (h : History) (x : Outcome History) → IsSane h
    → (y : Outcome (Rattle.fwd_model.specs.Live.LiveRelay)) → Agrees live IsSane x y
    → (answer_of x ≡ answer_of y) × (live (state_of h x) ≡ state_of (live h) y) × IsSane
    (state_of h x)
state_kept h (Stays a) sane y agrees = (ap answer_of agrees.same, ap (state_of (live h)) agrees.same, sane)
state_kept h (Goes a s) sane y agrees = (ap answer_of agrees.same, ap (state_of (live h)) agrees.same, agrees.kept)

pub run_agrees : (es : List Event) (h : History) → IsSane h → RunsAgree h es
run_agrees [] h sane = record { answers = refl; after = refl; sane = sane }
run_agrees (e ∷ es) h sane =
    let one = state_kept h (step histories h e) sane (step lives (live h) e) (event_agrees h e sane) in
    let rest = run_agrees es (state_of h (step histories h e)) one.2 in
    record {
      answers = λ i. one.0 i ∷ (rest.answers ∙ ap (λ r. steps.answers lives r es) one.1) i;
      after = rest.after ∙ ap (λ r. steps.after lives r es) one.1;
      sane = rest.sane;
    }

pub reached_sane : (config : Config) (h : History) → IsReached config h → IsSane h
reached_sane config h r = subst IsSane r.1 (run_agrees r.0 (opening config) (opening_sane config)).sane
