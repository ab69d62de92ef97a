-- What an event does to the parts that it names, where its checks pass.
use Rattle.std.proofs.Common.{◌≡◌, ℕ, zero, suc, Bool, true, false, cond, eqb, List, [], ◌∷◌, ◌++◌, Option, Some, None, refl, sym, ap, ◌∙◌, arith}
use Rattle.std.proofs.Math.ListN.{set}
use Rattle.std.proofs.lemmas.Bool.Decides.{nat_tests}
use Rattle.std.specs.Prelude.{option_map, slice_get, is_some, not, length, nat_lt, ◌+◌, ◌||◌, ◌==◌, ◌≤◌, ◌<◌}
use Rattle.fwd_modes.specs.Requests.{Request}
use Rattle.fwd_modes.specs.declared.origin.Origin.{Origin}
use Rattle.fwd_match.specs.Patterns.{route}
use Rattle.fwd_chunks.specs.declared.flush.FlushKind.{FlushKind}
use Rattle.fwd_chunks.specs.declared.wanted.Wanted.{Wanted}
use Rattle.fwd_chunks.specs.History.{CarriedChunk}
use Rattle.fwd_chunks.specs.declared.fault.AdmitError.{AdmitError}
use Rattle.fwd_chunks.specs.Live.{live_refusal, live_carried_chunk, live_flushes, live_given_for, live_looks, live_takes}
use Rattle.fwd_source.specs.declared.fault.SourceFault.{SourceFault}
use Rattle.fwd_source.specs.declared.piece.Piece.TheVariants as pieces
use Rattle.fwd_source.specs.History.{told as told_of_piece}
use Rattle.fwd_source.specs.Live.{LiveSource, judged_piece, live_piece_answer, live_piece_next, live_piece_out as live_source_out, opened_source, source_gives, source_hears}
use Rattle.fwd_session.specs.ServerAcks.{Accepted, evidence_of, frame_of}
use Rattle.fwd_session.specs.declared.fault.SessionFault.{SessionFault}
use Rattle.fwd_session.specs.History.{first_in, is_done, told_by, told_of}
use Rattle.fwd_session.specs.Live.{LiveSession, session_begins, session_hears, session_loads, session_looks, session_sends, session_unloads, live_piece_out, live_piece_told, live_room, live_is_ready, live_is_late, live_says}
use Rattle.fwd_session.specs.declared.told.SessionHeard.{SessionHeard}
use Rattle.fwd_session.specs.declared.told.SessionHeard.TheVariants as heard
use Rattle.fwd_book.specs.Live.{live_leaves}
use Rattle.fwd_model.specs.declared.answer.Answer.{Answer}
use Rattle.fwd_model.specs.declared.answer.Answer.TheVariants as answer
use Rattle.fwd_model.specs.declared.config.OutputConfig.{OutputConfig}
use Rattle.fwd_model.specs.declared.event.EndKind.{EndKind}
use Rattle.fwd_model.specs.declared.event.Event.TheVariants as event
use Rattle.fwd_model.specs.declared.fault.Refusal.{Refusal}
use Rattle.fwd_model.specs.declared.fault.Refusal.TheVariants.{Closed, NoSuch, NotNow, NotUp}
use Rattle.fwd_model.specs.Outcome.{Outcome, Stays, Goes, state_of, within, found, refuse_if, chunk_answer, first_of, of_heard, of_piece, ◌>>=◌, ◌>>◌}
use Rattle.fwd_model.specs.Layers.{Worker}
use Rattle.fwd_model.specs.Setups.{session_setup, setup_of}
use Rattle.fwd_model.specs.Step as steps
use Rattle.fwd_model.specs.Step.{step}
use Rattle.fwd_model.specs.Outputs.{LiveOutput, numbers_back, output_ends, output_enters, output_looks, output_settles}
use Rattle.fwd_model.specs.Live.{LiveConnection, LiveLane, LiveRelay, lives, is_above, live_source_at, with_live_connection, with_live_source, with_live_lane, with_live_worker}
use Rattle.fwd_run.specs.Runs.{Relay, Leave, lane_left, lane_moved, next, output_in, settings_in, source_in, worker_of, worker_in}

-- ---- outcomes whose checks are passed

pub past_found : {S X : Type 0} (why : Refusal) (x : Option X) (z : X) (p : X → Outcome S) → x ≡ Some z → (found x why >>= p) ≡ p z
past_found why x z p e = ap (λ y. found y why >>= p) e

pub past_check : {S : Type 0} (why : Refusal) (b : Bool) (p : Outcome S) → b ≡ false → (refuse_if b why >> p) ≡ p
past_check why b p e = ap (λ c. refuse_if c why >> p) e

one_config : {x y : OutputConfig} → Some x ≡ Some y → x ≡ y
one_config e = cc

has_room : (n : ℕ) → 0 < n → (n == 0) ≡ false
has_room n some = grind (arith, nat_tests, some)

no_more : (n m : ℕ) → m ≤ n → nat_lt n m ≡ false
no_more n m few = grind (arith, nat_tests, few)

told_not : (fault : Option SessionFault) (replies : List (List ℕ)) (before after : Bool) → told_by fault replies before after ≡ heard.NotUp → ⊥
told_not (Some f) replies before after e = cc
told_not None (reply ∷ replies) before after e = cc
told_not None [] false true e = cc
told_not None [] true true e = cc
told_not None [] true false e = cc
told_not None [] false false e = cc

-- a session that is not down hears
told_up : (s : LiveSession) (bytes : List ℕ) → s.down ≡ false → live_piece_told s bytes ≡ heard.NotUp → ⊥
told_up s bytes up e =
    let said = live_says s bytes in
    told_not said.fault said.replies (is_done s.handshake) (is_done said.handshake) (sym (ap (λ b. cond b heard.NotUp (told_of s.handshake said)) up) ∙ e)

same_test : (o : ℕ) → not (eqb o o) ≡ false
same_test o = grind (arith, nat_tests)

some_none : {X : Type 0} {x : X} → Some x ≡ None → ⊥
some_none e = cc

-- ---- where a part stands

put_here : {X : Type 0} (xs : List X) (o : ℕ) (x y : X) → slice_get xs o ≡ Some x → slice_get (set xs o y) o ≡ Some y
put_here [] o x y h = absurd cc
put_here (a ∷ xs) zero x y h = refl
put_here (a ∷ xs) (suc o) x y h = put_here xs o x y h

-- the lane of an output
pub record LaneOf (r : LiveRelay) (o : ℕ) (p : LiveOutput) : Type 0 where
  pub lane : LiveLane
  pub here : slice_get r.lanes o ≡ Some lane
  pub is : lane.output ≡ p

pub lane_of : (r : LiveRelay) (o : ℕ) (p : LiveOutput) → output_in r o ≡ Some p → LaneOf r o p
lane_of r o p at = by (slice_get r.lanes o) refl at
  where
    by : (x : Option LiveLane) → slice_get r.lanes o ≡ x → option_map (λ (l : LiveLane). l.output) x ≡ Some p → LaneOf r o p
    by None here e = absurd cc
    by (Some l) here e = record { lane = l; here = here; is = cc }

-- the lane of a worker
pub record SeatOf (r : LiveRelay) (o w : ℕ) (x : Worker LiveSession) : Type 0 where
  pub lane : LiveLane
  pub here : slice_get r.lanes o ≡ Some lane
  pub at : slice_get lane.workers w ≡ Some x

pub seat_of : (r : LiveRelay) (o w : ℕ) (x : Worker LiveSession) → worker_in r o w ≡ Some x → SeatOf r o w x
seat_of r o w x is = by (slice_get r.lanes o) refl is
  where
    by : (y : Option LiveLane) → slice_get r.lanes o ≡ y → worker_of w y ≡ Some x → SeatOf r o w x
    by None here e = absurd cc
    by (Some l) here e = record { lane = l; here = here; at = e }

-- both of one lane
pub record Stands (r : LiveRelay) (o w : ℕ) (p : LiveOutput) (x : Worker LiveSession) : Type 0 where
  pub lane : LiveLane
  pub here : slice_get r.lanes o ≡ Some lane
  pub output : lane.output ≡ p
  pub at : slice_get lane.workers w ≡ Some x

same_lane : {x y : LiveLane} → Some x ≡ Some y → x ≡ y
same_lane e = cc

pub stands : (r : LiveRelay) (o w : ℕ) (p : LiveOutput) (x : Worker LiveSession) → output_in r o ≡ Some p → worker_in r o w ≡ Some x → Stands r o w p x
stands r o w p x out his =
    let l = lane_of r o p out in
    let s = seat_of r o w x his in
    let same : s.lane ≡ l.lane = same_lane (sym s.here ∙ l.here) in
    record { lane = s.lane; here = s.here; output = ap (λ (k : LiveLane). k.output) same ∙ l.is; at = s.at }

-- what an event at a lane leads to
module _ (r : LiveRelay) (o : ℕ) (l : LiveLane) (here : slice_get r.lanes o ≡ Some l) where
  pub lane_goes : (f : LiveLane → Outcome LiveLane) (a : Answer) (m : LiveLane) → f l ≡ Goes a m
      → slice_get (state_of r (steps.at_lane lives r o f)).lanes o ≡ Some m
  lane_goes f a m goes =
      ap (λ x. slice_get (state_of r x).lanes o)
      (past_found NoSuch (slice_get r.lanes o) l (λ k. within (λ n. with_live_lane o n r) (f k)) here ∙ ap (within (λ n. with_live_lane o n r)) goes)
      ∙ put_here r.lanes o l m here

  pub own_goes : (f : LiveLane → LiveLane) → slice_get (lane_moved o f r (slice_get r.lanes o)).lanes o ≡ Some (f l)
  own_goes f = ap (λ x. slice_get (lane_moved o f r x).lanes o) here ∙ put_here r.lanes o l (f l) here

-- at a worker
worker_goes : (r : LiveRelay) (o w : ℕ) (x y : Worker LiveSession) (a : Answer) (f : LiveLane → Worker LiveSession → Outcome (Worker LiveSession)) (s : SeatOf r o w x)
    → f s.lane x ≡ Goes a y → worker_in (state_of r (steps.at_lane lives r o (λ l. steps.at_worker lives l w (f l)))) o w ≡ Some y
worker_goes r o w x y a f s goes =
    ap (worker_of w)
    (lane_goes r o s.lane s.here (λ l. steps.at_worker lives l w (f l)) a (with_live_worker s.lane w y)
    (past_found NoSuch (slice_get s.lane.workers w) x (λ z. within (with_live_worker s.lane w) (f s.lane z)) s.at ∙ ap (within (with_live_worker s.lane w)) goes))
    ∙ put_here s.lane.workers w x y s.at

-- ---- an output's events

module _ (r : LiveRelay) (o : ℕ) (p : LiveOutput) (out : output_in r o ≡ Some p) where
  pub flush_acts : (now : ℕ) (kind : FlushKind)
      → output_in (next r (Relay (event.Flush o now kind))) o ≡ Some (record p { buffer = live_flushes p.buffer now kind })
  flush_acts now kind =
      let l = lane_of r o p out in
      ap (option_map (λ (k : LiveLane). k.output)) (lane_goes r o l.lane l.here (λ l. steps.flush lives l now kind) (answer.Closed (lives.closing l.lane now kind)) (lives.flushes l.lane now kind) refl)
      ∙ ap (λ (q : LiveOutput). Some (record q { buffer = live_flushes q.buffer now kind })) l.is

  pub leave_acts : (origins : List Origin) → output_in (next r (Leave o origins)) o ≡ Some (record p { book = live_leaves p.book origins })
  leave_acts origins =
      let l = lane_of r o p out in
      ap (option_map (λ (k : LiveLane). k.output)) (own_goes r o l.lane l.here (lane_left origins)) ∙ ap (λ (u : LiveOutput). Some (record u { book = live_leaves u.book origins })) l.is

  module _ (w : ℕ) (x : Worker LiveSession) (his : worker_in r o w ≡ Some x) where
    abbrev both : Stands r o w p x
    both = stands r o w p x out his

    pub choose_acts : (now : ℕ) → output_in (next r (Relay (event.Choose o w now))) o ≡ Some (output_looks p now)
    choose_acts now =
        let l = both.lane in
        ap (option_map (λ (k : LiveLane). k.output))
        (lane_goes r o l both.here (λ l. steps.choose lives l w now) (answer.Chose (lives.chosen l w now)) (lives.watches l now) (past_found NoSuch (slice_get l.workers w) x (λ y. Goes (answer.Chose (lives.chosen l w now)) (lives.watches l now)) both.at))
        ∙ ap (λ (u : LiveOutput). Some (output_looks u now)) both.output

    -- what the worker has behind a take
    abbrev pub taking : Wanted → ℕ → Worker LiveSession
    taking wanted now = record { taken = option_map (live_carried_chunk p.buffer) (live_given_for (live_looks p.buffer now) wanted); session = x.session }

    take_leads : (wanted : Wanted) (now : ℕ) → is_some x.taken ≡ false → steps.is_full lives x.session ≡ false
        → slice_get (next r (Relay (event.Take o w now wanted))).lanes o ≡ Some (lives.takes both.lane w x wanted now)
    take_leads wanted now free room =
        let l = both.lane in
        lane_goes r o l both.here (λ l. steps.take lives l w wanted now) (chunk_answer (lives.given l wanted now)) (lives.takes l w x wanted now)
        (past_found NoSuch (slice_get l.workers w) x (λ y. refuse_if (is_some y.taken || steps.is_full lives y.session) NotNow >> Goes (chunk_answer (lives.given l wanted now)) (lives.takes l w y wanted now)) both.at
        ∙ past_check NotNow (is_some x.taken || steps.is_full lives x.session) (Goes (chunk_answer (lives.given l wanted now)) (lives.takes l w x wanted now)) (λ i. free i || room i))

    pub take_acts : (wanted : Wanted) (now : ℕ) → is_some x.taken ≡ false → steps.is_full lives x.session ≡ false
        → (output_in (next r (Relay (event.Take o w now wanted))) o ≡ Some (record p { buffer = live_takes p.buffer w wanted now }))
        × (worker_in (next r (Relay (event.Take o w now wanted))) o w ≡ Some (taking wanted now))
    take_acts wanted now free room = (
      ap (option_map (λ (k : LiveLane). k.output)) (take_leads wanted now free room) ∙ ap (λ (u : LiveOutput). Some (record u { buffer = live_takes u.buffer w wanted now })) both.output,
      ap (worker_of w) (take_leads wanted now free room)
          ∙ put_here both.lane.workers w x (record { taken = lives.given both.lane wanted now; session = x.session }) both.at
          ∙ ap (λ (u : LiveOutput). Some (record { taken = option_map (live_carried_chunk u.buffer) (live_given_for (live_looks u.buffer now) wanted); session = x.session })) both.output,
    )

    settle_leads : (s : LiveSession) (a : Accepted) → x.session ≡ Some s → first_in s.accepted ≡ Some a
        → slice_get (next r (Relay (event.Settle o w))).lanes o ≡ Some (lives.settles both.lane w (steps.with_session x (session_unloads s)) (evidence_of s.setup.server a))
    settle_leads s a has first =
        let l = both.lane in
        let last : Worker LiveSession → LiveSession → Accepted → Outcome LiveLane =
        λ x s a. Goes (answer.Settled (lives.entries_at l a.chunk.number)) (lives.settles l w (steps.with_session x (session_unloads s)) (evidence_of s.setup.server a)) in
        lane_goes r o l both.here (λ l. steps.settle lives l w) (answer.Settled (lives.entries_at l a.chunk.number)) (lives.settles l w (steps.with_session x (session_unloads s)) (evidence_of s.setup.server a))
        (past_found NoSuch (slice_get l.workers w) x (λ x. found x.session NotNow >>= (λ s. found (first_in s.accepted) NotNow >>= (λ a. last x s a))) both.at
        ∙ past_found NotNow x.session s (λ s. found (first_in s.accepted) NotNow >>= (λ a. last x s a)) has
        ∙ past_found NotNow (first_in s.accepted) a (λ a. last x s a) first)

    pub settle_acts : (s : LiveSession) (a : Accepted) → x.session ≡ Some s → first_in s.accepted ≡ Some a
        → (output_in (next r (Relay (event.Settle o w))) o ≡ Some (output_settles p (evidence_of s.setup.server a)))
        × (worker_in (next r (Relay (event.Settle o w))) o w ≡ Some (steps.with_session x (session_unloads s)))
    settle_acts s a has first = (
      ap (option_map (λ (k : LiveLane). k.output)) (settle_leads s a has first) ∙ ap (λ (u : LiveOutput). Some (output_settles u (evidence_of s.setup.server a))) both.output,
      ap (worker_of w) (settle_leads s a has first) ∙ put_here both.lane.workers w x (steps.with_session x (session_unloads s)) both.at,
    )

    end_leads : (kind : EndKind) (now : ℕ) → steps.is_idle lives x ≡ false → steps.has_acked lives x.session ≡ false
        → slice_get (next r (Relay (event.End o w kind now))).lanes o ≡ Some (lives.ends both.lane w (steps.gives_back lives x) (steps.lost_server lives kind x.session) now)
    end_leads kind now some none =
        let l = both.lane in
        let last : Worker LiveSession → Outcome LiveLane =
        λ x. Goes (answer.Ended (numbers_back (steps.gives_back lives x))) (lives.ends l w (steps.gives_back lives x) (steps.lost_server lives kind x.session) now) in
        lane_goes r o l both.here (λ l. steps.end lives l w kind now) (answer.Ended (numbers_back (steps.gives_back lives x))) (lives.ends l w (steps.gives_back lives x) (steps.lost_server lives kind x.session) now)
        (past_found NoSuch (slice_get l.workers w) x (λ x. refuse_if (steps.is_idle lives x) NotNow >> (refuse_if (steps.has_acked lives x.session) NotNow >> last x)) both.at
        ∙ past_check NotNow (steps.is_idle lives x) (refuse_if (steps.has_acked lives x.session) NotNow >> last x) some
        ∙ past_check NotNow (steps.has_acked lives x.session) (last x) none)

    pub end_acts : (kind : EndKind) (now : ℕ) → steps.is_idle lives x ≡ false → steps.has_acked lives x.session ≡ false
        → (output_in (next r (Relay (event.End o w kind now))) o ≡ Some (output_ends p (steps.gives_back lives x) (steps.lost_server lives kind x.session) now))
        × (worker_in (next r (Relay (event.End o w kind now))) o w ≡ Some (record { taken = None; session = None }))
    end_acts kind now some none = (
      ap (option_map (λ (k : LiveLane). k.output)) (end_leads kind now some none) ∙ ap (λ (u : LiveOutput). Some (output_ends u (steps.gives_back lives x) (steps.lost_server lives kind x.session) now)) both.output,
      ap (worker_of w) (end_leads kind now some none) ∙ put_here both.lane.workers w x (record { taken = None; session = None }) both.at,
    )

-- ---- a worker's own events

module _ (r : LiveRelay) (o w : ℕ) (x : Worker LiveSession) (his : worker_in r o w ≡ Some x) where
  abbrev seat : SeatOf r o w x
  seat = seat_of r o w x his

  pub up_acts : (config : OutputConfig) (server : ℕ) (salt : List ℕ) (now : ℕ) → settings_in r o ≡ Some config → nat_lt server (length config.standby) ≡ true → x.session ≡ None
      → worker_in (next r (Relay (event.Up o w server salt now))) o w ≡ Some (steps.with_session x (session_begins (session_setup config server salt now)))
  up_acts config server salt now set known free =
      let same : seat.lane.config ≡ config = one_config (ap (option_map (λ (k : LiveLane). k.config)) (sym seat.here) ∙ set) in
      let goes : steps.up lives seat.lane.config server salt now x ≡ Goes answer.Done (steps.with_session x (session_begins (session_setup seat.lane.config server salt now))) =
      past_check NoSuch (not (nat_lt server (length seat.lane.config.standby))) _ (ap (λ (k : OutputConfig). not (nat_lt server (length k.standby))) same ∙ ap not known)
      ∙ past_check NotNow (is_some x.session) (Goes answer.Done (steps.with_session x (session_begins (session_setup seat.lane.config server salt now)))) (ap is_some free) in
      worker_goes r o w x _ answer.Done (λ l. steps.up lives l.config server salt now) seat goes
      ∙ ap (λ (k : OutputConfig). Some (steps.with_session x (session_begins (session_setup k server salt now)))) same

  module _ (s : LiveSession) (has : x.session ≡ Some s) where
    pub load_acts : (c : CarriedChunk) (now : ℕ) → x.taken ≡ Some c → 0 < live_room s → live_is_ready s ≡ true
        → worker_in (next r (Relay (event.Load o w now))) o w ≡ Some (record { taken = None; session = Some (session_loads s c now) })
    load_acts c now took room ready =
        let last : LiveSession → CarriedChunk → Outcome (Worker LiveSession) =
        λ s c. Goes (answer.Frame (frame_of c)) (record { taken = None; session = Some (session_loads s c now) }) in
        worker_goes r o w x (record { taken = None; session = Some (session_loads s c now) }) (answer.Frame (frame_of c)) (λ l. steps.load lives now) seat
        (past_found NotNow x.session s (λ s. found x.taken NotNow >>= (λ c. refuse_if (live_room s == 0) NotNow >> (refuse_if (not (live_is_ready s)) NotUp >> last s c))) has
        ∙ past_found NotNow x.taken c (λ c. refuse_if (live_room s == 0) NotNow >> (refuse_if (not (live_is_ready s)) NotUp >> last s c)) took
        ∙ past_check NotNow (live_room s == 0) (refuse_if (not (live_is_ready s)) NotUp >> last s c) (has_room (live_room s) room)
        ∙ past_check NotUp (not (live_is_ready s)) (last s c) (ap not ready))

    session_goes : (f : LiveSession → Outcome LiveSession) (a : Answer) (t : LiveSession) → f s ≡ Goes a t
        → worker_in (state_of r (steps.at_lane lives r o (λ l. steps.at_worker lives l w (λ x. steps.at_session lives x f)))) o w ≡ Some (steps.with_session x t)
    session_goes f a t goes =
        worker_goes r o w x (steps.with_session x t) a (λ l x. steps.at_session lives x f) seat
        (past_found NotNow x.session s (λ s. within (steps.with_session x) (f s)) has ∙ ap (within (steps.with_session x)) goes)

    pub wrote_acts : (count : ℕ) → count ≤ length s.waiting
        → worker_in (next r (Relay (event.Wrote o w count))) o w ≡ Some (steps.with_session x (session_sends s count))
    wrote_acts count few =
        session_goes (steps.wrote lives count) answer.Done (session_sends s count) (past_check NotNow (nat_lt (length s.waiting) count) (Goes answer.Done (session_sends s count)) (no_more (length s.waiting) count few))

    pub late_acts : (now : ℕ) → s.down ≡ false → worker_in (next r (Relay (event.Late o w now))) o w ≡ Some (steps.with_session x (session_looks s now))
    late_acts now up =
        session_goes (steps.late lives now) (answer.Late (live_is_late s now)) (session_looks s now) (past_check NotUp s.down (Goes (answer.Late (live_is_late s now)) (session_looks s now)) up)

    pub heard_acts : (bytes : List ℕ) → s.down ≡ false → worker_in (next r (Relay (event.Heard o w bytes))) o w ≡ Some (steps.with_session x (session_hears s bytes))
    heard_acts bytes up = by (live_piece_told s bytes) refl (told_up s bytes up)
      where
        goes : (told : SessionHeard) (a : Answer) → live_piece_told s bytes ≡ told
            → of_heard told (live_piece_out s bytes) (session_hears s bytes) ≡ Goes a (session_hears s bytes)
            → worker_in (next r (Relay (event.Heard o w bytes))) o w ≡ Some (steps.with_session x (session_hears s bytes))
        goes told a is ok = session_goes (steps.heard lives bytes) a (session_hears s bytes) (ap (λ (k : SessionHeard). of_heard k (live_piece_out s bytes) (session_hears s bytes)) is ∙ ok)

        by : (told : SessionHeard) → live_piece_told s bytes ≡ told → (told ≡ heard.NotUp → ⊥)
            → worker_in (next r (Relay (event.Heard o w bytes))) o w ≡ Some (steps.with_session x (session_hears s bytes))
        by heard.NotUp is up = absurd (up refl)
        by heard.Quiet is up = goes heard.Quiet (answer.Quiet (live_piece_out s bytes)) is refl
        by heard.Ready is up = goes heard.Ready (answer.Ready (live_piece_out s bytes)) is refl
        by heard.Acked is up = goes heard.Acked (answer.Acked (live_piece_out s bytes)) is refl
        by (heard.Fault f) is up = goes (heard.Fault f) (answer.SessionFaulted f) is refl

-- a worker without a session is not late
pub late_rests : (r : LiveRelay) (o w : ℕ) (his : worker_in r o w ≡ Some (record { taken = None; session = None })) (now : ℕ)
    → worker_in (next r (Relay (event.Late o w now))) o w ≡ Some (record { taken = None; session = None })
late_rests r o w his now =
    let x : Worker LiveSession = record { taken = None; session = None } in
    let s = seat_of r o w x his in
    let f : LiveLane → Outcome LiveLane = λ l. steps.at_worker lives l w (λ x. steps.at_session lives x (steps.late lives now)) in
    let rests : f s.lane ≡ Stays (answer.Refused NotNow) = past_found NoSuch (slice_get s.lane.workers w) x (λ z. within (with_live_worker s.lane w) (steps.at_session lives z (steps.late lives now))) s.at in
    ap (λ y. worker_in (state_of r y) o w)
    (past_found NoSuch (slice_get r.lanes o) s.lane (λ k. within (λ n. with_live_lane o n r) (f k)) s.here ∙ ap (within (λ n. with_live_lane o n r)) rests)
    ∙ his

-- ---- connections

module _ (r : LiveRelay) (id : ℕ) (s : LiveSource) (known : source_in r id ≡ Some s) where
  put_source : (cs : List LiveConnection) (t : LiveSource) → live_source_at id cs ≡ Some s → live_source_at id (with_live_source id t cs) ≡ Some t
  put_source [] t at = absurd cc
  put_source (c ∷ cs) t at = by (put_source cs t) (c.id == id) refl
    where
      by : (live_source_at id cs ≡ Some s → live_source_at id (with_live_source id t cs) ≡ Some t) → (b : Bool) → (c.id == id) ≡ b
          → live_source_at id (with_live_source id t (c ∷ cs)) ≡ Some t
      by rest true is = grind (arith, nat_tests, is)
      by rest false is = grind (arith, nat_tests, is, rest (sym (ap (λ b. cond b (Some c.source) (live_source_at id cs)) is) ∙ at))

  source_goes : (f : LiveSource → Outcome LiveSource) (a : Answer) (t : LiveSource) → f s ≡ Goes a t
      → source_in (state_of r (steps.at_source lives r id f)) id ≡ Some t
  source_goes f a t goes =
      ap (λ x. source_in (state_of r x) id)
      (past_found NoSuch (source_in r id) s (λ k. within (λ u. with_live_connection id u r) (f k)) known ∙ ap (within (λ u. with_live_connection id u r)) goes)
      ∙ put_source r.connections t known

  pub piece_acts : (bytes : List ℕ) → s.closed ≡ false → source_in (next r (Relay (event.Piece id bytes))) id ≡ Some (source_hears s bytes)
  piece_acts bytes stands = by (judged_piece s bytes).fault refl
    where
      answered : live_piece_answer s bytes ≡ told_of_piece (judged_piece s bytes).fault (length (s.waiting ++ (judged_piece s bytes).requests))
      answered = ap (λ b. cond b pieces.Closed (told_of_piece (judged_piece s bytes).fault (length (s.waiting ++ (judged_piece s bytes).requests)))) stands

      go : (a : Answer) → of_piece (live_piece_answer s bytes) (length (lives.waiting (source_hears s bytes))) (live_source_out s bytes) (source_hears s bytes) ≡ Goes a (source_hears s bytes)
          → source_in (next r (Relay (event.Piece id bytes))) id ≡ Some (source_hears s bytes)
      go a is = source_goes (λ s. steps.piece lives s bytes) a (source_hears s bytes) is

      by : (fault : Option SourceFault) → (judged_piece s bytes).fault ≡ fault → source_in (next r (Relay (event.Piece id bytes))) id ≡ Some (source_hears s bytes)
      by None is = go _ (ap (λ k. of_piece k (length (lives.waiting (source_hears s bytes))) (live_source_out s bytes) (source_hears s bytes)) (answered ∙ ap (λ f. told_of_piece f (length (s.waiting ++ (judged_piece s bytes).requests))) is))
      by (Some f) is = go _ (ap (λ k. of_piece k (length (lives.waiting (source_hears s bytes))) (live_source_out s bytes) (source_hears s bytes)) (answered ∙ ap (λ f. told_of_piece f (length (s.waiting ++ (judged_piece s bytes).requests))) is))

  -- a piece comes: a closed connection refuses it
  pub piece_comes : (bytes : List ℕ) → source_in (next r (Relay (event.Piece id bytes))) id ≡ Some (live_piece_next s bytes)
  piece_comes bytes = by s.closed refl
    where
      closed : s.closed ≡ true → source_in (next r (Relay (event.Piece id bytes))) id ≡ Some s
      closed is =
          let rests : steps.piece lives s bytes ≡ Stays (answer.Refused Closed) =
          ap (λ b. of_piece (cond b pieces.Closed (told_of_piece (judged_piece s bytes).fault (length (s.waiting ++ (judged_piece s bytes).requests)))) (length (lives.waiting (lives.hears s bytes))) (live_source_out s bytes) (lives.hears s bytes)) is in
          ap (λ x. source_in (state_of r x) id)
          (past_found NoSuch (source_in r id) s (λ k. within (λ u. with_live_connection id u r) (steps.piece lives k bytes)) known ∙ ap (within (λ u. with_live_connection id u r)) rests)
          ∙ known

      by : (b : Bool) → s.closed ≡ b → source_in (next r (Relay (event.Piece id bytes))) id ≡ Some (live_piece_next s bytes)
      by true is = closed is ∙ ap (λ b. Some (cond b s (source_hears s bytes))) (sym is)
      by false is = piece_acts bytes is ∙ ap (λ b. Some (cond b s (source_hears s bytes))) (sym is)

  pub nothing_drained : source_in (next r (Relay (event.Drained id 0))) id ≡ Some s
  nothing_drained =
      source_goes (λ s. steps.drained lives s 0) answer.Done (lives.drains s 0) (past_check NotNow (nat_lt (length s.unsent) 0) (Goes answer.Done (lives.drains s 0)) (grind (arith, nat_tests)))

  -- the first request that waits enters an output
  module _ (o : ℕ) (p : LiveOutput) (out : output_in r o ≡ Some p) where
    abbrev its : LaneOf r o p
    its = lane_of r o p out

    admit_leads : (q : Request) (now : ℕ) → first_of s.waiting ≡ Some q → route r.routes q.tag ≡ Some o → live_refusal p.buffer q now ≡ None
        → state_of r (step lives r (event.Admit id o now))
        ≡ with_live_lane o (lives.enters its.lane (record { conn = id; request = s.admitted + 1 }) q now) (with_live_connection id (source_gives s) r)
    admit_leads q now first here room =
        let l = its.lane in
        let origin : Origin = record { conn = id; request = s.admitted + 1 } in
        let put : LiveSource × LiveLane → LiveRelay = λ two. with_live_lane o two.1 (with_live_connection id two.0 r) in
        let unless : Option AdmitError → Outcome (LiveSource × LiveLane) = λ fault. steps.enter_unless lives fault s q origin l now in
        let goes : steps.admit lives r.routes id o now s l ≡ Goes (answer.Admitted (s.admitted + 1) (length q.entries)) (source_gives s, lives.enters l origin q now) =
        past_found NotNow (first_of s.waiting) q (λ q. steps.routed lives (route r.routes q.tag) s q id o l now) first
        ∙ ap (λ to. steps.routed lives to s q id o l now) here
        ∙ past_check NotNow (not (eqb o o)) (steps.enter lives s q id l now) (same_test o)
        ∙ ap unless (ap (λ (u : LiveOutput). live_refusal u.buffer q now) its.is ∙ room) in
        ap (state_of r)
        (past_found NoSuch (source_in r id) s (λ s. found (slice_get r.lanes o) NoSuch >>= (λ l. within put (steps.admit lives r.routes id o now s l))) known
        ∙ past_found NoSuch (slice_get r.lanes o) l (λ l. within put (steps.admit lives r.routes id o now s l)) its.here
        ∙ ap (within put) goes)

    pub admit_acts : (q : Request) (now : ℕ) → first_of s.waiting ≡ Some q → route r.routes q.tag ≡ Some o → live_refusal p.buffer q now ≡ None
        → (output_in (next r (Relay (event.Admit id o now))) o ≡ Some (output_enters p (record { conn = id; request = s.admitted + 1 }) q now))
        × (source_in (next r (Relay (event.Admit id o now))) id ≡ Some (source_gives s))
    admit_acts q now first here room =
        let origin : Origin = record { conn = id; request = s.admitted + 1 } in (
          ap (λ x. output_in x o) (admit_leads q now first here room)
              ∙ ap (option_map (λ (k : LiveLane). k.output)) (put_here r.lanes o its.lane (lives.enters its.lane origin q now) its.here)
              ∙ ap (λ (u : LiveOutput). Some (output_enters u origin q now)) its.is,
          ap (λ x. source_in x id) (admit_leads q now first here room) ∙ put_source r.connections (source_gives s) known,
        )

-- a connection comes, under an id that nobody has had
pub accept_acts : (r : LiveRelay) (id : ℕ) (nonce auth : List ℕ) → is_above id r.last ≡ true → source_in r id ≡ None
    → (source_in (next r (Relay (event.Accept id nonce auth))) id ≡ Some (opened_source (setup_of r.security r.limits id nonce auth)))
    × ((next r (Relay (event.Accept id nonce auth))).last ≡ Some id)
accept_acts r id nonce auth fresh none =
    let setup = setup_of r.security r.limits id nonce auth in
    let leads : state_of r (step lives r (event.Accept id nonce auth)) ≡ lives.accepts r setup =
    ap (state_of r) (past_check NotNow (not (is_above id r.last)) _ (ap not fresh)) in (
      ap (λ x. source_in x id) leads ∙ comes r.connections (opened_source setup) none,
      ap (λ (x : LiveRelay). x.last) leads,
    )
  where
    comes : (cs : List LiveConnection) (t : LiveSource) → live_source_at id cs ≡ None → live_source_at id (cs ++ record { id = id; source = t } ∷ []) ≡ Some t
    comes [] t none = grind (arith, nat_tests)
    comes (c ∷ cs) t none = by (comes cs t) (c.id == id) refl
      where
        by : (live_source_at id cs ≡ None → live_source_at id (cs ++ record { id = id; source = t } ∷ []) ≡ Some t) → (b : Bool) → (c.id == id) ≡ b
            → live_source_at id ((c ∷ cs) ++ record { id = id; source = t } ∷ []) ≡ Some t
        by rest true is = absurd (some_none (sym (ap (λ b. cond b (Some c.source) (live_source_at id cs)) is) ∙ none))
        by rest false is =
            ap (λ b. cond b (Some c.source) (live_source_at id (cs ++ record { id = id; source = t } ∷ []))) is
            ∙ rest (sym (ap (λ b. cond b (Some c.source) (live_source_at id cs)) is) ∙ none)
