-- An event that is refused leaves the state as it was: what it goes on to is answered otherwise,
-- whatever the layers are.
use Rattle.std.proofs.Common.{◌≡◌, ℕ, ◌+◌, true, false, List, length, Option, Some, None, refl}
use Rattle.std.specs.Prelude.{not, is_some, ◌||◌, nat_lt, ◌==◌}
use Rattle.fwd_modes.specs.Requests.{Request}
use Rattle.fwd_match.specs.Patterns.{route}
use Rattle.fwd_source.specs.declared.piece.Piece.{Piece}
use Rattle.fwd_source.specs.declared.piece.Piece.TheVariants as verdict
use Rattle.fwd_source.specs.History.{Setup, opening_text}
use Rattle.fwd_chunks.specs.declared.wanted.Wanted.{Wanted}
use Rattle.fwd_chunks.specs.declared.fault.AdmitError.{AdmitError}
use Rattle.fwd_chunks.specs.declared.fault.AdmitError.TheVariants.{Full, NumbersSpent, Memory}
use Rattle.fwd_chunks.specs.History.{CarriedChunk}
use Rattle.fwd_modes.specs.declared.origin.Origin.{Origin}
use Rattle.fwd_model.specs.declared.event.Event.{Event}
use Rattle.fwd_model.specs.declared.event.Event.TheVariants as event
use Rattle.fwd_model.specs.declared.answer.Answer.{Answer}
use Rattle.fwd_model.specs.declared.answer.Answer.TheVariants as answer
use Rattle.fwd_model.specs.declared.fault.Refusal.TheVariants.{Closed, NoSuch, NotNow, NotUp}
use Rattle.fwd_session.specs.declared.told.SessionHeard.{SessionHeard}
use Rattle.fwd_session.specs.declared.told.SessionHeard.TheVariants as heard_as
use Rattle.fwd_session.specs.ServerAcks.{frame_of}
use Rattle.fwd_model.specs.declared.config.OutputConfig.{OutputConfig}
use Rattle.fwd_model.specs.declared.event.EndKind.{EndKind}
use Rattle.fwd_model.specs.Outcome.{Outcome, Stays, Goes, answer_of, state_of, is_refusal, of_piece, of_heard, first_of, chunk_answer}
use Rattle.fwd_model.specs.Layers.{Worker, Layers}
use Rattle.fwd_model.specs.Step as steps
use Rattle.fwd_model.specs.Step.{step}
use Rattle.fwd_model.specs.Setups.{setup_of}
use Rattle.fwd_model.specs.Outputs.{numbers_back}
use Rattle.fwd_model.proofs.Onward.{Onward, to, past, past_found, source_on, lane_on, both_on, worker_on, session_on}

-- what is gone on to is no refusal
abbrev Answered : {S : Type 0} → Answer → S → Type 0
Answered a s = is_refusal a ≡ false

chunk_counts : (c : Option CarriedChunk) → is_refusal (chunk_answer c) ≡ false
chunk_counts None = refl
chunk_counts (Some c) = refl

heard_counts : {S : Type 0} (told : SessionHeard) (out : List ℕ) (s : S)
    → Onward Answered (of_heard told out s)
heard_counts heard_as.NotUp out s = record { holds = tt }
heard_counts heard_as.Quiet out s = to refl
heard_counts heard_as.Ready out s = to refl
heard_counts heard_as.Acked out s = to refl
heard_counts (heard_as.Fault why) out s = to refl

piece_counts : {S : Type 0} (p : Piece) (count : ℕ) (out : List ℕ) (s : S)
    → Onward Answered (of_piece p count out s)
piece_counts verdict.Closed count out s = record { holds = tt }
piece_counts (verdict.Waiting n) count out s = to refl
piece_counts (verdict.Fault f) count out s = to refl

module _ (L : Layers) where
  drained_counts : (s : L.Source) (count : ℕ) → Onward Answered (steps.drained L s count)
  drained_counts s count = past NotNow {b = nat_lt (length (L.unsent s)) count} (λ few. to {a = answer.Done} refl)

  enter_counts : (fault : Option AdmitError) (s : L.Source) (q : Request) (origin : Origin)
      (l : L.Lane) (now : ℕ)
      → Onward Answered (steps.enter_unless L fault s q origin l now)
  enter_counts None s q origin l now = to refl
  enter_counts (Some Full) s q origin l now = to refl
  enter_counts (Some NumbersSpent) s q origin l now = to refl
  enter_counts (Some Memory) s q origin l now = record { holds = tt }

  routed_counts : (first : Option ℕ) (s : L.Source) (q : Request) (id o : ℕ) (l : L.Lane) (now : ℕ)
      → Onward Answered (steps.routed L first s q id o l now)
  routed_counts None s q id o l now = to refl
  routed_counts (Some first) s q id o l now =
      past NotNow {b = not (first == o)} (λ this. enter_counts (L.refusal l (record { conn = id; request = L.admitted s + 1 }) q now) s q (record { conn = id; request = L.admitted s + 1 }) l now)

  admit_counts : (patterns : List (List (List ℕ))) (id o now : ℕ) (s : L.Source) (l : L.Lane)
      → Onward Answered (steps.admit L patterns id o now s l)
  admit_counts patterns id o now s l = past_found NotNow {x = first_of (L.waiting s)} (λ q first. routed_counts (route patterns q.tag) s q id o l now)

  collect_counts : (id : ℕ) (s : L.Source) (l : L.Lane) → Onward Answered (steps.collect L id s l)
  collect_counts id s l = past Closed {b = L.is_shut s} (λ up. to refl)

  choose_counts : (l : L.Lane) (w now : ℕ) → Onward Answered (steps.choose L l w now)
  choose_counts l w now = past_found NoSuch {x = L.worker_at l w} (λ x at. to {a = answer.Chose (L.chosen l w now)} refl)

  up_counts : (c : OutputConfig) (server : ℕ) (salt : List ℕ) (now : ℕ) (x : Worker L.Session)
      → Onward Answered (steps.up L c server salt now x)
  up_counts c server salt now x = past NoSuch {b = not (nat_lt server (length c.standby))} (λ known. past NotNow {b = is_some x.session} (λ none. to {a = answer.Done} refl))

  take_counts : (l : L.Lane) (w : ℕ) (wanted : Wanted) (now : ℕ)
      → Onward Answered (steps.take L l w wanted now)
  take_counts l w wanted now = past_found NoSuch {x = L.worker_at l w} (λ x at. past NotNow {b = is_some x.taken || steps.is_full L x.session} (λ none. to {a = chunk_answer (L.given l wanted now)} (chunk_counts (L.given l wanted now))))

  load_counts : (now : ℕ) (x : Worker L.Session) → Onward Answered (steps.load L now x)
  load_counts now x =
      past_found NotNow {x = x.session} (λ s f. past_found NotNow {x = x.taken} (λ c g. past NotNow {b = L.room s == 0} (λ some. past NotUp {b = not (L.is_ready s)} (λ up. to {a = answer.Frame (frame_of c)} refl))))

  wrote_counts : (count : ℕ) (s : L.Session) → Onward Answered (steps.wrote L count s)
  wrote_counts count s = past NotNow {b = nat_lt (length (L.to_send s)) count} (λ few. to {a = answer.Done} refl)

  late_counts : (now : ℕ) (s : L.Session) → Onward Answered (steps.late L now s)
  late_counts now s = past NotUp {b = L.is_down s} (λ up. to {a = answer.Late (L.is_late s now)} refl)

  end_counts : (l : L.Lane) (w : ℕ) (kind : EndKind) (now : ℕ)
      → Onward Answered (steps.end L l w kind now)
  end_counts l w kind now = past_found NoSuch {x = L.worker_at l w} (λ x at. past NotNow {b = steps.is_idle L x} (λ some. past NotNow {b = steps.has_acked L x.session} (λ none. to {a = answer.Ended (numbers_back (steps.gives_back L x))} refl)))

  settle_counts : (l : L.Lane) (w : ℕ) → Onward Answered (steps.settle L l w)
  settle_counts l w = past_found NoSuch {x = L.worker_at l w} (λ x at. past_found NotNow {x = x.session} (λ s f. past_found NotNow {x = L.acked s} (λ a acked. to {a = answer.Settled (L.entries_at l a.chunk.number)} refl)))

  accept_counts : (r : L.Relay) (setup : Setup) → Onward Answered (steps.accept L r setup)
  accept_counts r setup = past NotNow {b = not (L.is_fresh r setup.conn)} (λ fresh. to {a = answer.Accepted (opening_text setup)} refl)

  event_counts : (r : L.Relay) (e : Event) → Onward Answered (step L r e)
  event_counts r (event.Accept id nonce auth) = accept_counts r (setup_of (L.security r) (L.limits r) id nonce auth)
  event_counts r (event.Piece id bytes) = source_on L r id Answered _ (λ s here. piece_counts (L.piece_answer s bytes) (length (L.waiting (L.hears s bytes))) (L.pong s bytes) (L.hears s bytes))
  event_counts r (event.Admit id o now) = both_on L r id o Answered _ (λ s l here lane. admit_counts (L.routes r) id o now s l)
  event_counts r (event.Flush o now kind) = lane_on L r o Answered (λ l. steps.flush L l now kind) (λ l here. to refl)
  event_counts r (event.Up o w server salt now) = lane_on L r o Answered _ (λ l here. worker_on L l w Answered _ (λ x at. up_counts (L.config l) server salt now x))
  event_counts r (event.Choose o w now) = lane_on L r o Answered _ (λ l here. choose_counts l w now)
  event_counts r (event.Take o w now wanted) = lane_on L r o Answered _ (λ l here. take_counts l w wanted now)
  event_counts r (event.Load o w now) = lane_on L r o Answered _ (λ l here. worker_on L l w Answered _ (λ x at. load_counts now x))
  event_counts r (event.Wrote o w count) = lane_on L r o Answered _ (λ l here. worker_on L l w Answered _ (λ x at. session_on L x Answered _ (λ s f. wrote_counts count s)))
  event_counts r (event.Heard o w bytes) = lane_on L r o Answered _ (λ l here. worker_on L l w Answered _ (λ x at. session_on L x Answered _ (λ s f. heard_counts (L.told s bytes) (L.ping s bytes) (L.listens s bytes))))
  event_counts r (event.Late o w now) = lane_on L r o Answered _ (λ l here. worker_on L l w Answered _ (λ x at. session_on L x Answered _ (λ s f. late_counts now s)))
  event_counts r (event.End o w kind now) = lane_on L r o Answered _ (λ l here. end_counts l w kind now)
  event_counts r (event.Settle o w) = lane_on L r o Answered _ (λ l here. settle_counts l w)
  event_counts r (event.Collect id o) = both_on L r id o Answered _ (λ s l here lane. collect_counts id s l)
  event_counts r (event.Forget id o) = lane_on L r o Answered (λ l. steps.forget L l id) (λ l here. to refl)
  event_counts r (event.Drained id count) = source_on L r id Answered _ (λ s here. drained_counts s count)
  -- a connection is shut, or nothing changes
  event_counts r e = search (past_found)

stays_by : {S : Type 0} (before : S) (x : Outcome S) → Onward Answered x
    → is_refusal (answer_of x) ≡ true → state_of before x ≡ before
stays_by before (Stays a) counts e = refl
stays_by before (Goes a s) counts e = let no : is_refusal a ≡ false = counts.holds in absurd cc

pub refused_stays : (L : Layers) (r : L.Relay) (e : Event)
    → is_refusal (answer_of (step L r e)) ≡ true → state_of r (step L r e) ≡ r
refused_stays L r e h = stays_by r (step L r e) (event_counts L r e) h
