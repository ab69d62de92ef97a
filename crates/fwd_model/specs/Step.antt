-- What one event does to a relay. It is said once, over any layers: the history of all that came,
-- or what of it still matters. Each event reads from the top: its checks in their order, and then
-- its answer and what it changes.
use Rattle.std.specs.Prelude.{
  ℕ,
  ◌+◌,
  Bool,
  true,
  false,
  not,
  ◌&&◌,
  ◌||◌,
  List,
  [],
  ◌∷◌,
  length,
  Option,
  Some,
  None,
  is_some,
  nat_lt,
  ◌==◌,
  if◌then◌else◌,
}
use Rattle.fwd_modes.specs.Requests.{Request}
use Rattle.fwd_match.specs.Patterns.{route}
use Rattle.fwd_modes.specs.declared.origin.Origin.{Origin}
use Rattle.fwd_source.specs.History.{Setup, opening_text}
use Rattle.fwd_model.specs.declared.event.Event.{Event}
use Rattle.fwd_model.specs.declared.event.Event.TheVariants as event
use Rattle.fwd_chunks.specs.declared.fault.AdmitError.{AdmitError}
use Rattle.fwd_chunks.specs.declared.flush.FlushKind.{FlushKind}
use Rattle.fwd_chunks.specs.declared.wanted.Wanted.{Wanted}
use Rattle.fwd_chunks.specs.History.{CarriedChunk}
use Rattle.fwd_session.specs.ServerAcks.{evidence_of, frame_of}
use Rattle.fwd_model.specs.declared.config.OutputConfig.{OutputConfig}
use Rattle.fwd_model.specs.declared.event.EndKind.{EndKind}
use Rattle.fwd_model.specs.declared.event.EndKind.TheVariants.{Kept, Lost}
use Rattle.fwd_model.specs.declared.answer.Answer.{Answer}
use Rattle.fwd_model.specs.declared.answer.Answer.TheVariants as answer
use Rattle.fwd_model.specs.declared.fault.Refusal.TheVariants.{Closed, NoSuch, NotNow, NotUp}
use Rattle.fwd_model.specs.Outcome.{
  Outcome,
  Goes,
  answer_of,
  state_of,
  within,
  ◌>>=◌,
  ◌>>◌,
  found,
  refuse_if,
  of_piece,
  of_heard,
  of_fault,
  first_of,
  chunk_answer,
}
use Rattle.fwd_model.specs.Layers.{Worker, Layers}
use Rattle.fwd_model.specs.Setups.{setup_of, session_setup}
use Rattle.fwd_model.specs.Outputs.{Return, returned, numbers_back}

-- the worker with this session
abbrev pub with_session : {S : Type 0} → Worker S → S → Worker S
with_session x s = record { taken = x.taken; session = Some s }

-- the worker whose chunk went into this session
abbrev pub with_loaded : {S : Type 0} → S → Worker S
with_loaded s = record { taken = None; session = Some s }

-- the session was lost with its link
abbrev pub is_lost : EndKind → Bool
is_lost Kept = false
is_lost Lost = true

module _ (L : Layers) where
  open L use {
    Relay,
    Source,
    Lane,
    Session,
    run,
    routes,
    security,
    limits,
    is_fresh,
    source_at,
    lane_at,
    accepts,
    leaves,
    puts_source,
    puts_lane,
    is_shut,
    waiting,
    admitted,
    unsent,
    piece_answer,
    pong,
    hears,
    gives,
    appends,
    drains,
    shuts,
    config,
    refusal,
    closing,
    given,
    entries_at,
    due,
    owed,
    worker_at,
    enters,
    flushes,
    chosen,
    watches,
    takes,
    settles,
    ends,
    tells,
    forgets,
    puts_worker,
    begins,
    server,
    unacknowledged,
    acked,
    room,
    is_greeted,
    is_ready,
    is_down,
    is_late,
    to_send,
    told,
    ping,
    loads,
    sends,
    listens,
    looks,
    unloads,
  }

  -- at the connection of this id
  abbrev pub at_source : Relay → ℕ → (Source → Outcome Source) → Outcome Relay
  at_source r id event = do
    s ← found (source_at r id) NoSuch
    within (puts_source r id) (event s)

  -- at the output of this number
  abbrev pub at_lane : Relay → ℕ → (Lane → Outcome Lane) → Outcome Relay
  at_lane r o event = do
    l ← found (lane_at r o) NoSuch
    within (puts_lane r o) (event l)

  -- at a connection and an output
  abbrev pub at_both : Relay → ℕ → ℕ → (Source → Lane → Outcome (Source × Lane))
      → Outcome Relay
  at_both r id o event = do
    s ← found (source_at r id) NoSuch
    l ← found (lane_at r o) NoSuch
    within (λ both. puts_lane (puts_source r id both.0) o both.1) (event s l)

  -- at a worker of the output
  abbrev pub at_worker : Lane → ℕ → (Worker Session → Outcome (Worker Session))
      → Outcome Lane
  at_worker l w event = do
    x ← found (worker_at l w) NoSuch
    within (puts_worker l w) (event x)

  -- at the worker's session
  abbrev pub at_session : Worker Session → (Session → Outcome Session)
      → Outcome (Worker Session)
  at_session x event = do
    s ← found x.session NotNow
    within (with_session x) (event s)

  -- ---- connections

  -- a connection comes, under an id above every earlier one; HELO is written at once, where a
  -- shared key is set
  abbrev pub accept : Relay → Setup → Outcome Relay
  accept r setup = do
    refuse_if (not (is_fresh r setup.conn)) NotNow
    Goes (answer.Accepted (opening_text setup)) (accepts r setup)

  -- bytes are read from it
  abbrev pub piece : Source → List ℕ → Outcome Source
  piece s bytes =
      of_piece (piece_answer s bytes) (length (waiting (hears s bytes)))
      (pong s bytes) (hears s bytes)

  -- its link took some of the bytes that wait to be sent
  abbrev pub drained : Source → ℕ → Outcome Source
  drained s count = do
    refuse_if (nat_lt (length (unsent s)) count) NotNow
    Goes answer.Done (drains s count)

  -- it is known no more; its id stays used, and what it asked for stands
  abbrev pub shut : Relay → ℕ → Outcome Relay
  shut r id = do
    s ← found (source_at r id) NoSuch
    Goes answer.Done (leaves r id)

  -- ---- a connection and an output

  -- a request's entries go into chunks; where the output has no place for them, its source is
  -- shut
  abbrev pub enter_unless : Option AdmitError → Source → Request → Origin → Lane → ℕ
      → Outcome (Source × Lane)
  enter_unless (Some fault) s q origin l now = of_fault fault (shuts s, l)
  enter_unless None s q origin l now =
      Goes (answer.Admitted origin.request (length q.entries)) (gives s, enters l origin q now)

  -- a request is the next one of its connection
  abbrev pub enter : Source → Request → ℕ → Lane → ℕ → Outcome (Source × Lane)
  enter s q id l now =
      let origin : Origin = record { conn = id; request = admitted s + 1 } in
      enter_unless (refusal l origin q now) s q origin l now

  -- a request goes to the first output whose pattern matches its tag, and to no other; where none
  -- does, its source is shut
  abbrev pub routed : Option ℕ → Source → Request → ℕ → ℕ → Lane → ℕ
      → Outcome (Source × Lane)
  routed None s q id o l now = Goes answer.NoRoute (shuts s, l)
  routed (Some first) s q id o l now = do
    refuse_if (not (first == o)) NotNow
    enter s q id l now

  -- the first request that waits goes to the output
  abbrev pub admit : List (List (List ℕ)) → ℕ → ℕ → ℕ → Source → Lane
      → Outcome (Source × Lane)
  admit patterns id o now s l = do
    q ← found (first_of (waiting s)) NotNow
    routed (route patterns q.tag) s q id o l now

  -- the connection is told of its requests whose entries are all acknowledged
  abbrev pub collect : ℕ → Source → Lane → Outcome (Source × Lane)
  collect id s l = do
    refuse_if (is_shut s) Closed
    Goes (answer.Told (due l id).numbers (due l id).acks)
        (appends s (due l id).acks, tells l id)

  -- ---- an output and its workers

  -- nobody is to be told of a connection's requests any more; their entries stay
  abbrev pub forget : Lane → ℕ → Outcome Lane
  forget l id = Goes (answer.Forgot (owed l id)) (forgets l id)

  -- open numbers are closed
  abbrev pub flush : Lane → ℕ → FlushKind → Outcome Lane
  flush l now kind = Goes (answer.Closed (closing l now kind)) (flushes l now kind)

  -- which server a worker is to try; the moment has grown either way
  abbrev pub choose : Lane → ℕ → ℕ → Outcome Lane
  choose l w now = do
    x ← found (worker_at l w) NoSuch
    Goes (answer.Chose (chosen l w now)) (watches l now)

  -- a worker's session with a server begins
  abbrev pub up : OutputConfig → ℕ → List ℕ → ℕ → Worker Session → Outcome (Worker Session)
  up c server salt now x = do
    refuse_if (not (nat_lt server (length c.standby))) NoSuch
    refuse_if (is_some x.session) NotNow
    Goes answer.Done (with_session x (begins (session_setup c server salt now)))

  -- its session has as many chunks as it may have
  abbrev pub is_full : Option Session → Bool
  is_full None = false
  is_full (Some s) = room s == 0

  -- a worker takes the least number that is free for what it wants, if there is one; the moment has
  -- grown either way
  abbrev pub take : Lane → ℕ → Wanted → ℕ → Outcome Lane
  take l w wanted now = do
    x ← found (worker_at l w) NoSuch
    refuse_if (is_some x.taken || is_full x.session) NotNow
    Goes (chunk_answer (given l wanted now)) (takes l w x wanted now)

  -- the chunk that a worker took is put into its session
  abbrev pub load : ℕ → Worker Session → Outcome (Worker Session)
  load now x = do
    s ← found x.session NotNow
    c ← found x.taken NotNow
    refuse_if (room s == 0) NotNow
    refuse_if (not (is_ready s)) NotUp
    Goes (answer.Frame (frame_of c)) (with_loaded (loads s c now))

  -- a session's link took some of the bytes that wait to be sent
  abbrev pub wrote : ℕ → Session → Outcome Session
  wrote count s = do
    refuse_if (nat_lt (length (to_send s)) count) NotNow
    Goes answer.Done (sends s count)

  -- bytes are read from a session's link
  abbrev pub heard : List ℕ → Session → Outcome Session
  heard bytes s = of_heard (told s bytes) (ping s bytes) (listens s bytes)

  -- it is asked whether a session is late; if it is, it is down
  abbrev pub late : ℕ → Session → Outcome Session
  late now s = do
    refuse_if (is_down s) NotUp
    Goes (answer.Late (is_late s now)) (looks s now)

  -- of a worker's acknowledged chunks the one that was accepted first leaves the output, and its
  -- server's losses count no more
  abbrev pub settle : Lane → ℕ → Outcome Lane
  settle l w = do
    x ← found (worker_at l w) NoSuch
    s ← found x.session NotNow
    a ← found (acked s) NotNow
    Goes (answer.Settled (entries_at l a.chunk.number))
        (settles l w (with_session x (unloads s)) (evidence_of (server s) a))

  -- the worker took no chunk that it did not load, and has no session
  abbrev pub is_idle : Worker Session → Bool
  is_idle x = not (is_some x.taken) && not (is_some x.session)

  -- a chunk of its is acknowledged, and not settled
  abbrev pub has_acked : Option Session → Bool
  has_acked None = false
  has_acked (Some s) = is_some (acked s)

  -- the chunks that were loaded and are not acknowledged
  abbrev pub unacknowledged_of : Option Session → List CarriedChunk
  unacknowledged_of None = []
  unacknowledged_of (Some s) = unacknowledged s

  -- what a worker gives back at its session's end
  abbrev pub gives_back : Worker Session → List Return
  gives_back x = returned x.taken (unacknowledged_of x.session)

  -- the server did not do what it owed: it is said to be lost, or its session is down, or the
  -- handshake is not done, or a chunk was loaded and is not acknowledged
  abbrev pub is_fault_of : EndKind → Session → Bool
  is_fault_of kind s =
      is_lost kind
      || (is_down s || (not (is_greeted s) || nat_lt 0 (length (unacknowledged s))))

  -- the server that is lost, if one is
  abbrev pub lost_server : EndKind → Option Session → Option ℕ
  lost_server kind None = None
  lost_server kind (Some s) = if is_fault_of kind s then Some (server s) else None

  -- a worker's session is no more. The chunks that the worker has are given back, with a loss each
  -- where they were loaded
  abbrev pub end : Lane → ℕ → EndKind → ℕ → Outcome Lane
  end l w kind now = do
    x ← found (worker_at l w) NoSuch
    refuse_if (is_idle x) NotNow
    refuse_if (has_acked x.session) NotNow
    Goes (answer.Ended (numbers_back (gives_back x)))
        (ends l w (gives_back x) (lost_server kind x.session) now)

  -- what one event comes to
  abbrev pub step : Relay → Event → Outcome Relay
  step r (event.Accept id nonce auth) = accept r (setup_of (security r) (limits r) id nonce auth)
  step r (event.Piece id bytes) = at_source r id (λ s. piece s bytes)
  step r (event.Admit id o now) = at_both r id o (admit (routes r) id o now)
  step r (event.Flush o now kind) = at_lane r o (λ l. flush l now kind)
  step r (event.Choose o w now) = at_lane r o (λ l. choose l w now)
  step r (event.Up o w server salt now) =
      at_lane r o (λ l. at_worker l w (up (config l) server salt now))
  step r (event.Take o w now wanted) = at_lane r o (λ l. take l w wanted now)
  step r (event.Load o w now) = at_lane r o (λ l. at_worker l w (load now))
  step r (event.Wrote o w count) =
      at_lane r o (λ l. at_worker l w (λ x. at_session x (wrote count)))
  step r (event.Heard o w bytes) =
      at_lane r o (λ l. at_worker l w (λ x. at_session x (heard bytes)))
  step r (event.Late o w now) =
      at_lane r o (λ l. at_worker l w (λ x. at_session x (late now)))
  step r (event.Settle o w) = at_lane r o (λ l. settle l w)
  step r (event.End o w kind now) = at_lane r o (λ l. end l w kind now)
  step r (event.Collect id o) = at_both r id o (collect id)
  step r (event.Forget id o) = at_lane r o (λ l. forget l id)
  step r (event.Drained id count) = at_source r id (λ s. drained s count)
  step r (event.Shut id) = shut r id

  -- the answers to a list of events, one each
  abbrev pub answers : Relay → List Event → List Answer
  answers r [] = []
  answers r (e ∷ es) = answer_of (step r e) ∷ answers (state_of r (step r e)) es

  -- the state after a list of events
  abbrev pub after : Relay → List Event → Relay
  after r [] = r
  after r (e ∷ es) = after (state_of r (step r e)) es
