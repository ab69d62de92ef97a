-- Where a worker stands, and what its turns do.
use Rattle.std.specs.Prelude.{◌≡◌, ◌≤◌, ◌⊎◌, ◌+◌, ℕ, Bool, true, false, ◌||◌, List, [], ◌∷◌, length, slice_get, Option, Some, None, option_map, is_some, if◌then◌else◌}
use Rattle.std.specs.List.{AllByRecursion}
use Rattle.fwd_handshake.specs.declared.credentials.Login.{Login}
use Rattle.fwd_chunks.specs.History.{CarriedChunk}
use Rattle.fwd_session.specs.declared.terms.AckTerms.{AckTerms}
use Rattle.fwd_session.specs.ServerAcks.{Accepted}
use Rattle.fwd_session.specs.History.{Setup, is_done}
use Rattle.fwd_session.specs.Live.{
  LiveSession,
  live_is_late,
  live_acked,
  live_has_chunk,
  live_is_ready,
  live_room,
  session_begins,
  session_loads,
  session_looks,
  session_unloads,
}
use Rattle.fwd_workers.specs.declared.ending.EndReason.{EndReason}
use Rattle.fwd_workers.specs.declared.ending.EndReason.TheVariants as ending
use Rattle.fwd_workers.specs.declared.upstream.WorkerState.{WorkerState}
use Rattle.fwd_workers.specs.declared.upstream.WorkerState.TheVariants as state
use Rattle.fwd_environment.specs.declared.link.LossReason.TheVariants as loss
use Rattle.fwd_environment.specs.declared.link.WorkerEvent.{WorkerEvent}
use Rattle.fwd_environment.specs.declared.link.Place.{Place}
use Rattle.fwd_environment.specs.declared.link.Place.TheVariants as place
use Rattle.fwd_workers.specs.declared.serve.Served.{Served}
use Rattle.fwd_workers.specs.Endings.{idle_ending, loss_in, news_of, went_of}
use Rattle.fwd_environment.specs.Links.{Call}
use Rattle.fwd_workers.specs.Served.{HasTurned, IsOfLink, may_add, seen_in}

-- where the gate is asked: nowhere while the server is waited for, and no chunk may be added
abbrev pub place_of : {L : Type 0} {g : _} → WorkerState L g → Option Place
place_of state.Idle = Some place.BeforeTake
place_of state.Seeking = Some place.BeforeTake
place_of (state.Sought free) = Some place.BeforeTake
place_of (state.Standing free) = Some place.BeforeTake
place_of (state.Took free chunk) =
    if live_is_ready free.upstream.session then Some place.BeforeLoad else None
place_of (state.Added roomy chunk) = Some place.BeforeLoad
place_of (state.Loaded upstream) =
    if is_some (live_acked upstream.session) then Some place.BeforeSettle
    else if may_add upstream.session then Some place.BeforeTake
    else None
place_of (state.Settled upstream) = Some place.AfterSettle

-- the acknowledgements of chunks that are not settled yet
abbrev pub accepted_at : {L : Type 0} {g : _} → WorkerState L g → List Accepted
accepted_at state.Idle = []
accepted_at state.Seeking = []
accepted_at (state.Sought free) = []
accepted_at (state.Standing free) = []
accepted_at (state.Took free chunk) = []
accepted_at (state.Added roomy chunk) = []
accepted_at (state.Loaded upstream) = upstream.session.accepted
accepted_at (state.Settled upstream) = upstream.session.accepted

-- how many entries these acknowledged chunks have
abbrev pub entries_in : List Accepted → ℕ
entries_in [] = 0
entries_in (a ∷ later) = length a.chunk.entries + entries_in later

-- how many the chunk has that is taken out next, if there is one
abbrev pub next_entries : Option CarriedChunk → ℕ
next_entries None = 0
next_entries (Some chunk) = length chunk.entries

-- a chunk was acknowledged over a link that tells its calls: a session accepted it that has lived
-- over just this link
pub record IsAcknowledgedOver {Link : Type 0} (calls : Link → List Call) (a : Accepted)
    : Type 0 where
  pub link : Link
  pub session : LiveSession
  pub ends : Bool
  pub own : IsOfLink session (seen_in (calls link)) ends
  pub place : ℕ
  pub accepted : slice_get session.accepted place ≡ Some a

-- what was added, as far as it is kept, is no more than the entries of chunks, each of which was
-- acknowledged over a link
pub record IsEarned {Link : Type 0} (calls : Link → List Call) (kept : ℕ → ℕ) (before after : ℕ)
    : Type 0 where
  pub settled : List Accepted
  pub each : AllByRecursion (IsAcknowledgedOver calls) settled
  pub most : after ≤ before + kept (entries_in settled)

-- A turn of a session at a moment, with the calls of its link, and why it is to end then, if it is.
-- Where it is down, or late at that moment, its link is left alone. Else its link is served, and
-- what that comes to decides. It is up, unless it is to end.
pub record IsTended (s t : LiveSession) (now : ℕ) (before after : List Call)
    (why : Option EndReason) : Type 0 where
  pub late : s.down || live_is_late s now ≡ true
      → (why ≡ Some (ending.Lost loss.Late)) × (after ≡ before)
  pub served : s.down || live_is_late s now ≡ false
      → (what : Served) × HasTurned what (session_looks s now) t before after
      × (why ≡ option_map ending.Lost (loss_in what))
  pub up : why ≡ None → t.down ≡ false

-- a turn of a session at a moment leaves it up
abbrev pub Lasts : (s t : LiveSession) → (now : ℕ) → (before : List Call) → Type 0
Lasts s t now before = (after : List Call) × IsTended s t now before after None

-- a turn of a session at a moment ends it, and what is told of that is read off why it ended, and
-- off the session that it left
abbrev pub Ends : (s : LiveSession) → (now : ℕ) → (before : List Call)
    → (telling : EndReason → LiveSession → Option WorkerEvent)
    → (told : Option WorkerEvent) → Type 0
Ends s now before telling told = (t : LiveSession) × (after : List Call) × (why : EndReason)
    × IsTended s t now before after (Some why) × (told ≡ telling why t)

-- what a worker that logs in so begins a session with, at a server and a moment
abbrev pub setup_by : Login → (salt : List ℕ) → AckTerms → (now server : ℕ) → Setup
setup_by login salt terms now server = record {
  server = server;
  login = login;
  salt = salt;
  ack_wait = terms.ack_wait;
  window = terms.window;
  start = now;
}

-- a session begins, with one server or another
abbrev pub Begins : (ℕ → Setup) → LiveSession → Type 0
Begins setups s = (server : ℕ) × (s ≡ session_begins (setups server))

-- a worker that had nothing: it has nothing still, or a chunk and a session that begins with it
abbrev pub HasBegun : {L : Type 0} {g : _} → WorkerState L g → (ℕ → Setup) → Type 0
HasBegun state.Idle setups = Unit {0}
HasBegun (state.Took free chunk) setups =
    (free.upstream.ending ≡ None) × Begins setups free.upstream.session
HasBegun state.Seeking setups = ⊥
HasBegun (state.Sought free) setups = ⊥
HasBegun (state.Standing free) setups = ⊥
HasBegun (state.Added roomy chunk) setups = ⊥
HasBegun (state.Loaded upstream) setups = ⊥
HasBegun (state.Settled upstream) setups = ⊥

-- a worker that seeks a server: it seeks on, it has a session that begins, and no chunk, or it
-- seeks none any more
abbrev pub HasSought : {L : Type 0} {g : _} → WorkerState L g → (ℕ → Setup) → Type 0
HasSought state.Idle setups = Unit {0}
HasSought state.Seeking setups = Unit {0}
HasSought (state.Sought free) setups =
    (free.upstream.ending ≡ None) × Begins setups free.upstream.session
HasSought (state.Standing free) setups = ⊥
HasSought (state.Took free chunk) setups = ⊥
HasSought (state.Added roomy chunk) setups = ⊥
HasSought (state.Loaded upstream) setups = ⊥
HasSought (state.Settled upstream) setups = ⊥

-- A worker with a session that it sought: it takes a chunk for just that session once that is
-- ready; until then it goes on, and it stands where nothing is sought any more. Where the session
-- ends the server is lost, whatever it owed, and the worker seeks on.
abbrev pub HasTakenFirst : {L : Type 0} {g : _} → WorkerState L g → Option WorkerEvent → LiveSession
    → (now : ℕ) → (before : List Call) → Type 0
HasTakenFirst state.Seeking told s now before =
    Ends s now before (λ why t. news_of why t.setup.server 0) told
HasTakenFirst (state.Sought free) told s now before =
    (free.upstream.ending ≡ None) × Lasts s free.upstream.session now before
HasTakenFirst (state.Standing free) told s now before =
    (free.upstream.ending ≡ None) × (free.upstream.session ≡ s)
HasTakenFirst (state.Took free chunk) told s now before =
    (free.upstream.ending ≡ None) × (live_is_ready free.upstream.session ≡ true)
    × Lasts s free.upstream.session now before
HasTakenFirst state.Idle told s now before = ⊥
HasTakenFirst (state.Added roomy chunk) told s now before = ⊥
HasTakenFirst (state.Loaded upstream) told s now before = ⊥
HasTakenFirst (state.Settled upstream) told s now before = ⊥

-- A worker whose session stands: it takes a chunk once that session is ready, for just that
-- session; or it has one that begins in its place, and no chunk. Else it goes on standing. Where
-- the session ends the worker has nothing, and a server that owed nothing is not said to be lost.
abbrev pub HasTakenNext : {L : Type 0} {g : _} → WorkerState L g → Option WorkerEvent → LiveSession
    → (now : ℕ) → (before : List Call) → (ℕ → Setup) → Type 0
HasTakenNext state.Idle told s now before setups =
    Ends s now before
    (λ why t. news_of (idle_ending why (is_done t.handshake)) t.setup.server 0) told
HasTakenNext (state.Standing free) told s now before setups =
    (free.upstream.ending ≡ None) × Lasts s free.upstream.session now before
HasTakenNext (state.Took free chunk) told s now before setups =
    (free.upstream.ending ≡ None) × (live_is_ready free.upstream.session ≡ true)
    × Lasts s free.upstream.session now before
HasTakenNext (state.Sought free) told s now before setups =
    (free.upstream.ending ≡ None) × Begins setups free.upstream.session
HasTakenNext state.Seeking told s now before setups = ⊥
HasTakenNext (state.Added roomy chunk) told s now before setups = ⊥
HasTakenNext (state.Loaded upstream) told s now before setups = ⊥
HasTakenNext (state.Settled upstream) told s now before setups = ⊥

-- a worker with a chunk for its session, which has no other: the chunk is loaded once that is
-- ready, and until then it waits; or the session ended
abbrev pub HasLoaded : {L : Type 0} {g : _} → WorkerState L g → LiveSession → CarriedChunk
    → (now : ℕ) → Type 0
HasLoaded state.Idle s chunk now = Unit {0}
HasLoaded (state.Took free waits) s chunk now =
    (live_is_ready s ≡ false) × (waits ≡ chunk) × (free.upstream.ending ≡ None)
HasLoaded (state.Loaded upstream) s chunk now =
    (live_is_ready s ≡ true) × (upstream.session ≡ session_loads s chunk now)
    × (upstream.ending ≡ None)
HasLoaded state.Seeking s chunk now = ⊥
HasLoaded (state.Sought free) s chunk now = ⊥
HasLoaded (state.Standing free) s chunk now = ⊥
HasLoaded (state.Added roomy waits) s chunk now = ⊥
HasLoaded (state.Settled upstream) s chunk now = ⊥

-- a worker with a chunk for its session, which is ready and may have others: the chunk is loaded;
-- or memory was refused, and the session ended, which is told
abbrev pub HasLoadedMore : {L : Type 0} {g : _} → WorkerState L g → Option WorkerEvent
    → LiveSession → CarriedChunk → (now : ℕ) → Type 0
HasLoadedMore (state.Loaded upstream) told s chunk now =
    (upstream.session ≡ session_loads s chunk now) × (upstream.ending ≡ None)
HasLoadedMore state.Seeking told s chunk now =
    told ≡ news_of (ending.Lost loss.Memory) s.setup.server (length s.carried)
HasLoadedMore state.Idle told s chunk now = ⊥
HasLoadedMore (state.Sought free) told s chunk now = ⊥
HasLoadedMore (state.Standing free) told s chunk now = ⊥
HasLoadedMore (state.Took free waits) told s chunk now = ⊥
HasLoadedMore (state.Added roomy waits) told s chunk now = ⊥
HasLoadedMore (state.Settled upstream) told s chunk now = ⊥

-- a worker that just loaded a chunk tells which server it goes to, where its last chunk went to
-- another, and keeps that server
abbrev pub HasGone : {L : Type 0} {g : _} → WorkerState L g → (last kept : Option ℕ)
    → Option WorkerEvent → Type 0
HasGone (state.Loaded upstream) last kept told =
    (told ≡ went_of last upstream.session.setup.server)
    × (kept ≡ Some upstream.session.setup.server)
HasGone state.Idle last kept told = kept ≡ last
HasGone state.Seeking last kept told = kept ≡ last
HasGone (state.Sought free) last kept told = kept ≡ last
HasGone (state.Standing free) last kept told = kept ≡ last
HasGone (state.Took free chunk) last kept told = kept ≡ last
HasGone (state.Added roomy chunk) last kept told = kept ≡ last
HasGone (state.Settled upstream) last kept told = kept ≡ last

-- A worker whose session has chunks: where an acknowledgement was accepted before, the chunk that
-- was accepted first is settled. Else the session goes on with them, and where one more may be
-- added it may have taken one; or it ended, and the worker seeks a server.
abbrev pub HasSettled : {L : Type 0} {g : _} → WorkerState L g → LiveSession → Type 0
HasSettled state.Seeking s = s.accepted ≡ []
HasSettled (state.Loaded upstream) s =
    (s.accepted ≡ []) × (live_room upstream.session ≡ live_room s)
HasSettled (state.Added roomy chunk) s =
    (s.accepted ≡ []) × (may_add s ≡ true) × (live_room roomy.upstream.session ≡ live_room s)
HasSettled (state.Settled upstream) s =
    (is_some (live_acked s) ≡ true) × (upstream.session ≡ session_unloads s)
HasSettled state.Idle s = ⊥
HasSettled (state.Sought free) s = ⊥
HasSettled (state.Standing free) s = ⊥
HasSettled (state.Took free chunk) s = ⊥

-- Where no chunk of a worker's session was settled, its link was served: the session goes on behind
-- that turn, or the turn ended it, and it is told why, and how many of its chunks are not
-- acknowledged.
abbrev pub HasLost : {L : Type 0} {g : _} → WorkerState L g → Option WorkerEvent → LiveSession
    → (now : ℕ) → (before : List Call) → Type 0
HasLost state.Seeking told s now before =
    Ends s now before (λ why t. news_of why t.setup.server (length t.carried)) told
HasLost (state.Loaded upstream) told s now before =
    (after : List Call) × IsTended s upstream.session now before after upstream.ending
HasLost (state.Added roomy chunk) told s now before =
    (roomy.upstream.ending ≡ None) × Lasts s roomy.upstream.session now before
HasLost state.Idle told s now before = Unit {0}
HasLost (state.Sought free) told s now before = Unit {0}
HasLost (state.Standing free) told s now before = Unit {0}
HasLost (state.Took free chunk) told s now before = Unit {0}
HasLost (state.Settled upstream) told s now before = Unit {0}

-- a session without chunks ends: it was to end, which is told, or it takes no chunk more
abbrev pub GoesOut : Option WorkerEvent → LiveSession → (why : Option EndReason) → Type 0
GoesOut told s None = (live_is_ready s ≡ false) × (told ≡ None)
GoesOut told s (Some why) = told ≡ news_of why s.setup.server 0

-- what becomes of a session beside whose chunks one more may be added: it is as it was, also where
-- a chunk was taken for it
abbrev pub HasAdded : {L : Type 0} {g : _} → WorkerState L g → LiveSession → Type 0
HasAdded (state.Loaded upstream) s = (upstream.session ≡ s) × (upstream.ending ≡ None)
HasAdded (state.Added roomy chunk) s =
    (roomy.upstream.session ≡ s) × (roomy.upstream.ending ≡ None) × (may_add s ≡ true)
HasAdded state.Idle s = ⊥
HasAdded state.Seeking s = ⊥
HasAdded (state.Sought free) s = ⊥
HasAdded (state.Standing free) s = ⊥
HasAdded (state.Took free chunk) s = ⊥
HasAdded (state.Settled upstream) s = ⊥

-- A worker that settled a chunk. Where more are accepted it goes on with these; and with chunks
-- that are not acknowledged, unless its session is to end: then they are lost, and it seeks a
-- server. A session without chunks stands, where it takes another one, and else ends.
abbrev pub HasGoneOn : {L : Type 0} {g : _} → WorkerState L g → Option WorkerEvent → LiveSession
    → (why : Option EndReason) → Type 0
HasGoneOn (state.Loaded upstream) told s why =
    (upstream.session ≡ s) × (upstream.ending ≡ why) × (live_has_chunk s ≡ true)
    × (why ≡ None ⊎ is_some (live_acked s) ≡ true)
HasGoneOn state.Seeking told s why =
    (live_has_chunk s ≡ true) × (s.accepted ≡ [])
    × ((ended : EndReason) × (why ≡ Some ended)
    × (told ≡ news_of ended s.setup.server (length s.carried)))
HasGoneOn (state.Standing free) told s why =
    (free.upstream.session ≡ s) × (why ≡ None) × (free.upstream.ending ≡ None)
    × (live_is_ready s ≡ true)
HasGoneOn state.Idle told s why = (live_has_chunk s ≡ false) × GoesOut told s why
HasGoneOn (state.Sought free) told s why = ⊥
HasGoneOn (state.Took free chunk) told s why = ⊥
HasGoneOn (state.Added roomy chunk) told s why = ⊥
HasGoneOn (state.Settled upstream) told s why = ⊥
