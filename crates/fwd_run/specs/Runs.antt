-- What happens in a run, in one history, and what each part of the relay is after it. Histories are
-- lists with the newest event first.
use Rattle.std.specs.Prelude.{
  ◌≡◌,
  ℕ,
  ◌+◌,
  ◌*◌,
  ◌==◌,
  Bool,
  true,
  false,
  ◌&&◌,
  ◌||◌,
  List,
  [],
  ◌∷◌,
  ◌++◌,
  map,
  Option,
  Some,
  None,
  option_map,
  slice_get,
}
use Rattle.std.specs.List.{list_any}
use Rattle.fwd_msgpack.specs.declared.limits.Limits.{Limits}
use Rattle.fwd_handshake.specs.declared.credentials.Security.{Security}
use Rattle.fwd_modes.specs.declared.origin.Origin.{Origin}
use Rattle.fwd_source.specs.Live.{LiveSource}
use Rattle.fwd_session.specs.Live.{LiveSession}
use Rattle.fwd_book.specs.Live.{live_leaves, live_opening}
use Rattle.fwd_model.specs.declared.config.Config.{Config}
use Rattle.fwd_model.specs.declared.config.OutputConfig.{OutputConfig}
use Rattle.fwd_model.specs.declared.event.Event.{Event}
use Rattle.fwd_model.specs.declared.event.Event.TheVariants as event
use Rattle.fwd_model.specs.Outcome.{state_of}
use Rattle.fwd_model.specs.Layers.{Worker}
use Rattle.fwd_model.specs.Step.{step}
use Rattle.fwd_model.specs.Outputs.{LiveOutput}
use Rattle.fwd_model.specs.History.{opening}
use Rattle.fwd_model.specs.Live.{
  LiveLane,
  LiveRelay,
  live,
  lives,
  live_source_at,
  with_live_book,
  with_live_lane,
}
use Rattle.fwd_model.specs.Names.{Named, Connection, Output, Session, is_accept, names}

-- The run begins, with these settings. Or there is an event of the abstract relay. Or requests of
-- some origins are owed an answer at an output no more: they were answered, or nobody is to be told
-- of them. The abstract relay tells of a connection's requests in one event. A reader asks an
-- output only for those that it waits for.
pub data RunEvent : Type 0 where
  Opens : (config : Config) → RunEvent
  Relay : (e : Event) → RunEvent
  Leave : (output : ℕ) (origins : List Origin) → RunEvent

-- no run has the event: it tells requests, or says that nobody is to be told of them, or that a
-- connection is known no more
abbrev pub is_left_out : Event → Bool
is_left_out (event.Collect id o) = true
is_left_out (event.Forget id o) = true
is_left_out (event.Shut id) = true
is_left_out _ = false

-- requests are answered and forgotten as readers do it, and not as the abstract relay does; and a
-- connection that ended stays known
abbrev pub MayHappen : List RunEvent → RunEvent → Type 0
MayHappen past (Opens config) = Unit {0}
MayHappen past (Relay e) = is_left_out e ≡ false
MayHappen past (Leave o origins) = Unit {0}

-- ---- what it leads to

-- requests of these origins are owed no answer at an output any more
abbrev pub lane_left : List Origin → LiveLane → LiveLane
lane_left origins l = with_live_book l (live_leaves l.output.book origins)

-- another lane stands in the place of one, if there is one
abbrev pub lane_moved : ℕ → (LiveLane → LiveLane) → LiveRelay → Option LiveLane → LiveRelay
lane_moved o f r None = r
lane_moved o f r (Some l) = with_live_lane o (f l) r

-- what a relay that has begun is after an event
abbrev pub next : LiveRelay → RunEvent → LiveRelay
next r (Opens config) = r
next r (Relay e) = state_of r (step lives r e)
next r (Leave o origins) = lane_moved o (lane_left origins) r (slice_get r.lanes o)

-- what it is after an event, if it has begun: it begins once
abbrev pub moved : Option LiveRelay → RunEvent → Option LiveRelay
moved None (Opens config) = Some (live (opening config))
moved None (Relay e) = None
moved None (Leave o origins) = None
moved (Some r) e = Some (next r e)

-- what the relay is after a history, if it has begun
abbrev pub run_after : List RunEvent → Option LiveRelay
run_after [] = None
run_after (e ∷ past) = moved (run_after past) e

-- the settings with which it began, once an event is added
abbrev pub begun : Option Config → RunEvent → Option Config
begun None (Opens config) = Some config
begun None (Relay e) = None
begun None (Leave o origins) = None
begun (Some config) e = Some config

-- the settings with which it began, after a history
abbrev pub config_of : List RunEvent → Option Config
config_of [] = None
config_of (e ∷ past) = begun (config_of past) e

-- the events of the abstract relay since then, the oldest first, once an event is added
abbrev pub with_event : Option Config → RunEvent → List Event → List Event
with_event None e es = es
with_event (Some config) (Opens other) es = es
with_event (Some config) (Relay e) es = es ++ e ∷ []
with_event (Some config) (Leave o origins) es = es

-- those events, after a history
abbrev pub relay_events : List RunEvent → List Event
relay_events [] = []
relay_events (e ∷ past) = with_event (config_of past) e (relay_events past)

-- an output's lane, but for who is owed an answer there
abbrev pub lane_but_owed : LiveLane → LiveLane
lane_but_owed l = with_live_book l (live_opening l.output.book.setting)

-- the relay, but for who is owed an answer
abbrev pub but_owed : LiveRelay → LiveRelay
but_owed r = record r { lanes = map lane_but_owed r.lanes }

-- ---- its parts

-- an output, if there is one of this number
abbrev pub output_in : LiveRelay → ℕ → Option LiveOutput
output_in r o = option_map (λ l. l.output) (slice_get r.lanes o)

-- a worker among those of an output, if there is the output
abbrev pub worker_of : ℕ → Option LiveLane → Option (Worker LiveSession)
worker_of w None = None
worker_of w (Some l) = slice_get l.workers w

-- a worker of an output, if there is one
abbrev pub worker_in : LiveRelay → (output worker : ℕ) → Option (Worker LiveSession)
worker_in r o w = worker_of w (slice_get r.lanes o)

-- what an output is set to, if there is one of this number
abbrev pub settings_in : LiveRelay → (output : ℕ) → Option OutputConfig
settings_in r o = option_map (λ l. l.config) (slice_get r.lanes o)

-- a connection that is known by its id
abbrev pub source_in : LiveRelay → (id : ℕ) → Option LiveSource
source_in r id = live_source_at id r.connections

-- what is seen of a relay, if it has begun
abbrev pub seen : {X : Type 0} → (LiveRelay → Option X) → Option LiveRelay → Option X
seen see None = None
seen see (Some r) = see r

-- after a history: an output
abbrev pub output_at : List RunEvent → ℕ → Option LiveOutput
output_at past o = seen (λ r. output_in r o) (run_after past)

-- a worker of an output
abbrev pub worker_at : List RunEvent → (output worker : ℕ) → Option (Worker LiveSession)
worker_at past o w = seen (λ r. worker_in r o w) (run_after past)

-- what an output is set to
abbrev pub settings_at : List RunEvent → (output : ℕ) → Option OutputConfig
settings_at past o = seen (λ r. settings_in r o) (run_after past)

-- which patterns lead to which output
abbrev pub routes_at : List RunEvent → Option (List (List (List ℕ)))
routes_at past = seen (λ r. Some r.routes) (run_after past)

-- what sources have to prove
abbrev pub security_at : List RunEvent → Option Security
security_at past = seen (λ r. Some r.security) (run_after past)

-- how long and deep their values may be
abbrev pub limits_at : List RunEvent → Option Limits
limits_at past = seen (λ r. Some r.limits) (run_after past)

-- a connection, by its id
abbrev pub source_at : List RunEvent → (id : ℕ) → Option LiveSource
source_at past id = seen (λ r. source_in r id) (run_after past)

-- the last id that was given
abbrev pub last_id : List RunEvent → Option ℕ
last_id past = seen (λ r. r.last) (run_after past)

-- ---- whose part an event is

-- the number of what begins the run, and gives connections their ids, which rise
abbrev pub id_key : ℕ
id_key = 0

-- The number of a part: an output's is followed by those of its workers, which are 31 at the most,
-- of 64 outputs at the most.
abbrev pub key_of : Named → ℕ
key_of (Output o) = 1 + 32 * o
key_of (Session o w) = 2 + 32 * o + w
key_of (Connection id) = 2049 + id

-- the part of a number has a part in the event
abbrev pub touches : ℕ → RunEvent → Bool
touches k (Relay e) = list_any (λ n. k == key_of n) (names e) || ((k == id_key) && is_accept e)
touches k (Opens config) = k == id_key
touches k (Leave o origins) = k == key_of (Output o)
