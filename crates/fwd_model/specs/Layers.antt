-- What a step asks of a relay's layers, and what it changes in them. Sources say theirs in their
-- own crate.
use Rattle.std.specs.Prelude.{ℕ, Bool, List, Option}
use Rattle.fwd_msgpack.specs.declared.limits.Limits.{Limits}
use Rattle.fwd_handshake.specs.declared.credentials.Security.{Security}
use Rattle.fwd_modes.specs.Requests.{Request}
use Rattle.fwd_modes.specs.declared.origin.Origin.{Origin}
use Rattle.fwd_source.specs.History.{Setup}
use Rattle.fwd_source.specs.Layer.{Sources}
use Rattle.fwd_chunks.specs.declared.fault.AdmitError.{AdmitError}
use Rattle.fwd_chunks.specs.declared.flush.FlushKind.{FlushKind}
use Rattle.fwd_chunks.specs.declared.wanted.Wanted.{Wanted}
use Rattle.fwd_chunks.specs.History.{CarriedChunk}
use Rattle.fwd_session.specs.declared.told.SessionHeard.{SessionHeard}
use Rattle.fwd_session.specs.ServerAcks.{Accepted, ServerAck}
use Rattle.fwd_session.specs.History as session
use Rattle.fwd_model.specs.declared.config.OutputConfig.{OutputConfig}
use Rattle.fwd_model.specs.Books.{Telling}
use Rattle.fwd_model.specs.Outputs.{Return}

-- a worker: the chunk that it took and did not load yet, with its entries, and its session
pub record Worker (Session : Type 0) : Type 0 where
  pub taken : Option CarriedChunk
  pub session : Option Session

-- a session of a worker with a server
pub record Sessions : Type 1 where
  pub Session : Type 0
  -- its server, by its place in the output's list
  pub server : Session → ℕ
  -- the chunks that were loaded and are not acknowledged, in the order of their loads; the one
  -- whose acknowledgement was accepted first, with that; and how many more it may have
  pub unacknowledged : Session → List CarriedChunk
  pub acked : Session → Option Accepted
  pub room : Session → ℕ
  -- whether its handshake is done, whether a chunk may be loaded, whether a fault or lateness put
  -- it down, whether it is late at a moment
  pub is_greeted : Session → Bool
  pub is_ready : Session → Bool
  pub is_down : Session → Bool
  pub is_late : Session → ℕ → Bool
  -- the bytes that wait to be sent
  pub to_send : Session → List ℕ
  -- what a piece is told, and the PING that it brings
  pub told : Session → List ℕ → SessionHeard
  pub ping : Session → List ℕ → List ℕ
  -- it begins; is loaded with a chunk; its link takes bytes; a piece is heard; it is asked whether
  -- it is late; the chunk that was accepted first is taken out
  pub begins : session.Setup → Session
  pub loads : Session → CarriedChunk → ℕ → Session
  pub sends : Session → ℕ → Session
  pub listens : Session → List ℕ → Session
  pub looks : Session → ℕ → Session
  pub unloads : Session → Session

-- a lane: an output with its workers
pub record Lanes (Session : Type 0) : Type 1 where
  pub Lane : Type 0
  pub config : Lane → OutputConfig
  -- why it has no place for a request, if it has none
  pub refusal : Lane → Origin → Request → ℕ → Option AdmitError
  -- how many open numbers a flush closes, and the flush
  pub closing : Lane → ℕ → FlushKind → ℕ
  pub flushes : Lane → ℕ → FlushKind → Lane
  -- a request is entered
  pub enters : Lane → Origin → Request → ℕ → Lane
  -- what a connection is to be told, and that it is
  pub due : Lane → ℕ → Telling
  pub tells : Lane → ℕ → Lane
  -- how many requests of a connection are owed an answer, and that they are forgotten
  pub owed : Lane → ℕ → ℕ
  pub forgets : Lane → ℕ → Lane
  -- a worker, and that another stands in its place
  pub worker_at : Lane → ℕ → Option (Worker Session)
  pub puts_worker : Lane → ℕ → Worker Session → Lane
  -- the server that a worker tries at a moment, and that the moment was handed in
  pub chosen : Lane → ℕ → ℕ → Option ℕ
  pub watches : Lane → ℕ → Lane
  -- the chunk that has the least number that is free at a moment for what is wanted, and that the
  -- worker takes it
  pub given : Lane → Wanted → ℕ → Option CarriedChunk
  pub takes : Lane → ℕ → Worker Session → Wanted → ℕ → Lane
  -- how many entries a number has, and that they are settled, which leaves the worker so
  pub entries_at : Lane → ℕ → ℕ
  pub settles : Lane → ℕ → Worker Session → ServerAck → Lane
  -- a worker has no session and no chunk any more: what it gives back, the server that is lost,
  -- and the moment
  pub ends : Lane → ℕ → List Return → (server : Option ℕ) → (now : ℕ) → Lane

-- the relay over its layers
pub record Layers : Type 1 where
  pub sources : Sources
  pub open sources use *
  pub sessions : Sessions
  pub open sessions use *
  pub lanes : Lanes Session
  pub open lanes use *
  pub Relay : Type 0
  -- what tells the run from others, the patterns of the outputs, what a source has to prove, and
  -- how long and how deep its values may be
  pub run : Relay → List ℕ
  pub routes : Relay → List (List (List ℕ))
  pub security : Relay → Security
  pub limits : Relay → Limits
  -- the id is above every earlier one; a connection comes, is known by its id, goes
  pub is_fresh : Relay → ℕ → Bool
  pub accepts : Relay → Setup → Relay
  pub source_at : Relay → ℕ → Option Source
  pub puts_source : Relay → ℕ → Source → Relay
  pub leaves : Relay → ℕ → Relay
  -- an output by its number
  pub lane_at : Relay → ℕ → Option Lane
  pub puts_lane : Relay → ℕ → Lane → Relay
