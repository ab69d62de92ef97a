-- An output with its workers: before its first event, the chunks of its workers, a worker once a
-- chunk of its is settled, and what holds of all workers.
use Rattle.std.specs.Prelude.{
  ◌≡◌,
  ◌≤◌,
  ◌<◌,
  ℕ,
  suc,
  true,
  List,
  [],
  ◌∷◌,
  ◌++◌,
  map,
  flat_map,
  Option,
  Some,
  None,
  is_some,
  option_map,
  option_to_list,
  replicate,
}
use Rattle.std.specs.List.{AllByRecursion}
use Rattle.fwd_chunks.specs.History.{CarriedChunk}
use Rattle.fwd_chunks.specs.Live.{LiveBuffer, IsCarried}
use Rattle.fwd_model.specs.declared.config.OutputConfig.{OutputConfig}
use Rattle.fwd_model.specs.Layers.{Worker}
use Rattle.fwd_model.specs.Outputs.{no_requests}
use Rattle.fwd_session.specs.declared.limits.TheConstants.{WINDOW_LIMIT}
use Rattle.fwd_session.specs.ServerAcks.{ServerAck, evidence_of}
use Rattle.fwd_session.specs.History.{first_in}
use Rattle.fwd_session.specs.Live.{LiveSession, live_acked, live_chunks, live_room, session_unloads}
use Rattle.fwd_model.specs.Setups.{setting_of, servers_of}
use Rattle.fwd_model.specs.Live.{LiveLane}
use Rattle.fwd_run.specs.Pages.{AreCarried, times}

-- a worker without a chunk or a session
abbrev pub no_work : Worker LiveSession
no_work = record { taken = None; session = None }

-- an output before any event, by its run and its number
abbrev pub new_live_lane : List ℕ → ℕ → OutputConfig → LiveLane
new_live_lane run o c = record {
  config = c;
  output = no_requests (setting_of run o c) (servers_of c);
  workers = replicate c.workers no_work;
}

-- the outputs from this number on
abbrev pub new_live_lanes : List ℕ → ℕ → List OutputConfig → List LiveLane
new_live_lanes run o [] = []
new_live_lanes run o (c ∷ cs) = new_live_lane run o c ∷ new_live_lanes run (suc o) cs

-- ---- the chunks of a worker

-- a session has a window as settings allow it, and room for the chunk that its worker took, if it
-- took one
pub record IsRoomy (taken : Option CarriedChunk) (s : LiveSession) : Type 0 where
  pub window : s.setup.window ≤ WINDOW_LIMIT
  pub room : is_some taken ≡ true → 0 < live_room s

-- the chunks that a session has: those that are not acknowledged, and those that are and were not
-- taken out
abbrev pub chunks_in : Option LiveSession → List CarriedChunk
chunks_in None = []
chunks_in (Some s) = live_chunks s.carried ++ map (λ a. a.chunk) s.accepted

-- the chunks that a worker has: the one that it took and did not load, and those of its session
abbrev pub chunks_at : Worker LiveSession → List CarriedChunk
chunks_at x = option_to_list x.taken ++ chunks_in x.session

-- the chunks that workers have
abbrev pub chunks_of : List (Worker LiveSession) → List CarriedChunk
chunks_of workers = flat_map chunks_at workers

-- a worker has the chunks that it had, wherever they lie now: those of any buffer that showed them
pub record IsSameWork (x y : Worker LiveSession) : Type 0 where
  pub each : (b : LiveBuffer) → AllByRecursion (IsCarried b) (chunks_at x)
      → AllByRecursion (IsCarried b) (chunks_at y)
  pub times : (number : ℕ) → times number (chunks_at y) ≡ times number (chunks_at x)

-- ---- a chunk is settled

-- a worker's chunk whose acknowledgement was accepted first
abbrev pub acked_in : Option LiveSession → Option CarriedChunk
acked_in None = None
acked_in (Some s) = live_acked s

-- what is kept of it: the chunk, the server and its reply
abbrev pub evidence_in : Option LiveSession → Option ServerAck
evidence_in None = None
evidence_in (Some s) = option_map (evidence_of s.setup.server) (first_in s.accepted)

-- the worker once it is settled
abbrev pub worker_settled : Worker LiveSession → Worker LiveSession
worker_settled x = record { taken = x.taken; session = option_map session_unloads x.session }

-- ---- the chunks of a buffer

-- so it is with all chunks that these workers have
abbrev pub AreHeld : LiveBuffer → List (Worker LiveSession) → Type 0
AreHeld b workers = AreCarried b (chunks_of workers)
