-- What whoever has the page of a part knows of it: what it is after the history that is known
-- there.
use Rattle.std.specs.Prelude.{
  ◌≡◌,
  ℕ,
  suc,
  ◌≤◌,
  ◌<◌,
  ◌-◌,
  ◌^◌,
  ◌==◌,
  List,
  [],
  ◌∷◌,
  ◌++◌,
  map,
  Option,
  Some,
  None,
  option_map,
  if◌then◌else◌,
}
use Rattle.std.specs.List.{AllByRecursion}
use Rattle.fwd_chunks.specs.declared.wanted.Wanted.{Wanted}
use Rattle.fwd_chunks.specs.History.{CarriedChunk}
use Rattle.fwd_chunks.specs.Live.{
  LiveBuffer,
  IsCarried,
  live_carried_chunk,
  live_given_for,
  live_looks,
}
use Rattle.fwd_msgpack.specs.declared.limits.Limits.{Limits}
use Rattle.fwd_handshake.specs.declared.credentials.Security.{Security}
use Rattle.fwd_source.specs.Live.{LiveSource}
use Rattle.fwd_session.specs.Live.{LiveSession, live_chunks}
use Rattle.fwd_model.specs.declared.config.Config.{Config}
use Rattle.fwd_model.specs.declared.config.OutputConfig.{OutputConfig}
use Rattle.fwd_model.specs.Layers.{Worker}
use Rattle.fwd_model.specs.Outputs.{LiveOutput, no_requests}
use Rattle.fwd_model.specs.Setups.{servers_of, setting_of}
use Rattle.fwd_run.specs.Runs.{RunEvent, output_at, settings_at, worker_at}

-- the output of a number, and what it is set to
pub record OutputKnown : Type 0 where
  pub output : ℕ
  pub settings : Option OutputConfig
  pub is : Option LiveOutput

-- an output to which nothing happens any more: its number, and the history, the newest event first,
-- as far as its page knows it
pub record EndedOutput : Type 0 where
  pub output : ℕ
  pub past : List RunEvent

-- a worker of an output, and what the output is set to: the chunk that it took and did not load,
-- and its session
pub record WorkerKnown : Type 0 where
  pub output : ℕ
  pub worker : ℕ
  pub settings : Option OutputConfig
  pub has : Option (Worker LiveSession)

-- the connection of an id, and the patterns that lead its requests to outputs
pub record SourceKnown : Type 0 where
  pub id : ℕ
  pub routes : Option (List (List (List ℕ)))
  pub is : Option LiveSource

-- the last id that a connection was given, and what connections are accepted with
pub record IdsKnown : Type 0 where
  pub last : Option ℕ
  pub security : Option Security
  pub limits : Option Limits

-- how many pages a run has
abbrev pub page_count : ℕ
page_count = 2 ^ 64 - 1

-- the greatest id of a connection that there is a page for
abbrev pub last_source : ℕ
last_source = 2 ^ 64 - 2051

-- the id that the next connection gets, if one is left, and what connections are accepted with
pub record NextId : Type 0 where
  pub next : Option ℕ
  pub security : Option Security
  pub limits : Option Limits

-- In the history of a run an output has one worker more than its settings say: one that never has a
-- chunk, by which a server is lost that could not be reached.
abbrev pub with_trial : OutputConfig → OutputConfig
with_trial c = record c { workers = suc c.workers }

-- a run that has these settings begins in its history with those
pub record IsSeenAs (config seen : Config) : Type 0 where
  pub run : seen.run ≡ config.run
  pub routes : seen.routes ≡ config.routes
  pub security : seen.security ≡ config.security
  pub limits : seen.limits ≡ config.limits
  pub outputs : seen.outputs ≡ map with_trial config.outputs

-- the output of a number is set so after a history: it has no request yet, and each of its workers
-- has nothing
pub record IsNew (past : List RunEvent) (run : List ℕ) (output : ℕ)
    (config : OutputConfig) : Type 0 where
  pub settings : settings_at past output ≡ Some config
  pub is : output_at past output
      ≡ Some (no_requests (setting_of run output config) (servers_of config))
  pub workers : (worker : ℕ) → worker < config.workers
      → worker_at past output worker ≡ Some (record { taken = None; session = None })

-- the chunk that an output gives a worker at a moment, of what it wants
abbrev pub given_in : LiveOutput → Wanted → (now : ℕ) → Option CarriedChunk
given_in p wanted now =
    option_map (live_carried_chunk p.buffer) (live_given_for (live_looks p.buffer now) wanted)

-- the chunks that a session has: those that are not acknowledged, and those that are and are not
-- taken out
abbrev pub chunks_in : Option LiveSession → List CarriedChunk
chunks_in None = []
chunks_in (Some s) = live_chunks s.carried ++ map (λ a. a.chunk) s.accepted

-- how many of the chunks have the number
abbrev pub times : ℕ → List CarriedChunk → ℕ
times number [] = 0
times number (c ∷ chunks) =
    if c.number == number then suc (times number chunks) else times number chunks

-- workers have each of the chunks from the buffer, and no number stands among them twice
pub record AreCarried (b : LiveBuffer) (chunks : List CarriedChunk) : Type 0 where
  pub carried : AllByRecursion (IsCarried b) chunks
  pub apart : (number : ℕ) → times number chunks ≤ 1
