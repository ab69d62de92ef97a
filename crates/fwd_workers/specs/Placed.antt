-- What a worker's page knows of it, as its turns change what it has.
use Rattle.std.specs.Prelude.{◌≡◌, ℕ, Option, Some, None, length}
use Rattle.std.specs.Arc.{arc_value}
use Rattle.fwd_chunks.specs.History.{CarriedChunk}
use Rattle.fwd_session.specs.History.{first_in}
use Rattle.fwd_session.specs.Live.{LiveSession}
use Rattle.fwd_session.specs.ServerAcks.{Accepted, ServerAck, evidence_of}
use Rattle.fwd_run.specs.Pages.{WorkerKnown}
use Rattle.fwd_model.specs.declared.config.OutputConfig.{OutputConfig}
use Rattle.fwd_model.specs.Layers.{Worker}
use Rattle.fwd_model.specs.Step as steps
use Rattle.fwd_workers.specs.declared.worker.SessionTerms.{SessionTerms}
use Rattle.fwd_workers.specs.declared.upstream.WorkerState.{WorkerState}
use Rattle.fwd_workers.specs.declared.upstream.WorkerState.TheVariants as state

-- the worker has this: a chunk that it took and did not load, and a session
abbrev pub with : Option CarriedChunk → Option LiveSession → Worker LiveSession
with taken session = record { taken = taken; session = session }

-- where it stands says what it has
abbrev pub held : {L : Type 0} {g : _} → WorkerState L g → Worker LiveSession
held state.Idle = with None None
held state.Seeking = with None None
held (state.Sought free) = with None (Some free.upstream.session)
held (state.Standing free) = with None (Some free.upstream.session)
held (state.Took free chunk) = with (Some chunk) (Some free.upstream.session)
held (state.Added roomy chunk) = with (Some chunk) (Some roomy.upstream.session)
held (state.Loaded upstream) = with None (Some upstream.session)
held (state.Settled upstream) = with None (Some upstream.session)

-- this is what is kept of the acknowledgement that a session accepted first, of this chunk
pub record IsFirst (s : LiveSession) (e : ServerAck) (chunk : CarriedChunk) : Type 0 where
  pub acked : Accepted
  pub first : first_in s.accepted ≡ Some acked
  pub evidence : e ≡ evidence_of s.setup.server acked
  pub is : acked.chunk ≡ chunk

-- its session has become another, and else it has what it had
abbrev pub Moves : (k l : WorkerKnown) → (s t : LiveSession) → Type 0
Moves k l s t = (x : Worker LiveSession) → k.has ≡ Some x → x.session ≡ Some s
    → l ≡ record k { has = Some (steps.with_session x t) }

-- it has this session, and maybe a chunk that it took and did not load
abbrev pub HasSession : WorkerKnown → LiveSession → Type 0
HasSession k s = (taken : Option CarriedChunk) × (k.has ≡ Some (with taken (Some s)))

-- it has become another, and is of the same place
abbrev pub Becomes : (k l : WorkerKnown) → Worker LiveSession → Type 0
Becomes k l x = l ≡ record k { has = Some x }

-- it has this, and its output is set to what the worker begins sessions by
pub record Stands (k : WorkerKnown) (x : Worker LiveSession) (terms : SessionTerms) : Type 0 where
  pub has : k.has ≡ Some x
  pub config : OutputConfig
  pub set : k.settings ≡ Some config
  pub login : config.login ≡ arc_value terms.login
  pub acks : config.acks ≡ terms.acks
  pub servers : length config.standby ≡ terms.servers
