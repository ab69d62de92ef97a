-- What an output's page knows of it, and what is asked of the other parts that have a part in its
-- events.
use Rattle.std.specs.Prelude.{
  ◌≡◌,
  ◌+◌,
  ◌<◌,
  ◌++◌,
  ℕ,
  Bool,
  false,
  List,
  Option,
  Some,
  None,
  is_some,
  length,
  option_to_list,
}
use Rattle.fwd_base.specs.declared.report.Report.{Report}
use Rattle.fwd_modes.specs.Requests.{Request}
use Rattle.fwd_modes.specs.declared.origin.Origin.{Origin}
use Rattle.fwd_match.specs.Patterns.{route}
use Rattle.fwd_source.specs.Live.{LiveSource, source_gives}
use Rattle.fwd_chunks.specs.declared.limits.BufferLimits.{BufferLimits}
use Rattle.fwd_chunks.specs.History.{CarriedChunk}
use Rattle.fwd_chunks.specs.TagCounts.{live_report}
use Rattle.fwd_session.specs.History.{first_in}
use Rattle.fwd_session.specs.Live.{LiveSession, session_unloads}
use Rattle.fwd_session.specs.ServerAcks.{Accepted, ServerAck, evidence_of}
use Rattle.fwd_book.specs.History.{BookSetting}
use Rattle.fwd_book.specs.Receipts.{Receipt, receipts}
use Rattle.fwd_model.specs.declared.config.OutputConfig.{OutputConfig}
use Rattle.fwd_model.specs.declared.event.EndKind.{EndKind}
use Rattle.fwd_model.specs.Layers.{Worker}
use Rattle.fwd_model.specs.Outcome.{first_of}
use Rattle.fwd_model.specs.Outputs.{LiveOutput, no_requests}
use Rattle.fwd_model.specs.Live.{lives}
use Rattle.fwd_model.specs.Step as steps
use Rattle.fwd_output.specs.declared.offer.Found.{Found}
use Rattle.fwd_output.specs.declared.offer.Found.TheVariants as found
use Rattle.fwd_run.specs.Pages.{OutputKnown, SourceKnown, WorkerKnown, chunks_in}
use Rattle.fwd_run.specs.Runs.{RunEvent, output_at}

-- an output's page knows what it is; and it has a worker
pub record IsPaged (k : OutputKnown) (l : LiveOutput) : Type 0 where
  pub is : k.is ≡ Some l
  pub number : k.output ≡ l.book.setting.output
  pub config : OutputConfig
  pub set : k.settings ≡ Some config
  pub some : 0 < config.workers

-- the report of an output, by its number, is of what that is after a history of the run
abbrev pub IsReportAfter : List RunEvent → ℕ → Report → Type 0
IsReportAfter past o report =
    (p : LiveOutput) × (output_at past o ≡ Some p) × (report ≡ live_report p.buffer)

-- a worker of the output of this number, which is set to so many servers, has nothing
pub record IsTrial (k : WorkerKnown) (output servers : ℕ) : Type 0 where
  pub here : k.output ≡ output
  pub has : k.has ≡ Some (record { taken = None; session = None })
  pub config : OutputConfig
  pub set : k.settings ≡ Some config
  pub count : length config.standby ≡ servers

-- the request is the first one that waits at a connection, under its number, and the routes lead it
-- to the output of this number
pub record IsAsked (k : SourceKnown) (output : ℕ) (origin : Origin) (q : Request) : Type 0 where
  pub source : LiveSource
  pub is : k.is ≡ Some source
  pub routes : List (List (List ℕ))
  pub led : k.routes ≡ Some routes
  pub first : first_of source.waiting ≡ Some q
  pub here : route routes q.tag ≡ Some output
  pub named : origin ≡ record { conn = k.id; request = source.admitted + 1 }

-- once it is given away
abbrev pub Gives : SourceKnown → SourceKnown → Type 0
Gives k l = (s : LiveSource) → k.is ≡ Some s → l ≡ record k { is = Some (source_gives s) }

-- a worker of the output of this number may take a chunk: it has none that it did not load, and its
-- session, if it has one, has room
pub record MayTake (k : WorkerKnown) (output : ℕ) : Type 0 where
  pub here : k.output ≡ output
  pub worker : Worker LiveSession
  pub has : k.has ≡ Some worker
  pub free : is_some worker.taken ≡ false
  pub room : steps.is_full lives worker.session ≡ false

-- once it was given what there is
abbrev pub Takes : WorkerKnown → Option CarriedChunk → WorkerKnown → Type 0
Takes k chunk l =
    (x : Worker LiveSession) → k.has ≡ Some x → l ≡ record k { has = Some (record x { taken = chunk }) }

-- the chunk that a worker took, if it found one and took it
abbrev pub taken_of : Found → Option CarriedChunk
taken_of found.Nothing = None
taken_of (found.Passed offer) = None
taken_of (found.Took picked) = Some picked.chunk

-- a worker of the output of this number has an acknowledgement, which came first, of this chunk
pub record HasAcked (k : WorkerKnown) (output : ℕ) (e : ServerAck) (chunk : CarriedChunk) : Type 0 where
  pub here : k.output ≡ output
  pub worker : Worker LiveSession
  pub has : k.has ≡ Some worker
  pub session : LiveSession
  pub stands : worker.session ≡ Some session
  pub acked : Accepted
  pub first : first_in session.accepted ≡ Some acked
  pub evidence : e ≡ evidence_of session.setup.server acked
  pub is : acked.chunk ≡ chunk

-- once it is settled
abbrev pub Settles : WorkerKnown → WorkerKnown → Type 0
Settles k l =
    (x : Worker LiveSession) (s : LiveSession) → k.has ≡ Some x → x.session ≡ Some s
    → l ≡ record k { has = Some (steps.with_session x (session_unloads s)) }

-- A worker of the output of this number has something, of which nothing is acknowledged and not
-- settled: this is the chunk that it took and did not load, these are those of its session, and this
-- server is lost where the session ends so.
pub record MayEnd (k : WorkerKnown) (output : ℕ) (kind : EndKind) (taken : Option CarriedChunk)
    (loaded : List CarriedChunk) (server : Option ℕ) : Type 0 where
  pub here : k.output ≡ output
  pub worker : Worker LiveSession
  pub has : k.has ≡ Some worker
  pub some : steps.is_idle lives worker ≡ false
  pub none : steps.has_acked lives worker.session ≡ false
  pub took : taken ≡ worker.taken
  pub carried : loaded ≡ steps.unacknowledged_of lives worker.session
  pub whole : loaded ≡ chunks_in worker.session
  pub loses : server ≡ steps.lost_server lives kind worker.session

-- once it has nothing any more
abbrev pub Ends : WorkerKnown → WorkerKnown → Type 0
Ends k l = l ≡ record k { has = Some (record { taken = None; session = None }) }

-- an output without requests, as it begins with these limits, as this one of a run, where these of
-- its servers are standbys
abbrev pub begun_by : BufferLimits → (run : List ℕ) → (output : ℕ) → (standby : List Bool) → LiveOutput
begun_by limits run output standby =
    no_requests (record { limits = limits; run = run; output = output }) (record {
      standby = standby;
      retry_wait = limits.retry_wait;
      retry_max = limits.retry_max;
    })

-- After a history the book of the output that this setting names gives just these receipts: those
-- of the requests of some origins that are owed an answer there and whose entries are all
-- acknowledged.
pub record AreGivenAfter (past : List RunEvent) (setting : BookSetting) (given : List Receipt)
    : Type 0 where
  pub output : LiveOutput
  pub at : output_at past setting.output ≡ Some output
  pub own : output.book.setting ≡ setting
  pub origins : List Origin
  pub is : given ≡ receipts output.book.settled output.book.requests origins
