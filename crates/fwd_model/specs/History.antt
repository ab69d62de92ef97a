-- The history of a relay: all that ever came, with nothing removed. It is one reading of the
-- layers of a step.
use Rattle.std.specs.Prelude.{
  ◌≡◌,
  ℕ,
  suc,
  Bool,
  true,
  false,
  List,
  [],
  ◌∷◌,
  ◌++◌,
  length,
  map,
  replicate,
  Option,
  Some,
  None,
  option_map,
  nat_lt,
  ◌==◌,
  if◌then◌else◌,
  slice_get,
  slice_set,
}
use Rattle.std.specs.List.{list_all}
use Rattle.fwd_msgpack.specs.declared.limits.Limits.{Limits}
use Rattle.fwd_handshake.specs.declared.credentials.Security.{Security}
use Rattle.fwd_source.specs.History.{Setup, SourceHistory, opened}
use Rattle.fwd_source.specs.Layer.{source_histories}
use Rattle.fwd_model.specs.declared.config.Config.{Config}
use Rattle.fwd_model.specs.declared.config.OutputConfig.{OutputConfig}
use Rattle.fwd_model.specs.declared.event.Event.{Event}
use Rattle.fwd_chunks.specs.Counts.{Counts}
use Rattle.fwd_chunks.specs.Report.{Report}
use Rattle.fwd_chunks.specs.TagCounts.{report}
use Rattle.fwd_chunks.specs.History as buffer
use Rattle.fwd_chunks.specs.History.{BufferHistory, CarriedChunk, carried_chunk_of, looks}
use Rattle.fwd_session.specs.History.{SessionHistory, chunks_of}
use Rattle.fwd_book.specs.History as book
use Rattle.fwd_book.specs.History.{BookHistory}
use Rattle.fwd_model.specs.Books.{telling}
use Rattle.fwd_model.specs.Setups.{setting_of, servers_of}
use Rattle.fwd_model.specs.Outputs.{
  OutputHistory,
  carried_by,
  not_loaded,
  no_history,
  output_history_enters,
  output_history_settles,
  output_history_choice,
  output_history_looks,
  output_history_ends,
  count_at,
}
use Rattle.fwd_model.specs.Sessions.{session_histories}
use Rattle.fwd_model.specs.Layers.{Worker, Lanes, Layers}
use Rattle.fwd_model.specs.Step.{after}

-- ---- what is kept

-- a connection: its id, its history, and whether it was shut, and is known no more
pub record Connection : Type 0 where
  pub id : ℕ
  pub source : SourceHistory
  pub gone : Bool

-- an output with its settings, and a place for each of its workers
pub record Lane : Type 0 where
  pub config : OutputConfig
  pub output : OutputHistory
  pub sessions : List (Option SessionHistory)

-- the relay: what tells its run from others, the pattern of each output as its expanded words,
-- what a source has to prove and how long and deep its values may be, the connections ever
-- accepted, and the outputs
pub record History : Type 0 where
  pub run : List ℕ
  pub routes : List (List (List ℕ))
  pub security : Security
  pub limits : Limits
  pub connections : List Connection
  pub lanes : List Lane

-- an output before any event
abbrev pub new_lane : List ℕ → ℕ → OutputConfig → Lane
new_lane run o c = record {
  config = c;
  output = no_history (setting_of run o c) (servers_of c);
  sessions = replicate c.workers None;
}

-- the outputs from this number on
abbrev pub new_lanes : List ℕ → ℕ → List OutputConfig → List Lane
new_lanes run o [] = []
new_lanes run o (c ∷ cs) = new_lane run o c ∷ new_lanes run (suc o) cs

-- before any event
unfoldable pub opening : Config → History
opening config = record {
  run = config.run;
  routes = config.routes;
  security = config.security;
  limits = config.limits;
  connections = [];
  lanes = new_lanes config.run 0 config.outputs;
}

-- ---- connections

-- the connection that was accepted under an id, known or not
abbrev pub ever_at : ℕ → List Connection → Option SourceHistory
ever_at id [] = None
ever_at id (c ∷ cs) = if c.id == id then Some c.source else ever_at id cs

-- the connection that is known under an id
abbrev pub source_at : ℕ → List Connection → Option SourceHistory
source_at id [] = None
source_at id (c ∷ cs) =
    if c.id == id then (if c.gone then None else Some c.source) else source_at id cs

-- another history under the id
abbrev pub with_source : ℕ → SourceHistory → List Connection → List Connection
with_source id s [] = []
with_source id s (c ∷ cs) =
    if c.id == id then record c { source = s } ∷ cs
    else c ∷ with_source id s cs

-- the connection of an id is known no more
abbrev pub with_gone : ℕ → List Connection → List Connection
with_gone id [] = []
with_gone id (c ∷ cs) =
    if c.id == id then record c { gone = true } ∷ cs
    else c ∷ with_gone id cs

-- the id is above every earlier one
abbrev pub is_fresh : ℕ → List Connection → Bool
is_fresh id cs = list_all (λ c. nat_lt c.id id) cs

-- a connection comes
abbrev pub accepts : History → Setup → History
accepts h setup = record h {
  connections = h.connections ++ record { id = setup.conn; source = opened setup; gone = false }
      ∷ [];
}

-- the connection of this id is another
abbrev pub with_connection : ℕ → SourceHistory → History → History
with_connection id s h = record h { connections = with_source id s h.connections }

-- the connection is known no more. Its id stays used, and what it asked for stands
abbrev pub leaves : ℕ → History → History
leaves id h = record h { connections = with_gone id h.connections }

-- ---- outputs

-- the output has another history
abbrev pub with_output : Lane → OutputHistory → Lane
with_output l o = record l { output = o }

-- the output has other entries
abbrev pub with_buffer : Lane → BufferHistory → Lane
with_buffer l b = with_output l (record (l.output) { buffer = b })

-- the output has another book
abbrev pub with_book : Lane → BookHistory → Lane
with_book l b = with_output l (record (l.output) { book = b })

-- the worker has this session, or none
abbrev pub with_place : ℕ → Option SessionHistory → Lane → Lane
with_place w s l = record l { sessions = slice_set l.sessions w s }

-- the output of this number is another
abbrev pub with_lane : ℕ → Lane → History → History
with_lane o l h = record h { lanes = slice_set h.lanes o l }

-- ---- the history as layers

-- the chunks that a session has: those that are not acknowledged, and those that are and are not
-- taken out
abbrev pub loaded_in : Option SessionHistory → List CarriedChunk
loaded_in None = []
loaded_in (Some s) = chunks_of s.carried ++ map (λ a. a.chunk) s.accepted

-- the chunk that a worker took and did not load yet
abbrev pub taken_by : BufferHistory → ℕ → Option SessionHistory → Option CarriedChunk
taken_by b w s = not_loaded (loaded_in s) (carried_by b w)

-- a worker
abbrev pub history_worker : Lane → ℕ → Option SessionHistory → Worker SessionHistory
history_worker l w s = record { taken = taken_by l.output.buffer w s; session = s }

-- outputs as all that ever came to them
abbrev pub lane_histories : Lanes SessionHistory
lane_histories = record {
  Lane = Lane;
  config = λ l. l.config;
  refusal = λ l origin q now. buffer.refusal l.output.buffer origin q now;
  closing = λ l now kind. length (buffer.closing l.output.buffer now kind);
  flushes = λ l now kind. with_buffer l (buffer.flushes l.output.buffer now kind);
  enters = λ l origin q now. with_output l (output_history_enters l.output origin q now);
  due = λ l conn. telling (book.due l.output.book conn);
  tells = λ l conn. with_book l (book.tells_due l.output.book conn);
  owed = λ l conn. book.owed_of l.output.book conn;
  forgets = λ l conn. with_book l (book.forgets_of l.output.book conn);
  worker_at = λ l w. option_map (history_worker l w) (slice_get l.sessions w);
  puts_worker = λ l w x. with_place w x.session l;
  chosen = λ l w now. output_history_choice l.output w now;
  watches = λ l now. with_output l (output_history_looks l.output now);
  given = λ l wanted now.
      option_map (carried_chunk_of l.output.buffer)
      (buffer.given_for (looks l.output.buffer now) wanted);
  takes = λ l w x wanted now. with_buffer l (buffer.takes l.output.buffer w wanted now);
  entries_at = λ l number. count_at number l.output;
  settles = λ l w x e.
      with_place w x.session (with_output l (output_history_settles l.output e));
  ends = λ l w back server now.
      with_place w None (with_output l (output_history_ends l.output back server now));
}

-- the relay as all that ever came to it
abbrev pub histories : Layers
histories = record {
  sources = source_histories;
  sessions = session_histories;
  lanes = lane_histories;
  Relay = History;
  run = λ h. h.run;
  routes = λ h. h.routes;
  security = λ h. h.security;
  limits = λ h. h.limits;
  is_fresh = λ h id. is_fresh id h.connections;
  accepts = accepts;
  source_at = λ h id. source_at id h.connections;
  puts_source = λ h id s. with_connection id s h;
  leaves = λ h id. leaves id h;
  lane_at = λ h o. slice_get h.lanes o;
  puts_lane = λ h o l. with_lane o l h;
}

-- entries accepted, settled and held, the bytes held and the chunks, of each output
abbrev pub counts : History → List Counts
counts h = map (λ l. buffer.counts l.output.buffer) h.lanes

-- the same, and what is held of each tag
abbrev pub reports : History → List Report
reports h = map (λ l. report l.output.buffer) h.lanes

-- a list of events leads from the opening state of the settings to this one
abbrev pub IsReached : Config → History → Type 0
IsReached config h = (es : List Event) × (after histories (opening config) es ≡ h)
