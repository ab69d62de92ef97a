-- What of a history still matters: the bytes of unfinished values, the requests that wait, the
-- counts, and what is not yet settled. It is the other reading of the layers of a step.
use Rattle.std.specs.Prelude.{
  ℕ,
  suc,
  Bool,
  true,
  not,
  List,
  [],
  ◌∷◌,
  ◌++◌,
  length,
  map,
  filter,
  Option,
  Some,
  None,
  option_map,
  nat_lt,
  ◌==◌,
  if◌then◌else◌,
  slice_get,
  slice_set,
}
use Rattle.fwd_msgpack.specs.declared.limits.Limits.{Limits}
use Rattle.fwd_handshake.specs.declared.credentials.Security.{Security}
use Rattle.fwd_source.specs.History.{Setup}
use Rattle.fwd_source.specs.Live.{LiveSource, live_source, opened_source}
use Rattle.fwd_source.specs.Layer.{live_sources}
use Rattle.fwd_model.specs.declared.config.OutputConfig.{OutputConfig}
use Rattle.fwd_chunks.specs.declared.wanted.Wanted.{Wanted}
use Rattle.fwd_chunks.specs.Counts.{Counts}
use Rattle.fwd_chunks.specs.Report.{Report}
use Rattle.fwd_chunks.specs.TagCounts.{live_report}
use Rattle.fwd_chunks.specs.History.{CarriedChunk}
use Rattle.fwd_chunks.specs.Live as buffer
use Rattle.fwd_chunks.specs.Live.{
  LiveBuffer,
  live_refusal,
  live_closing,
  live_flushes,
  live_given_for,
  live_carried_chunk,
  live_looks,
  live_counts,
}
use Rattle.fwd_session.specs.ServerAcks.{ServerAck}
use Rattle.fwd_book.specs.Live.{LiveBook, live_due, live_tells_due, live_owed_of, live_forgets_of}
use Rattle.fwd_model.specs.Books.{telling}
use Rattle.fwd_session.specs.History.{SessionHistory}
use Rattle.fwd_session.specs.Live.{LiveSession, live_session}
use Rattle.fwd_model.specs.Outputs.{
  OutputHistory,
  Return,
  LiveOutput,
  live_output,
  output_enters,
  output_settles,
  output_choice,
  output_looks,
  output_ends,
  live_count_at,
}
use Rattle.fwd_model.specs.Sessions.{live_sessions}
use Rattle.fwd_model.specs.Layers.{Worker, Lanes, Layers}
use Rattle.fwd_model.specs.History.{Connection, Lane, History, taken_by}

-- ---- what is kept

-- a connection that is known
pub record LiveConnection : Type 0 where
  pub id : ℕ
  pub source : LiveSource

-- an output with its settings and its workers
pub record LiveLane : Type 0 where
  pub config : OutputConfig
  pub output : LiveOutput
  pub workers : List (Worker LiveSession)

-- the relay; the last id accepted is kept, since connections go
pub record LiveRelay : Type 0 where
  pub run : List ℕ
  pub routes : List (List (List ℕ))
  pub security : Security
  pub limits : Limits
  pub last : Option ℕ
  pub connections : List LiveConnection
  pub lanes : List LiveLane

-- the live part of a connection
abbrev pub live_connection : Connection → LiveConnection
live_connection c = record { id = c.id; source = live_source c.source }

-- the connections that were not shut
abbrev pub known : List Connection → List Connection
known cs = filter (λ c. not c.gone) cs

-- the last id that was accepted
abbrev pub last_id : List Connection → Option ℕ
last_id [] = None
last_id (c ∷ []) = Some c.id
last_id (c ∷ d ∷ cs) = last_id (d ∷ cs)

-- the live part of a worker: the chunk that it took and did not load yet, with its entries, and
-- its session
abbrev pub live_worker : OutputHistory → ℕ → Option SessionHistory → Worker LiveSession
live_worker o w s = record {
  taken = taken_by o.buffer w s;
  session = option_map live_session s;
}

-- the workers from this place on
abbrev pub live_workers : OutputHistory → ℕ → List (Option SessionHistory)
    → List (Worker LiveSession)
live_workers o w [] = []
live_workers o w (s ∷ ss) = live_worker o w s ∷ live_workers o (suc w) ss

-- the live part of an output with its workers
unfoldable pub live_lane : Lane → LiveLane
live_lane l = record {
  config = l.config;
  output = live_output l.output;
  workers = live_workers l.output 0 l.sessions;
}

-- the live part of a history
unfoldable pub live : History → LiveRelay
live h = record {
  run = h.run;
  routes = h.routes;
  security = h.security;
  limits = h.limits;
  last = last_id h.connections;
  connections = map live_connection (known h.connections);
  lanes = map live_lane h.lanes;
}

-- ---- connections

-- the connection under an id
abbrev pub live_source_at : ℕ → List LiveConnection → Option LiveSource
live_source_at id [] = None
live_source_at id (c ∷ cs) = if c.id == id then Some c.source else live_source_at id cs

-- another source under the id
abbrev pub with_live_source : ℕ → LiveSource → List LiveConnection → List LiveConnection
with_live_source id s [] = []
with_live_source id s (c ∷ cs) =
    if c.id == id then record { id = c.id; source = s } ∷ cs else c ∷ with_live_source id s cs

-- the connections but this one
abbrev pub without : ℕ → List LiveConnection → List LiveConnection
without id cs = filter (λ c. not (c.id == id)) cs

-- the id is above the last one
abbrev pub is_above : ℕ → Option ℕ → Bool
is_above id None = true
is_above id (Some k) = nat_lt k id

-- a connection comes
abbrev pub live_accepts : LiveRelay → Setup → LiveRelay
live_accepts r setup = record r {
  last = Some setup.conn;
  connections = r.connections ++ record { id = setup.conn; source = opened_source setup } ∷ [];
}

-- the connection of this id is another
abbrev pub with_live_connection : ℕ → LiveSource → LiveRelay → LiveRelay
with_live_connection id s r = record r { connections = with_live_source id s r.connections }

-- the connection leaves
abbrev pub live_leaves : ℕ → LiveRelay → LiveRelay
live_leaves id r = record r { connections = without id r.connections }

-- ---- outputs

-- the output has other entries and requests
abbrev pub with_live_output : LiveLane → LiveOutput → LiveLane
with_live_output l o = record l { output = o }

-- the output has other entries
abbrev pub with_live_buffer : LiveLane → LiveBuffer → LiveLane
with_live_buffer l b = with_live_output l (record (l.output) { buffer = b })

-- the output has another book
abbrev pub with_live_book : LiveLane → LiveBook → LiveLane
with_live_book l b = with_live_output l (record (l.output) { book = b })

-- another worker stands in this place
abbrev pub with_live_worker : LiveLane → ℕ → Worker LiveSession → LiveLane
with_live_worker l w x = record l { workers = slice_set l.workers w x }

-- the chunk that has the least number that is free at a moment for what is wanted
abbrev pub lane_gives : LiveLane → Wanted → ℕ → Option CarriedChunk
lane_gives l wanted now =
    option_map (live_carried_chunk l.output.buffer)
    (live_given_for (live_looks l.output.buffer now) wanted)

-- the worker takes that chunk, if there is one
abbrev pub lane_takes : LiveLane → ℕ → Worker LiveSession → Wanted → ℕ → LiveLane
lane_takes l w x wanted now = record l {
  output = record (l.output) { buffer = buffer.live_takes l.output.buffer w wanted now };
  workers = slice_set l.workers w (record {
    taken = lane_gives l wanted now;
    session = x.session;
  });
}

-- a chunk of the worker is settled, which leaves it so
abbrev pub lane_settles : LiveLane → ℕ → Worker LiveSession → ServerAck → LiveLane
lane_settles l w x e = record l {
  output = output_settles l.output e;
  workers = slice_set l.workers w x;
}

-- the worker has neither a session nor a chunk any more
abbrev pub lane_ends : LiveLane → ℕ → List Return → (server : Option ℕ) → (now : ℕ)
    → LiveLane
lane_ends l w back server now = record l {
  output = output_ends l.output back server now;
  workers = slice_set l.workers w (record { taken = None; session = None });
}

-- the output of this number is another
abbrev pub with_live_lane : ℕ → LiveLane → LiveRelay → LiveRelay
with_live_lane o l r = record r { lanes = slice_set r.lanes o l }

-- ---- the live part as layers

-- outputs as what still matters of them
abbrev pub live_lanes : Lanes LiveSession
live_lanes = record {
  Lane = LiveLane;
  config = λ l. l.config;
  refusal = λ l origin q now. live_refusal l.output.buffer q now;
  closing = λ l now kind. length (live_closing l.output.buffer now kind);
  flushes = λ l now kind. with_live_buffer l (live_flushes l.output.buffer now kind);
  enters = λ l origin q now. with_live_output l (output_enters l.output origin q now);
  due = λ l conn. telling (live_due l.output.book conn);
  tells = λ l conn. with_live_book l (live_tells_due l.output.book conn);
  owed = λ l conn. live_owed_of l.output.book conn;
  forgets = λ l conn. with_live_book l (live_forgets_of l.output.book conn);
  worker_at = λ l w. slice_get l.workers w;
  puts_worker = with_live_worker;
  chosen = λ l w now. output_choice l.output w now;
  watches = λ l now. with_live_output l (output_looks l.output now);
  given = lane_gives;
  takes = lane_takes;
  entries_at = λ l number. live_count_at number l.output;
  settles = lane_settles;
  ends = lane_ends;
}

-- the relay as what still matters of it
abbrev pub lives : Layers
lives = record {
  sources = live_sources;
  sessions = live_sessions;
  lanes = live_lanes;
  Relay = LiveRelay;
  run = λ r. r.run;
  routes = λ r. r.routes;
  security = λ r. r.security;
  limits = λ r. r.limits;
  is_fresh = λ r id. is_above id r.last;
  accepts = live_accepts;
  source_at = λ r id. live_source_at id r.connections;
  puts_source = λ r id s. with_live_connection id s r;
  leaves = λ r id. live_leaves id r;
  lane_at = λ r o. slice_get r.lanes o;
  puts_lane = λ r o l. with_live_lane o l r;
}

-- entries accepted, settled and held, the bytes held and the chunks, of each output
abbrev pub live_relay_counts : LiveRelay → List Counts
live_relay_counts r = map (λ l. live_counts l.output.buffer) r.lanes

-- the same, and what is held of each tag
abbrev pub live_relay_reports : LiveRelay → List Report
live_relay_reports r = map (λ l. live_report l.output.buffer) r.lanes
