-- What it means that a request was delivered, and that its connection was told so.
use Rattle.std.specs.Prelude.{
  ◌≡◌,
  ℕ,
  ◌+◌,
  ◌≤◌,
  true,
  false,
  ◌&&◌,
  List,
  [],
  ◌∷◌,
  ◌++◌,
  length,
  filter,
  Option,
  Some,
  None,
  ◌==◌,
  slice_get,
}
use Rattle.std.specs.List.{list_all}
use Rattle.std.specs.Str.{bytes_eq}
use Rattle.fwd_msgpack.specs.Scans.{values_of}
use Rattle.fwd_modes.specs.Requests.{Request}
use Rattle.fwd_modes.specs.Frames.{chunk_frame, chunk_name}
use Rattle.fwd_modes.specs.Acks.{ack_name}
use Rattle.fwd_chunks.specs.Cells.{Cell, contents, entries_of, has_number}
use Rattle.fwd_chunks.specs.Cells as cells
use Rattle.fwd_model.specs.declared.config.Config.{Config}
use Rattle.fwd_model.specs.declared.event.Event.{Event}
use Rattle.fwd_model.specs.declared.event.Event.TheVariants as event
use Rattle.fwd_model.specs.declared.answer.Answer.TheVariants as answer
use Rattle.fwd_match.specs.Patterns.{route}
use Rattle.fwd_source.specs.History.{SourceHistory, judged}
use Rattle.fwd_model.specs.declared.answer.Answer.{Answer}
use Rattle.fwd_model.specs.Outcome.{answer_of}
use Rattle.fwd_model.specs.Step.{step, after}
use Rattle.fwd_chunks.specs.History.{CarriedChunk}
use Rattle.fwd_session.specs.History.{Loaded, SessionHistory, is_handed_on, newly_heard}
use Rattle.fwd_book.specs.History.{Untold, Admission}
use Rattle.fwd_model.specs.declared.event.EndKind.{EndKind}
use Rattle.fwd_model.specs.History.{source_at, Lane, History, opening, histories}

-- where events lead from the opening state of the settings
abbrev pub reached : Config → List Event → History
reached config es = after histories (opening config) es

-- what an event is answered after others
abbrev pub answered : Config → List Event → Event → Answer
answered config es e = answer_of (step histories (reached config es) e)

-- the session that stands at a worker's place, if there is the worker
abbrev pub standing : Option (Option SessionHistory) → Option SessionHistory
standing None = None
standing (Some s) = s

-- the place of an output's worker, if there is the output
abbrev pub session_at : ℕ → Option Lane → Option (Option SessionHistory)
session_at w None = None
session_at w (Some l) = slice_get l.sessions w

-- the session that a worker of an output has
abbrev pub session_of : History → ℕ → ℕ → Option SessionHistory
session_of h o w = standing (session_at w (slice_get h.lanes o))

-- after these events, none of the later ones ended the worker's session
abbrev pub NoneEnded : Config → List Event → List Event → ℕ → ℕ → Type 0
NoneEnded config before later o w =
    (between rest : List Event) (kind : EndKind) (moment : ℕ) (numbers : List ℕ) →
    later ≡ between ++ event.End o w kind moment ∷ rest →
    answered config (before ++ between) (event.End o w kind moment) ≡ answer.Ended numbers → ⊥

-- after these events, none of the later ones began a session of the worker
abbrev pub NoneBegan : Config → List Event → List Event → ℕ → ℕ → Type 0
NoneBegan config before later o w =
    (between rest : List Event) (server : ℕ) (salt : List ℕ) (moment : ℕ) →
    later ≡ between ++ event.Up o w server salt moment ∷ rest →
    answered config (before ++ between) (event.Up o w server salt moment) ≡ answer.Done → ⊥

-- among the events the worker's session with a server began, and it did not end since
pub record HasBegun (config : Config) (es : List Event) (o w : ℕ) : Type 0 where
  pub before : List Event
  pub server : ℕ
  pub salt : List ℕ
  pub moment : ℕ
  pub later : List Event
  pub split : es ≡ before ++ event.Up o w server salt moment ∷ later
  pub done : answered config before (event.Up o w server salt moment) ≡ answer.Done
  pub kept : NoneEnded config (before ++ event.Up o w server salt moment ∷ []) later o w

-- among the events, after that, the session, as it stood then, was loaded with the frame, and it
-- did not end since
pub record WasLoaded (config : Config) (es : List Event) (o w : ℕ)
    (frame : List ℕ) : Type 0 where
  pub before : List Event
  pub moment : ℕ
  pub later : List Event
  pub split : es ≡ before ++ event.Load o w moment ∷ later
  pub session : SessionHistory
  pub stands : session_of (reached config before) o w ≡ Some session
  pub loads : answered config before (event.Load o w moment) ≡ answer.Frame frame
  pub kept : NoneEnded config (before ++ event.Load o w moment ∷ []) later o w
  pub begun : HasBegun config before o w

-- among the bytes of the session the frame stands just behind this front, whole, and the link took
-- them through its last
pub record IsTaken (s : SessionHistory) (front frame : List ℕ) : Type 0 where
  pub back : List ℕ
  pub framed : s.appended ≡ front ++ frame ++ back
  pub through : length (front ++ frame) ≤ s.sent

-- among the events, after that, the link took the frame's last byte, at the place where the load
-- put it: behind all bytes that the session had been handed before; and the session did not end
-- since
pub record WasSent (config : Config) (es : List Event) (o w : ℕ) (frame : List ℕ) : Type 0 where
  pub before : List Event
  pub count : ℕ
  pub later : List Event
  pub split : es ≡ before ++ event.Wrote o w count ∷ later
  pub done : answered config before (event.Wrote o w count) ≡ answer.Done
  pub session : SessionHistory
  pub stands : session_of (reached config (before ++ event.Wrote o w count ∷ [])) o w
      ≡ Some session
  pub loaded : WasLoaded config before o w frame
  pub taken : IsTaken session loaded.session.appended frame
  pub kept : NoneEnded config (before ++ event.Wrote o w count ∷ []) later o w

-- a chunk was loaded into a session, and its frame is handed on: the link took all bytes through
-- its last
pub record IsHandedOn (s : SessionHistory) (c : CarriedChunk) : Type 0 where
  pub place : ℕ
  pub loaded : Loaded
  pub carried : slice_get s.carried place ≡ Some loaded
  pub chunk : loaded.chunk ≡ c
  pub handed_on : is_handed_on s loaded ≡ true

-- among the events, after that, a piece was heard from the session while it was up, and with it
-- the last byte of a value that names the chunk
pub record WasAcknowledged (config : Config) (es : List Event) (o w : ℕ)
    (frame name : List ℕ) : Type 0 where
  pub before : List Event
  pub bytes : List ℕ
  pub later : List Event
  pub split : es ≡ before ++ event.Heard o w bytes ∷ later
  pub session : SessionHistory
  pub stands : session_of (reached config before) o w ≡ Some session
  pub is_up : session.down ≡ false
  pub value : List ℕ
  pub place : ℕ
  pub ended : slice_get (values_of (newly_heard session bytes)) place ≡ Some value
  pub names : ack_name value ≡ Some name
  pub sent : WasSent config before o w frame

-- the entries of a connection's request, as an output has them
abbrev pub cells_from : ℕ → ℕ → List Cell → List Cell
cells_from id r cells = filter (λ c. (c.origin.conn == id) && (c.origin.request == r)) cells

-- the frame of all entries under a number and a tag
abbrev pub whole_frame : Config → ℕ → List ℕ → List Cell → ℕ → List ℕ
whole_frame config o tag cells number =
    chunk_frame tag (contents number cells) (chunk_name config.run o number)

-- The request of number r of a connection, which numbers its requests from 1, was delivered by an
-- output: it is the first output whose pattern matches the request's tag; the output has its
-- entries, all, unchanged and in order, under its tag; each number that they have is
-- acknowledged; and a worker's session was loaded with the frame of all entries under that number
-- and the tag, the link took it to the last byte, and then the server named it.
pub record IsDelivered (config : Config) (es : List Event) (id r o : ℕ) : Type 0 where
  pub source : SourceHistory
  pub stands : source_at id (reached config es).connections ≡ Some source
  pub place : ℕ
  pub number : r ≡ place + 1
  pub request : Request
  pub asked : slice_get (judged source).requests place ≡ Some request
  pub first_match : route config.routes request.tag ≡ Some o
  pub lane : Lane
  pub here : slice_get (reached config es).lanes o ≡ Some lane
  pub entries : entries_of (cells_from id r lane.output.buffer.cells) ≡ request.entries
  pub tags : list_all (λ c. bytes_eq c.tag request.tag) (cells_from id r lane.output.buffer.cells)
      ≡ true
  pub settled : (k : ℕ)
      → has_number k (cells.numbers_of (cells_from id r lane.output.buffer.cells)) ≡ true
      → has_number k lane.output.buffer.acknowledged ≡ true
  pub sent : (k : ℕ)
      → has_number k (cells.numbers_of (cells_from id r lane.output.buffer.cells)) ≡ true →
      (w : ℕ) × WasAcknowledged config es o w
      (whole_frame config o request.tag lane.output.buffer.cells k) (chunk_name config.run o k)

-- A connection's request is due at an output: the output entered it, nothing became of it yet, and
-- each number that its entries have is acknowledged.
pub record IsDueAt (l : Lane) (id r : ℕ) : Type 0 where
  pub place : ℕ
  pub admission : Admission
  pub here : slice_get l.output.book.admissions place ≡ Some admission
  pub conn : admission.request.origin.conn ≡ id
  pub number : admission.request.origin.request ≡ r
  pub untold : admission.fate ≡ Untold
  pub settled : (k : ℕ)
      → has_number k (cells.numbers_of (cells_from id r l.output.buffer.cells)) ≡ true
      → has_number k l.output.buffer.acknowledged ≡ true

-- among the events, the connection was told that the request's entries were all acknowledged
pub record IsTold (config : Config) (es : List Event) (id r o : ℕ) : Type 0 where
  pub before : List Event
  pub numbers : List ℕ
  pub out : List ℕ
  pub later : List Event
  pub split : es ≡ before ++ event.Collect id o ∷ later
  pub told : answered config before (event.Collect id o) ≡ answer.Told numbers out
  pub among : has_number r numbers ≡ true

-- among events and their answers, a collect of the connection was told that the request's entries
-- were all acknowledged
pub record IsToldAmong (events : List Event) (answers : List Answer) (id r o : ℕ) : Type 0 where
  pub before : List Event
  pub later : List Event
  pub numbers : List ℕ
  pub out : List ℕ
  pub split : events ≡ before ++ event.Collect id o ∷ later
  pub told : slice_get answers (length before) ≡ Some (answer.Told numbers out)
  pub among : has_number r numbers ≡ true
