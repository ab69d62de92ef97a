-- Who is to be told, and on what evidence: every request that an output entered, what became of
-- it, and every chunk that a server acknowledged, as it was sent, with the server's reply.
use Rattle.std.specs.Prelude.{
  ◌≡◌,
  ℕ,
  Bool,
  true,
  false,
  not,
  ◌&&◌,
  List,
  [],
  ◌∷◌,
  ◌++◌,
  length,
  map,
  filter,
  find,
  is_some,
  Option,
  Some,
  slice_get,
  ◌==◌,
}
use Rattle.std.specs.List.{list_all, list_any}
use Rattle.fwd_modes.specs.Requests.{Request}
use Rattle.fwd_modes.specs.Frames.{chunk_name}
use Rattle.fwd_modes.specs.declared.origin.Origin.{Origin}
use Rattle.fwd_chunks.specs.declared.span.Span.{Span}
use Rattle.fwd_session.specs.ServerAcks.{ServerAck}

-- the run and the output that the names of its chunks tell
pub record BookSetting : Type 0 where
  pub run : List ℕ
  pub output : ℕ

-- the name of the chunk of a number at this output
abbrev pub name_at : BookSetting → ℕ → List ℕ
name_at setting number = chunk_name setting.run setting.output number

-- a request that was entered: its connection and number, its tag, its entries, its `chunk`, and the
-- runs that its entries took in chunks, in their order
pub record Entered : Type 0 where
  pub origin : Origin
  pub tag : List ℕ
  pub entries : List (List ℕ)
  pub chunk : Option (List ℕ)
  pub spans : List Span

-- a source's request as it is entered, with the runs of its entries
abbrev pub entered_as : Request → Origin → List Span → Entered
entered_as r origin spans = record {
  origin = origin;
  tag = r.tag;
  entries = r.entries;
  chunk = r.chunk;
  spans = spans;
}

-- what became of a request: nothing yet, its connection was told that all its entries were
-- acknowledged, or nobody is to be told any more
pub data Fate : Type 0 where
  Untold : Fate
  Told : Fate
  Forgotten : Fate

-- a request that was entered, and what became of it
pub record Admission : Type 0 where
  pub request : Entered
  pub fate : Fate

-- every request ever entered, in order, and every chunk that was acknowledged, in order
pub record BookHistory : Type 0 where
  pub setting : BookSetting
  pub admissions : List Admission
  pub settled : List ServerAck

-- before any event
abbrev pub opening : BookSetting → BookHistory
opening setting = record { setting = setting; admissions = []; settled = [] }

-- ---- what is asked of it

-- two origins are one
abbrev pub is_origin : Origin → Origin → Bool
is_origin a b = (a.conn == b.conn) && (a.request == b.request)

-- the origin is one of these
abbrev pub is_among : List Origin → Origin → Bool
is_among origins origin = list_any (λ o. is_origin o origin) origins

-- the request came from the connection
abbrev pub is_of : ℕ → Entered → Bool
is_of conn q = q.origin.conn == conn

-- nothing became of the request yet
abbrev pub is_untold : Fate → Bool
is_untold Untold = true
is_untold _ = false

-- the requests that are owed an answer, in the order in which they were entered
abbrev pub untold : BookHistory → List Entered
untold b = map (λ a. a.request) (filter (λ a. is_untold a.fate) b.admissions)

-- the request of this origin among requests
abbrev pub request_at : List Entered → Origin → Option Entered
request_at qs origin = find (λ q. is_origin origin q.origin) qs

-- what was acknowledged under a number: of several what came first
abbrev pub evidence_of : List ServerAck → ℕ → Option ServerAck
evidence_of settled number = find (λ e. e.number == number) settled

-- all entries of the request are acknowledged
abbrev pub is_settled : List ServerAck → Entered → Bool
is_settled settled q = list_all (λ s. is_some (evidence_of settled s.number)) q.spans

-- some of the request's entries have the number
abbrev pub has_run : ℕ → Entered → Bool
has_run number q = list_any (λ s. s.number == number) q.spans

-- no number of these runs was acknowledged
abbrev pub are_fresh : List ServerAck → List Span → Bool
are_fresh settled spans =
    not (list_any (λ e. list_any (λ s. s.number == e.number) spans) settled)

-- no number of the request's entries was acknowledged, as is so of a request that comes
abbrev pub is_fresh : List ServerAck → Entered → Bool
is_fresh settled q = are_fresh settled q.spans

-- ---- what happens to it

-- a request is entered
abbrev pub enters : BookHistory → Entered → BookHistory
enters b q = record b { admissions = b.admissions ++ record { request = q; fate = Untold } ∷ [] }

-- a server acknowledged a chunk
abbrev pub settles : BookHistory → ServerAck → BookHistory
settles b e = record b { settled = b.settled ++ e ∷ [] }

-- what becomes of a request where the test holds
abbrev pub becomes : Fate → Bool → Admission → Admission
becomes fate true a = record a { fate = fate }
becomes fate false a = a

-- the request is owed an answer, and of one of these origins
abbrev pub is_owed : List Origin → Admission → Bool
is_owed origins a = is_untold a.fate && is_among origins a.request.origin

-- what becomes of the requests where the test holds
unfoldable pub leaves : Fate → (Admission → Bool) → BookHistory → BookHistory
leaves fate gone b = record b {
  admissions = map (λ a. becomes fate (is_untold a.fate && gone a) a) b.admissions;
}

-- the requests of these origins that are owed an answer are told, where all their entries are
-- acknowledged
abbrev pub tells : BookHistory → List Origin → BookHistory
tells b origins = leaves Told
    (λ a. is_among origins a.request.origin && is_settled b.settled a.request) b

-- the requests of these origins that are owed an answer are forgotten
abbrev pub forgets : BookHistory → List Origin → BookHistory
forgets b origins = leaves Forgotten (λ a. is_among origins a.request.origin) b

-- all requests of these origins that are owed an answer can be told
abbrev pub CanBeTold : BookHistory → List Origin → Type 0
CanBeTold b origins = (i : ℕ) (a : Admission) → slice_get b.admissions i ≡ Some a
    → is_owed origins a ≡ true → is_settled b.settled a.request ≡ true

-- how many of them are owed an answer
abbrev pub owed : BookHistory → List Origin → ℕ
owed b origins = length (filter (is_owed origins) b.admissions)

-- ---- what happens to a connection's requests

-- nothing became yet of the request, which is the connection's
abbrev pub is_owed_to : ℕ → Admission → Bool
is_owed_to conn a = is_untold a.fate && is_of conn a.request

-- and all its entries are acknowledged
abbrev pub is_due : ℕ → List ServerAck → Admission → Bool
is_due conn settled a = is_owed_to conn a && is_settled settled a.request

-- the requests that the connection is to be told of, in the order in which they were entered
abbrev pub due : BookHistory → ℕ → List Entered
due b conn = map (λ a. a.request) (filter (is_due conn b.settled) b.admissions)

-- the connection is told of them
abbrev pub tells_due : BookHistory → ℕ → BookHistory
tells_due b conn = leaves Told (is_due conn b.settled) b

-- nobody is to be told of the connection's requests any more
abbrev pub forgets_of : BookHistory → ℕ → BookHistory
forgets_of b conn = leaves Forgotten (is_owed_to conn) b

-- how many requests of the connection are owed an answer
abbrev pub owed_of : BookHistory → ℕ → ℕ
owed_of b conn = length (filter (is_owed_to conn) b.admissions)
