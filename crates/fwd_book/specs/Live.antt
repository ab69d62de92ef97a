-- What of a book's history still matters: the requests that are owed an answer, and what was
-- acknowledged of their entries.
use Rattle.std.specs.Prelude.{
  ◌≡◌,
  ℕ,
  Bool,
  true,
  false,
  not,
  ◌&&◌,
  List,
  [],
  ◌∷◌,
  ◌++◌,
  length,
  map,
  filter,
  Option,
  Some,
  None,
  option_to_list,
  take,
  drop,
  slice_get,
}
use Rattle.std.specs.List.{flat_map}
use Rattle.fwd_modes.specs.Requests.{Request}
use Rattle.fwd_modes.specs.Acks.{ack_name}
use Rattle.fwd_modes.specs.declared.origin.Origin.{Origin}
use Rattle.fwd_chunks.specs.declared.span.Span.{Span}
use Rattle.fwd_chunks.specs.Spans.{run_in, AreRising, AreCutBy}
use Rattle.fwd_session.specs.ServerAcks.{ServerAck}
use Rattle.fwd_book.specs.History.{
  BookSetting,
  Entered,
  BookHistory,
  entered_as,
  name_at,
  is_among,
  is_of,
  request_at,
  untold,
  evidence_of,
  is_settled,
  has_run,
}

-- the requests that are owed an answer, in the order in which they were entered, and what was
-- acknowledged under their numbers, one run after the other
pub record LiveBook : Type 0 where
  pub setting : BookSetting
  pub requests : List Entered
  pub settled : List ServerAck

-- what is found under the numbers of runs, one run after the other
abbrev pub found_under : (ℕ → Option ServerAck) → List Span → List ServerAck
found_under found spans = flat_map (λ s. option_to_list (found s.number)) spans

-- what is found under the numbers of requests, one request after the other
abbrev pub found_for : (ℕ → Option ServerAck) → List Entered → List ServerAck
found_for found qs = flat_map (λ q. found_under found q.spans) qs

-- what was acknowledged under the numbers of requests
abbrev pub evidence_for : List Entered → List ServerAck → List ServerAck
evidence_for qs settled = found_for (evidence_of settled) qs

-- the live part of a history
unfoldable pub live_book : BookHistory → LiveBook
live_book b = record {
  setting = b.setting;
  requests = untold b;
  settled = evidence_for (untold b) b.settled;
}

-- before any event
abbrev pub live_opening : BookSetting → LiveBook
live_opening setting = record { setting = setting; requests = []; settled = [] }

-- a request is entered
abbrev pub live_enters : LiveBook → Entered → LiveBook
live_enters b q = record b { requests = b.requests ++ q ∷ [] }

-- a server acknowledged a chunk: it is kept where some request has entries in it
abbrev pub live_settles : LiveBook → ServerAck → LiveBook
live_settles b e = record b { settled = evidence_for b.requests (b.settled ++ e ∷ []) }

-- the requests that pass a test leave, and with them what was acknowledged of their entries alone
abbrev pub live_drops : (Entered → Bool) → LiveBook → LiveBook
live_drops gone b = record b {
  requests = filter (λ q. not (gone q)) b.requests;
  settled = evidence_for (filter (λ q. not (gone q)) b.requests) b.settled;
}

-- the requests of other origins
abbrev pub live_left : LiveBook → List Origin → List Entered
live_left b origins = filter (λ q. not (is_among origins q.origin)) b.requests

-- the requests of these origins leave
abbrev pub live_leaves : LiveBook → List Origin → LiveBook
live_leaves b origins = live_drops (λ q. is_among origins q.origin) b

-- the requests of the connection whose entries are all acknowledged
abbrev pub live_is_due : LiveBook → ℕ → Entered → Bool
live_is_due b conn q = is_of conn q && is_settled b.settled q

-- they are what the connection is told
abbrev pub live_due : LiveBook → ℕ → List Entered
live_due b conn = filter (live_is_due b conn) b.requests

-- they leave
abbrev pub live_tells_due : LiveBook → ℕ → LiveBook
live_tells_due b conn = live_drops (live_is_due b conn) b

-- the requests of the connection leave
abbrev pub live_forgets_of : LiveBook → ℕ → LiveBook
live_forgets_of b conn = live_drops (is_of conn) b

-- how many these are
abbrev pub live_owed_of : LiveBook → ℕ → ℕ
live_owed_of b conn = length (filter (is_of conn) b.requests)

-- a request is there, and all its entries are acknowledged
abbrev pub settled_if : List ServerAck → Option Entered → Bool
settled_if settled None = false
settled_if settled (Some q) = is_settled settled q

-- the request of an origin is there, and all its entries are acknowledged
abbrev pub live_is_settled : LiveBook → Origin → Bool
live_is_settled b origin = settled_if b.settled (request_at b.requests origin)

-- how many leave
abbrev pub live_owed : LiveBook → List Origin → ℕ
live_owed b origins = length (filter (λ q. is_among origins q.origin) b.requests)

-- ---- what was acknowledged is of what was entered

-- the entries of a chunk under a request's runs, one run after the other, are its own: each run of
-- the number has its entries there
abbrev pub HasItsRuns : ℕ → (chunk : List (List ℕ)) → List Span → (own : List (List ℕ)) → Type 0
HasItsRuns number chunk [] own = Unit {0}
HasItsRuns number chunk (s ∷ spans) own =
    (s.number ≡ number → run_in chunk s ≡ take s.count own)
    × HasItsRuns number chunk spans (drop s.count own)

-- What was acknowledged is of what a request has: where the request has its number, it is under the
-- request's tag, and each run of that number is there.
pub record IsOf (q : Entered) (e : ServerAck) : Type 0 where
  pub tag : has_run e.number q ≡ true → e.tag ≡ q.tag
  pub runs : HasItsRuns e.number e.entries q.spans q.entries

-- no two requests have one origin
abbrev pub AreApart : List Entered → Type 0
AreApart [] = Unit {0}
AreApart (q ∷ qs) = (request_at qs q.origin ≡ None) × AreApart qs

-- A book is sound where no two requests have one origin; the runs of each request cut its entries,
-- and their numbers rise; the reply of what was acknowledged names the chunk at this output; and it
-- is of what each request has.
pub record IsSound (b : LiveBook) : Type 0 where
  pub apart : AreApart b.requests
  pub cut : (i : ℕ) (q : Entered) → slice_get b.requests i ≡ Some q → AreCutBy q.spans q.entries
  pub rising : (i : ℕ) (q : Entered) → slice_get b.requests i ≡ Some q
      → AreRising (map (λ s. s.number) q.spans)
  pub names : (j : ℕ) (e : ServerAck) → slice_get b.settled j ≡ Some e
      → ack_name e.reply ≡ Some (name_at b.setting e.number)
  pub of : (i j : ℕ) (q : Entered) (e : ServerAck) → slice_get b.requests i ≡ Some q
      → slice_get b.settled j ≡ Some e → IsOf q e

-- ---- a book as its calls show it

-- a book, and the request that it made room for, if it did for one
pub record BookState : Type 0 where
  pub live : LiveBook
  pub ready : Option Request

-- a request, if there is one, is entered under the runs of its entries
abbrev pub enters_if : BookState → Option Request → Origin → List Span → BookState
enters_if b None origin spans = b
enters_if b (Some r) origin spans =
    record { live = live_enters b.live (entered_as r origin spans); ready = None }

-- the request that room was made for is entered
abbrev pub ready_enters : BookState → Origin → List Span → BookState
ready_enters b origin spans = enters_if b b.ready origin spans
