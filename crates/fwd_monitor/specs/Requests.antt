-- What the bytes of a monitor are: a whole request, none, or not yet either.
use Rattle.std.specs.Prelude.{ℕ, ◌<◌, ◌≤◌, ◌⊎◌, Bool, ◌&&◌, List, ◌++◌, length, codes, IsTrue}
use Rattle.std.specs.Str.{bytes_eq}
use Rattle.httparse.specs.Grammar.{
  RequestHead,
  ReadsRequest,
  HasNoRequest,
  NeverHasRequest,
  MayBecomeRequest,
}
use Rattle.httparse.specs.Spans.{RequestExceeds}
use Rattle.fwd_monitor.specs.declared.limits.TheConstants.{HEAD_LIMIT, MAX_HEADERS}

-- a method and a target ask for the page
abbrev pub is_for_page : List ℕ → List ℕ → Bool
is_for_page method target = bytes_eq method (codes "GET") && bytes_eq target (codes "/")

-- a method and a target ask for the metrics page
abbrev pub is_for_metrics : List ℕ → List ℕ → Bool
is_for_metrics method target =
    bytes_eq method (codes "GET") && bytes_eq target (codes "/metrics")

-- a method and a target ask whether the relay is ready for new sources, as load balancers do
abbrev pub is_for_ready : List ℕ → List ℕ → Bool
is_for_ready method target = bytes_eq method (codes "GET") && bytes_eq target (codes "/ready")

-- the bytes begin with this whole head, which has few enough headers
pub record BeginsWith (heard : List ℕ) (h : RequestHead) : Type 0 where
  pub whole : (rest : List ℕ) × ReadsRequest heard h rest
  pub few : length h.fields ≤ MAX_HEADERS

-- a request line and more header lines than a head may have stand in front, each with its end, and
-- whatever follows: with an empty line in its place they would be a head
abbrev pub HasManyLines : List ℕ → Type 0
HasManyLines heard = RequestExceeds MAX_HEADERS heard

-- no whole head yet, and too many bytes to wait for one
pub record IsTooLong (heard : List ℕ) : Type 0 where
  pub unfinished : HasNoRequest heard
  pub long : HEAD_LIMIT ≤ length heard

-- nothing makes the bytes a head, or they have too many header lines, or are too many
abbrev pub IsBad : List ℕ → Type 0
IsBad heard = NeverHasRequest heard ⊎ HasManyLines heard ⊎ IsTooLong heard

-- a whole head of few enough headers stands in front, and it asks for the page
abbrev pub WantsPage : List ℕ → Type 0
WantsPage heard = (h : RequestHead) × BeginsWith heard h × IsTrue (is_for_page h.method h.target)

-- a whole head of few enough headers stands in front, and it asks for the metrics page
abbrev pub WantsMetrics : List ℕ → Type 0
WantsMetrics heard =
    (h : RequestHead) × BeginsWith heard h × IsTrue (is_for_metrics h.method h.target)

-- a whole head of few enough headers stands in front, and it asks whether the relay is ready
abbrev pub WantsReady : List ℕ → Type 0
WantsReady heard = (h : RequestHead) × BeginsWith heard h × IsTrue (is_for_ready h.method h.target)

-- a reply is due
abbrev pub IsDue : List ℕ → Type 0
IsDue heard = ((h : RequestHead) × BeginsWith heard h) ⊎ IsBad heard

-- no whole head yet, and few enough header lines and bytes to wait for one, which may still come
pub record MayWait (heard : List ℕ) : Type 0 where
  pub unfinished : HasNoRequest heard
  pub hopeful : MayBecomeRequest heard
  pub few : ¬ (HasManyLines heard)
  pub short : length heard < HEAD_LIMIT

-- the same, where some bytes can follow that make a head
pub record MustWait (heard : List ℕ) : Type 0 where
  pub unfinished : HasNoRequest heard
  pub hopeful : (more : List ℕ) × (h : RequestHead) × (rest : List ℕ)
      × ReadsRequest (heard ++ more) h rest
  pub few : ¬ (HasManyLines heard)
  pub short : length heard < HEAD_LIMIT
