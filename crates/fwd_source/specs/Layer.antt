-- A source as a layer of a relay: what an event asks of it, and what an event changes in it.
use Rattle.std.specs.Prelude.{ℕ, Bool, List}
use Rattle.fwd_modes.specs.Requests.{Request}
use Rattle.fwd_source.specs.declared.piece.Piece.{Piece}
use Rattle.fwd_source.specs.History as history
use Rattle.fwd_source.specs.Live as live

-- what a step has to know of sources, and what it does to them
pub record Sources : Type 1 where
  pub Source : Type 0
  -- whether what waits was dropped
  pub is_shut : Source → Bool
  -- the requests that wait to be admitted, how many were
  -- admitted before them, and the bytes that wait to be sent
  pub waiting : Source → List Request
  pub admitted : Source → ℕ
  pub unsent : Source → List ℕ
  -- what a piece is told, and the PONG that it brings
  pub piece_answer : Source → List ℕ → Piece
  pub pong : Source → List ℕ → List ℕ
  -- a piece is heard; the first request that waits is given
  -- away; bytes are appended, are drained; what waits is dropped
  pub hears : Source → List ℕ → Source
  pub gives : Source → Source
  pub appends : Source → List ℕ → Source
  pub drains : Source → ℕ → Source
  pub shuts : Source → Source

-- sources as all that they ever heard and were sent
abbrev pub source_histories : Sources
source_histories = record {
  Source = history.SourceHistory;
  is_shut = λ s. s.shut;
  waiting = history.waiting;
  admitted = λ s. s.admitted;
  unsent = history.unsent;
  piece_answer = history.piece_answer;
  pong = history.new_pong;
  hears = history.hears;
  gives = history.gives;
  appends = history.appends;
  drains = history.drains;
  shuts = history.shuts;
}

-- sources as what of that still matters
abbrev pub live_sources : Sources
live_sources = record {
  Source = live.LiveSource;
  is_shut = λ s. s.shut;
  waiting = λ s. s.waiting;
  admitted = λ s. s.admitted;
  unsent = λ s. s.unsent;
  piece_answer = live.live_piece_answer;
  pong = live.live_piece_out;
  hears = live.source_hears;
  gives = live.source_gives;
  appends = live.source_appends;
  drains = live.source_drains;
  shuts = live.source_shuts;
}
