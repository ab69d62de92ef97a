-- What of a connection's history still matters: the bytes of an unfinished value, the requests and
-- the bytes that wait, and the counts.
use Rattle.std.specs.Prelude.{ℕ, ◌+◌, Bool, true, false, List, [], ◌∷◌, ◌++◌, length, drop, Option, Some, None, is_some, if◌then◌else◌}
use Rattle.fwd_modes.specs.Requests.{Request}
use Rattle.fwd_modes.specs.declared.origin.Origin.{Origin}
use Rattle.fwd_source.specs.declared.piece.Piece.{Piece}
use Rattle.fwd_source.specs.declared.piece.Piece.TheVariants as piece
use Rattle.fwd_source.specs.Judged.{Judged, judged_of}
use Rattle.fwd_source.specs.History.{Setup, awaited_ping, is_guarded, opening_text, SourceHistory, judged, is_closed, waiting, unsent, told}

-- whether a PING is awaited, the bytes after the last whole value, the
-- requests that wait, how many were admitted, the bytes that wait to be
-- sent, whether what waited was dropped, whether no further piece is taken
pub record LiveSource : Type 0 where
  pub setup : Setup
  pub awaits : Bool
  pub rest : List ℕ
  pub waiting : List Request
  pub admitted : ℕ
  pub unsent : List ℕ
  pub shut : Bool
  pub closed : Bool

-- what a connection's history comes to
unfoldable pub live_source : SourceHistory → LiveSource
live_source s = record {
  setup = s.setup;
  awaits = if s.shut then false else (judged s).awaits;
  rest = if s.shut then [] else (judged s).rest;
  waiting = waiting s;
  admitted = s.admitted;
  unsent = unsent s;
  shut = s.shut;
  closed = is_closed s;
}

-- before the first byte
abbrev pub opened_source : Setup → LiveSource
opened_source setup = record {
  setup = setup;
  awaits = is_guarded setup;
  rest = [];
  waiting = [];
  admitted = 0;
  unsent = opening_text setup;
  shut = false;
  closed = false;
}

-- ---- what happens to it, read on what is kept

-- what bytes say behind all that was heard but the bytes of the unfinished value
abbrev pub judged_behind : LiveSource → List ℕ → Judged
judged_behind s bytes =
    judged_of s.setup.limits (awaited_ping s.setup s.awaits) (s.admitted + length s.waiting) bytes

-- what the bytes that are kept say
abbrev pub judged_kept : LiveSource → Judged
judged_kept s = judged_behind s s.rest

-- what a piece says after the bytes of the unfinished value
abbrev pub judged_piece : LiveSource → List ℕ → Judged
judged_piece s bytes = judged_behind s (s.rest ++ bytes)

-- more bytes are heard, on a connection that is not closed
unfoldable pub source_hears : LiveSource → List ℕ → LiveSource
source_hears s bytes = record s {
  awaits = (judged_piece s bytes).awaits;
  rest = (judged_piece s bytes).rest;
  waiting = s.waiting ++ (judged_piece s bytes).requests;
  unsent = s.unsent ++ (judged_piece s bytes).pong;
  closed = is_some (judged_piece s bytes).fault;
}

-- a piece comes: on a closed connection it changes nothing
abbrev pub live_piece_next : LiveSource → List ℕ → LiveSource
live_piece_next s bytes = if s.closed then s else source_hears s bytes

-- one piece after the other
abbrev pub live_pieces_next : LiveSource → List (List ℕ) → LiveSource
live_pieces_next s [] = s
live_pieces_next s (bytes ∷ pieces) = live_pieces_next (live_piece_next s bytes) pieces

-- what a piece is told: Closed, or its fault if it has one, and how many requests wait
abbrev pub live_piece_answer : LiveSource → List ℕ → Piece
live_piece_answer s bytes =
    if s.closed
    then piece.Closed
    else told (judged_piece s bytes).fault (length (s.waiting ++ (judged_piece s bytes).requests))

-- what a piece puts behind the bytes that wait to be sent
abbrev pub live_piece_out : LiveSource → List ℕ → List ℕ
live_piece_out s bytes = if s.closed then [] else (judged_piece s bytes).pong

-- all requests but the first
abbrev pub tail_of : List Request → List Request
tail_of [] = []
tail_of (r ∷ rs) = rs

-- the first request that waits is taken
abbrev pub source_gives : LiveSource → LiveSource
source_gives s = record s { waiting = tail_of s.waiting; admitted = s.admitted + 1 }

-- the first request that waits, with its number
abbrev pub first_waiting : LiveSource → List Request → Option (Origin × Request)
first_waiting s [] = None
first_waiting s (r ∷ rs) = Some (record { conn = s.setup.conn; request = s.admitted + 1 }, r)

-- the source once its first waiting request was taken, if there is one
abbrev pub source_gives_first : LiveSource → List Request → LiveSource
source_gives_first s [] = s
source_gives_first s (r ∷ rs) = source_gives s

-- bytes are put behind those that wait to be sent
abbrev pub source_appends : LiveSource → List ℕ → LiveSource
source_appends s bytes = record s { unsent = s.unsent ++ bytes }

-- the first of the bytes that wait were sent, so many of them
abbrev pub source_drains : LiveSource → ℕ → LiveSource
source_drains s count = record s { unsent = drop count s.unsent }

-- the connection is shut: what waits is dropped, and no further piece is taken
abbrev pub source_shuts : LiveSource → LiveSource
source_shuts s = record s {
  awaits = false;
  rest = [];
  waiting = [];
  unsent = [];
  shut = true;
  closed = true;
}

-- what is seen of a source: its live part, and the room that is reserved for answers, in bytes
pub record Shown : Type 0 where
  pub live : LiveSource
  pub room : ℕ
