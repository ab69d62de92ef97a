-- What of a session's history still matters: how far its handshake came, the bytes that wait to be
-- sent, those of an unfinished value, and its chunks.
use Rattle.std.specs.Prelude.{ℕ, ◌+◌, ◌-◌, ◌==◌, Bool, true, false, not, ◌&&◌, List, [], ◌∷◌, ◌++◌, length, map, drop, Option, option_map, is_some, nat_lt, max, if◌then◌else◌}
use Rattle.fwd_chunks.specs.History.{CarriedChunk}
use Rattle.fwd_session.specs.declared.handshake.Handshake.{Handshake}
use Rattle.fwd_session.specs.declared.told.SessionHeard.{SessionHeard}
use Rattle.fwd_session.specs.declared.told.SessionHeard.TheVariants as told
use Rattle.fwd_session.specs.ServerAcks.{Accepted, frame_of}
use Rattle.fwd_session.specs.Said.{Awaited, Said, left_by, accepted_by, out_of, said_in, reply_stream, rest_of}
use Rattle.fwd_session.specs.History.{Setup, Loaded, SessionHistory, first_handshake, handshake_of, is_free_for, is_overdue, to_send, told_of, waits_from, first_in}

-- a chunk that is not acknowledged: how many bytes wait through the last one of its frame, which is
-- handed on where none does; and since when it is waited for
pub record LiveLoaded : Type 0 where
  pub chunk : CarriedChunk
  pub left : ℕ
  pub since : ℕ

-- how far the handshake came; the bytes that wait to be sent, and those of an unfinished value,
-- none of them once it is down; the chunks that are not acknowledged, in the order of their loads;
-- those that are, in the order of their acceptance; whether any chunk was ever loaded
pub record LiveSession : Type 0 where
  pub setup : Setup
  pub handshake : Handshake
  pub waiting : List ℕ
  pub rest : List ℕ
  pub carried : List LiveLoaded
  pub accepted : List Accepted
  pub has_loaded : Bool
  pub down : Bool
  pub moment : ℕ

-- the live part of a chunk that is not acknowledged
abbrev pub live_loaded : SessionHistory → Loaded → LiveLoaded
live_loaded s l = record {
  chunk = l.chunk;
  left = if s.down then 0 else l.through - s.sent;
  since = waits_from s l;
}

-- the live part of a history
unfoldable pub live_session : SessionHistory → LiveSession
live_session s = record {
  setup = s.setup;
  handshake = handshake_of s;
  waiting = to_send s;
  rest = if s.down then [] else rest_of (reply_stream s.heard);
  carried = map (live_loaded s) s.carried;
  accepted = s.accepted;
  has_loaded = s.has_loaded;
  down = s.down;
  moment = s.moment;
}

-- ---- what is asked of it

-- a chunk may be loaded, where there is room for it
abbrev pub live_is_ready : LiveSession → Bool
live_is_ready s = not s.down && is_free_for s.handshake s.has_loaded

-- how many chunks more it may have
abbrev pub live_room : LiveSession → ℕ
live_room s = s.setup.window - (length s.carried + length s.accepted)

-- it has a chunk that is not taken out
abbrev pub live_has_chunk : LiveSession → Bool
live_has_chunk s = nat_lt 0 (length s.carried + length s.accepted)

-- the chunks among these
abbrev pub live_chunks : List LiveLoaded → List CarriedChunk
live_chunks loaded = map (λ l. l.chunk) loaded

-- the chunks whose acknowledgement is awaited
abbrev pub live_awaited : LiveSession → List Awaited
live_awaited s = map (λ l. record { name = l.chunk.name; is_handed_on = l.left == 0 }) s.carried

-- what bytes say behind all that was heard but the bytes of the unfinished value
abbrev pub said_behind : LiveSession → List ℕ → Said
said_behind s bytes =
    said_in s.setup.login s.setup.salt s.handshake (live_awaited s) (reply_stream bytes)

-- what a piece says after the bytes of the unfinished value
abbrev pub live_says : LiveSession → List ℕ → Said
live_says s bytes = said_behind s (s.rest ++ bytes)

-- what a piece is told
abbrev pub live_piece_told : LiveSession → List ℕ → SessionHeard
live_piece_told s bytes = if s.down then told.NotUp else told_of s.handshake (live_says s bytes)

-- what a piece puts behind the bytes that wait to be sent
abbrev pub live_piece_out : LiveSession → List ℕ → List ℕ
live_piece_out s bytes = if s.down then [] else out_of (live_says s bytes)

-- it is late at a moment
abbrev pub live_is_late : LiveSession → ℕ → Bool
live_is_late s now =
    is_overdue s.setup s.handshake (map (λ l. l.since) s.carried) (max s.moment now)

-- the chunk that is taken out next: the one whose acknowledgement was accepted first
abbrev pub live_acked : LiveSession → Option CarriedChunk
live_acked s = option_map (λ a. a.chunk) (first_in s.accepted)

-- ---- what happens to it

-- it begins
abbrev pub session_begins : Setup → LiveSession
session_begins setup = record {
  setup = setup;
  handshake = first_handshake setup.login;
  waiting = [];
  rest = [];
  carried = [];
  accepted = [];
  has_loaded = false;
  down = false;
  moment = setup.start;
}

-- a chunk's frame waits to be sent
abbrev pub session_loads : LiveSession → CarriedChunk → ℕ → LiveSession
session_loads s c now = record s {
  waiting = s.waiting ++ frame_of c;
  carried =
      s.carried ++ record {
        chunk = c;
        left = length (s.waiting ++ frame_of c);
        since = max s.moment now;
      } ∷ [];
  has_loaded = true;
  moment = max s.moment now;
}

-- so many bytes fewer wait through the last one of a chunk's frame
abbrev pub sends_through : ℕ → LiveLoaded → LiveLoaded
sends_through count l = record l { left = l.left - count }

-- the link took so many bytes more
abbrev pub session_sends : LiveSession → ℕ → LiveSession
session_sends s count = record s {
  waiting = drop count s.waiting;
  carried = map (sends_through count) s.carried;
}

-- once it is down, nothing waits of a chunk's frame
abbrev pub falls_with : (down : Bool) → LiveLoaded → LiveLoaded
falls_with down l = record l { left = if down then 0 else l.left }

-- what was said counts, and bytes of an unfinished value are left; once it is down, nothing waits
unfoldable pub session_takes : LiveSession → Said → List ℕ → LiveSession
session_takes s said rest = record s {
  handshake = said.handshake;
  waiting = if is_some said.fault then [] else s.waiting ++ said.out;
  rest = if is_some said.fault then [] else rest;
  carried =
      map (falls_with (is_some said.fault)) (left_by (λ l. l.chunk.name) said.replies s.carried);
  accepted = s.accepted ++ accepted_by said.replies (live_chunks s.carried);
  down = is_some said.fault;
}

-- a piece is heard
abbrev pub session_listens : LiveSession → List ℕ → LiveSession
session_listens s bytes =
    session_takes s (live_says s bytes) (rest_of (reply_stream (s.rest ++ bytes)))

-- a piece comes: once it is down, nothing is heard
abbrev pub session_hears : LiveSession → List ℕ → LiveSession
session_hears s bytes = if s.down then s else session_listens s bytes

-- one piece after the other
abbrev pub session_hears_all : LiveSession → List (List ℕ) → LiveSession
session_hears_all s [] = s
session_hears_all s (bytes ∷ pieces) = session_hears_all (session_hears s bytes) pieces

-- the chunk that was accepted first is taken out
abbrev pub session_unloads : LiveSession → LiveSession
session_unloads s = record s { accepted = drop 1 s.accepted }

-- it is asked at a moment whether it is late, and if it is, it is down
unfoldable pub session_looks : LiveSession → ℕ → LiveSession
session_looks s now = record s {
  waiting = if live_is_late s now then [] else s.waiting;
  rest = if live_is_late s now then [] else s.rest;
  carried = map (falls_with (live_is_late s now)) s.carried;
  down = live_is_late s now;
  moment = max s.moment now;
}
