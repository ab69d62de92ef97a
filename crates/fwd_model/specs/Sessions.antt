-- Sessions as layers of a relay: all that they ever heard and sent, and what of it still matters.
use Rattle.fwd_session.specs.History as history
use Rattle.fwd_session.specs.History.{SessionHistory, handshake_of, is_done, first_in}
use Rattle.fwd_session.specs.Live as live
use Rattle.fwd_session.specs.Live.{LiveSession}
use Rattle.fwd_model.specs.Layers.{Sessions}

-- sessions as all that they ever heard and sent
abbrev pub session_histories : Sessions
session_histories = record {
  Session = SessionHistory;
  server = λ s. s.setup.server;
  unacknowledged = λ s. history.chunks_of s.carried;
  acked = λ s. history.first_in s.accepted;
  room = history.room;
  is_greeted = λ s. is_done (handshake_of s);
  is_ready = history.is_ready;
  is_down = λ s. s.down;
  is_late = history.is_late;
  to_send = history.to_send;
  told = history.piece_told;
  ping = history.piece_out;
  begins = history.begins;
  loads = history.loads;
  sends = history.sends;
  listens = history.hears;
  looks = history.looks;
  unloads = history.unloads;
}

-- sessions as what of that still matters
abbrev pub live_sessions : Sessions
live_sessions = record {
  Session = LiveSession;
  server = λ s. s.setup.server;
  unacknowledged = λ s. live.live_chunks s.carried;
  acked = λ s. first_in s.accepted;
  room = live.live_room;
  is_greeted = λ s. is_done s.handshake;
  is_ready = live.live_is_ready;
  is_down = λ s. s.down;
  is_late = live.live_is_late;
  to_send = λ s. s.waiting;
  told = live.live_piece_told;
  ping = live.live_piece_out;
  begins = live.session_begins;
  loads = live.session_loads;
  sends = live.session_sends;
  listens = live.session_hears;
  looks = live.session_looks;
  unloads = live.session_unloads;
}
