-- A session and a source that hear each other's bytes, however these are cut: HELO, then PING, then
-- PONG.
use Rattle.std.specs.Prelude.{◌≡◌, ◌≤◌, ◌<◌, ◌^◌, ℕ, true, false, List, [], ◌∷◌, ◌++◌, length, replicate, Some, unwrap_or}
use Rattle.std.specs.List.{concat}
use Rattle.fwd_handshake.specs.declared.verdict.Denial.{Denial}
use Rattle.fwd_handshake.specs.Agreements.{auth_given}
use Rattle.fwd_handshake.specs.Digests.{key_digest}
use Rattle.fwd_handshake.specs.Verdicts.{Ping, username_for, proof_for, denial_of}
use Rattle.fwd_source.specs.History.{Setup as SourceSetup, is_guarded}
use Rattle.fwd_source.specs.Live.{LiveSource, opened_source, source_drains, live_piece_next, live_pieces_next}
use Rattle.fwd_session.specs.declared.limits.TheConstants.{REPLY_LIMIT}
use Rattle.fwd_session.specs.declared.fault.SessionFault.TheVariants.{Denied}
use Rattle.fwd_session.specs.declared.handshake.Handshake.TheVariants.{Done}
use Rattle.fwd_session.specs.declared.told.SessionHeard.{SessionHeard}
use Rattle.fwd_session.specs.declared.told.SessionHeard.TheVariants.{Quiet, Ready, Fault, NotUp}
use Rattle.fwd_session.specs.History.{Setup}
use Rattle.fwd_session.specs.Live.{LiveSession, live_is_ready, live_piece_told, session_begins, session_sends, session_hears, session_hears_all}

-- what the client and the server begin with, and the pieces in which HELO, PING and PONG come
pub record Meeting : Type 0 where
  pub client : Setup
  pub server : SourceSetup
  pub helo : List (List ℕ)
  pub ping : List (List ℕ)
  pub pong : List (List ℕ)

-- ---- what happens, one after the other

-- the source once its link took HELO
abbrev pub source_after_helo : Meeting → LiveSource
source_after_helo m =
    source_drains (opened_source m.server) (length (opened_source m.server).unsent)

-- the session once it heard HELO
abbrev pub session_after_helo : Meeting → LiveSession
session_after_helo m = session_hears_all (session_begins m.client) m.helo

-- the session once its link took PING
abbrev pub session_after_ping : Meeting → LiveSession
session_after_ping m =
    session_sends (session_after_helo m) (length (session_after_helo m).waiting)

-- the source once it heard PING
abbrev pub source_after_ping : Meeting → LiveSource
source_after_ping m = live_pieces_next (source_after_helo m) m.ping

-- the source once its link took PONG
abbrev pub source_after_pong : Meeting → LiveSource
source_after_pong m =
    source_drains (source_after_ping m) (length (source_after_ping m).unsent)

-- the session once it heard PONG
abbrev pub session_after_pong : Meeting → LiveSession
session_after_pong m = session_hears_all (session_after_ping m) m.pong

-- what each of a session's pieces is told, one after the other
abbrev pub pieces_told : LiveSession → List (List ℕ) → List SessionHeard
pieces_told s [] = []
pieces_told s (bytes ∷ pieces) =
    live_piece_told s bytes ∷ pieces_told (session_hears s bytes) pieces

-- what each piece of PONG is told
abbrev pub pong_told : Meeting → List SessionHeard
pong_told m = pieces_told (session_after_ping m) m.pong

-- ---- what is asked of it

-- the pieces together are the bytes that waited to be sent on the other side
pub record IsJoined (m : Meeting) : Type 0 where
  pub helo : concat m.helo ≡ (opened_source m.server).unsent
  pub ping : concat m.ping ≡ (session_after_helo m).waiting
  pub pong : concat m.pong ≡ (source_after_ping m).unsent

-- the session that heard HELO in one piece
abbrev pub heard_helo : Setup → SourceSetup → LiveSession
heard_helo client server = session_hears (session_begins client) (opened_source server).unsent

-- the source that heard PING in one piece, after that
abbrev pub heard_ping : Setup → SourceSetup → LiveSource
heard_ping client server =
    live_piece_next
    (source_drains (opened_source server) (length (opened_source server).unsent))
    (heard_helo client server).waiting

-- the meeting of any two sides in which each text comes in one piece
abbrev pub uncut : Setup → SourceSetup → Meeting
uncut client server = record {
  client = client;
  server = server;
  helo = (opened_source server).unsent ∷ [];
  ping = (heard_helo client server).waiting ∷ [];
  pong = (heard_ping client server).unsent ∷ [];
}

-- HELO and PING are within the limits of the side that hears them, of which a source's let be an
-- array, and PING has less than 2 ^ 32 bytes: a source's limit is below that by its type
pub record AreWithin (m : Meeting) : Type 0 where
  pub helo : length (concat m.helo) ≤ REPLY_LIMIT
  pub ping : length (concat m.ping) ≤ m.server.limits.bytes
  pub short : length (concat m.ping) < 2 ^ 32
  pub deep : 0 < m.server.limits.depth

-- the auth salt that the source's HELO gives
abbrev pub auth_in_helo : Meeting → List ℕ
auth_in_helo m = auth_given m.server.security.users m.server.nonces.auth

-- what the PING says that answers the source's HELO
abbrev pub said_by_ping : Meeting → Ping
said_by_ping m = record {
  hostname = m.client.login.hostname;
  salt = m.client.salt;
  digest =
      key_digest m.client.salt m.client.login.hostname m.server.nonces.nonce
      (unwrap_or m.client.login.shared_key []);
  claim = Some (record {
    username = username_for m.client.login (auth_in_helo m);
    digest = proof_for m.client.login (auth_in_helo m);
  });
}

-- both sides have a shared key, yet the source has cause to deny the PING: by its own key the
-- digest is another, or the claim is of none of its users
pub record IsDenied (m : Meeting) (key : List ℕ) (denial : Denial) : Type 0 where
  pub client : m.client.login.shared_key ≡ Some key
  pub server : is_guarded m.server ≡ true
  pub cause : denial_of m.server.security m.server.nonces (said_by_ping m) ≡ Some denial

-- ---- what comes of it

-- one piece is told this, each one before it Quiet, and each one behind it that
pub record IsToldOnce (told : List SessionHeard) (one behind : SessionHeard) : Type 0 where
  pub before : ℕ
  pub after : ℕ
  pub all : told ≡ replicate before Quiet ++ one ∷ replicate after behind

-- a session that is as it was but for its handshake, which is done
abbrev pub done_session : LiveSession → LiveSession
done_session s = record s { handshake = Done true }

-- a source that is as it was but awaits no PING, and has no bytes that wait to be sent
abbrev pub done_source : LiveSource → LiveSource
done_source s = record s { awaits = false; unsent = [] }

-- the piece that ends PONG is told Ready; both sides are up, past the handshake, and else as they
-- began; a chunk may be loaded
pub record IsReady (m : Meeting) : Type 0 where
  pub told : IsToldOnce (pong_told m) Ready Quiet
  pub done : (session_after_pong m).handshake ≡ Done true
  pub up : (session_after_pong m).down ≡ false
  pub ready : live_is_ready (session_after_pong m) ≡ true
  pub passed : (source_after_pong m).awaits ≡ false
  pub takes : (source_after_pong m).closed ≡ false
  pub session : session_after_pong m ≡ done_session (session_begins m.client)
  pub source : source_after_pong m ≡ done_source (opened_source m.server)

-- the piece that ends PONG is told Denied; the session is down, and the source takes nothing more
pub record IsRefused (m : Meeting) : Type 0 where
  pub told : IsToldOnce (pong_told m) (Fault Denied) NotUp
  pub down : (session_after_pong m).down ≡ true
  pub closed : (source_after_pong m).closed ≡ true
