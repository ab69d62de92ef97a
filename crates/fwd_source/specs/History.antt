-- The history of a connection, with nothing removed.
use Rattle.std.specs.Prelude.{ℕ, ◌+◌, ◌≤◌, Bool, true, false, ◌||◌, List, [], ◌++◌, drop, length, Option, Some, None, is_some, if◌then◌else◌}
use Rattle.fwd_msgpack.specs.declared.limits.Limits.{Limits}
use Rattle.fwd_modes.specs.Requests.{Request}
use Rattle.fwd_handshake.specs.declared.credentials.Security.{Security}
use Rattle.fwd_handshake.specs.declared.nonces.Nonces.{Nonces}
use Rattle.fwd_handshake.specs.Messages.{helo_text}
use Rattle.fwd_handshake.specs.Verdicts.{ping_verdict}
use Rattle.fwd_source.specs.declared.fault.SourceFault.{SourceFault}
use Rattle.fwd_source.specs.declared.piece.Piece.{Piece}
use Rattle.fwd_source.specs.declared.piece.Piece.TheVariants as piece
use Rattle.fwd_source.specs.Judged.{Judged, AwaitedPing, judged_of}

-- what a connection is accepted with: its id, what it has to prove, the random bytes of its
-- handshake, and how long and deep a value may be
pub record Setup : Type 0 where
  pub conn : ℕ
  pub security : Security
  pub nonces : Nonces
  pub limits : Limits

-- where a shared key is set, the first value has to be a PING
abbrev pub awaited_ping : Setup → Bool → AwaitedPing
awaited_ping setup awaits = if awaits then Some (ping_verdict setup.security setup.nonces) else None

-- a shared key is set, so that a connection begins with a handshake
abbrev pub is_guarded : Setup → Bool
is_guarded setup = is_some setup.security.shared_key

-- what is written first: HELO, where a shared key is set
abbrev pub opening_text : Setup → List ℕ
opening_text setup =
    if is_guarded setup
    then helo_text setup.security.users setup.nonces.nonce setup.nonces.auth
    else []

-- all bytes heard, how many of its requests were admitted, all bytes appended for sending, how many
-- of them were drained, and whether it was shut with what waited dropped
pub record SourceHistory : Type 0 where
  pub setup : Setup
  pub heard : List ℕ
  pub admitted : ℕ
  pub appended : List ℕ
  pub drained : ℕ
  pub shut : Bool

-- before the first byte
abbrev pub opened : Setup → SourceHistory
opened setup = record {
  setup = setup;
  heard = [];
  admitted = 0;
  appended = opening_text setup;
  drained = 0;
  shut = false;
}

-- what all bytes heard say
abbrev pub judged : SourceHistory → Judged
judged s = judged_of s.setup.limits (awaited_ping s.setup (is_guarded s.setup)) 0 s.heard

-- no further piece is taken
abbrev pub is_closed : SourceHistory → Bool
is_closed s = s.shut || is_some (judged s).fault

-- the requests that wait to be admitted
abbrev pub waiting : SourceHistory → List Request
waiting s = if s.shut then [] else drop s.admitted (judged s).requests

-- the bytes that wait to be sent
abbrev pub unsent : SourceHistory → List ℕ
unsent s = if s.shut then [] else drop s.drained s.appended

-- what is admitted and drained came before
pub record IsSane (s : SourceHistory) : Type 0 where
  pub admits : s.admitted ≤ length (judged s).requests
  pub drains : s.drained ≤ length s.appended

-- ---- what happens to it

-- its bytes are heard
abbrev pub has_heard : SourceHistory → List ℕ → SourceHistory
has_heard s bytes = record s { heard = s.heard ++ bytes }

-- bytes are appended to what is sent
abbrev pub appends : SourceHistory → List ℕ → SourceHistory
appends s bytes = record s { appended = s.appended ++ bytes }

-- the PONG that a piece brings: what all bytes ask for, less what was appended before
abbrev pub new_pong : SourceHistory → List ℕ → List ℕ
new_pong s bytes = drop (length (judged s).pong) (judged (has_heard s bytes)).pong

-- a piece comes: its bytes are heard, and the PONG that they bring is appended
abbrev pub hears : SourceHistory → List ℕ → SourceHistory
hears s bytes = appends (has_heard s bytes) (new_pong s bytes)

-- once it is closed, no piece is heard
abbrev pub piece_next : SourceHistory → List ℕ → SourceHistory
piece_next s bytes = if is_closed s then s else hears s bytes

-- the fault that a piece brought, or how many requests wait
abbrev pub told : Option SourceFault → ℕ → Piece
told None count = piece.Waiting count
told (Some fault) count = piece.Fault fault

-- what a piece is told: the fault of all bytes heard, or how many requests wait
abbrev pub piece_answer : SourceHistory → List ℕ → Piece
piece_answer s bytes =
    if is_closed s
    then piece.Closed
    else told (judged (hears s bytes)).fault (length (waiting (hears s bytes)))

-- the first request that waits is admitted
abbrev pub gives : SourceHistory → SourceHistory
gives s = record s { admitted = s.admitted + 1 }

-- the link took some of the bytes that wait to be sent
abbrev pub drains : SourceHistory → ℕ → SourceHistory
drains s count = record s { drained = s.drained + count }

-- what waits is dropped, and no further piece is heard
abbrev pub shuts : SourceHistory → SourceHistory
shuts s = record s { shut = true }
