-- A worker's session with a server: all that it ever heard and sent, with nothing removed but the
-- chunks that were taken out.
use Rattle.std.specs.Prelude.{◌≡◌, ◌≤◌, ℕ, ◌+◌, ◌-◌, Bool, true, false, not, ◌&&◌, ◌||◌, List, [], ◌∷◌, ◌++◌, length, map, drop, Option, Some, None, option_map, is_some, nat_le, max, slice_get, if◌then◌else◌}
use Rattle.std.specs.List.{AllByRecursion}
use Rattle.fwd_msgpack.specs.Scans.{Split, values_of}
use Rattle.fwd_msgpack.specs.Scans.Split.{Open, Broken}
use Rattle.fwd_modes.specs.Acks.{ack_name}
use Rattle.fwd_handshake.specs.declared.credentials.Login.{Login}
use Rattle.fwd_chunks.specs.History.{CarriedChunk}
use Rattle.fwd_session.specs.declared.fault.SessionFault.{SessionFault}
use Rattle.fwd_session.specs.declared.handshake.Handshake.{Handshake}
use Rattle.fwd_session.specs.declared.handshake.Handshake.TheVariants.{AwaitsHelo, AwaitsPong, Done}
use Rattle.fwd_session.specs.declared.told.SessionHeard.{SessionHeard}
use Rattle.fwd_session.specs.declared.told.SessionHeard.TheVariants as told
use Rattle.fwd_session.specs.ServerAcks.{Accepted, frame_of}
use Rattle.fwd_session.specs.Said.{Awaited, Said, left_by, accepted_by, out_of, silence, said_of, said_in, reply_stream, ended_by}

-- what a session begins with: its server, what it proves to it, the salt of its PING, how long it
-- waits for what it is owed (milliseconds), how many chunks it may have at once, and the moment
pub record Setup : Type 0 where
  pub server : ℕ
  pub login : Login
  pub salt : List ℕ
  pub ack_wait : ℕ
  pub window : ℕ
  pub start : ℕ

-- a chunk that is not acknowledged: how many bytes had been appended through the last one of its
-- frame, and when it was loaded
pub record Loaded : Type 0 where
  pub chunk : CarriedChunk
  pub through : ℕ
  pub moment : ℕ

-- all bytes heard; all bytes appended for sending, and how many of them the link took; the chunks
-- that are not acknowledged, in the order of their loads; those that are, and are not taken out, in
-- the order of their acceptance; whether any chunk was ever loaded; whether a fault or lateness put
-- it down; the greatest moment handed in
pub record SessionHistory : Type 0 where
  pub setup : Setup
  pub heard : List ℕ
  pub appended : List ℕ
  pub sent : ℕ
  pub carried : List Loaded
  pub accepted : List Accepted
  pub has_loaded : Bool
  pub down : Bool
  pub moment : ℕ

-- ---- what is asked of it

-- a handshake comes first where a shared key is set
abbrev pub first_handshake : Login → Handshake
first_handshake login = if is_some login.shared_key then AwaitsHelo else Done true

-- how far the handshake comes by these values
abbrev pub greeted : SessionHistory → List (List ℕ) → Handshake
greeted s values =
    (said_of s.setup.login s.setup.salt (first_handshake s.setup.login) [] values
    silence).handshake

-- how far the handshake came by all that was heard
abbrev pub handshake_of : SessionHistory → Handshake
handshake_of s = greeted s (values_of (reply_stream s.heard))

-- the handshake is done
abbrev pub is_done : Handshake → Bool
is_done AwaitsHelo = false
is_done (AwaitsPong nonce keepalive) = false
is_done (Done keepalive) = true

-- the handshake is done, and the link may carry one more chunk: without keepalive it carries one
abbrev pub is_free_for : Handshake → (has_loaded : Bool) → Bool
is_free_for AwaitsHelo has_loaded = false
is_free_for (AwaitsPong nonce keepalive) has_loaded = false
is_free_for (Done keepalive) has_loaded = keepalive || not has_loaded

-- a chunk may be loaded, where there is room for it
abbrev pub is_ready : SessionHistory → Bool
is_ready s = not s.down && is_free_for (handshake_of s) s.has_loaded

-- how many chunks more it may have: the window without those that are not taken out
abbrev pub room : SessionHistory → ℕ
room s = s.setup.window - (length s.carried + length s.accepted)

-- the bytes that wait to be sent
abbrev pub to_send : SessionHistory → List ℕ
to_send s = if s.down then [] else drop s.sent s.appended

-- a chunk's frame is handed on: the link took all bytes through its last
abbrev pub is_handed_on : SessionHistory → Loaded → Bool
is_handed_on s l = nat_le l.through s.sent

-- the chunks whose acknowledgement is awaited
abbrev pub awaited : SessionHistory → List Awaited
awaited s = map (λ l. record { name = l.chunk.name; is_handed_on = is_handed_on s l }) s.carried

-- what a piece ends
abbrev pub newly_heard : SessionHistory → List ℕ → Split
newly_heard s bytes = ended_by s.heard (reply_stream (s.heard ++ bytes))

-- what a piece says
abbrev pub says : SessionHistory → List ℕ → Said
says s bytes =
    said_in s.setup.login s.setup.salt (handshake_of s) (awaited s) (newly_heard s bytes)

-- what a piece is told: a fault before an acknowledgement, and that before the handshake's end
abbrev pub told_by : Option SessionFault → (replies : List (List ℕ)) → (before after : Bool)
    → SessionHeard
told_by (Some f) replies before after = told.Fault f
told_by None (reply ∷ replies) before after = told.Acked
told_by None [] false true = told.Ready
told_by None [] _ _ = told.Quiet

-- what is told of what a piece says, where the handshake was this far before it
abbrev pub told_of : Handshake → Said → SessionHeard
told_of before said = told_by said.fault said.replies (is_done before) (is_done said.handshake)

-- what a piece is told
abbrev pub piece_told : SessionHistory → List ℕ → SessionHeard
piece_told s bytes = if s.down then told.NotUp else told_of (handshake_of s) (says s bytes)

-- what a piece puts behind the bytes that wait to be sent: the PING that answers a HELO
abbrev pub piece_out : SessionHistory → List ℕ → List ℕ
piece_out s bytes = if s.down then [] else out_of (says s bytes)

-- when it began to wait for a chunk's acknowledgement: the later of its start and the load
abbrev pub waits_from : SessionHistory → Loaded → ℕ
waits_from s l = max s.setup.start l.moment

-- the wait that began first of these, which stand in their order, is over at a moment
abbrev pub is_first_over : (wait now : ℕ) → (begun : List ℕ) → Bool
is_first_over wait now [] = false
is_first_over wait now (from ∷ later) = nat_le (from + wait) now

-- what it is owed is overdue at a moment: the rest of the handshake, awaited since its start, or
-- the acknowledgement of the chunk that was loaded first of those awaited since then
abbrev pub is_overdue : Setup → Handshake → (begun : List ℕ) → (now : ℕ) → Bool
is_overdue setup at begun now =
    not (is_done at) && nat_le (setup.start + setup.ack_wait) now
    || is_first_over setup.ack_wait now begun

-- it is late at a moment
abbrev pub is_late : SessionHistory → ℕ → Bool
is_late s now =
    is_overdue s.setup (handshake_of s) (map (waits_from s) s.carried) (max s.moment now)

-- the first of a list, if it has one
abbrev pub first_in : {A : Type 0} → List A → Option A
first_in [] = None
first_in (x ∷ xs) = Some x

-- the chunk that is taken out next: the one whose acknowledgement was accepted first
abbrev pub acked : SessionHistory → Option CarriedChunk
acked s = option_map (λ a. a.chunk) (first_in s.accepted)

-- the chunks among these
abbrev pub chunks_of : List Loaded → List CarriedChunk
chunks_of loaded = map (λ l. l.chunk) loaded

-- the chunks whose acknowledgements a piece brings, in the order of their values
abbrev pub newly_accepted : SessionHistory → List ℕ → List Accepted
newly_accepted s bytes = accepted_by (says s bytes).replies (chunks_of s.carried)

-- the whole values of a stream are all of it but an unfinished one
abbrev pub is_open : Split → Bool
is_open (Open values rest) = true
is_open (Broken values broken) = false

-- what holds of every session: its moments rise, no more was sent than was appended, and where it
-- is up, what it heard has no fault, of the stream or of the handshake
pub record IsSane (s : SessionHistory) : Type 0 where
  pub started : s.setup.start ≤ s.moment
  pub sent : s.sent ≤ length s.appended
  pub opened : s.down ≡ false → is_open (reply_stream s.heard) ≡ true
  pub greets : s.down ≡ false → (more : List (List ℕ)) →
      greeted s (values_of (reply_stream s.heard) ++ more)
      ≡ (said_of s.setup.login s.setup.salt (handshake_of s) [] more silence).handshake

-- a chunk's frame stands whole among the bytes that were appended, and its last one is where the
-- chunk says
pub record IsAppended (appended : List ℕ) (l : Loaded) : Type 0 where
  pub front : List ℕ
  pub back : List ℕ
  pub framed : appended ≡ front ++ frame_of l.chunk ++ back
  pub through : l.through ≡ length (front ++ frame_of l.chunk)

-- what holds of every session that is loaded only where it is ready: where any chunk was ever
-- loaded, the handshake is done, and the frame of each that is not acknowledged was appended
pub record IsFramed (s : SessionHistory) : Type 0 where
  pub done : s.has_loaded ≡ true → is_done (handshake_of s) ≡ true
  pub loaded : s.has_loaded ≡ false → s.carried ≡ []
  pub framed : AllByRecursion (IsAppended s.appended) s.carried

-- A chunk's acknowledgement is one that a piece brings to a session: it is loaded, its whole frame
-- is handed on, and a value that the piece ends names it.
pub record IsAcknowledged (s : SessionHistory) (bytes : List ℕ) (a : Accepted) : Type 0 where
  pub loaded : Loaded
  pub place : ℕ
  pub carried : slice_get s.carried place ≡ Some loaded
  pub chunk : loaded.chunk ≡ a.chunk
  pub handed_on : loaded.through ≤ s.sent
  pub turn : ℕ
  pub ended : slice_get (values_of (newly_heard s bytes)) turn ≡ Some a.reply
  pub named : ack_name a.reply ≡ Some a.chunk.name

-- ---- what happens to it

-- it begins
abbrev pub begins : Setup → SessionHistory
begins setup = record {
  setup = setup;
  heard = [];
  appended = [];
  sent = 0;
  carried = [];
  accepted = [];
  has_loaded = false;
  down = false;
  moment = setup.start;
}

-- a chunk's frame is appended
abbrev pub loads : SessionHistory → CarriedChunk → ℕ → SessionHistory
loads s c now = record s {
  appended = s.appended ++ frame_of c;
  carried =
      s.carried ++ record {
        chunk = c;
        through = length (s.appended ++ frame_of c);
        moment = max s.moment now;
      } ∷ [];
  has_loaded = true;
  moment = max s.moment now;
}

-- the link took so many bytes more
abbrev pub sends : SessionHistory → ℕ → SessionHistory
sends s count = record s { sent = s.sent + count }

-- a piece is heard; the acknowledgements that were accepted before a fault stand
abbrev pub listens : SessionHistory → List ℕ → Said → SessionHistory
listens s bytes said = record s {
  heard = s.heard ++ bytes;
  appended = s.appended ++ out_of said;
  carried = left_by (λ l. l.chunk.name) said.replies s.carried;
  accepted = s.accepted ++ accepted_by said.replies (chunks_of s.carried);
  down = is_some said.fault;
}

-- a piece comes: once it is down, nothing is heard
abbrev pub hears : SessionHistory → List ℕ → SessionHistory
hears s bytes = if s.down then s else listens s bytes (says s bytes)

-- the chunk that was accepted first is taken out
abbrev pub unloads : SessionHistory → SessionHistory
unloads s = record s { accepted = drop 1 s.accepted }

-- it is asked at a moment whether it is late, and if it is, it is down
abbrev pub looks : SessionHistory → ℕ → SessionHistory
looks s now = record s { down = is_late s now; moment = max s.moment now }
