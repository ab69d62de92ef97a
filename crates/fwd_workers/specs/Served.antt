-- What one turn of a session asks of its link, what it does with the bytes, and what a session's
-- whole life over a link is.
use Rattle.std.specs.Prelude.{◌≡◌, ◌≢◌, ◌≤◌, ◌<◌, ◌⊎◌, ◌+◌, ℕ, ◌==◌, ◌&&◌, nat_lt, true, false, Bool, List, [], ◌∷◌, ◌++◌, length, take, Option, Some, None, Result, Ok, Err, is_some, slice_get}
use Rattle.std.specs.List.{AllByRecursion}
use Rattle.fwd_modes.specs.Scans.{values_of}
use Rattle.fwd_modes.specs.Acks.{ack_name}
use Rattle.fwd_chunks.specs.History.{CarriedChunk}
use Rattle.fwd_session.specs.declared.told.SessionHeard.{SessionHeard}
use Rattle.fwd_session.specs.declared.told.SessionHeard.TheVariants as told
use Rattle.fwd_session.specs.ServerAcks.{Accepted, frame_of}
use Rattle.fwd_session.specs.Said.{reply_stream}
use Rattle.fwd_session.specs.History.{
  Setup,
  Loaded,
  SessionHistory,
  IsFramed,
  IsSane,
  newly_accepted,
  newly_heard,
  sends,
  to_send,
}
use Rattle.fwd_session.specs.Live.{
  LiveSession,
  live_acked,
  live_chunks,
  live_is_ready,
  live_piece_told,
  live_room,
  live_session,
  session_begins,
  session_hears,
  session_loads,
  session_looks,
  session_sends,
  session_unloads,
}
use Rattle.fwd_environment.specs.declared.link.Read.{Read}
use Rattle.fwd_environment.specs.declared.link.Read.TheVariants as read
use Rattle.fwd_environment.specs.declared.link.LinkFault.{LinkFault}
use Rattle.fwd_workers.specs.declared.serve.Served.{Served}
use Rattle.fwd_workers.specs.declared.serve.Served.TheVariants as served
use Rattle.fwd_environment.specs.Links.{
  Call,
  IsOffer,
  read_into,
  write_of,
  taken_in,
  given_in,
  failures_in,
}

-- what the link is seen to do: all bytes that it took, all that it gave, and its failures
pub record Seen : Type 0 where
  pub taken : List ℕ
  pub given : List ℕ
  pub failures : ℕ

-- a session has no chunk, acknowledged or not
pub record IsFree (s : LiveSession) : Type 0 where
  pub carried : s.carried ≡ []
  pub accepted : s.accepted ≡ []

-- a chunk more may be loaded into a session
abbrev pub takes_more : LiveSession → Bool
takes_more s = live_is_ready s && nat_lt 0 (live_room s)

-- a chunk may be added to those that it has: nothing of them waits to be sent, either
abbrev pub may_add : LiveSession → Bool
may_add s = length s.waiting == 0 && takes_more s

-- it, from its parts
abbrev pub seen_of : (taken given : List ℕ) (failures : ℕ) → Seen
seen_of taken given failures =
    record { taken = taken; given = given; failures = failures }

-- it, of a link that made these calls
abbrev pub seen_in : List Call → Seen
seen_in calls = seen_of (taken_in calls) (given_in calls) (failures_in calls)

-- ---- what a turn asks of its link

-- What a link answers in a turn in which it is offered the first so many bytes of those that wait.
-- Its write failed. Or it took so many of them, none where none wait, and then one read was
-- answered, after which the room is this.
pub data Exchange : Type 0 where
  Breaks : (size : ℕ) (fault : LinkFault) → Exchange
  Reads : (size count : ℕ) (room : List ℕ) (answer : Result Read LinkFault) → Exchange

-- the calls of a turn, in their order: at most one write; and then one read, unless that failed
abbrev pub calls_of : (waiting : List ℕ) → Exchange → List Call
calls_of waiting (Breaks size fault) = write_of (take size waiting) (Err fault)
calls_of waiting (Reads size count room answer) =
    write_of (take size waiting) (Ok count) ++ read_into room answer ∷ []

-- what a session is told, as what its turn comes to; the other outcomes are no word of a session
abbrev pub word_in : Served → Option SessionHeard
word_in served.Quiet = Some told.Quiet
word_in served.Ready = Some told.Ready
word_in served.Acked = Some told.Acked
word_in (served.Down fault) = Some (told.Fault fault)
word_in served.Closed = None
word_in (served.Failed fault) = None
word_in served.Memory = None

-- bytes were read: the session heard them, and the turn is what it was told; or there was no memory
-- to hear them, and the session stays as it was
abbrev pub IsHeard : Served → LiveSession → LiveSession → (bytes : List ℕ) → Type 0
IsHeard what s t bytes =
    ((word_in what ≡ Some (live_piece_told s bytes)) × (t ≡ session_hears s bytes))
    ⊎ ((what ≡ served.Memory) × (t ≡ s))

-- what a turn comes to by its read, and what the session is then
abbrev pub ComesOfRead : Served → LiveSession → LiveSession → (room : List ℕ)
    → Result Read LinkFault → Type 0
ComesOfRead what s t room (Ok (read.Bytes n)) =
    (n ≤ length room) × IsHeard what s t (take n room)
ComesOfRead what s t room (Ok read.Nothing) = (what ≡ served.Quiet) × (t ≡ s)
ComesOfRead what s t room (Ok read.Closed) = (what ≡ served.Closed) × (t ≡ s)
ComesOfRead what s t room (Err fault) = (what ≡ served.Failed fault) × (t ≡ s)

-- What a turn comes to by what the link answered, and what the session is then: it is told how many
-- bytes the link took, of those that it was offered. The read asks for a byte at least, and for
-- 65,536 at most.
abbrev pub ComesOf : Served → LiveSession → LiveSession → Exchange → Type 0
ComesOf what s t (Breaks size fault) =
    IsOffer size s.waiting × (s.waiting ≢ []) × (what ≡ served.Failed fault) × (t ≡ s)
ComesOf what s t (Reads size count room answer) =
    IsOffer size s.waiting × (count ≤ size) × (1 ≤ length room) × (length room ≤ 65536)
    × ComesOfRead what (session_sends s count) t room answer

-- one turn of a session: its calls stand behind the link's calls before it, and what it comes to is
-- what they were answered
pub record IsTurn (what : Served) (s t : LiveSession) (before after : List Call) : Type 0 where
  pub exchange : Exchange
  pub calls : after ≡ before ++ calls_of s.waiting exchange
  pub comes : ComesOf what s t exchange

-- a link is read, and this is what that comes to
pub record HasRead (what : Served) (s t : LiveSession) (before after : List Call) : Type 0 where
  pub room : List ℕ
  pub answer : Result Read LinkFault
  pub calls : after ≡ before ++ read_into room answer ∷ []
  pub some : 1 ≤ length room
  pub within : length room ≤ 65536
  pub comes : ComesOfRead what s t room answer

-- a turn that only sent: the link took some of the bytes that it was offered, and more wait, or a
-- chunk more may be loaded
pub record HasSent (what : Served) (s t : LiveSession) (before after : List Call) : Type 0 where
  pub size : ℕ
  pub count : ℕ
  pub offer : IsOffer size s.waiting
  pub within : count ≤ size
  pub some : 0 < count
  pub more : count < length s.waiting ⊎ takes_more s ≡ true
  pub calls : after ≡ before ++ write_of (take size s.waiting) (Ok count)
  pub quiet : what ≡ served.Quiet
  pub told : t ≡ session_sends s count

-- a turn, or one that only sent
abbrev pub HasTurned : Served → LiveSession → LiveSession → (before after : List Call) → Type 0
HasTurned what s t before after = IsTurn what s t before after ⊎ HasSent what s t before after

-- ---- what it does with the bytes

-- the link took bytes from the front of those that waited, and the session was told how many
pub record Sends (s t : LiveSession) (before after : Seen) : Type 0 where
  pub count : ℕ
  pub within : count ≤ length s.waiting
  pub told : t ≡ session_sends s count
  pub seen : after ≡ record before { taken = before.taken ++ take count s.waiting }

-- the link gave these bytes
abbrev pub Gives : Seen → List ℕ → Seen → Type 0
Gives before bytes after = after ≡ record before { given = before.given ++ bytes }

-- the session heard just what the link gave, and this is what it was told of it
abbrev pub Hears : SessionHeard → LiveSession → LiveSession → Seen → Seen → Type 0
Hears what s t before after =
    (bytes : List ℕ) × Gives before bytes after
    × (t ≡ session_hears s bytes) × (live_piece_told s bytes ≡ what)

-- the session and the link stay as they were
abbrev pub Rests : LiveSession → LiveSession → Seen → Seen → Type 0
Rests s t before after = (t ≡ s) × (after ≡ before)

-- the link failed once, and did nothing else
abbrev pub Fails : LiveSession → LiveSession → Seen → Seen → Type 0
Fails s t before after =
    (t ≡ s) × (after ≡ record before { failures = before.failures + 1 })

-- what the turn's read came to. When out of memory what was read is not heard.
abbrev pub HasHeard : Served → LiveSession → LiveSession → Seen → Seen → Type 0
HasHeard served.Quiet s t before after =
    Hears told.Quiet s t before after ⊎ Rests s t before after
HasHeard served.Ready s t before after = Hears told.Ready s t before after
HasHeard served.Acked s t before after = Hears told.Acked s t before after
HasHeard (served.Down fault) s t before after = Hears (told.Fault fault) s t before after
HasHeard served.Closed s t before after = Rests s t before after
HasHeard (served.Failed fault) s t before after = Fails s t before after
HasHeard served.Memory s t before after =
    (t ≡ s) × ((bytes : List ℕ) × Gives before bytes after)

-- one turn: at most one write, of which the session is told; and then at most one read, which the
-- session hears
abbrev pub IsServed : Served → LiveSession → LiveSession → Seen → Seen → Type 0
IsServed what s t before after =
    (middle : LiveSession) × (between : Seen)
    × Sends s middle before between × HasHeard what middle t between after

-- ---- over a session's life

-- the bytes that a session was told of and heard are its link's, since it began
pub record AreTheLinks (s : SessionHistory) (seen : Seen) : Type 0 where
  pub taken : seen.taken ≡ take s.sent s.appended
  pub given : seen.given ≡ s.heard

-- a session is the live part of a history whose bytes are the link's
pub record IsOver (t : LiveSession) (seen : Seen) : Type 0 where
  pub history : SessionHistory
  pub live : t ≡ live_session history
  pub sane : IsSane history
  pub bytes : AreTheLinks history seen

-- One of the chunks that a session carries is acknowledged by bytes that it heard, once these were
-- written: its whole frame is among what was written, at the place where the load put it, which
-- ends where the chunk says, where the session was loaded only while it was ready; and a value that
-- names it ended among those bytes.
pub record IsAcknowledgedBy (s : SessionHistory) (written read : List ℕ) (a : Accepted)
    : Type 0 where
  pub place : ℕ
  pub loaded : Loaded
  pub carried : slice_get s.carried place ≡ Some loaded
  pub chunk : loaded.chunk ≡ a.chunk
  pub frame : IsFramed s
      → (front : List ℕ) × (back : List ℕ) × (written ≡ front ++ frame_of a.chunk ++ back)
      × (loaded.through ≡ length (front ++ frame_of a.chunk))
  pub turn : ℕ
  pub ended : slice_get (values_of (newly_heard s read)) turn ≡ Some a.reply
  pub named : ack_name a.reply ≡ Some a.chunk.name

-- Chunks of a session are acknowledged by its link's bytes, one at least: of each the whole frame
-- was written on the link, and the last byte of a value that names the chunk was read afterwards.
pub record IsAcknowledged (s : SessionHistory) (before after : Seen) : Type 0 where
  pub count : ℕ
  pub read : List ℕ
  pub given : after.given ≡ before.given ++ read
  pub some : 0 < length (newly_accepted (sends s count) read)
  pub each : AllByRecursion
      (IsAcknowledgedBy (sends s count) (before.taken ++ take count (to_send s)) read)
      (newly_accepted (sends s count) read)

-- what is done with a session: a turn over its link, which comes to this; a chunk is loaded at a
-- moment; it is asked at a moment whether it is late; the chunk that was accepted first is taken
-- out
pub data Deed : Type 0 where
  Serves : (what : Served) → Deed
  Loads : (chunk : CarriedChunk) (now : ℕ) → Deed
  Looks : (now : ℕ) → Deed
  Unloads : Deed

-- What it does with the session and its link, and when: a turn and a look come while the session is
-- up, a load while it is ready and has room, and a chunk is taken out once it is acknowledged.
-- Only a turn does anything with the link. Behind a turn that ended out of memory nothing is
-- done any more.
abbrev pub Does : Deed → LiveSession → LiveSession → Seen → Seen → Type 0
Does (Serves what) s t before after =
    (s.down ≡ false) × (what ≢ served.Memory) × IsServed what s t before after
Does (Loads chunk now) s t before after =
    (0 < live_room s) × (live_is_ready s ≡ true)
    × (t ≡ session_loads s chunk now) × (after ≡ before)
Does (Looks now) s t before after =
    (s.down ≡ false) × (t ≡ session_looks s now) × (after ≡ before)
Does Unloads s t before after =
    (is_some (live_acked s) ≡ true) × (t ≡ session_unloads s) × (after ≡ before)

-- a session's life so far: one after the other
abbrev pub Lives : List Deed → LiveSession → LiveSession → Seen → Seen → Type 0
Lives [] s t before after = Rests s t before after
Lives (deed ∷ deeds) s t before after =
    (middle : LiveSession) × (between : Seen)
    × Does deed s middle before between × Lives deeds middle t between after

-- a session has lived over a link from its first call on
pub record HasLived (s : LiveSession) (seen : Seen) : Type 0 where
  pub setup : Setup
  pub deeds : List Deed
  pub lives : Lives deeds (session_begins setup) s (seen_in []) seen

-- it had, and then a last turn ended out of memory: what that read is lost
pub record HasLost (s : LiveSession) (seen : Seen) : Type 0 where
  pub prior : LiveSession
  pub before : Seen
  pub lived : HasLived prior before
  pub last : IsServed served.Memory prior s before seen

-- A session is of this link, which shows what is seen of it: it has lived over it. Where it is not
-- to end it is up; and only where it is to end may its last turn have ended out of memory.
pub record IsOfLink (s : LiveSession) (seen : Seen) (ends : Bool) : Type 0 where
  pub lived : HasLived s seen ⊎ ((ends ≡ true) × HasLost s seen)
  pub up : ends ≡ false → s.down ≡ false

-- what a session began with, what was seen of its link then, and what was done with it since
pub record Life : Type 0 where
  pub setup : Setup
  pub start : Seen
  pub deeds : List Deed

-- a session has this life so far, and this is seen of its link
abbrev pub HasLife : Life → LiveSession → Seen → Type 0
HasLife life s seen = Lives life.deeds (session_begins life.setup) s life.start seen

-- In a session's life so far a chunk was loaded, just behind these bytes: those that the link had
-- taken by then, and those that waited to be sent.
pub record WasLoadedBehind (life : Life) (s : LiveSession) (seen : Seen) (chunk : CarriedChunk)
    (front : List ℕ) : Type 0 where
  pub before : List Deed
  pub now : ℕ
  pub later : List Deed
  pub split : life.deeds ≡ before ++ Loads chunk now ∷ later
  pub prior : LiveSession
  pub between : Seen
  pub until : Lives before (session_begins life.setup) prior life.start between
  pub since : Lives (Loads chunk now ∷ later) prior s between seen
  pub behind : front ≡ between.taken ++ prior.waiting

-- The frame of one of a session's chunks was written first, at the place where the load put it, and
-- then acknowledged. Before the turn this was seen. At the first of two moments in the turn the
-- link had taken the frame, whole, just behind all that the session had been handed before its
-- load, and had not yet given the last byte of a value that names the chunk; at the second it had.
-- The value is the one of this place among all whole values that the link gave.
pub record IsWrittenFirst (life : Life) (s : LiveSession) (before written acknowledged : Seen)
    (a : Accepted) : Type 0 where
  pub chunk : (place : ℕ) × (slice_get (live_chunks s.carried) place ≡ Some a.chunk)
  pub front : List ℕ
  pub loaded : WasLoadedBehind life s before a.chunk front
  pub back : List ℕ
  pub frame : written.taken ≡ front ++ frame_of a.chunk ++ back
  pub named : ack_name a.reply ≡ Some a.chunk.name
  pub place : ℕ
  pub unread : length (values_of (reply_stream written.given)) ≤ place
  pub read : slice_get (values_of (reply_stream acknowledged.given)) place ≡ Some a.reply

-- the acknowledgements that a session has behind a turn and lacked before it, in the order of their
-- acceptance: each frame was written first
pub record AreWrittenFirst (life : Life) (s t : LiveSession) (before written acknowledged : Seen)
    : Type 0 where
  pub accepted : List Accepted
  pub more : t.accepted ≡ s.accepted ++ accepted
  pub each : AllByRecursion (IsWrittenFirst life s before written acknowledged) accepted
