-- What becomes of a source's connection.
use Rattle.std.specs.Prelude.{◌≡◌, ◌+◌, ◌-◌, ◌^◌, ◌<◌, ◌≤◌, ◌==◌, ◌⊎◌, ◌&&◌, ℕ, Bool, true, false, not, nat_le, nat_lt, List, [], ◌∷◌, length, take, Option, Some, None, option_map, option_and_then, is_some, if◌then◌else◌}
use Rattle.std.specs.List.{concat}
use Rattle.fwd_match.specs.Patterns.{route}
use Rattle.fwd_modes.specs.Acks.{ack_text}
use Rattle.fwd_modes.specs.Requests.{Request}
use Rattle.fwd_modes.specs.declared.origin.Origin.{Origin}
use Rattle.fwd_source.specs.declared.piece.Piece.{Piece}
use Rattle.fwd_source.specs.declared.piece.Piece.TheVariants as piece
use Rattle.fwd_source.specs.declared.fault.SourceFault.TheVariants as fault
use Rattle.fwd_source.specs.Live.{
  LiveSource,
  first_waiting,
  live_piece_answer,
  live_piece_next,
  source_appends,
  source_drains,
  source_gives_first,
}
use Rattle.fwd_book.specs.Receipts.{Receipt}
use Rattle.fwd_book.specs.declared.refusal.AdmitRefusal.TheVariants as refusal
use Rattle.fwd_peers.specs.declared.close_reason.PeerEnd.{PeerEnd}
use Rattle.fwd_peers.specs.declared.close_reason.PeerEnd.TheVariants as peer_end
use Rattle.fwd_peers.specs.declared.close_reason.CloseReason.{CloseReason}
use Rattle.fwd_peers.specs.declared.close_reason.CloseReason.TheVariants as source_end
use Rattle.fwd_peers.specs.declared.leave_stage.LeaveStage.{LeaveStage}
use Rattle.fwd_peers.specs.declared.peer_state.PeerState.{PeerState}
use Rattle.fwd_peers.specs.declared.peer_state.PeerState.TheVariants as stage
use Rattle.fwd_peers.specs.declared.peer_stream.Visit.{Visit}
use Rattle.fwd_peers.specs.declared.peer_stream.Visit.TheVariants as visit
use Rattle.fwd_peers.specs.declared.limits.TheConstants.{GREETING, UNSENT}
use Rattle.fwd_peers.specs.Costs.{bounded, upkeep}
use Rattle.fwd_peers.specs.Streams.{StreamCall, IsReading, IsVisit, is_full}

-- what is seen of a source's connection: its id; how far it has come; why the relay ended it, until
-- that was told; whether it was left unread when it was visited last, since too many bytes wait to
-- be sent to it; its live part; how many bytes of acknowledgements are promised, and for how many
-- bytes there is room; what its stream answered to all reads, and to all writes; when it sent
-- something last, or came, in milliseconds; the number of the request that it gave last, and how
-- many of those that it gave were answered; how many bytes it is owed: those take beside their
-- entries that were not; whether one that it gave was refused, so that it gives none any more; and
-- how far it has come, where the relay was asked to stop
pub record PeerShown : Type 0 where
  pub id : ℕ
  pub stage : PeerState
  pub why : Option PeerEnd
  pub held : Bool
  pub live : LiveSource
  pub promised : ℕ
  pub room : ℕ
  pub reads : List StreamCall
  pub writes : List StreamCall
  pub heard : ℕ
  pub given : ℕ
  pub answered : ℕ
  pub owed : ℕ
  pub refused : Bool
  pub leave : LeaveStage

-- the relay owes it nothing: no acknowledgement is promised, no byte waits to be sent, and no
-- request waits to be admitted
abbrev pub is_owed_nothing : PeerShown → Bool
is_owed_nothing s =
    s.promised == 0 && (length s.live.unsent == 0 && length s.live.waiting == 0)

-- its id is its source's: the one under which its requests go
abbrev pub HasOwnId : PeerShown → Type 0
HasOwnId s = s.id ≡ s.live.setup.conn

-- ---- what it hears

-- how far a connection has come once it was told of a piece: a fault has it linger
abbrev pub stage_told : PeerState → Piece → PeerState
stage_told s (piece.Waiting count) = s
stage_told s (piece.Fault fault) = stage.Lingering
stage_told s piece.Closed = stage.Lingering

-- why the relay ended it, once it was told of a piece: by that fault
abbrev pub why_told : Option PeerEnd → Piece → Option PeerEnd
why_told why (piece.Waiting count) = why
why_told why (piece.Fault f) = Some (peer_end.Closed (source_end.Fault f))
why_told why piece.Closed = Some (peer_end.Closed (source_end.Fault fault.Closed))

-- how far it has come once a visit to its stream ended: it is over where the stream ended
abbrev pub stage_visited : PeerState → Visit → PeerState
stage_visited s visit.Waits = s
stage_visited s visit.Full = s
stage_visited s visit.Ended = stage.Over

-- Bytes come to a connection, and this is its live part then, how far it has come, and why the
-- relay ended it. They are taken in, and a fault has it linger, and is why. Or none of them is,
-- when out of memory, which is why it is over.
abbrev pub IsPiece : PeerShown → (bytes : List ℕ) → LiveSource → PeerState → Option PeerEnd → Type 0
IsPiece s bytes live come why =
    ((live ≡ live_piece_next s.live bytes)
    × (come ≡ stage_told s.stage (live_piece_answer s.live bytes))
    × (why ≡ why_told s.why (live_piece_answer s.live bytes)))
    ⊎ ((live ≡ s.live) × (come ≡ stage.Over) × (why ≡ Some peer_end.Memory))

-- the same where there may be no byte, which changes nothing
abbrev pub TakesIn : PeerShown → (bytes : List ℕ) → LiveSource → PeerState → Option PeerEnd → Type 0
TakesIn s [] live come why = (live ≡ s.live) × (come ≡ s.stage) × (why ≡ s.why)
TakesIn s (byte ∷ bytes) live come why = IsPiece s (byte ∷ bytes) live come why

-- when it sent something last, once so many bytes of it were read at a moment
abbrev pub heard_at : (now : ℕ) → (bytes : List ℕ) → (before : ℕ) → ℕ
heard_at now [] before = before
heard_at now (byte ∷ bytes) before = now

-- what a visit to its stream gave is taken in, and then it is over where the stream ended
abbrev pub Hears : PeerShown → (bytes : List ℕ) → (end : Visit) → PeerShown → Type 0
Hears s bytes end t =
    (come : PeerState) × (TakesIn s bytes t.live come t.why × (t.stage ≡ stage_visited come end))

-- its stream is read in one visit at a moment, for so many bytes at most, and to its end where it
-- is to be; what that gives is heard, and it says whether there may be more
pub record Reads (now : ℕ) (to_end : Bool) (most : ℕ) (s : PeerShown) (more : Bool) (t : PeerShown)
    : Type 0 where
  pub bytes : List ℕ
  pub end : Visit
  pub visit : IsReading to_end most s.reads bytes end t.reads
  pub heard : Hears s bytes end t
  pub again : more ≡ is_full end
  pub rest : t ≡ record s {
    stage = t.stage;
    why = t.why;
    held = false;
    live = t.live;
    room = t.room;
    reads = t.reads;
    heard = heard_at now bytes s.heard;
  }

-- it is still to log in, and more bytes of it wait than a PING may have
abbrev pub is_too_long : PeerShown → Bool
is_too_long s = s.live.awaits && nat_lt GREETING (length s.live.rest)

-- it was not read, since too many bytes waited to be sent to it, and may be now
abbrev pub is_free : PeerShown → Bool
is_free s = s.held && nat_lt (length s.live.unsent) UNSENT

-- ---- what is asked of outputs

-- the first of its requests that wait, if one does
abbrev pub first_asked : PeerShown → Option (Origin × Request)
first_asked s = first_waiting s.live s.live.waiting

-- the output that takes it: the first whose pattern matches its tag
abbrev pub first_route : List (List (List ℕ)) → PeerShown → Option ℕ
first_route routes s = option_and_then (λ asked. route routes asked.1.tag) (first_asked s)

-- one of its requests waits, and the sender of the first asked for an acknowledgement
abbrev pub asks : PeerShown → Bool
asks s = is_some (option_and_then (λ asked. asked.1.chunk) (first_asked s))

-- how many bytes the entries of a request have, if there is one
abbrev pub entry_bytes : Option (Origin × Request) → ℕ
entry_bytes None = 0
entry_bytes (Some asked) = length (concat asked.1.entries)

-- how many bytes the entries have of the first of its requests that wait
abbrev pub asked_bytes : PeerShown → ℕ
asked_bytes s = entry_bytes (first_asked s)

-- what it is owed once this request of it is given: what that takes beside its entries is more
abbrev pub owed_with : PeerShown → Request → ℕ
owed_with s request = bounded (s.owed + upkeep request.tag request.chunk)

-- how many bytes an acknowledgement has, where the sender asked for one
abbrev pub ack_size : (chunk : Option (List ℕ)) → ℕ
ack_size None = 0
ack_size (Some chunk) = length (ack_text chunk)

-- how many bytes of acknowledgements are promised once its first request is given
abbrev pub promised_with : PeerShown → Request → ℕ
promised_with s request = s.promised + ack_size request.chunk

-- there is not room for so many bytes, or no number for them
abbrev pub LacksRoom : PeerShown → (bytes : ℕ) → Type 0
LacksRoom s bytes = (s.room < bytes) ⊎ (2 ^ 64 ≤ bytes)

-- The first request that waits is given, under the connection's own id, and there is room for its
-- acknowledgement and for all that were promised before; and what it takes beside its entries is
-- owed. Or none is given, and it is as it was: one that it gave was refused, none waits, or there is
-- not that room.
abbrev pub Gives : PeerShown → Option (Origin × Request) → PeerShown → Type 0
Gives s None t =
    (t ≡ s) × ((s.refused ≡ true) ⊎ ((first_asked s ≡ None)
    ⊎ ((asked : Origin × Request) × ((first_asked s ≡ Some asked)
    × LacksRoom s (promised_with s asked.1)))))
Gives s (Some asked) t =
    (first_asked s ≡ Some asked) × (promised_with s asked.1 ≤ t.room)
    × (t ≡ record s {
      live = source_gives_first s.live s.live.waiting;
      promised = promised_with s asked.1;
      room = t.room;
      given = asked.0.request;
      owed = owed_with s asked.1;
    })
    × (asked.0.conn ≡ s.id)

-- the first request that waits is given, and is refused: then none is given any more
pub record GivesInVain (s : PeerShown) (asked : Origin × Request) (t : PeerShown) : Type 0 where
  pub given : PeerShown
  pub gives : Gives s (Some asked) given
  pub rest : t ≡ record given { refused = true }

-- the first request that waits is to be given: there is room for its acknowledgement and for all that
-- were promised before, and what it takes beside its entries is owed
abbrev pub Promises : PeerShown → Origin × Request → PeerShown → Type 0
Promises s asked t =
    (s.refused ≡ false) × (first_asked s ≡ Some asked) × (promised_with s asked.1 ≤ t.room)
    × (t ≡ record s {
      promised = promised_with s asked.1;
      room = t.room;
      given = asked.0.request;
      owed = owed_with s asked.1;
    })

-- ---- what it is told

-- one more of the requests that it gave was answered, and never more than it gave
abbrev pub with_one_answered : PeerShown → PeerShown
with_one_answered s =
    record s { answered = if nat_lt s.answered s.given then s.answered + 1 else s.answered }

-- the request of a receipt was answered: what it took beside its entries is owed no more
abbrev pub answered_by : Receipt → PeerShown → PeerShown
answered_by receipt s =
    record (with_one_answered s) { owed = s.owed - upkeep receipt.tag receipt.chunk }

-- what a receipt has counted at the connection of this id: it answers a request of that connection
abbrev pub counted : Receipt → (id : ℕ) → PeerShown → PeerShown
counted receipt id s = if receipt.origin.conn == id then answered_by receipt s else s

-- the acknowledgement that a receipt has the connection of this id told: it is of a request of
-- that connection, whose sender asked for one
abbrev pub told_by : Receipt → (id : ℕ) → Option (List ℕ)
told_by receipt id =
    if receipt.origin.conn == id then option_map ack_text receipt.chunk else None

-- an acknowledgement stands behind the bytes that wait to be sent, and is promised no more
abbrev pub IsPut : PeerShown → (ack : List ℕ) → PeerShown → Type 0
IsPut s ack t =
    (s.room ≤ t.room + length ack)
    × (t ≡ record s {
      live = source_appends s.live ack;
      promised = s.promised - length ack;
      room = t.room;
    })

-- it does not, for there was no room for it, or what waits was dropped; and the connection is over,
-- for want of memory
abbrev pub IsNotPut : PeerShown → (ack : List ℕ) → PeerShown → Type 0
IsNotPut s ack t =
    ((s.room < length ack) ⊎ (s.live.shut ≡ true))
    × (t ≡ record s {
      stage = stage.Over;
      why = Some peer_end.Memory;
      promised = s.promised - length ack;
      room = t.room;
    })

-- what it has to be told, if anything, is put behind the bytes that wait to be sent, or it is over
abbrev pub IsTold : PeerShown → Option (List ℕ) → PeerShown → Type 0
IsTold s None t = t ≡ s
IsTold s (Some ack) t = IsPut s ack t ⊎ IsNotPut s ack t

-- ---- when it is idle

-- a connection that is read and written, and is not about to go
abbrev pub is_open : PeerState → Bool
is_open stage.Open = true
is_open stage.Lingering = false
is_open stage.Over = false

-- Neither it nor the relay owes the other anything: it is open and has logged in, no request of it
-- waits or is under way, no byte of an unfinished value of it is held, and none waits to be sent.
abbrev pub owes_nothing : PeerShown → Bool
owes_nothing s =
    is_open s.stage &&
    (not s.live.awaits &&
    (length s.live.waiting == 0 &&
    (nat_le s.given s.answered &&
    (length s.live.rest == 0 && length s.live.unsent == 0))))

-- since when it has been silent, where nothing is owed
abbrev pub silent_since : PeerShown → Option ℕ
silent_since s = if owes_nothing s then Some s.heard else None

-- it was let in, and gave no request, also none that waits
abbrev pub has_given_none : PeerShown → Bool
has_given_none s =
    not s.live.awaits && (s.given == 0 && length s.live.waiting == 0)

-- nothing came of it but nil: it gave no request, and holds no byte of one
abbrev pub is_silent : PeerShown → Bool
is_silent s = length s.live.rest == 0 && has_given_none s

-- ---- why it is ended

-- that its request was not admitted: for want of memory, or because the relay closes it
abbrev pub end_by : CloseReason → PeerEnd
end_by (source_end.Refused output refusal.Memory) = peer_end.Memory
end_by why = peer_end.Closed why

-- why it is closed whose request has so many bytes, at an output that may hold so many: a request
-- above that by itself is never admitted
abbrev pub sized : CloseReason → (bytes limit : ℕ) → CloseReason
sized (source_end.Refused output refusal.Full) bytes limit =
    if nat_lt limit bytes
    then source_end.TooLarge output bytes limit
    else source_end.Refused output refusal.Full
sized why bytes limit = why

-- ---- what it is sent

-- whether a connection stands that has come so far, and has these bytes to be sent: it is open, or
-- it lingers over bytes
abbrev pub stands : PeerState → (unsent : List ℕ) → Bool
stands stage.Open unsent = true
stands stage.Lingering unsent = not (length unsent == 0)
stands stage.Over unsent = false

-- its stream is visited once, for all bytes that wait to be sent, and took the first of them; the
-- visit ended so
pub record Sends (s : PeerShown) (end : Visit) (t : PeerShown) : Type 0 where
  pub count : ℕ
  pub within : count ≤ length s.live.unsent
  pub visit : IsVisit (length s.live.unsent) s.writes (take count s.live.unsent) end t.writes
  pub rest : t ≡ record s {
    live = source_drains s.live count;
    room = s.room + count;
    writes = t.writes;
  }

-- its stream is visited so; it is over where the stream ended; and it says whether it stands
pub record Writes (s : PeerShown) (goes_on : Bool) (t : PeerShown) : Type 0 where
  pub end : Visit
  pub between : PeerShown
  pub sent : Sends s end between
  pub after : t ≡ record between { stage = stage_visited between.stage end }
  pub answer : goes_on ≡ stands t.stage t.live.unsent
