-- How the code keeps a session's chunks: those that are not acknowledged, and the frames that wait
-- to be sent, which are those of the last ones.
use Rattle.std.specs.Prelude.{◌≡◌, ◌≤◌, ◌<◌, ℕ, ◌+◌, ◌-◌, ◌==◌, Bool, false, nat_lt, List, [], ◌∷◌, ◌++◌, length, map, drop, replicate, slice_index_or, if◌then◌else◌}
use Rattle.std.specs.List.{AllByRecursion}
use Rattle.fwd_chunks.specs.History.{CarriedChunk}
use Rattle.fwd_session.specs.declared.limits.TheConstants.{WINDOW_LIMIT}
use Rattle.fwd_session.specs.declared.handshake.Handshake.{Handshake}
use Rattle.fwd_session.specs.ServerAcks.{ServerAck, Accepted, IsBacked}
use Rattle.fwd_session.specs.Said.{Awaited}
use Rattle.fwd_session.specs.History.{is_done}
use Rattle.fwd_session.specs.Live.{LiveLoaded}

-- ---- chunks that are not acknowledged

-- a chunk, and since when it is waited for
pub record InFlightChunk : Type 0 where
  pub chunk : CarriedChunk
  pub since : ℕ

-- chunks, and since when each is waited for
abbrev pub flights_of : List CarriedChunk → (since : List ℕ) → List InFlightChunk
flights_of [] since = []
flights_of (c ∷ chunks) [] = []
flights_of (c ∷ chunks) (from ∷ since) =
    record { chunk = c; since = from } ∷ flights_of chunks since

-- the chunks among these
abbrev pub flight_chunks : List InFlightChunk → List CarriedChunk
flight_chunks flights = map (λ f. f.chunk) flights

-- ---- frames that wait to be sent

-- frames once so many of their bytes are sent: one that is sent whole is gone
abbrev pub unsent_after : ℕ → List (List ℕ) → List (List ℕ)
unsent_after count [] = []
unsent_after count (frame ∷ frames) =
    if nat_lt count (length frame) then drop count frame ∷ frames
    else unsent_after (count - length frame) frames

-- how many bytes wait through the last one of each frame, behind so many others
abbrev pub ends_behind : ℕ → List (List ℕ) → List ℕ
ends_behind before [] = []
ends_behind before (frame ∷ frames) =
    (before + length frame) ∷ ends_behind (before + length frame) frames

-- the same of so many frames, the last of which wait: none waits of those before
abbrev pub left_through : (count before : ℕ) → List (List ℕ) → List ℕ
left_through count before frames =
    replicate (count - length frames) 0 ++ ends_behind before frames

-- chunks that are not acknowledged, and how many bytes wait through each one's frame
abbrev pub with_left : List InFlightChunk → (left : List ℕ) → List LiveLoaded
with_left [] left = []
with_left (f ∷ flights) [] =
    record { chunk = f.chunk; left = 0; since = f.since } ∷ with_left flights []
with_left (f ∷ flights) (n ∷ left) =
    record { chunk = f.chunk; left = n; since = f.since } ∷ with_left flights left

-- the same, where these frames wait behind so many bytes
abbrev pub loaded_of : (before : ℕ) → List (List ℕ) → List InFlightChunk → List LiveLoaded
loaded_of before frames flights =
    with_left flights (left_through (length flights) before frames)

-- ---- chunks that are awaited

-- a chunk, and whether its frame is handed on
pub record PendingChunk : Type 0 where
  pub chunk : CarriedChunk
  pub is_handed_on : Bool

-- chunks of which the frames of the first so many are handed on
abbrev pub pending_of : (handed_on : ℕ) → List CarriedChunk → List PendingChunk
pending_of handed_on [] = []
pending_of handed_on (c ∷ chunks) =
    record { chunk = c; is_handed_on = nat_lt 0 handed_on } ∷ pending_of (handed_on - 1) chunks

-- no chunk, where one is asked for past the end
abbrev pub no_chunk : CarriedChunk
no_chunk = record { number = 0; tag = []; entries = []; name = [] }

-- the one of these at a place, where the frames of the first so many are handed on
abbrev pub pending_at : (handed_on : ℕ) → List CarriedChunk → (place : ℕ) → PendingChunk
pending_at handed_on chunks place = record {
  chunk = slice_index_or chunks place no_chunk;
  is_handed_on = nat_lt place handed_on;
}

-- those of a session
abbrev pub live_pending : List LiveLoaded → List PendingChunk
live_pending loaded = map (λ l. record { chunk = l.chunk; is_handed_on = l.left == 0 }) loaded

-- what is awaited of them
abbrev pub awaited_of : List PendingChunk → List Awaited
awaited_of pending =
    map (λ p. record { name = p.chunk.name; is_handed_on = p.is_handed_on }) pending

-- ---- what is kept

-- the chunks that were acknowledged, by what is kept of them
abbrev pub accepted_of : List (ServerAck × CarriedChunk) → List Accepted
accepted_of pairs = map (λ p. record { chunk = p.1; reply = p.0.reply }) pairs

-- What holds of all that a session keeps: what is kept of each acknowledged chunk is of it; no
-- frame waits before the handshake is done, each that waits has a byte, and is of a chunk that is
-- not acknowledged; and there are no more chunks than the window, nor than there is room for.
pub record IsKept (server window : ℕ) (at : Handshake) (frames : List (List ℕ))
    (flights : List InFlightChunk) (pairs : List (ServerAck × CarriedChunk)) (capacity : ℕ)
    : Type 0 where
  pub backed : AllByRecursion (λ p. IsBacked server p.0 p.1) pairs
  pub greeted : is_done at ≡ false → frames ≡ []
  pub full : AllByRecursion (λ f. 0 < length f) frames
  pub queued : length frames ≤ length flights
  pub within : length flights + length pairs ≤ window
  pub few : window ≤ WINDOW_LIMIT
  pub enough : WINDOW_LIMIT ≤ capacity
