-- What of a history still matters: the chunks that are not settled, and the counts. The same
-- events, taken on that.
use Rattle.std.specs.Prelude.{◌≡◌, ℕ, ◌+◌, ◌^◌, ◌&&◌, ◌||◌, ◌==◌, max, nat_le, nat_lt, Bool, true, false, not, List, [], ◌∷◌, ◌++◌, length, map, filter, find, Option, Some, None, is_some, option_map, if◌then◌else◌}
use Rattle.std.specs.Str.{bytes_eq}
use Rattle.fwd_modes.specs.Requests.{Request}
use Rattle.fwd_modes.specs.Frames.{chunk_name}
use Rattle.fwd_chunks.specs.declared.flush.FlushKind.{FlushKind}
use Rattle.fwd_chunks.specs.declared.flush.FlushKind.TheVariants.{Due, All}
use Rattle.fwd_chunks.specs.declared.wanted.Wanted.{Wanted}
use Rattle.fwd_chunks.specs.declared.free_chunk.FreeChunk.{FreeChunk}
use Rattle.fwd_chunks.specs.declared.chunk.Chunk.{Chunk}
use Rattle.fwd_base.specs.declared.counts.Counts.{Counts}
use Rattle.fwd_chunks.specs.declared.span.Span.{Span}
use Rattle.fwd_chunks.specs.declared.fault.AdmitError.{AdmitError}
use Rattle.fwd_chunks.specs.declared.fault.AdmitError.TheVariants.{Full, NumbersSpent}
use Rattle.fwd_chunks.specs.declared.chunk_state.ChunkState.{ChunkState}
use Rattle.fwd_chunks.specs.declared.chunk_state.ChunkState.TheVariants.{Open, Closed, Taken}
use Rattle.fwd_base.specs.declared.losses.Losses.{Losses}
use Rattle.fwd_base.specs.Tallies.{tally_of, tally_more, live_is_over}
use Rattle.fwd_chunks.specs.Cells.{
  Carry,
  size_of,
  cells_at,
  contents,
  first_tag,
  first_moment,
  has_number,
  numbers_of,
  greatest,
  number_after,
  losses_of,
}
use Rattle.fwd_chunks.specs.History.{BufferSetting, BufferHistory, CarriedChunk, unsettled, before_runs, moment_for}
use Rattle.fwd_chunks.specs.Events.{BufferEvent, Enter, Flush, Take, Settle, Free, unless_refused}

-- ---- the live part

-- the chunks that are not settled, by rising number, and the counts that all cells gave, which
-- stay when cells go
pub record LiveBuffer : Type 0 where
  pub setting : BufferSetting
  pub chunks : List Chunk
  pub greatest : Option ℕ
  pub accepted : ℕ
  pub settled : ℕ
  pub moment : ℕ

-- where a number stands, by whether it is open and by who has it
abbrev pub stage_by : Bool → Option Carry → ChunkState
stage_by true carry = Open
stage_by false None = Closed
stage_by false (Some carry) = Taken carry.worker

-- where a number stands: it is open, or closed, or a worker has it
abbrev pub stage_of : BufferHistory → ℕ → ChunkState
stage_of h number =
    stage_by (has_number number h.opened) (find (λ c. c.number == number) h.carried)

-- the chunk of a number
abbrev pub live_chunk : BufferHistory → ℕ → Chunk
live_chunk h number = record {
  number = number;
  tag = first_tag (cells_at number h.cells);
  entries = contents number h.cells;
  since = first_moment (cells_at number h.cells);
  stage = stage_of h number;
  losses = tally_of (losses_of number h.losses);
}

-- the live part of a history: the chunks of the numbers that have unsettled entries
unfoldable pub live_buffer : BufferHistory → LiveBuffer
live_buffer h = record {
  setting = h.setting;
  chunks = map (live_chunk h) (numbers_of (unsettled h));
  greatest = greatest h.cells;
  accepted = length h.cells;
  settled = length (filter (λ c. has_number c.number h.acknowledged) h.cells);
  moment = h.moment;
}

-- before any event
abbrev pub live_opening : BufferSetting → LiveBuffer
live_opening setting = record {
  setting = setting;
  chunks = [];
  greatest = None;
  accepted = 0;
  settled = 0;
  moment = 0;
}

-- ---- chunks

-- the chunk may take more
abbrev pub is_open : ChunkState → Bool
is_open Open = true
is_open _ = false

-- the chunk waits for a worker
abbrev pub is_closed : ChunkState → Bool
is_closed Closed = true
is_closed _ = false

-- a worker has the chunk
abbrev pub is_taken : ChunkState → Bool
is_taken (Taken worker) = true
is_taken _ = false

-- the chunk, where it stands now
abbrev pub staged : ChunkState → Chunk → Chunk
staged stage c = record c { stage = stage }

-- the chunk is another where the test holds
abbrev pub changed : (Chunk → Bool) → (Chunk → Chunk) → List Chunk → List Chunk
changed test change chunks = map (λ c. if test c then change c else c) chunks

-- the chunk has the number
abbrev pub is_at : ℕ → Chunk → Bool
is_at number c = c.number == number

-- the entries in chunks, and their bytes
abbrev pub held_in : List Chunk → ℕ
held_in [] = 0
held_in (c ∷ chunks) = length c.entries + held_in chunks

-- the bytes of all entries in chunks
abbrev pub bytes_in : List Chunk → ℕ
bytes_in [] = 0
bytes_in (c ∷ chunks) = size_of c.entries + bytes_in chunks

-- ---- joining

-- the next number that no entry has
abbrev pub live_next_number : LiveBuffer → ℕ
live_next_number b = number_after b.setting.limits.first b.greatest

-- the chunk is open, and of the tag
abbrev pub is_open_of : List ℕ → Chunk → Bool
is_open_of tag c = is_open c.stage && bytes_eq c.tag tag

-- the chunk is open, of the tag, and with the entry within the chunk limit
abbrev pub may_take : LiveBuffer → List ℕ → List ℕ → Chunk → Bool
may_take b tag entry c =
    is_open_of tag c && nat_le (size_of c.entries + length entry) b.setting.limits.chunk

-- a chunk of one entry
abbrev pub first_chunk : LiveBuffer → List ℕ → List ℕ → Chunk
first_chunk b tag entry = record {
  number = live_next_number b;
  tag = tag;
  entries = entry ∷ [];
  since = b.moment;
  stage = Open;
  losses = None;
}

-- the entry goes into the chunk that may take it, or the tag's open chunk is closed and a new one
-- begins
abbrev pub live_adds_to : LiveBuffer → List ℕ → List ℕ → Option Chunk → LiveBuffer
live_adds_to b tag entry (Some c) = record b {
  chunks = changed (is_at c.number) (λ d.
      record d { entries = d.entries ++ entry ∷ [] }) b.chunks;
  accepted = b.accepted + 1;
}
live_adds_to b tag entry None = record b {
  chunks = changed (is_open_of tag) (staged Closed) b.chunks ++ first_chunk b tag entry ∷ [];
  greatest = Some (live_next_number b);
  accepted = b.accepted + 1;
}

-- an entry is admitted, to the open chunk of its tag that may take it or to a new one
unfoldable pub live_adds : LiveBuffer → List ℕ → List ℕ → LiveBuffer
live_adds b tag entry = live_adds_to b tag entry (find (may_take b tag entry) b.chunks)

-- one entry after the other
abbrev pub live_adds_all : LiveBuffer → List ℕ → List (List ℕ) → LiveBuffer
live_adds_all b tag [] = b
live_adds_all b tag (entry ∷ entries) = live_adds_all (live_adds b tag entry) tag entries

-- a moment is handed in: a smaller one counts as the greatest so far
abbrev pub live_looks : LiveBuffer → ℕ → LiveBuffer
live_looks b now = record b { moment = max b.moment now }

-- a request is entered at a moment
abbrev pub live_enters : LiveBuffer → Request → ℕ → LiveBuffer
live_enters b r now = live_adds_all (live_looks b now) r.tag r.entries

-- the bytes held, with the request's, are more than the total limit
abbrev pub live_is_full : LiveBuffer → Request → Bool
live_is_full b r = nat_lt b.setting.limits.total (bytes_in b.chunks + size_of r.entries)

-- there are more numbers, or more entries, than 64 bits count
abbrev pub live_is_spent : LiveBuffer → Bool
live_is_spent b = nat_lt (2 ^ 64) (live_next_number b) || nat_le (2 ^ 64) b.accepted

-- why a request is refused, if it is
abbrev pub live_refusal : LiveBuffer → Request → ℕ → Option AdmitError
live_refusal b r now =
    if live_is_full b r then Some Full
    else if live_is_spent (live_enters b r now) then Some NumbersSpent else None

-- the place of an entry that goes into the chunk, or begins the next one
abbrev pub live_place : LiveBuffer → Option Chunk → Span
live_place b (Some c) = record { number = c.number; from = length c.entries; count = 1 }
live_place b None = record { number = live_next_number b; from = 0; count = 1 }

-- the runs of a tag's entries
abbrev pub live_runs : LiveBuffer → List ℕ → List (List ℕ) → List Span
live_runs b tag [] = []
live_runs b tag (entry ∷ entries) =
    before_runs (live_place b (find (may_take b tag entry) b.chunks))
    (live_runs (live_adds b tag entry) tag entries)

-- the spans of a request: the runs of its entries in chunks
abbrev pub live_spans : LiveBuffer → Request → ℕ → List Span
live_spans b r now = live_runs (live_looks b now) r.tag r.entries

-- ---- flushing, taking, giving back

-- the chunk is open, and a flush at a moment closes it
abbrev pub is_due : FlushKind → ℕ → ℕ → Chunk → Bool
is_due All interval moment c = is_open c.stage
is_due Due interval moment c = is_open c.stage && nat_le (c.since + interval) moment

-- a flush closes the chunk, if it is open
abbrev pub live_closes : LiveBuffer → FlushKind → Chunk → Bool
live_closes b kind c = is_due kind b.setting.limits.interval b.moment c

-- the first of the chunks that a flush at a moment closes, if it closes any
abbrev pub live_first_closing : LiveBuffer → ℕ → FlushKind → Option Chunk
live_first_closing b now kind = find (live_closes (live_looks b now) kind) b.chunks

-- the chunks that a flush closes
abbrev pub live_closing : LiveBuffer → ℕ → FlushKind → List Chunk
live_closing b now kind = filter (live_closes (live_looks b now) kind) b.chunks

-- the chunks that a flush closes are closed
abbrev pub live_flushes : LiveBuffer → ℕ → FlushKind → LiveBuffer
live_flushes b now kind =
    record b {
      chunks = changed (live_closes (live_looks b now) kind) (staged Closed) b.chunks;
      moment = max b.moment now;
    }

-- the chunk is closed, no worker has it, and no loss holds it back
abbrev pub live_is_free : LiveBuffer → Chunk → Bool
live_is_free b c =
    is_closed c.stage
    && live_is_over b.setting.limits.retry_wait b.setting.limits.retry_max c.losses b.moment

-- the first free chunk, which has the least number
abbrev pub live_given : LiveBuffer → Option Chunk
live_given b = find (live_is_free b) b.chunks

-- the buffer as it is asked for what is wanted
abbrev pub live_asked_for : LiveBuffer → Wanted → LiveBuffer
live_asked_for b wanted = record b { moment = moment_for wanted b.moment }

-- the chunk of the least number that is free for what is wanted
abbrev pub live_given_for : LiveBuffer → Wanted → Option Chunk
live_given_for b wanted = live_given (live_asked_for b wanted)

-- a worker has the chunk, if there is one
abbrev pub live_carries_more : ℕ → Option Chunk → LiveBuffer → LiveBuffer
live_carries_more worker None b = b
live_carries_more worker (Some c) b =
    record b { chunks = changed (is_at c.number) (staged (Taken worker)) b.chunks }

-- a worker takes the chunk of the least number that is free for what it wants, if there is one
abbrev pub live_takes : LiveBuffer → ℕ → Wanted → ℕ → LiveBuffer
live_takes b worker wanted now =
    live_carries_more worker (live_given_for (live_looks b now) wanted) (live_looks b now)

-- what a worker has of a chunk
abbrev pub live_carried_chunk : LiveBuffer → Chunk → CarriedChunk
live_carried_chunk b c = record {
  number = c.number;
  tag = c.tag;
  entries = c.entries;
  name = chunk_name b.setting.run b.setting.output c.number;
}

-- how often it was lost, where 65 stands for every greater count
abbrev pub times_lost : Option Losses → ℕ
times_lost None = 0
times_lost (Some l) = l.count

-- what is told of a chunk that a worker may have
abbrev pub live_free_chunk : Chunk → FreeChunk
live_free_chunk c = record { number = c.number; losses = times_lost c.losses }

-- what a worker has under a number, if one has it
abbrev pub live_carried : LiveBuffer → ℕ → Option CarriedChunk
live_carried b number =
    option_map (live_carried_chunk b) (find (λ c. is_at number c && is_taken c.stage) b.chunks)

-- the chunk is one of this buffer, and a worker has it
abbrev pub IsCarried : LiveBuffer → CarriedChunk → Type 0
IsCarried b load = live_carried b load.number ≡ Some load

-- the chunk of a number leaves, and its entries are settled
abbrev pub live_settles : LiveBuffer → ℕ → LiveBuffer
live_settles b number = record b {
  chunks = filter (λ c. not (is_at number c)) b.chunks;
  settled = b.settled + held_in (filter (is_at number) b.chunks);
}

-- the chunk of a number is closed again, with a loss at a moment where one is handed in
abbrev pub live_frees : LiveBuffer → ℕ → Option ℕ → LiveBuffer
live_frees b number None = record b { chunks = changed (is_at number) (staged Closed) b.chunks }
live_frees b number (Some now) =
    let moment = max b.moment now in
    record b {
      chunks = changed (is_at number) (λ c.
          record c { stage = Closed; losses = Some (tally_more c.losses moment) }) b.chunks;
      moment = moment;
    }

-- ---- counts, and the next state

-- entries accepted, settled and held, the bytes held and the chunks
abbrev pub live_counts : LiveBuffer → Counts
live_counts b = record {
  accepted = b.accepted;
  settled = b.settled;
  held = held_in b.chunks;
  bytes = bytes_in b.chunks;
  chunks = length b.chunks;
}

-- what an event leaves
abbrev pub live_next : LiveBuffer → BufferEvent → LiveBuffer
live_next b (Enter origin r now) = unless_refused (live_refusal b r now) (live_enters b r now) b
live_next b (Flush now kind) = live_flushes b now kind
live_next b (Take worker wanted now) = live_takes b worker wanted now
live_next b (Settle number) = if is_some (live_carried b number) then live_settles b number else b
live_next b (Free number loss) =
    if is_some (live_carried b number) then live_frees b number loss else b
