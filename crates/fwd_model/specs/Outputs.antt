-- An output is made of parts: its buffer, which has the entries, its book, which has the requests
-- that they came with, and its servers, with what was lost at each. Each part has its own history
-- and its own live part, and none looks into another: what ties them is that they are told of the
-- same events.
use Rattle.std.specs.Prelude.{ℕ, ◌==◌, Bool, true, false, not, nat_le, List, [], ◌∷◌, ◌++◌, length, map, max, filter, find, Option, Some, None, option_to_list, if◌then◌else◌}
use Rattle.std.specs.List.{list_any}
use Rattle.fwd_modes.specs.Requests.{Request}
use Rattle.fwd_modes.specs.declared.origin.Origin.{Origin}
use Rattle.fwd_chunks.specs.Cells.{Carry, contents}
use Rattle.fwd_chunks.specs.History as buffer
use Rattle.fwd_chunks.specs.History.{BufferSetting, BufferHistory, CarriedChunk, carried_chunk_of, spans_of}
use Rattle.fwd_chunks.specs.Live.{
  LiveBuffer,
  live_buffer,
  live_opening,
  live_looks,
  live_enters,
  live_settles,
  live_frees,
  live_spans,
  held_in,
  is_at,
}
use Rattle.fwd_failover.specs.History as servers
use Rattle.fwd_failover.specs.History.{ServersSetting, ServersHistory}
use Rattle.fwd_failover.specs.Choices.{choice}
use Rattle.fwd_failover.specs.Live.{
  LiveServers,
  live_servers,
  live_choice,
  live_looked,
  live_lost,
  live_settled,
}
use Rattle.fwd_session.specs.ServerAcks.{ServerAck}
use Rattle.fwd_book.specs.History as book
use Rattle.fwd_book.specs.History.{BookSetting, BookHistory, entered_as}
use Rattle.fwd_book.specs.Live as kept
use Rattle.fwd_book.specs.Live.{LiveBook, live_book}

-- ---- the chunks of a worker

-- what the worker has, in the order in which it took it
abbrev pub carries_of : ℕ → List Carry → List Carry
carries_of worker carried = filter (λ c. c.worker == worker) carried

-- the chunks that the worker has, with their entries
abbrev pub carried_by : BufferHistory → ℕ → List CarriedChunk
carried_by b worker = map (λ c. carried_chunk_of b c.number) (carries_of worker b.carried)

-- one of the chunks has the number
abbrev pub has_chunk : ℕ → List CarriedChunk → Bool
has_chunk number chunks = list_any (λ c. c.number == number) chunks

-- the chunk that a worker took and did not load yet: of those that it has, the one that its session
-- does not have
abbrev pub not_loaded : (loaded : List CarriedChunk) → List CarriedChunk → Option CarriedChunk
not_loaded loaded chunks = find (λ c. not (has_chunk c.number loaded)) chunks

-- ---- what a worker gives back

-- a chunk that is given back: its number, and whether that counts as a loss
pub record Return : Type 0 where
  pub number : ℕ
  pub lost : Bool

-- a chunk is given back
abbrev pub return_of : (lost : Bool) → CarriedChunk → Return
return_of lost c = record { number = c.number; lost = lost }

-- a worker gives back the chunk that it took and did not load, without a loss, and those that were
-- loaded and not acknowledged, with a loss each
abbrev pub returned : Option CarriedChunk → (unacknowledged : List CarriedChunk) → List Return
returned taken unacknowledged =
    map (return_of false) (option_to_list taken) ++ map (return_of true) unacknowledged

-- a number among rising ones
abbrev pub in_order : ℕ → List ℕ → List ℕ
in_order n [] = n ∷ []
in_order n (k ∷ numbers) = if nat_le n k then n ∷ k ∷ numbers else k ∷ in_order n numbers

-- numbers, the least first
abbrev pub rising : List ℕ → List ℕ
rising [] = []
rising (n ∷ numbers) = in_order n (rising numbers)

-- the numbers of what is given back, the least first
abbrev pub numbers_back : List Return → List ℕ
numbers_back back = rising (map (λ r. r.number) back)

-- the moment of a loss, if it is one
abbrev pub moment_if : Bool → ℕ → Option ℕ
moment_if lost now = if lost then Some now else None

-- ---- the history

-- the run and the output that a book's chunks name, as its buffer's do
abbrev pub book_setting : BufferSetting → BookSetting
book_setting setting = record { run = setting.run; output = setting.output }

-- all that ever came to an output
pub record OutputHistory : Type 0 where
  pub setting : ServersSetting
  pub buffer : BufferHistory
  pub book : BookHistory
  pub servers : ServersHistory

-- before any event
abbrev pub no_history : BufferSetting → ServersSetting → OutputHistory
no_history setting servers_setting = record {
  setting = servers_setting;
  buffer = buffer.opening setting;
  book = book.opening (book_setting setting);
  servers = servers.opening;
}

-- a request is entered, with its entries
abbrev pub output_history_enters : OutputHistory → Origin → Request → ℕ → OutputHistory
output_history_enters o origin q now = record o {
  buffer = buffer.enters o.buffer origin q now;
  book = book.enters o.book (entered_as q origin (spans_of o.buffer origin q now));
}

-- how many entries a number has
abbrev pub count_at : ℕ → OutputHistory → ℕ
count_at number o = length (contents number o.buffer.cells)

-- a server acknowledged a chunk
abbrev pub output_history_settles : OutputHistory → ServerAck → OutputHistory
output_history_settles o e = record o {
  buffer = buffer.settles o.buffer e.number;
  book = book.settles o.book e;
  servers = servers.settled o.setting o.servers e.server;
}

-- the server that a worker tries at a moment: one that is usable at the greatest moment of all
-- that were handed in
abbrev pub output_history_choice : OutputHistory → (worker now : ℕ) → Option ℕ
output_history_choice o worker now =
    choice o.setting o.servers.happened worker (max o.servers.moment (max o.buffer.moment now))

-- a moment is handed in
abbrev pub output_history_looks : OutputHistory → ℕ → OutputHistory
output_history_looks o now = record o {
  buffer = buffer.looks o.buffer now;
  servers = servers.looked o.servers (max o.buffer.moment now);
}

-- chunks are given back to a buffer, one after the other
abbrev pub gets_back : BufferHistory → List Return → ℕ → BufferHistory
gets_back b [] now = b
gets_back b (r ∷ back) now =
    gets_back (buffer.frees b r.number (moment_if r.lost now)) back now

-- a server is lost at a moment, if one is
abbrev pub loses : ServersSetting → ServersHistory → Option ℕ → ℕ → ServersHistory
loses setting s None moment = s
loses setting s (Some server) moment = servers.lost setting s server moment

-- a worker's end at a moment: its chunks are given back, and its server may be lost
abbrev pub output_history_ends : OutputHistory → List Return → (server : Option ℕ) → (now : ℕ)
    → OutputHistory
output_history_ends o back server now = record o {
  buffer = gets_back (buffer.looks o.buffer now) back now;
  servers = loses o.setting o.servers server (max o.buffer.moment now);
}

-- ---- what still matters

-- the chunks that are not settled, the requests that are owed an answer with what was acknowledged
-- of their entries, and what was lost at the servers
pub record LiveOutput : Type 0 where
  pub buffer : LiveBuffer
  pub book : LiveBook
  pub servers : LiveServers

-- the live part of a history
unfoldable pub live_output : OutputHistory → LiveOutput
live_output o = record {
  buffer = live_buffer o.buffer;
  book = live_book o.book;
  servers = live_servers o.setting o.servers;
}

-- before any event
abbrev pub no_requests : BufferSetting → ServersSetting → LiveOutput
no_requests setting servers_setting = record {
  buffer = live_opening setting;
  book = kept.live_opening (book_setting setting);
  servers = live_servers servers_setting servers.opening;
}

-- a request is entered, with its entries
abbrev pub output_enters : LiveOutput → Origin → Request → ℕ → LiveOutput
output_enters o origin q now = record o {
  buffer = live_enters o.buffer q now;
  book = kept.live_enters o.book (entered_as q origin (live_spans o.buffer q now));
}

-- how many entries a number has
abbrev pub live_count_at : ℕ → LiveOutput → ℕ
live_count_at number o = held_in (filter (is_at number) o.buffer.chunks)

-- a server acknowledged a chunk
abbrev pub output_settles : LiveOutput → ServerAck → LiveOutput
output_settles o e = record {
  buffer = live_settles o.buffer e.number;
  book = kept.live_settles o.book e;
  servers = live_settled o.servers e.server;
}

-- the server that a worker tries at a moment
abbrev pub output_choice : LiveOutput → (worker now : ℕ) → Option ℕ
output_choice o worker now =
    live_choice o.servers worker (max o.servers.moment (max o.buffer.moment now))

-- a moment is handed in
abbrev pub output_looks : LiveOutput → ℕ → LiveOutput
output_looks o now = record o {
  buffer = live_looks o.buffer now;
  servers = live_looked o.servers (max o.buffer.moment now);
}

-- chunks are given back to a buffer, one after the other
abbrev pub live_gets_back : LiveBuffer → List Return → ℕ → LiveBuffer
live_gets_back b [] now = b
live_gets_back b (r ∷ back) now =
    live_gets_back (live_frees b r.number (moment_if r.lost now)) back now

-- a server is lost at a moment, if one is
abbrev pub live_loses : LiveServers → Option ℕ → ℕ → LiveServers
live_loses s None moment = s
live_loses s (Some server) moment = live_lost s server moment

-- a worker's end at a moment
abbrev pub output_ends : LiveOutput → List Return → (server : Option ℕ) → (now : ℕ)
    → LiveOutput
output_ends o back server now = record o {
  buffer = live_gets_back (live_looks o.buffer now) back now;
  servers = live_loses o.servers server (max o.buffer.moment now);
}
