-- What happens to one output, by whomever it is asked, and the histories that a run of such events
-- reaches.
use Rattle.std.specs.Prelude.{
  ◌≡◌,
  ◌<◌,
  ◌^◌,
  ℕ,
  true,
  List,
  [],
  ◌∷◌,
  Option,
  None,
}
use Rattle.fwd_modes.specs.Requests.{Request}
use Rattle.fwd_modes.specs.declared.origin.Origin.{Origin}
use Rattle.fwd_chunks.specs.declared.flush.FlushKind.{FlushKind}
use Rattle.fwd_chunks.specs.declared.wanted.Wanted.{Wanted}
use Rattle.fwd_chunks.specs.Cells.{is_carried}
use Rattle.fwd_chunks.specs.History as buffer
use Rattle.fwd_chunks.specs.History.{BufferSetting, BufferHistory, carried_chunk_of}
use Rattle.fwd_failover.specs.History.{ServersSetting}
use Rattle.fwd_session.specs.ServerAcks.{ServerAck, IsServerAck}
use Rattle.fwd_book.specs.History as book
use Rattle.fwd_book.specs.History.{CanBeTold, request_at, untold}
use Rattle.fwd_model.specs.Outputs.{
  OutputHistory,
  Return,
  LiveOutput,
  live_output,
  moment_if,
  no_history,
  output_history_enters,
  output_history_settles,
  output_history_looks,
  output_history_ends,
}

-- a request is entered at a moment; open chunks are closed; a moment is handed in; a worker asks
-- for a chunk that it wants; a server acknowledged a chunk; the chunks of a worker come back, and a
-- server may be lost; a chunk comes back that was not sent; the requests of some origins are told;
-- or nobody is to be told of them any more, or of those of a connection
pub data OutputEvent : Type 0 where
  Enter : (origin : Origin) (r : Request) (now : ℕ) → OutputEvent
  Flush : (now : ℕ) (kind : FlushKind) → OutputEvent
  Look : (now : ℕ) → OutputEvent
  Take : (worker : ℕ) (wanted : Wanted) (now : ℕ) → OutputEvent
  Settle : (e : ServerAck) → OutputEvent
  End : (back : List Return) (server : Option ℕ) (now : ℕ) → OutputEvent
  PutBack : (number : ℕ) → OutputEvent
  Tell : (origins : List Origin) → OutputEvent
  Forget : (origins : List Origin) → OutputEvent
  ForgetAll : (conn : ℕ) → OutputEvent

-- workers have the chunks that come back one after the other
abbrev pub AreTheirs : BufferHistory → List Return → ℕ → Type 0
AreTheirs b [] now = Unit {0}
AreTheirs b (r ∷ back) now =
    (is_carried r.number b.carried ≡ true)
    × AreTheirs (buffer.frees b r.number (moment_if r.lost now)) back now

-- The event may come: the origin's request is not owed an answer already, and there is room for it;
-- a worker has the chunk that was acknowledged, whole, and the reply names it; workers have the
-- chunks that come back; and all entries of whom is told are acknowledged.
abbrev pub MayCome : OutputHistory → OutputEvent → Type 0
MayCome o (Enter origin r now) =
    (request_at (untold o.book) origin ≡ None) × (buffer.refusal o.buffer origin r now ≡ None)
MayCome o (Settle e) =
    (is_carried e.number o.buffer.carried ≡ true)
    × IsServerAck e (carried_chunk_of o.buffer e.number)
MayCome o (End back server now) = AreTheirs (buffer.looks o.buffer now) back now
MayCome o (PutBack number) = is_carried number o.buffer.carried ≡ true
MayCome o (Tell origins) = CanBeTold o.book origins
MayCome o _ = Unit {0}

-- what an event comes to
abbrev pub output_next : OutputHistory → OutputEvent → OutputHistory
output_next o (Enter origin r now) = output_history_enters o origin r now
output_next o (Flush now kind) = record o { buffer = buffer.flushes o.buffer now kind }
output_next o (Look now) = output_history_looks o now
output_next o (Take worker wanted now) =
    record o { buffer = buffer.takes o.buffer worker wanted now }
output_next o (Settle e) = output_history_settles o e
output_next o (End back server now) = output_history_ends o back server now
output_next o (PutBack number) = record o { buffer = buffer.frees o.buffer number None }
output_next o (Tell origins) = record o { book = book.tells o.book origins }
output_next o (Forget origins) = record o { book = book.forgets o.book origins }
output_next o (ForgetAll conn) = record o { book = book.forgets_of o.book conn }

-- events one behind the other lead from a history to another, and each comes where it may
abbrev pub Lead : OutputHistory → List OutputEvent → OutputHistory → Type 0
Lead o [] p = p ≡ o
Lead o (e ∷ es) p = MayCome o e × Lead (output_next o e) es p

-- a run of an output's own events, from an output without entries, reaches the history; 64 bits hold
-- the longest wait of its servers
pub record IsReachedOutput (h : OutputHistory) : Type 0 where
  pub setting : BufferSetting
  pub servers : ServersSetting
  pub events : List OutputEvent
  pub leads : Lead (no_history setting servers) events h
  pub waits : h.setting.retry_max < 2 ^ 64

-- what is shown is the live part of such a history
pub record IsLiveOutput (l : LiveOutput) : Type 0 where
  pub history : OutputHistory
  pub reached : IsReachedOutput history
  pub is : l ≡ live_output history
