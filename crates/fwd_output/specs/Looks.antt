-- What a worker sees of its output, and how it takes a free chunk by that.
use Rattle.std.specs.Prelude.{
  ◌≡◌,
  ◌==◌,
  ◌&&◌,
  ℕ,
  nat_lt,
  Bool,
  true,
  false,
  not,
  Option,
  Some,
  None,
  is_some,
  option_map,
  IfSome,
  if◌then◌else◌,
}
use Rattle.fwd_chunks.specs.declared.chunk.Chunk.{Chunk}
use Rattle.fwd_chunks.specs.declared.flush.FlushKind.{FlushKind}
use Rattle.fwd_chunks.specs.declared.wanted.Wanted.{Wanted}
use Rattle.fwd_chunks.specs.declared.wanted.Wanted.TheVariants as wanted
use Rattle.fwd_chunks.specs.Live.{
  live_carried_chunk,
  live_first_closing,
  live_flushes,
  live_given_for,
  live_looks,
  live_takes,
  times_lost,
}
use Rattle.fwd_failover.specs.Doubts.{live_is_doubted, live_trusted}
use Rattle.fwd_model.specs.Outputs.{output_choice, output_looks}
use Rattle.fwd_output.specs.Elsewhere.{away_from, has_server, way_over}
use Rattle.fwd_output.specs.Turns.{LockedState, is_claimed_at, locked_with}
use Rattle.fwd_output.specs.declared.offer.Found.{Found}
use Rattle.fwd_output.specs.declared.offer.Found.TheVariants as found
use Rattle.fwd_output.specs.declared.offer.Offer.{Offer}
use Rattle.fwd_output.specs.declared.server_view.ChunkSearch.{ChunkSearch}
use Rattle.fwd_output.specs.declared.server_view.ChunkUse.{ChunkUse}
use Rattle.fwd_output.specs.declared.server_view.ChunkUse.TheVariants as chunk_use
use Rattle.fwd_output.specs.declared.server_view.ServerView.{ServerView}

-- the output is looked at, at a moment
abbrev pub locked_looks : LockedState → (now : ℕ) → LockedState
locked_looks s now = locked_with s (output_looks s.output now)

-- its open chunks are closed that a flush closes
abbrev pub locked_flushes : LockedState → (now : ℕ) → FlushKind → LockedState
locked_flushes s now kind =
    locked_with s (record (s.output) { buffer = live_flushes s.output.buffer now kind })

-- a worker takes the free chunk that it wants, if there is one
abbrev pub locked_takes : LockedState → (worker : ℕ) → Wanted → (now : ℕ) → LockedState
locked_takes s worker wanted now =
    locked_with s (record (s.output) { buffer = live_takes s.output.buffer worker wanted now })

-- what a worker sees of its output at a moment
pub record IsSeen (s : LockedState) (worker now : ℕ) (view : ServerView) : Type 0 where
  pub claimed : view.is_claimed ≡ is_claimed_at s now
  pub server : view.server ≡ output_choice s.output worker now
  pub doubted : IfSome view.server (λ server.
      view.is_doubted ≡ live_is_doubted (output_looks s.output now).servers server)
  pub trusted : view.trusted ≡ live_trusted (output_looks s.output now).servers worker

-- a server is this one
abbrev pub is_server : Option ℕ → (own : ℕ) → Bool
is_server None own = false
is_server (Some server) own = server == own

-- Whether a worker looks for a chunk for a use, by what it sees: what another worker claims is left
-- to it, unless a session was sought for it. A session is begun only where there is a server to
-- try. A chunk is added to others only where their session's own server is the one to try, and
-- known to work. A server is asked once more only where that is another.
abbrev pub may_look : ServerView → ChunkUse → Bool
may_look view chunk_use.Begin = not view.is_claimed && is_some view.server
may_look view (chunk_use.Keep own) = true
may_look view (chunk_use.Follow own) = not view.is_claimed
may_look view (chunk_use.Join own) =
    not view.is_claimed && (is_server view.server own && not view.is_doubted)
may_look view (chunk_use.Ask server) = not view.is_claimed && not (is_server view.server server)

-- Whether it looks first for a chunk that no loss ever held back: where the server that the chunk
-- is to go to is not known to work, or is only asked once more.
abbrev pub wants_fresh : LockedState → ServerView → ChunkUse → Bool
wants_fresh s view chunk_use.Begin = view.is_doubted
wants_fresh s view (chunk_use.Keep own) = live_is_doubted s.output.servers own
wants_fresh s view (chunk_use.Follow own) = is_server view.server own && view.is_doubted
wants_fresh s view (chunk_use.Join own) = false
wants_fresh s view (chunk_use.Ask server) = true

-- which free chunk it looks for first
abbrev pub wanted_first : LockedState → ServerView → ChunkUse → Wanted
wanted_first s view purpose = if wants_fresh s view purpose then wanted.Fresh else wanted.Any

-- the chunk that is free at a moment for what is wanted, if there is one
abbrev pub free_for : LockedState → Wanted → (now : ℕ) → Option Chunk
free_for s wanted now = live_given_for (live_looks s.output.buffer now) wanted

-- Whether it takes the chunk that it is offered. One that goes to another server than its session's
-- stays free, one that was lost joins no others, and one that is only to be seen is not taken.
abbrev pub takes : ServerView → ChunkUse → Offer → Bool
takes view chunk_use.Begin offer = true
takes view (chunk_use.Keep own) offer =
    not (is_some (away_from (has_server offer.lost_at.members own) offer.elsewhere))
takes view (chunk_use.Follow own) offer =
    not (is_some (way_over offer.losses (has_server offer.lost_at.members own) offer.elsewhere
    view.server own))
takes view (chunk_use.Join own) offer = not (nat_lt 0 offer.losses)
takes view (chunk_use.Ask server) offer = false

-- an offer tells of this free chunk: its number, and how often it was lost
abbrev pub IsOf : Offer → Chunk → Type 0
IsOf offer c = (offer.number ≡ c.number) × (offer.losses ≡ times_lost c.losses)

-- an offer tells of this open chunk: its number, and that it was never lost
abbrev pub IsOfOpen : Offer → Chunk → Type 0
IsOfOpen offer c =
    (offer.number ≡ c.number) × (offer.losses ≡ 0) × (offer.elsewhere ≡ None)

-- A worker is offered this free chunk, as the one that it wants. It takes the chunk if that is for
-- its use, and leaves all as it is if not.
abbrev pub HasFoundFree : Wanted → Chunk → Found → LockedState → ServerView → ChunkSearch
    → (now : ℕ) → LockedState → Type 0
HasFoundFree wanted c found.Nothing s view search now t = ⊥
HasFoundFree wanted c (found.Passed offer) s view search now t =
    IsOf offer c × (takes view search.chunk_use offer ≡ false) × (t ≡ s)
HasFoundFree wanted c (found.Took picked) s view search now t =
    IsOf picked.offer c × (takes view search.chunk_use picked.offer ≡ true)
    × (picked.chunk ≡ live_carried_chunk s.output.buffer c)
    × (t ≡ locked_takes s search.worker wanted now)

-- A worker is offered this open chunk, the first that a flush closes. It takes the chunk if that is
-- for its use, and only then is anything closed.
abbrev pub HasFoundOpen : Wanted → Chunk → Found → LockedState → ServerView → ChunkSearch
    → (now : ℕ) → LockedState → Type 0
HasFoundOpen wanted c found.Nothing s view search now t = ⊥
HasFoundOpen wanted c (found.Passed offer) s view search now t =
    IsOfOpen offer c × (takes view search.chunk_use offer ≡ false) × (t ≡ s)
HasFoundOpen wanted c (found.Took picked) s view search now t =
    IsOfOpen picked.offer c × (takes view search.chunk_use picked.offer ≡ true)
    × (picked.chunk ≡ live_carried_chunk s.output.buffer c)
    × (t ≡ locked_takes (locked_flushes s now search.closes) search.worker wanted now)

-- A worker is offered the free chunk that it looks for first; if there is none the first open chunk
-- that may be closed; and if there is none either, any chunk that is free.
abbrev pub HasFoundOf : Wanted → (first closing any : Option Chunk) → Found → LockedState
    → ServerView → ChunkSearch → (now : ℕ) → LockedState → Type 0
HasFoundOf first (Some c) closing any = HasFoundFree first c
HasFoundOf first None (Some c) any = HasFoundOpen first c
HasFoundOf first None None (Some c) = HasFoundFree wanted.Any c
HasFoundOf first None None None = λ what s view search now t. (what ≡ found.Nothing) × (t ≡ s)

-- What a worker that may look finds at a moment, and what that leaves of the output.
abbrev pub HasFound : Found → LockedState → ServerView → ChunkSearch → (now : ℕ)
    → LockedState → Type 0
HasFound found s view search now t =
    HasFoundOf (wanted_first s view search.chunk_use)
    (free_for s (wanted_first s view search.chunk_use) now)
    (live_first_closing s.output.buffer now search.closes) (free_for s wanted.Any now)
    found s view search now t

-- What was found is for the use, for which the worker may look: a chunk that was taken is just the
-- one that was offered, and is for this use; and one that was passed by is not.
abbrev pub IsForUse : Found → ServerView → ChunkUse → Type 0
IsForUse found.Nothing view purpose = Unit {0}
IsForUse (found.Passed offer) view purpose =
    (may_look view purpose ≡ true) × (takes view purpose offer ≡ false)
IsForUse (found.Took picked) view purpose =
    (may_look view purpose ≡ true) × (takes view purpose picked.offer ≡ true)
    × (picked.chunk.number ≡ picked.offer.number)
