-- Which chunk a worker is to be given, in words of their own: the step searches for one.
use Rattle.std.specs.Prelude.{
  ◌≡◌,
  ◌≢◌,
  ◌≤◌,
  ℕ,
  ◌+◌,
  Option,
  Some,
  None,
  slice_get,
}
use Rattle.fwd_base.specs.Waits.{wait_after}
use Rattle.fwd_base.specs.declared.losses.Losses.{Losses}
use Rattle.fwd_chunks.specs.declared.chunk.Chunk.{Chunk}
use Rattle.fwd_chunks.specs.declared.chunk_state.ChunkState.TheVariants.{Open, Taken}
use Rattle.fwd_chunks.specs.declared.wanted.Wanted.{Wanted}
use Rattle.fwd_chunks.specs.declared.wanted.Wanted.TheVariants.{Any, Fresh}
use Rattle.fwd_chunks.specs.Live.{LiveBuffer}

-- a chunk of the buffer is free: it takes no more entries, no worker has it, and where it was lost
-- the newest loss with the wait behind it is not after the buffer's moment
pub record IsFree (b : LiveBuffer) (c : Chunk) : Type 0 where
  pub place : ℕ
  pub stands : slice_get b.chunks place ≡ Some c
  pub shut : c.stage ≢ Open
  pub idle : (worker : ℕ) → c.stage ≢ Taken worker
  pub rested : (l : Losses) → c.losses ≡ Some l
      → l.last + wait_after b.setting.limits.retry_wait b.setting.limits.retry_max l.count
      ≤ b.moment

-- a chunk is free, and no free one has a lower number; where there is none, no chunk is free
abbrev pub IsLeastFree : LiveBuffer → Option Chunk → Type 0
IsLeastFree b None = (c : Chunk) → IsFree b c → ⊥
IsLeastFree b (Some c) = IsFree b c × ((d : Chunk) → IsFree b d → c.number ≤ d.number)

-- no loss ever held the chunk back: it was not lost, or only at the very first moment, with no wait
abbrev pub WasNeverHeld : LiveBuffer → Chunk → Type 0
WasNeverHeld b c =
    (l : Losses) → c.losses ≡ Some l
    → (l.last ≡ 0)
    × (wait_after b.setting.limits.retry_wait b.setting.limits.retry_max l.count ≡ 0)

-- a chunk of the buffer is free, and is one that is wanted
abbrev pub IsWanted : LiveBuffer → Wanted → Chunk → Type 0
IsWanted b Any c = IsFree b c
IsWanted b Fresh c = IsFree b c × WasNeverHeld b c

-- a chunk is wanted, and no other that is has a lower number; where there is none, none is wanted
abbrev pub IsLeastWanted : LiveBuffer → Wanted → Option Chunk → Type 0
IsLeastWanted b wanted None = (c : Chunk) → IsWanted b wanted c → ⊥
IsLeastWanted b wanted (Some c) =
    IsWanted b wanted c × ((d : Chunk) → IsWanted b wanted d → c.number ≤ d.number)
