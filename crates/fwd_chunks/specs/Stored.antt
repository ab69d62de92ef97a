-- What holds of the code's buffer.
use Rattle.std.specs.Prelude.{◌≡◌, ◌≤◌, ℕ, List, Bool, true, false, Some, length}
use Rattle.std.specs.List.{AllByRecursion}
use Rattle.fwd_modes.specs.declared.limits.TheConstants.{TAG_LIMIT}
use Rattle.fwd_chunks.specs.declared.chunk.Chunk.{Chunk}
use Rattle.fwd_chunks.specs.declared.tag_entry.TagEntry.{TagEntry}
use Rattle.fwd_base.specs.declared.retry.Retry.{Retry}
use Rattle.fwd_chunks.specs.declared.chunk_state.ChunkState.TheVariants.{Closed}
use Rattle.fwd_chunks.specs.Live.{LiveBuffer, bytes_in}
use Rattle.fwd_base.specs.Tallies.{tally_more}
use Rattle.fwd_chunks.specs.Soundness.{IsSound}
use Rattle.fwd_chunks.specs.Newest.{AreCounted, AreNewest}

-- the tag fits a frame
abbrev pub TagFits : Chunk → Type 0
TagFits c = length c.tag ≤ TAG_LIMIT

-- the buffer is sound, its tags fit, and so many bytes are held
pub record IsStored (b : LiveBuffer) (size : ℕ) : Type 0 where
  pub sound : IsSound b
  pub tags : AllByRecursion TagFits b.chunks
  pub bytes : size ≡ bytes_in b.chunks

-- how long its lost chunks wait
abbrev pub retry_of : LiveBuffer → Retry
retry_of b = record { wait = b.setting.limits.retry_wait; max = b.setting.limits.retry_max }

-- so it is, each open chunk has its tag's number, what is held of each tag is kept and nothing of
-- others, and lost chunks wait as the limits say
pub record IsKept (b : LiveBuffer) (size : ℕ) (entries : List (List ℕ × TagEntry))
    (retry : Retry) : Type 0 where
  pub stored : IsStored b size
  pub newest : AreNewest entries b.chunks
  pub counted : AreCounted entries b.chunks
  pub waits : retry ≡ retry_of b

-- the chunk is closed again, with a loss where it was lost
abbrev pub put_back : Bool → ℕ → Chunk → Chunk
put_back true moment c = record c { stage = Closed; losses = Some (tally_more c.losses moment) }
put_back false moment c = record c { stage = Closed }
