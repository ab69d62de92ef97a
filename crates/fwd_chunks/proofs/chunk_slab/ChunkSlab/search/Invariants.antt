use Rattle.std.proofs.Common.{◌≡◌, ℕ, ◌-◌, ◌<◌, ◌≤◌, length, Some}
use Rattle.std.specs.Prelude.{slice_get}
use Rattle.fwd_chunks.specs.Slots.{Slot}
use Rattle.fwd_chunks.proofs.chunk_slab.ChunkSlab.search.Given as goal

abbrev pub invariant-loop-low : goal.invariant-loop-low
invariant-loop-low l = record {
  within : l.high ≤ length l.self.slots;
  below : (k : ℕ) (c : Slot) → k < l.low → slice_get l.self.slots k ≡ Some c → c.number < l.number;
  above : (k : ℕ) (c : Slot) → l.high ≤ k → slice_get l.self.slots k ≡ Some c → l.number < c.number;
}

abbrev pub decreases-loop-low : goal.decreases-loop-low
decreases-loop-low l = l.high - l.low
