use Rattle.std.proofs.Common.{◌<◌, ◌^◌, subst}
use Rattle.fwd_chunks.specs.Slots.{Held, ChunksRise}
use Rattle.fwd_chunks.proofs.Slotting.{timed-present}
use Rattle.std.specs.List.{AllByRecursion}
use Rattle.fwd_chunks.proofs.Closing.{chunks-rise}
use Rattle.fwd_chunks.proofs.chunk_index.ChunkIndex.is_ordered.Goals as goal

pub returns-clause-rise : goal.returns-clause-rise
returns-clause-rise c = subst (λ (h : Held). ChunksRise h.chunks) c.self.view_is (chunks-rise c.self.inside.slab.slots c.self.invariant.rising c.self.invariant.own)

pub returns-clause-timed : goal.returns-clause-timed
returns-clause-timed c = subst (λ (h : Held). AllByRecursion (λ d. d.since < 2 ^ 64) h.chunks) c.self.view_is (timed-present c.self.inside.slab.slots c.self.invariant.timed)
