use Rattle.std.proofs.Common.{refl}
use Rattle.fwd_chunks.specs.declared.chunk_state.ChunkState.TheVariants.{Taken}
use Rattle.fwd_chunks.specs.Live.{staged, is_at}
use Rattle.fwd_chunks.proofs.Opened.{newest-changed}
use Rattle.fwd_chunks.proofs.Counted.{counted-changed}
use Rattle.fwd_chunks.proofs.Calls.{changed-stored}
use Rattle.fwd_chunks.proofs.buffer.Buffer.give.Goals as goal
use Rattle.fwd_chunks.specs.contracts.buffer.Buffer.{the_view}

pub invariant_of-self : goal.invariant_of-self
invariant_of-self c = rw c.stage.ensures (record {
  stored = changed-stored (the_view c.self.inside) (is_at c.args.number) (staged (Taken c.args.worker)) c.args.moment c.self.inside.bytes (λ d. refl) (λ d. refl) (λ d. refl) (λ d. refl) c.self.invariant.stored;
  newest = newest-changed c.self.inside.tags (is_at c.args.number) (staged (Taken c.args.worker)) c.self.inside.index.chunks (λ d. refl) c.self.invariant.newest;
  counted = counted-changed c.self.inside.tags (is_at c.args.number) (staged (Taken c.args.worker)) c.self.inside.index.chunks (λ d. refl) (λ d. refl) c.self.invariant.counted;
  waits = c.self.invariant.waits;
})
