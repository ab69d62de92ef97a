use Rattle.std.proofs.Common.{max, refl}
use Rattle.fwd_chunks.specs.declared.chunk_state.ChunkState.TheVariants.{Closed}
use Rattle.fwd_chunks.specs.Live.{staged, is_due}
use Rattle.fwd_chunks.proofs.Opened.{newest-changed}
use Rattle.fwd_chunks.proofs.Counted.{counted-changed}
use Rattle.fwd_chunks.proofs.Calls.{flushes-stored}
use Rattle.fwd_chunks.proofs.buffer.Buffer.flush.Goals as goal
use Rattle.fwd_chunks.specs.contracts.buffer.Buffer.{the_view}

pub invariant_of-self : goal.invariant_of-self
invariant_of-self c = rw (c.flush.ensures.closed, c.max-self-inside.ensures) (record {
  stored = flushes-stored (the_view c.self.inside) c.args.now c.args.kind c.self.inside.bytes c.self.invariant.stored;
  newest = newest-changed c.self.inside.tags (is_due c.args.kind c.self.inside.limits.interval (max c.self.inside.moment c.args.now)) (staged Closed) c.self.inside.index.chunks (λ d. refl) c.self.invariant.newest;
  counted = counted-changed c.self.inside.tags (is_due c.args.kind c.self.inside.limits.interval (max c.self.inside.moment c.args.now)) (staged Closed) c.self.inside.index.chunks (λ d. refl) (λ d. refl) c.self.invariant.counted;
  waits = c.self.invariant.waits;
})
