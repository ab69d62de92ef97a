use Rattle.std.proofs.Common.{◌≡◌, ◌+◌, ◌≤◌, length, sym, ap, ◌∙◌, arith}
use Rattle.std.specs.Prelude.{nat_lt}
use Rattle.fwd_chunks.specs.Cells.{size_of}
use Rattle.fwd_chunks.specs.Live.{live_is_full}
use Rattle.fwd_chunks.proofs.Packing.{size_joined}
use Rattle.fwd_chunks.proofs.Admission.{full-by}
use Rattle.fwd_chunks.specs.contracts.buffer.Buffer.{the_view}
use Rattle.fwd_chunks.proofs.buffer.Buffer.is_full.Goals as goal

pub returns : goal.returns
returns c =
    let r = c.args.batch.now in
    let v = the_view c.self.inside in
    let size : length c.entries.result.now ≡ size_of r.entries = ap length c.entries.ensures.value ∙ sym (size_joined r.entries) in
    let within : c.self.inside.bytes ≤ c.self.inside.limits.total = omega (arith, c.self.invariant.stored.bytes, c.self.invariant.stored.sound.total) in
    full-by c.self.inside.limits.total c.self.inside.bytes (length c.entries.result.now) within
    ∙ (λ i. nat_lt c.self.inside.limits.total (c.self.invariant.stored.bytes i + size i))
    ∙ ap (λ b. live_is_full b r) c.self.view_is
