use Rattle.std.proofs.Common.{◌+◌, ◌^◌, sym, ◌∙◌}
use Rattle.std.specs.Prelude.{nat_lt, nat_le, ◌||◌}
use Rattle.fwd_chunks.specs.Live.{live_next_number}
use Rattle.fwd_chunks.proofs.Admission.{spent-plan}
use Rattle.fwd_chunks.proofs.buffer.Buffer.is_spent.Goals as goal

pub returns : goal.returns
returns c = λ now.
    let b = c.args.self.now in
    let r = c.args.batch.now in
    c.exceeds.ensures
    ∙ (λ i. nat_lt (2 ^ 64) (live_next_number b + c.args.plan.needed) || nat_le (2 ^ 64) (b.accepted + c.len.ensures.value i))
    ∙ sym (spent-plan b r now c.args.plan c.is_sound.ensures c.requires)
