use Rattle.std.proofs.Common.{arith, sym, ap, ◌∙◌}
use Rattle.fwd_model.specs.Outputs.{LiveOutput}
use Rattle.fwd_output.proofs.Counting.{enters-accepted, enters-settled}
use Rattle.fwd_output.proofs.locked.Locked.admit.Goals as goal

pub add-requires : goal.add-requires
add-requires g c =
    let b = c.self.inside.state.buffer in
    let more = ap (λ (o : LiveOutput). o.buffer.accepted) c.in-Ok.ensures.ok ∙ enters-accepted b c.args.request.batch c.args.now in
    omega (arith, more, c.self.invariant.0, c.len.ensures.value, c.is_sound.ensures.chunks.accepted)

pub invariant_of-self-2 : goal.invariant_of-self-2
invariant_of-self-2 g c =
    let b = c.self.inside.state.buffer in
    let more = ap (λ (o : LiveOutput). o.buffer.accepted) c.in-Ok.ensures.ok ∙ enters-accepted b c.args.request.batch c.args.now in
    let same = ap (λ (o : LiveOutput). o.buffer.settled) c.in-Ok.ensures.ok ∙ enters-settled b c.args.request.batch c.args.now in (
      omega (arith, more, c.self.invariant.0, c.len.ensures.value, c.add.ensures.total),
      c.self.invariant.1 ∙ sym same,
    )
