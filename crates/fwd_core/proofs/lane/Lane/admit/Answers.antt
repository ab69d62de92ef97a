use Rattle.std.proofs.Common.{◌≡◌, sym, ap, subst}
use Rattle.fwd_model.specs.Outputs.{output_enters}
use Rattle.fwd_core.specs.Lanes.{AreHeld}
use Rattle.fwd_core.proofs.HeldLemmas.{held-enters}
use Rattle.fwd_output.proofs.Basics.{either_way}
use Rattle.fwd_core.proofs.lane.Lane.admit.Goals as goal

pub invariant_of-self : goal.invariant_of-self
invariant_of-self c =
    let b = c.self.inside.output.buffer in
    let ws = c.self.inside.workers.items in
    either_way (c.admit.new.self ≡ output_enters c.self.inside.output c.args.origin c.args.batch.now c.args.now) (c.admit.new.self ≡ c.self.inside.output) (AreHeld c.admit.new.self.buffer ws) c.admit.result c.admit.ensures.ok c.admit.ensures.err
    (λ e. subst (λ o. AreHeld o ws) (sym (ap (λ o. o.buffer) e)) (held-enters b c.args.batch.now c.args.now ws c.is_sound.ensures.chunks c.self.invariant))
    (λ e. subst (λ o. AreHeld o ws) (sym (ap (λ o. o.buffer) e)) c.self.invariant)

pub invariant_of-self-2 : goal.invariant_of-self-2
invariant_of-self-2 c =
    let b = c.self.inside.output.buffer in
    let ws = c.self.inside.workers.items in
    subst (λ o. AreHeld o ws) (sym (ap (λ o. o.buffer) c.in_ok-admit.ensures.ok)) (held-enters b c.args.batch.now c.args.now ws c.is_sound.ensures.chunks c.self.invariant)
