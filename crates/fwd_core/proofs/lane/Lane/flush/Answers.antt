use Rattle.std.proofs.Common.{sym, ap, subst}
use Rattle.fwd_core.specs.Lanes.{AreHeld}
use Rattle.fwd_core.proofs.HeldLemmas.{held-flushes}
use Rattle.fwd_core.proofs.lane.Lane.flush.Goals as goal

pub invariant_of-self : goal.invariant_of-self
invariant_of-self c =
    let b = c.self.inside.output.buffer in
    let ws = c.self.inside.workers.items in
    subst (λ o. AreHeld o ws) (sym (ap (λ o. o.buffer) c.flush.ensures.flushed)) (held-flushes b c.args.now c.args.kind ws c.self.invariant)
