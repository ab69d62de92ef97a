use Rattle.std.proofs.Common.{sym, ◌∙◌}
use Rattle.fwd_output.proofs.locked.Locked.end.Goals as goal

pub invariant_of-self : goal.invariant_of-self
invariant_of-self g c =
    (c.self.invariant.0 ∙ sym c.end.ensures.accepted, c.self.invariant.1 ∙ sym c.end.ensures.settled)
