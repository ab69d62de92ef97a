use Rattle.std.proofs.Common.{refl}
use Rattle.fwd_output.proofs.Paging.{both-as}
use Rattle.fwd_output.proofs.paged_output.PagedOutput.leave_at.Goals as goal

pub invariant_of-self : goal.invariant_of-self
invariant_of-self g c =
    let o = c.self.inside in
    both-as o.page c.left.new.self o.trial o.servers o.state c.leave_at.new.self _ c.self.invariant c.leave_at.ensures.left refl (c.left.ensures o.state c.self.invariant.0.is)
