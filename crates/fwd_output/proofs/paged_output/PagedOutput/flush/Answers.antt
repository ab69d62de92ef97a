use Rattle.std.proofs.Common.{refl}
use Rattle.fwd_output.proofs.Paging.{both-as}
use Rattle.fwd_output.proofs.paged_output.PagedOutput.flush.Goals as goal

pub invariant_of-self : goal.invariant_of-self
invariant_of-self g c =
    let o = c.self.inside in
    both-as o.page c.flush.new.self o.trial o.servers o.state c.flush-count.new.self _ c.self.invariant c.flush-count.ensures.flushed refl (c.flush.ensures o.state c.self.invariant.0.is)
