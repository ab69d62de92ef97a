use Rattle.std.proofs.Common.{refl}
use Rattle.fwd_output.proofs.Paging.{both-as}
use Rattle.fwd_output.proofs.paged_output.PagedOutput.choose.Goals as goal

pub invariant_of-self : goal.invariant_of-self
invariant_of-self g c =
    let o = c.self.inside in
    let own = c.self.invariant.0 in
    both-as o.page c.look.new.self o.trial o.servers o.state c.choose-server.new.self _ c.self.invariant c.choose-server.ensures.looked refl (c.look.ensures o.state own.config own.is own.set own.some)
