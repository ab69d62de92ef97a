use Rattle.std.proofs.Common.{refl, ap, ◌∙◌}
use Rattle.fwd_chunks.specs.Live.{live_takes}
use Rattle.fwd_output.proofs.Paging.{both-as}
use Rattle.fwd_output.proofs.paged_output.PagedOutput.take_wanted.Goals as goal

pub invariant_of-self-2 : goal.invariant_of-self-2
invariant_of-self-2 g c =
    let o = c.self.inside in
    let same = c.in_ok-taken.ensures.ok ∙ ap (λ w. record o.state { buffer = live_takes o.state.buffer w c.args.wanted c.args.now }) c.worker.ensures in
    both-as o.page c.take.new.self o.trial o.servers o.state c.take_wanted.new.self _ c.self.invariant same refl (c.take.ensures o.state c.requires.worker c.self.invariant.0.is c.requires.has).0
