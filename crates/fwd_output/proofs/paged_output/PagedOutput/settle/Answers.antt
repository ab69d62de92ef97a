use Rattle.std.proofs.Common.{◌≡◌, refl, sym, ap, subst, ◌∙◌}
use Rattle.std.specs.Arc.{arc_value}
use Rattle.fwd_chunks.specs.Live.{IsCarried}
use Rattle.fwd_session.specs.ServerAcks.{ServerAck}
use Rattle.fwd_model.specs.Outputs.{LiveOutput, live_count_at, output_settles}
use Rattle.fwd_output.proofs.Paging.{acked-first, acked-held, both-as}
use Rattle.fwd_output.proofs.paged_output.PagedOutput.settle.Goals as goal

pub invariant_of-self : goal.invariant_of-self
invariant_of-self g c =
    let o = c.self.inside in
    let a = c.requires.acked in
    let own = c.self.invariant.0 in
    let here = acked-held c.args.worker.now _ (arc_value c.args.acked) c.args.carried o.state.buffer a (c.settle.ensures.held o.state a.worker own.is a.has) in
    both-as o.page c.settle.new.self o.trial o.servers o.state c.settle-2.new.self _ c.self.invariant
    (c.settle-2.ensures.here here ∙ ap (output_settles o.state) a.evidence) refl
    (c.settle.ensures.next o.state a.worker a.session a.acked own.is a.has a.stands a.first).0

pub returns-clause-held : goal.returns-clause-held
returns-clause-held g c =
    let o = c.self.inside in
    let a = c.requires.acked in
    let here = acked-held c.args.worker.now _ (arc_value c.args.acked) c.args.carried o.state.buffer a (c.settle.ensures.held o.state a.worker c.self.invariant.0.is a.has) in
    subst (λ (x : LiveOutput). IsCarried x.buffer c.args.carried) c.self.view_is here

pub returns-clause-settled : goal.returns-clause-settled
returns-clause-settled g c =
    let o = c.self.inside in
    let a = c.requires.acked in
    let here = acked-held c.args.worker.now _ (arc_value c.args.acked) c.args.carried o.state.buffer a (c.settle.ensures.held o.state a.worker c.self.invariant.0.is a.has) in
    c.settle-2.ensures.here here ∙ ap (λ (x : LiveOutput). output_settles x (arc_value c.args.acked)) c.self.view_is

pub returns-clause-count : goal.returns-clause-count
returns-clause-count g c =
    let o = c.self.inside in
    let a = c.requires.acked in
    let here = acked-held c.args.worker.now _ (arc_value c.args.acked) c.args.carried o.state.buffer a (c.settle.ensures.held o.state a.worker c.self.invariant.0.is a.has) in
    c.settle-2.ensures.count here ∙ ap (λ (x : LiveOutput). live_count_at c.args.carried.number x) c.self.view_is

pub returns-clause-settles : goal.returns-clause-settles
returns-clause-settles g c x s has stands =
    let a = c.requires.acked in
    (c.settle.ensures.next c.self.inside.state x s a.acked c.self.invariant.0.is has stands (acked-first c.args.worker.now _ (arc_value c.args.acked) c.args.carried a x s has stands)).1
