use Rattle.std.proofs.lemmas.Result.{on_ok_weaker}
use Rattle.std.proofs.lemmas.Option.{slice_get_read}
use Rattle.std.proofs.Common.{◌≡◌, length, ◌∙◌, Some}
use Rattle.std.specs.Prelude.{slice_get}
use Rattle.fwd_model.specs.Step as steps
use Rattle.fwd_model.specs.Live.{lives}
use Rattle.fwd_core.proofs.RelayLemmas.{lane_done}
use Rattle.fwd_core.proofs.state.State.take.Goals as goal

pub returns-clause-next : goal.returns-clause-next
returns-clause-next c =
    let lanes = c.self.inside.lanes in
    let l = c.index_mut.result.now in
    let size : c.len.result ≡ length lanes.items = c.len.ensures ∙ lanes.ok.0 in
    let here : slice_get lanes.items c.from-place.result ≡ Some l = slice_get_read lanes.items c.len.result c.from-place.result l size c.if-place-len.false c.index_mut.ensures.value in
    on_ok_weaker c.take.result (λ d. lane_done _ c.args.self.now c.self.view_is c.args.output c.from-place.result c.from-place.ensures l c.take.new.self here (λ r m. steps.take lives m c.args.worker c.args.wanted c.args.now) d) c.take.ensures.next
