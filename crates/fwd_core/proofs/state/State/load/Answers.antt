use Rattle.std.proofs.lemmas.Result.{on_ok_weaker, IfOk-weaker}
use Rattle.std.proofs.lemmas.Option.{slice_get_read}
use Rattle.std.proofs.Common.{◌≡◌, length, ap, ◌∙◌, Some}
use Rattle.std.specs.Prelude.{slice_get}
use Rattle.fwd_model.specs.Step as steps
use Rattle.fwd_model.specs.Live.{lives}
use Rattle.fwd_core.specs.Runs.{is_free}
use Rattle.fwd_core.proofs.RelayLemmas.{lane_done, lane_told}
use Rattle.fwd_core.proofs.state.State.load.Goals as goal

pub returns-clause-answer : goal.returns-clause-answer
returns-clause-answer c =
    let lanes = c.self.inside.lanes in
    let l = c.index_mut.result.now in
    let size : c.len.result ≡ length lanes.items = c.len.ensures ∙ lanes.ok.0 in
    let here : slice_get lanes.items c.from-place.result ≡ Some l = slice_get_read lanes.items c.len.result c.from-place.result l size c.if-place-len.false c.index_mut.ensures.value in
    IfOk-weaker c.load.result _ _ (λ a e. e ∙ lane_told _ c.args.self.now c.self.view_is c.args.output c.from-place.result c.from-place.ensures l here (λ r m. steps.at_worker lives m c.args.worker (steps.load lives c.args.now))) c.load.ensures.answer

pub returns-clause-sure : goal.returns-clause-sure
returns-clause-sure c = λ free.
    let lanes = c.self.inside.lanes in
    let l = c.index_mut.result.now in
    let size : c.len.result ≡ length lanes.items = c.len.ensures ∙ lanes.ok.0 in
    let here : slice_get lanes.items c.from-place.result ≡ Some l = slice_get_read lanes.items c.len.result c.from-place.result l size c.if-place-len.false c.index_mut.ensures.value in
    c.load.ensures.sure (ap is_free (lane_told _ c.args.self.now c.self.view_is c.args.output c.from-place.result c.from-place.ensures l here (λ r m. steps.at_worker lives m c.args.worker (steps.load lives c.args.now))) ∙ free)

pub returns-clause-next : goal.returns-clause-next
returns-clause-next c =
    let lanes = c.self.inside.lanes in
    let l = c.index_mut.result.now in
    let size : c.len.result ≡ length lanes.items = c.len.ensures ∙ lanes.ok.0 in
    let here : slice_get lanes.items c.from-place.result ≡ Some l = slice_get_read lanes.items c.len.result c.from-place.result l size c.if-place-len.false c.index_mut.ensures.value in
    on_ok_weaker c.load.result (λ d. lane_done _ c.args.self.now c.self.view_is c.args.output c.from-place.result c.from-place.ensures l c.load.new.self here (λ r m. steps.at_worker lives m c.args.worker (steps.load lives c.args.now)) d) c.load.ensures.next
