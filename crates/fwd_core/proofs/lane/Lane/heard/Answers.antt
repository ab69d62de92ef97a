use Rattle.std.proofs.lemmas.Result.{on_ok_weaker, IfOk-weaker}
use Rattle.std.proofs.lemmas.Option.{slice_get_read}
use Rattle.std.proofs.Common.{◌≡◌, length, ap, ◌∙◌, Some}
use Rattle.std.specs.Prelude.{slice_get}
use Rattle.fwd_model.specs.Step as steps
use Rattle.fwd_model.specs.Live.{lives}
use Rattle.fwd_core.specs.Runs.{is_free}
use Rattle.fwd_core.proofs.RelayLemmas.{worker_done, worker_told}
use Rattle.fwd_core.proofs.HeldLemmas.{held-put}
use Rattle.fwd_core.proofs.lane.Lane.heard.Goals as goal

pub invariant_of-self : goal.invariant_of-self
invariant_of-self c =
    let workers = c.self.inside.workers in
    let x = c.index_mut.result.now in
    let size : c.len.result ≡ length workers.items = c.len.ensures ∙ workers.ok.0 in
    let here : slice_get workers.items c.from-place.result ≡ Some x = slice_get_read workers.items c.len.result c.from-place.result x size c.if-place-len.false c.index_mut.ensures.value in
    held-put c.self.inside.output.buffer workers.items c.from-place.result x c.heard.new.self c.self.invariant here c.heard.ensures.chunks

pub returns-clause-answer : goal.returns-clause-answer
returns-clause-answer c =
    let workers = c.self.inside.workers in
    let x = c.index_mut.result.now in
    let size : c.len.result ≡ length workers.items = c.len.ensures ∙ workers.ok.0 in
    let here : slice_get workers.items c.from-place.result ≡ Some x = slice_get_read workers.items c.len.result c.from-place.result x size c.if-place-len.false c.index_mut.ensures.value in
    IfOk-weaker c.heard.result _ _ (λ a e. e ∙ worker_told _ c.args.self.now c.self.view_is c.args.worker c.from-place.result c.from-place.ensures x here (λ y. steps.at_session lives y (steps.heard lives c.args.bytes.now))) c.heard.ensures.answer

pub returns-clause-sure : goal.returns-clause-sure
returns-clause-sure c = λ free.
    let workers = c.self.inside.workers in
    let x = c.index_mut.result.now in
    let size : c.len.result ≡ length workers.items = c.len.ensures ∙ workers.ok.0 in
    let here : slice_get workers.items c.from-place.result ≡ Some x = slice_get_read workers.items c.len.result c.from-place.result x size c.if-place-len.false c.index_mut.ensures.value in
    c.heard.ensures.sure (ap is_free (worker_told _ c.args.self.now c.self.view_is c.args.worker c.from-place.result c.from-place.ensures x here (λ y. steps.at_session lives y (steps.heard lives c.args.bytes.now))) ∙ free)

pub returns-clause-next : goal.returns-clause-next
returns-clause-next c =
    let workers = c.self.inside.workers in
    let x = c.index_mut.result.now in
    let size : c.len.result ≡ length workers.items = c.len.ensures ∙ workers.ok.0 in
    let here : slice_get workers.items c.from-place.result ≡ Some x = slice_get_read workers.items c.len.result c.from-place.result x size c.if-place-len.false c.index_mut.ensures.value in
    on_ok_weaker c.heard.result (λ d. worker_done _ c.args.self.now c.self.view_is c.args.worker c.from-place.result c.from-place.ensures x c.heard.new.self here (λ y. steps.at_session lives y (steps.heard lives c.args.bytes.now)) d) c.heard.ensures.next
