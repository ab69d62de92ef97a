use Rattle.std.proofs.lemmas.Option.{slice_get_read}
use Rattle.std.proofs.Common.{◌≡◌, length, ◌∙◌, Some}
use Rattle.std.specs.Prelude.{slice_get}
use Rattle.fwd_model.specs.Step as steps
use Rattle.fwd_model.specs.Live.{lives}
use Rattle.fwd_core.proofs.RelayLemmas.{worker_done, worker_told}
use Rattle.fwd_core.proofs.HeldLemmas.{held-put}
use Rattle.fwd_core.proofs.lane.Lane.late.Goals as goal

pub invariant_of-self : goal.invariant_of-self
invariant_of-self c =
    let size : c.len.result ≡ length c.self.inside.workers.items = c.len.ensures ∙ c.self.inside.workers.ok.0 in
    let here : slice_get c.self.inside.workers.items c.from-place.result ≡ Some c.index_mut.result.now = slice_get_read c.self.inside.workers.items c.len.result c.from-place.result c.index_mut.result.now size c.if-place-len.false c.index_mut.ensures.value in
    held-put c.self.inside.output.buffer c.self.inside.workers.items c.from-place.result c.index_mut.result.now c.late.new.self c.self.invariant here c.late.ensures.chunks

pub returns-clause-answer : goal.returns-clause-answer
returns-clause-answer c =
    let size : c.len.result ≡ length c.self.inside.workers.items = c.len.ensures ∙ c.self.inside.workers.ok.0 in
    let here : slice_get c.self.inside.workers.items c.from-place.result ≡ Some c.index_mut.result.now = slice_get_read c.self.inside.workers.items c.len.result c.from-place.result c.index_mut.result.now size c.if-place-len.false c.index_mut.ensures.value in
    c.late.ensures.answer ∙ worker_told _ c.args.self.now c.self.view_is c.args.worker c.from-place.result c.from-place.ensures c.index_mut.result.now here (λ y. steps.at_session lives y (steps.late lives c.args.now))

pub returns-clause-next : goal.returns-clause-next
returns-clause-next c =
    let size : c.len.result ≡ length c.self.inside.workers.items = c.len.ensures ∙ c.self.inside.workers.ok.0 in
    let here : slice_get c.self.inside.workers.items c.from-place.result ≡ Some c.index_mut.result.now = slice_get_read c.self.inside.workers.items c.len.result c.from-place.result c.index_mut.result.now size c.if-place-len.false c.index_mut.ensures.value in
    worker_done _ c.args.self.now c.self.view_is c.args.worker c.from-place.result c.from-place.ensures c.index_mut.result.now c.late.new.self here (λ y. steps.at_session lives y (steps.late lives c.args.now)) c.late.ensures.next
