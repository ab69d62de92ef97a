use Rattle.std.proofs.lemmas.Option.{slice_get_read}
use Rattle.std.proofs.Common.{◌≡◌, length, sym, ap, subst, ◌∙◌, Some}
use Rattle.std.specs.Prelude.{◌++◌, slice_get, slice_set, option_to_list}
use Rattle.fwd_session.specs.Live.{LiveSession}
use Rattle.fwd_model.specs.declared.answer.Answer.TheVariants as answer
use Rattle.fwd_model.specs.Outcome.{answer_of, state_of}
use Rattle.fwd_model.specs.Layers.{Worker}
use Rattle.fwd_model.specs.Outputs.{numbers_back, output_ends, returned}
use Rattle.fwd_model.specs.Step as steps
use Rattle.fwd_model.specs.Live.{LiveLane, lives}
use Rattle.fwd_core.specs.Lanes.{AreHeld, chunks_at, no_work}
use Rattle.fwd_run.specs.Pages.{AreCarried}
use Rattle.fwd_core.proofs.LaneLemmas.{read_same, all_given, end_is}
use Rattle.fwd_core.proofs.HeldLemmas.{held-ends, held-here}
use Rattle.fwd_core.proofs.lane.Lane.end.Goals as goal

pub invariant_of-self : goal.invariant_of-self
invariant_of-self c =
    let workers = c.self.inside.workers in
    let place = c.from-place.result in
    let x = c.index_mut.result.now in
    let size : c.len.result ≡ length workers.items = c.len.ensures ∙ workers.ok.0 in
    let here : slice_get workers.items place ≡ Some x = slice_get_read workers.items c.len.result place x size c.if-place-len.false c.index_mut.ensures.value in
    let out = c.self.inside.output in
    let z = c.index-else-is_idle.result.now in
    let again : slice_get workers.items place ≡ Some z = slice_get_read workers.items c.len.result place z size c.if-place-len.false c.index-else-is_idle.ensures in
    let none = ap (λ (k : Worker LiveSession). steps.has_acked lives k.session) (sym (read_same workers.items place z x again here)) ∙ sym c.is_acked.ensures ∙ c.if-is_acked.false in
    let has : chunks_at x ≡ option_to_list x.taken ++ steps.unacknowledged_of lives x.session = all_given x none in
    let is_here : AreCarried out.buffer (option_to_list c.end-taken.result.taken ++ c.end-taken.result.loaded.items) =
    subst (AreCarried out.buffer) (has ∙ (λ i. option_to_list (sym c.end-taken.ensures.taken i) ++ sym c.end-taken.ensures.loaded i)) (held-here out.buffer workers.items place x c.self.invariant here) in
    let output = c.end.ensures.here is_here ∙ (λ i. output_ends out (returned (c.end-taken.ensures.taken i) (c.end-taken.ensures.loaded i)) (c.end-taken.ensures.server i) c.args.now) in
    subst (λ k. AreHeld c.end.new.self.buffer (slice_set workers.items place k)) (sym c.end-taken.ensures.idle)
    (subst (λ d. AreHeld d (slice_set workers.items place no_work)) (sym (ap (λ o. o.buffer) output))
    (held-ends out.buffer workers.items place c.args.now x (steps.unacknowledged_of lives x.session) c.self.invariant here has))

pub returns-clause-answer : goal.returns-clause-answer
returns-clause-answer c =
    let workers = c.self.inside.workers in
    let place = c.from-place.result in
    let x = c.index_mut.result.now in
    let size : c.len.result ≡ length workers.items = c.len.ensures ∙ workers.ok.0 in
    let here : slice_get workers.items place ≡ Some x = slice_get_read workers.items c.len.result place x size c.if-place-len.false c.index_mut.ensures.value in
    let out = c.self.inside.output in
    let here_w : slice_get workers.items c.args.worker ≡ Some x = subst (λ n. slice_get workers.items n ≡ Some x) c.from-place.ensures here in
    let y = c.index.result.now in
    let z = c.index-else-is_idle.result.now in
    let there : slice_get workers.items place ≡ Some y = slice_get_read workers.items c.len.result place y size c.if-place-len.false c.index.ensures in
    let again : slice_get workers.items place ≡ Some z = slice_get_read workers.items c.len.result place z size c.if-place-len.false c.index-else-is_idle.ensures in
    let busy = ap (λ k. steps.is_idle lives k) (sym (read_same workers.items place y x there here)) ∙ sym c.is_idle.ensures ∙ c.if-is_idle.false in
    let none = ap (λ (k : Worker LiveSession). steps.has_acked lives k.session) (sym (read_same workers.items place z x again here)) ∙ sym c.is_acked.ensures ∙ c.if-is_acked.false in
    let own : LiveLane = record { config = c.self.inside.config; output = out; workers = workers.items } in
    let comes = end_is own c.args.worker c.args.kind c.args.now x here_w busy none in
    ap answer.Ended (c.numbers_back-numbers.ensures ∙ ap (λ ds. numbers_back (returned c.end-taken.result.taken ds)) c.deref.ensures.value ∙ (λ i. numbers_back (returned (c.end-taken.ensures.taken i) (c.end-taken.ensures.loaded i))))
    ∙ sym (ap answer_of comes)
    ∙ ap (λ l. answer_of (steps.end lives l c.args.worker c.args.kind c.args.now)) c.self.view_is

pub returns-clause-next : goal.returns-clause-next
returns-clause-next c =
    let workers = c.self.inside.workers in
    let place = c.from-place.result in
    let x = c.index_mut.result.now in
    let size : c.len.result ≡ length workers.items = c.len.ensures ∙ workers.ok.0 in
    let here : slice_get workers.items place ≡ Some x = slice_get_read workers.items c.len.result place x size c.if-place-len.false c.index_mut.ensures.value in
    let out = c.self.inside.output in
    let z = c.index-else-is_idle.result.now in
    let again : slice_get workers.items place ≡ Some z = slice_get_read workers.items c.len.result place z size c.if-place-len.false c.index-else-is_idle.ensures in
    let none = ap (λ (k : Worker LiveSession). steps.has_acked lives k.session) (sym (read_same workers.items place z x again here)) ∙ sym c.is_acked.ensures ∙ c.if-is_acked.false in
    let has : chunks_at x ≡ option_to_list x.taken ++ steps.unacknowledged_of lives x.session = all_given x none in
    let is_here : AreCarried out.buffer (option_to_list c.end-taken.result.taken ++ c.end-taken.result.loaded.items) =
    subst (AreCarried out.buffer) (has ∙ (λ i. option_to_list (sym c.end-taken.ensures.taken i) ++ sym c.end-taken.ensures.loaded i)) (held-here out.buffer workers.items place x c.self.invariant here) in
    let output = c.end.ensures.here is_here ∙ (λ i. output_ends out (returned (c.end-taken.ensures.taken i) (c.end-taken.ensures.loaded i)) (c.end-taken.ensures.server i) c.args.now) in
    let here_w : slice_get workers.items c.args.worker ≡ Some x = subst (λ n. slice_get workers.items n ≡ Some x) c.from-place.ensures here in
    let y = c.index.result.now in
    let there : slice_get workers.items place ≡ Some y = slice_get_read workers.items c.len.result place y size c.if-place-len.false c.index.ensures in
    let busy = ap (λ k. steps.is_idle lives k) (sym (read_same workers.items place y x there here)) ∙ sym c.is_idle.ensures ∙ c.if-is_idle.false in
    let own : LiveLane = record { config = c.self.inside.config; output = out; workers = workers.items } in
    let comes = end_is own c.args.worker c.args.kind c.args.now x here_w busy none in
    (λ i. record { config = c.self.inside.config; output = output i; workers = slice_set workers.items (c.from-place.ensures i) (c.end-taken.ensures.idle i) })
    ∙ sym (ap (state_of own) comes)
    ∙ ap (λ l. state_of l (steps.end lives l c.args.worker c.args.kind c.args.now)) c.self.view_is
