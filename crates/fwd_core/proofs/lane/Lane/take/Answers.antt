use Rattle.std.proofs.lemmas.Option.{slice_get_read}
use Rattle.std.proofs.Common.{◌≡◌, length, sym, ap, subst, ◌∙◌, Some, None}
use Rattle.std.specs.Prelude.{◌||◌, slice_get, slice_set, is_some}
use Rattle.fwd_model.specs.Outcome.{answer_of, state_of, chunk_answer}
use Rattle.fwd_model.specs.Step as steps
use Rattle.fwd_model.specs.Live.{lives}
use Rattle.fwd_model.specs.Layers.{Worker}
use Rattle.fwd_session.specs.Live.{LiveSession}
use Rattle.fwd_core.specs.Lanes.{AreHeld}
use Rattle.fwd_core.proofs.LaneLemmas.{read_same, take_is, may_take}
use Rattle.fwd_core.proofs.HeldLemmas.{held-takes}
use Rattle.fwd_core.proofs.lane.Lane.take.Goals as goal

pub invariant_of-self-2 : goal.invariant_of-self-2
invariant_of-self-2 c =
    let workers = c.self.inside.workers in
    let place = c.from-place.result in
    let x = c.index_mut.result.now in
    let y = c.index.result.now in
    let size : c.len.result ≡ length workers.items = c.len.ensures ∙ workers.ok.0 in
    let here : slice_get workers.items place ≡ Some x = slice_get_read workers.items c.len.result place x size c.if-place-len.false c.index_mut.ensures.value in
    let there : slice_get workers.items place ≡ Some y = slice_get_read workers.items c.len.result place y size c.if-place-len.false c.index.ensures in
    let same : y ≡ x = read_same workers.items place y x there here in
    let here_w : slice_get workers.items c.args.worker ≡ Some x = subst (λ n. slice_get workers.items n ≡ Some x) c.from-place.ensures here in
    let b = c.self.inside.output.buffer in
    let free = may_take y.taken (steps.is_full lives y.session) (sym c.is_full.ensures ∙ c.if-is_full.false) in
    let none : x.taken ≡ None = ap (λ (z : Worker LiveSession). z.taken) (sym same) ∙ free.0 in
    let gets = c.set_taken.ensures ∙ ap (λ f. record { taken = f; session = x.session }) c.in_ok-found.ensures.given in
    subst (λ d. AreHeld d (slice_set workers.items place c.set_taken.new.self)) (sym (ap (λ o. o.buffer) c.in_ok-found.ensures.ok))
    (held-takes b workers.items place c.args.worker c.args.wanted c.args.now x c.set_taken.new.self c.is_sound.ensures.chunks c.self.invariant here none gets)

pub returns-clause-answer : goal.returns-clause-answer
returns-clause-answer c =
    let workers = c.self.inside.workers in
    let place = c.from-place.result in
    let x = c.index_mut.result.now in
    let y = c.index.result.now in
    let size : c.len.result ≡ length workers.items = c.len.ensures ∙ workers.ok.0 in
    let here : slice_get workers.items place ≡ Some x = slice_get_read workers.items c.len.result place x size c.if-place-len.false c.index_mut.ensures.value in
    let there : slice_get workers.items place ≡ Some y = slice_get_read workers.items c.len.result place y size c.if-place-len.false c.index.ensures in
    let same : y ≡ x = read_same workers.items place y x there here in
    let here_w : slice_get workers.items c.args.worker ≡ Some x = subst (λ n. slice_get workers.items n ≡ Some x) c.from-place.ensures here in
    let free = ap (λ (z : Worker LiveSession). is_some z.taken || steps.is_full lives z.session) (sym same) ∙ (sym c.is_full.ensures ∙ c.if-is_full.false) in
    c.told_of-answer.ensures ∙ ap chunk_answer c.in_ok-found.ensures.given
    ∙ sym (ap answer_of (take_is (record { config = c.self.inside.config; output = c.self.inside.output; workers = workers.items }) c.args.worker c.args.wanted c.args.now x here_w free))
    ∙ ap (λ l. answer_of (steps.take lives l c.args.worker c.args.wanted c.args.now)) c.self.view_is

pub returns-clause-next : goal.returns-clause-next
returns-clause-next c =
    let workers = c.self.inside.workers in
    let place = c.from-place.result in
    let x = c.index_mut.result.now in
    let y = c.index.result.now in
    let size : c.len.result ≡ length workers.items = c.len.ensures ∙ workers.ok.0 in
    let here : slice_get workers.items place ≡ Some x = slice_get_read workers.items c.len.result place x size c.if-place-len.false c.index_mut.ensures.value in
    let there : slice_get workers.items place ≡ Some y = slice_get_read workers.items c.len.result place y size c.if-place-len.false c.index.ensures in
    let same : y ≡ x = read_same workers.items place y x there here in
    let here_w : slice_get workers.items c.args.worker ≡ Some x = subst (λ n. slice_get workers.items n ≡ Some x) c.from-place.ensures here in
    let free = ap (λ (z : Worker LiveSession). is_some z.taken || steps.is_full lives z.session) (sym same) ∙ (sym c.is_full.ensures ∙ c.if-is_full.false) in
    let gets = c.set_taken.ensures ∙ ap (λ f. record { taken = f; session = x.session }) c.in_ok-found.ensures.given in
    (λ i. record { config = c.self.inside.config; output = c.in_ok-found.ensures.ok i; workers = slice_set workers.items (c.from-place.ensures i) (gets i) })
    ∙ sym (ap (state_of (record { config = c.self.inside.config; output = c.self.inside.output; workers = workers.items })) (take_is (record { config = c.self.inside.config; output = c.self.inside.output; workers = workers.items }) c.args.worker c.args.wanted c.args.now x here_w free))
    ∙ ap (λ l. state_of l (steps.take lives l c.args.worker c.args.wanted c.args.now)) c.self.view_is

pub set_taken-requires-clause-none : goal.set_taken-requires-clause-none
set_taken-requires-clause-none c =
    let workers = c.self.inside.workers in
    let place = c.from-place.result in
    let x = c.index_mut.result.now in
    let y = c.index.result.now in
    let size : c.len.result ≡ length workers.items = c.len.ensures ∙ workers.ok.0 in
    let here : slice_get workers.items place ≡ Some x = slice_get_read workers.items c.len.result place x size c.if-place-len.false c.index_mut.ensures.value in
    let there : slice_get workers.items place ≡ Some y = slice_get_read workers.items c.len.result place y size c.if-place-len.false c.index.ensures in
    let same : y ≡ x = read_same workers.items place y x there here in
    ap (λ (z : Worker LiveSession). z.taken) (sym same) ∙ (may_take y.taken (steps.is_full lives y.session) (sym c.is_full.ensures ∙ c.if-is_full.false)).0

pub set_taken-requires-clause-room : goal.set_taken-requires-clause-room
set_taken-requires-clause-room c =
    let workers = c.self.inside.workers in
    let place = c.from-place.result in
    let x = c.index_mut.result.now in
    let y = c.index.result.now in
    let size : c.len.result ≡ length workers.items = c.len.ensures ∙ workers.ok.0 in
    let here : slice_get workers.items place ≡ Some x = slice_get_read workers.items c.len.result place x size c.if-place-len.false c.index_mut.ensures.value in
    let there : slice_get workers.items place ≡ Some y = slice_get_read workers.items c.len.result place y size c.if-place-len.false c.index.ensures in
    let same : y ≡ x = read_same workers.items place y x there here in
    ap (λ (z : Worker LiveSession). steps.is_full lives z.session) (sym same) ∙ (may_take y.taken (steps.is_full lives y.session) (sym c.is_full.ensures ∙ c.if-is_full.false)).1
