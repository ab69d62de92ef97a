use Rattle.std.proofs.lemmas.Option.{slice_get_read}
use Rattle.std.proofs.Common.{Global, ◌≡◌, length, sym, ap, subst, ◌∙◌, Some, None}
use Rattle.std.specs.Prelude.{slice_get, slice_set, option_map, IfSome, IfNone}
use Rattle.std.specs.Arc.{arc_value}
use Rattle.fwd_chunks.specs.Live.{live_settles}
use Rattle.fwd_session.specs.declared.acked.Acked.{Acked}
use Rattle.fwd_chunks.specs.History.{CarriedChunk}
use Rattle.fwd_session.specs.ServerAcks.{IsServerAck}
use Rattle.fwd_session.specs.History.{first_in}
use Rattle.fwd_model.specs.declared.answer.Answer.TheVariants as answer
use Rattle.fwd_model.specs.Outcome.{answer_of, state_of}
use Rattle.fwd_model.specs.Outputs.{live_count_at, output_settles}
use Rattle.fwd_model.specs.Step as steps
use Rattle.fwd_model.specs.Live.{LiveLane, lives}
use Rattle.fwd_core.specs.Lanes.{AreHeld, acked_in, evidence_in, worker_settled}
use Rattle.fwd_core.proofs.LaneLemmas.{settle_is, settle_not, settled_leaves, settled_worker, acked_by, evidence_of_it}
use Rattle.fwd_core.proofs.HeldLemmas.{held-carries, held-settles}
use Rattle.fwd_core.proofs.RelayLemmas.{worker_stays}
use Rattle.fwd_core.proofs.lane.Lane.settle.Goals as goal

pub invariant_of-self-2 : goal.invariant_of-self-2
invariant_of-self-2 c =
    let workers = c.self.inside.workers in
    let place = c.from-place.result in
    let x = c.index_mut.result.now in
    let size : c.len.result ≡ length workers.items = c.len.ensures ∙ workers.ok.0 in
    let here : slice_get workers.items place ≡ Some x = slice_get_read workers.items c.len.result place x size c.if-place-len.false c.index_mut.ensures.value in
    let here_w : slice_get workers.items c.args.worker ≡ Some x = subst (λ n. slice_get workers.items n ≡ Some x) c.from-place.ensures here in
    let a = c.in-Some.carried in
    let acks = sym c.acked.ensures.chunk ∙ ap (option_map (λ p. p.1)) c.in-Some.is in
    let s = acked_by x a acks in
    let rests : c.acked.new.self ≡ worker_settled x = subst (λ o. IfSome o (λ p. c.acked.new.self ≡ worker_settled x)) c.in-Some.is c.acked.ensures.settled in
    let leaves = settled_leaves x a s in
    let left = rests ∙ settled_worker x a s in
    let carried = held-carries c.self.inside.output.buffer workers.items place x (worker_settled x) a c.self.invariant here leaves in
    let k = arc_value {X = Acked} {Z = Global} c.in-Some.acked in
    let ev : IsServerAck k a = subst (λ o. IfSome o (λ p. IsServerAck (arc_value {X = Acked} {Z = Global} p.0) p.1)) c.in-Some.is c.acked.ensures.evidence in
    subst (λ d. AreHeld d (slice_set workers.items place c.acked.new.self)) (sym (ap (λ o. o.buffer) (c.settle-entries.ensures.here carried) ∙ ap (live_settles c.self.inside.output.buffer) ev.number))
    (subst (λ z. AreHeld (live_settles c.self.inside.output.buffer a.number) (slice_set workers.items place z)) (sym rests)
    (held-settles c.self.inside.output.buffer workers.items place x (worker_settled x) a c.self.invariant here leaves))

pub returns-clause-answer : goal.returns-clause-answer
returns-clause-answer c =
    let workers = c.self.inside.workers in
    let place = c.from-place.result in
    let x = c.index_mut.result.now in
    let size : c.len.result ≡ length workers.items = c.len.ensures ∙ workers.ok.0 in
    let here : slice_get workers.items place ≡ Some x = slice_get_read workers.items c.len.result place x size c.if-place-len.false c.index_mut.ensures.value in
    let here_w : slice_get workers.items c.args.worker ≡ Some x = subst (λ n. slice_get workers.items n ≡ Some x) c.from-place.ensures here in
    let a = c.in-Some.carried in
    let acks = sym c.acked.ensures.chunk ∙ ap (option_map (λ p. p.1)) c.in-Some.is in
    let s = acked_by x a acks in
    let rests : c.acked.new.self ≡ worker_settled x = subst (λ o. IfSome o (λ p. c.acked.new.self ≡ worker_settled x)) c.in-Some.is c.acked.ensures.settled in
    let leaves = settled_leaves x a s in
    let left = rests ∙ settled_worker x a s in
    let carried = held-carries c.self.inside.output.buffer workers.items place x (worker_settled x) a c.self.invariant here leaves in
    ap answer.Settled (c.settle-entries.ensures.count carried ∙ ap (λ (d : CarriedChunk). live_count_at d.number c.self.inside.output) (sym s.chunk))
    ∙ sym (ap answer_of (settle_is _ c.args.worker x s.session s.accepted here_w s.is (ap first_in s.acks)))
    ∙ ap (λ l. answer_of (steps.settle lives l c.args.worker)) c.self.view_is

pub returns-clause-next : goal.returns-clause-next
returns-clause-next c =
    let workers = c.self.inside.workers in
    let place = c.from-place.result in
    let x = c.index_mut.result.now in
    let size : c.len.result ≡ length workers.items = c.len.ensures ∙ workers.ok.0 in
    let here : slice_get workers.items place ≡ Some x = slice_get_read workers.items c.len.result place x size c.if-place-len.false c.index_mut.ensures.value in
    let here_w : slice_get workers.items c.args.worker ≡ Some x = subst (λ n. slice_get workers.items n ≡ Some x) c.from-place.ensures here in
    let a = c.in-Some.carried in
    let k = arc_value {X = Acked} {Z = Global} c.in-Some.acked in
    let acks = sym c.acked.ensures.chunk ∙ ap (option_map (λ p. p.1)) c.in-Some.is in
    let s = acked_by x a acks in
    let from : evidence_in x.session ≡ Some k = sym c.acked.ensures.kept ∙ ap (option_map (λ p. arc_value {X = Acked} {Z = Global} p.0)) c.in-Some.is in
    let rests : c.acked.new.self ≡ worker_settled x = subst (λ o. IfSome o (λ p. c.acked.new.self ≡ worker_settled x)) c.in-Some.is c.acked.ensures.settled in
    let leaves = settled_leaves x a s in
    let left = rests ∙ settled_worker x a s in
    let carried = held-carries c.self.inside.output.buffer workers.items place x (worker_settled x) a c.self.invariant here leaves in
    let output = c.settle-entries.ensures.here carried ∙ ap (output_settles c.self.inside.output) (sym (evidence_of_it x a k s from)) in
    (λ i. record { config = c.self.inside.config; output = output i; workers = slice_set workers.items (c.from-place.ensures i) (left i) })
    ∙ sym (ap (state_of _) (settle_is _ c.args.worker x s.session s.accepted here_w s.is (ap first_in s.acks)))
    ∙ ap (λ l. state_of l (steps.settle lives l c.args.worker)) c.self.view_is

pub returns-in_default-clause-next : goal.returns-in_default-clause-next
returns-in_default-clause-next c =
    let workers = c.self.inside.workers in
    let place = c.from-place.result in
    let x = c.index_mut.result.now in
    let size : c.len.result ≡ length workers.items = c.len.ensures ∙ workers.ok.0 in
    let here : slice_get workers.items place ≡ Some x = slice_get_read workers.items c.len.result place x size c.if-place-len.false c.index_mut.ensures.value in
    let here_w : slice_get workers.items c.args.worker ≡ Some x = subst (λ n. slice_get workers.items n ≡ Some x) c.from-place.ensures here in
    let none : acked_in x.session ≡ None = sym c.acked.ensures.chunk ∙ ap (option_map (λ p. p.1)) c.in_default.is in
    let same : c.acked.new.self ≡ x = subst (λ o. IfNone o (c.acked.new.self ≡ x)) c.in_default.is c.acked.ensures.none in
    let own : LiveLane = record { config = c.self.inside.config; output = c.self.inside.output; workers = workers.items } in
    (λ i. record { config = c.self.inside.config; output = c.self.inside.output; workers = slice_set workers.items (c.from-place.ensures i) (same i) })
    ∙ worker_stays own c.args.worker x here_w
    ∙ sym (ap (state_of own) (settle_not own c.args.worker x here_w none))
    ∙ ap (λ l. state_of l (steps.settle lives l c.args.worker)) c.self.view_is
