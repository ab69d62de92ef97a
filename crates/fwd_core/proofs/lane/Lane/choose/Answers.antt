use Rattle.std.proofs.Common.{◌≡◌, ◌<◌, length, sym, ap, subst, ◌∙◌, arith}
use Rattle.fwd_model.specs.declared.answer.Answer.TheVariants as answer
use Rattle.fwd_model.specs.Outcome.{answer_of, state_of}
use Rattle.fwd_chunks.specs.Live.{live_looks}
use Rattle.fwd_model.specs.Step as steps
use Rattle.fwd_model.specs.Live.{LiveLane, lives}
use Rattle.fwd_core.specs.Lanes.{AreHeld}
use Rattle.fwd_core.proofs.LaneLemmas.{choose_is}
use Rattle.fwd_core.proofs.HeldLemmas.{held_in}
use Rattle.fwd_core.proofs.lane.Lane.choose.Goals as goal

pub invariant_of-self : goal.invariant_of-self
invariant_of-self c =
    let b = c.self.inside.output.buffer in
    let workers = c.self.inside.workers in
    subst (λ d. AreHeld d workers.items) (sym (ap (λ o. o.buffer) c.choose-server.ensures.looked))
    (held_in b (live_looks b c.args.now) workers.items c.self.invariant (λ n d e. e))

pub returns-clause-answer : goal.returns-clause-answer
returns-clause-answer c =
    let workers = c.self.inside.workers in
    let own : LiveLane = record { config = c.self.inside.config; output = c.self.inside.output; workers = workers.items } in
    let size : c.len.result ≡ length workers.items = c.len.ensures ∙ workers.ok.0 in
    let below : c.args.worker < length workers.items = omega (arith, size, c.from.ensures, c.if-from-len.false) in
    ap answer.Chose c.choose-server.ensures.choice
    ∙ sym (ap answer_of (choose_is own c.args.worker c.args.now below))
    ∙ ap (λ l. answer_of (steps.choose lives l c.args.worker c.args.now)) c.self.view_is

pub returns-clause-next : goal.returns-clause-next
returns-clause-next c =
    let workers = c.self.inside.workers in
    let own : LiveLane = record { config = c.self.inside.config; output = c.self.inside.output; workers = workers.items } in
    let size : c.len.result ≡ length workers.items = c.len.ensures ∙ workers.ok.0 in
    let below : c.args.worker < length workers.items = omega (arith, size, c.from.ensures, c.if-from-len.false) in
    (λ i. record { config = c.self.inside.config; output = c.choose-server.ensures.looked i; workers = workers.items })
    ∙ sym (ap (state_of own) (choose_is own c.args.worker c.args.now below))
    ∙ ap (λ l. state_of l (steps.choose lives l c.args.worker c.args.now)) c.self.view_is
