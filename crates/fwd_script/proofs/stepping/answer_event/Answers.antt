use Rattle.std.proofs.Common.{◌≡◌, ◌⊎◌, inl, inr, ap, ◌∙◌}
use Rattle.fwd_script.specs.Stops.{Stops}
use Rattle.fwd_script.specs.Replay.{answer_line}
use Rattle.fwd_script.specs.Writes.{AppendsFront}
use Rattle.fwd_script.specs.declared.stepping.StopReason.TheVariants as stops
use Rattle.fwd_script.proofs.Results.{match_err, Keeps-same}
use Rattle.fwd_script.proofs.stepping.answer_event.Goals as goal

stepped : {A B : Type 0} → A ⊎ B → (A → ⊥) → B
stepped (inl a) f = absurd (f a)
stepped (inr b) f = b

pub returns-in_err-text : goal.returns-in_err-text
returns-in_err-text g c =
    let went = stepped c.step-answer.ensures.answer c.in_default-answer.not-Memory in
    match_err c.from_residual-in_err-text.result _ (λ e. e ≡ stops.Memory)
    (λ e. Stops e g.S.Step.answer_to g.S.Step.next c.args.relay.now c.step-answer.new.self c.args.read (g.W.Write.contents c.args.writer.now) (g.W.Write.contents c.args.writer.now))
    c.from_residual-in_err-text.ensures.1
    (λ e same. rw same (Keeps-same (g.W.Write.contents c.args.writer.now), inr (c.in-Some.event, cc, inr went.1)))

pub returns-in_err-write_all : goal.returns-in_err-write_all
returns-in_err-write_all g c =
    let went = stepped c.step-answer.ensures.answer c.in_default-answer.not-Memory in
    let line : c.as_bytes.result.now ≡ answer_line (g.S.Step.answer_to c.args.relay.now c.in-Some.event) =
    c.as_bytes.ensures.value ∙ c.in_ok-text.ensures {u = tt} ∙ ap answer_line went.0 in
    let wrote : AppendsFront (g.W.Write.contents c.args.writer.now) (g.W.Write.contents c.write_all.new.writer) (answer_line (g.S.Step.answer_to c.args.relay.now c.in-Some.event)) =
    rw line at (c.in_err-write_all.ensures {u = tt}).front in
    match_err c.from_residual-in_err-write_all.result _ (λ e. e ≡ stops.Output c.in_err-write_all.field-0.0)
    (λ e. Stops e g.S.Step.answer_to g.S.Step.next c.args.relay.now c.step-answer.new.self c.args.read (g.W.Write.contents c.args.writer.now) (g.W.Write.contents c.write_all.new.writer))
    c.from_residual-in_err-write_all.ensures.1
    (λ e same. rw same (c.in-Some.event, cc, wrote))
