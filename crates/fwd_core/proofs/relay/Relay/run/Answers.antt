use Rattle.std.proofs.Common.{◌≡◌, ◌+◌, ◌∷◌, ◌++◌, [], take, length, refl, sym, ap, subst, ◌∙◌, arith}
use Rattle.std.specs.Prelude.{is_ok, slice_get, if◌then◌else◌}
use Rattle.std.proofs.lemmas.List.{length-append, take_all, take_more}
use Rattle.fwd_model.specs.Step.{answers as answers_to, after}
use Rattle.fwd_model.specs.Live.{lives}
use Rattle.fwd_model.specs.History.{histories}
use Rattle.fwd_model.specs.Delivered.{reached}
use Rattle.fwd_core.specs.Runs.{kept, told as told_of, AreStepsOf}
use Rattle.fwd_core.proofs.RunLemmas.{step_is, steps_more, ran_of, sure_at}
use Rattle.fwd_core.proofs.relay.Relay.run.Goals as goal

pub loop-event-preserved : goal.loop-event-preserved
loop-event-preserved c =
    let es = c.args.events.now in
    let i = c.loop-event.event-index in
    let e = c.event-item.result in
    let a = c.step-answer.result in
    let given = c.loop-event.answers.items in
    let at = c.loop-event.invariant in
    let said = c.step-answer.ensures in
    let taken : take (i + 1) es ≡ take i es ++ e ∷ [] = take_more es i e c.loop-event-test.true ∙ ap (λ x. take i es ++ x ∷ []) (sym c.event-item.is) in
    let pushed : c.push.new.self.items ≡ given ++ a ∷ [] = c.push.ensures.items ∙ ap (λ r. if is_ok r then given ++ a ∷ [] else given) c.unwrap.ensures in
    let one = step_is c.loop-event.self c.step-answer.new.self e a said.answer said.next said.memory said.none said.sure said.fault in
    let next = steps_more c.args.self.now c.loop-event.self c.step-answer.new.self (take i es) given e a at.steps one in
    record {
      steps = rw (taken, pushed) next;
      size = omega (arith, ap length taken, ap length pushed, length-append (take i es) (e ∷ []), length-append given (a ∷ []), at.size);
      room = omega (arith, at.room, c.push.ensures.capacity);
    }

pub returns-clause-count : goal.returns-clause-count
returns-clause-count c =
    let es = c.args.events.now in
    let given = c.loop-event.answers.items in
    let all = take_all c.loop-event.event-index es c.loop-event-test.false in
    let steps : AreStepsOf c.args.self.now es given c.loop-event.self = subst (λ xs. AreStepsOf c.args.self.now xs given c.loop-event.self) all c.loop-event.invariant.steps in
    (ran_of c.args.self.now c.loop-event.self es given steps).size

pub returns-clause-steps : goal.returns-clause-steps
returns-clause-steps c =
    let es = c.args.events.now in
    let given = c.loop-event.answers.items in
    let all = take_all c.loop-event.event-index es c.loop-event-test.false in
    let steps : AreStepsOf c.args.self.now es given c.loop-event.self = subst (λ xs. AreStepsOf c.args.self.now xs given c.loop-event.self) all c.loop-event.invariant.steps in
    steps

pub returns-clause-sure : goal.returns-clause-sure
returns-clause-sure c =
    let es = c.args.events.now in
    let given = c.loop-event.answers.items in
    let all = take_all c.loop-event.event-index es c.loop-event-test.false in
    let steps : AreStepsOf c.args.self.now es given c.loop-event.self = subst (λ xs. AreStepsOf c.args.self.now xs given c.loop-event.self) all c.loop-event.invariant.steps in
    λ before later e split.
    sure_at c.args.self.now c.loop-event.self before later e given
    (subst (λ xs. AreStepsOf c.args.self.now xs given c.loop-event.self) split steps)

pub returns-clause-answers : goal.returns-clause-answers
returns-clause-answers c =
    let es = c.args.events.now in
    let given = c.loop-event.answers.items in
    let all = take_all c.loop-event.event-index es c.loop-event-test.false in
    let steps : AreStepsOf c.args.self.now es given c.loop-event.self = subst (λ xs. AreStepsOf c.args.self.now xs given c.loop-event.self) all c.loop-event.invariant.steps in
    (ran_of c.args.self.now c.loop-event.self es given steps).told_is

pub returns-clause-state : goal.returns-clause-state
returns-clause-state c =
    let es = c.args.events.now in
    let given = c.loop-event.answers.items in
    let all = take_all c.loop-event.event-index es c.loop-event-test.false in
    let steps : AreStepsOf c.args.self.now es given c.loop-event.self = subst (λ xs. AreStepsOf c.args.self.now xs given c.loop-event.self) all c.loop-event.invariant.steps in
    (ran_of c.args.self.now c.loop-event.self es given steps).state_is

pub returns-clause-history : goal.returns-clause-history
returns-clause-history c = λ config h by_run same.
    let es = c.args.events.now in
    let given = c.loop-event.answers.items in
    let all = take_all c.loop-event.event-index es c.loop-event-test.false in
    let steps : AreStepsOf c.args.self.now es given c.loop-event.self = subst (λ xs. AreStepsOf c.args.self.now xs given c.loop-event.self) all c.loop-event.invariant.steps in
    let run = ran_of c.args.self.now c.loop-event.self es given steps in
    let law = c.live_run_follows.ensures in (
      run.told_is ∙ (λ i. answers_to lives (same i) (kept es given)) ∙ sym (law.answers config h (kept es given) by_run),
      run.state_is ∙ (λ i. after lives (same i) (kept es given)) ∙ sym (law.after config h (kept es given) by_run),
    )

pub returns-clause-delivered : goal.returns-clause-delivered
returns-clause-delivered c = λ config before same id r o t.
    let es = c.args.events.now in
    let given = c.loop-event.answers.items in
    let all = take_all c.loop-event.event-index es c.loop-event-test.false in
    let steps : AreStepsOf c.args.self.now es given c.loop-event.self = subst (λ xs. AreStepsOf c.args.self.now xs given c.loop-event.self) all c.loop-event.invariant.steps in
    let run = ran_of c.args.self.now c.loop-event.self es given steps in
    let law = c.live_run_follows.ensures in
    let h = reached config before in
    let same_told : told_of given ≡ answers_to histories h (kept es given) =
    run.told_is ∙ (λ i. answers_to lives (same i) (kept es given)) ∙ sym (law.answers config h (kept es given) (before, refl)) in
    c.told_among_is_delivered.ensures config before (kept es given) id r o (record {
      before = t.before;
      later = t.later;
      numbers = t.numbers;
      out = t.out;
      split = t.split;
      told = ap (λ xs. slice_get xs (length t.before)) (sym same_told) ∙ t.told;
      among = t.among;
    })
