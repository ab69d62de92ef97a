use Rattle.std.proofs.Common.{sym, subst, ◌∙◌}
use Rattle.std.proofs.lemmas.Option.{same_Some}
use Rattle.fwd_core.specs.Lanes.{IsRoomy}
use Rattle.fwd_core.proofs.WorkerLemmas.{loads_work, roomy-none}
use Rattle.fwd_core.proofs.worker.Worker.load.Goals as goal

pub invariant_of-self-in_default-take : goal.invariant_of-self-in_default-take
invariant_of-self-in_default-take c = λ s e.
    subst (IsRoomy c.take.new.self) (same_Some _ _ e)
    (roomy-none c.self.inside.taken c.take.new.self c.in-Some.session c.take.ensures.after (c.self.invariant c.in-Some.session c.in-Some.is))

pub invariant_of-self-then-not-is_ready : goal.invariant_of-self-then-not-is_ready
invariant_of-self-then-not-is_ready c = λ s e.
    subst (IsRoomy c.put.new.place) (same_Some _ _ e)
    (subst (λ o. IsRoomy o c.in-Some.session) (sym (c.put.ensures ∙ sym c.in-Some-take.is ∙ c.take.ensures.value)) (c.self.invariant c.in-Some.session c.in-Some.is))

pub invariant_of-self-in_default-frame_of : goal.invariant_of-self-in_default-frame_of
invariant_of-self-in_default-frame_of c = λ s e.
    subst (IsRoomy c.put-in_default-frame_of.new.place) (same_Some _ _ e)
    (subst (λ o. IsRoomy o c.in-Some.session) (sym (c.put-in_default-frame_of.ensures ∙ sym c.in-Some-take.is ∙ c.take.ensures.value)) (c.self.invariant c.in-Some.session c.in-Some.is))

pub returns-in-Ok-load-clause-chunks : goal.returns-in-Ok-load-clause-chunks
returns-in-Ok-load-clause-chunks c =
    loads_work c.args.self.now c.self.inside.taken c.take.new.self c.self.inside.session c.in-Some.session c.load.new.self c.in-Some-take.chunk c.args.now c.self.view_is (sym c.take.ensures.value ∙ c.in-Some-take.is) c.in-Some.is c.take.ensures.after c.in-Ok-load.ensures.ok
