use Rattle.std.proofs.Common.{◌≡◌, Some, Result, Ok, Err, sym, subst}
use Rattle.std.specs.Prelude.{slice_get, OnOk, OnErr}
use Rattle.fwd_model.specs.Outcome.{state_of}
use Rattle.fwd_model.specs.Step.{step}
use Rattle.fwd_model.specs.Live.{LiveRelay, live_source_at, lives}
use Rattle.fwd_core.specs.Standing.{IsStanding}
use Rattle.fwd_core.proofs.StandingLemmas.{standing-next}
use Rattle.fwd_core.proofs.relay.Relay.step.Goals as goal

pub try_step-requires : goal.try_step-requires
try_step-requires c = λ id o s l stands here.
    let t = c.self.invariant in
    c.waiting_is_new.ensures.live t.config t.history id o s l t.reached
    (subst (λ (r : LiveRelay). live_source_at id r.connections ≡ Some s) t.is stands)
    (subst (λ (r : LiveRelay). slice_get r.lanes o ≡ Some l) t.is here)

pub invariant_of-self : goal.invariant_of-self
invariant_of-self c = by c.try_step.result c.try_step.ensures.next c.try_step.ensures.err
  where
    by : {T E : Type 0} (r : Result T E)
        → OnOk r (c.try_step.new.self ≡ state_of c.self.inside.state (step lives c.self.inside.state c.args.event.now))
        → OnErr r (c.try_step.new.self ≡ c.self.inside.state)
        → IsStanding c.try_step.new.self
    by (Ok a) next same = standing-next c.live_follows.ensures.step c.self.inside.state c.try_step.new.self c.args.event.now c.self.invariant next
    by (Err e) next same = subst IsStanding (sym same) c.self.invariant
