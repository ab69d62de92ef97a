use Rattle.std.proofs.Common.{◌≡◌, sym, subst, ap, ◌∙◌, false, replicate, arith}
use Rattle.std.specs.Prelude.{Contains}
use Rattle.fwd_model.specs.Outputs.{no_requests}
use Rattle.fwd_core.specs.Lanes.{AreHeld, no_work, new_live_lane}
use Rattle.fwd_core.proofs.HeldLemmas.{held-idle}
use Rattle.fwd_output.proofs.Basics.{has-false}
use Rattle.fwd_core.proofs.lane.Lane.new.Goals as goal

pub invariant_of-result : goal.invariant_of-result
invariant_of-result c =
    let b = c.in_ok-state.state.buffer in
    subst (λ ws. AreHeld b ws) (sym c.loop.invariant.0) (held-idle b c.loop.counter)

pub new-requires-2-clause-has_primary : goal.new-requires-2-clause-has_primary
new-requires-2-clause-has_primary c =
    subst (λ bs. Contains bs false) (sym c.as_slice-standby.ensures) (has-false c.config.inside.standby c.config.inside.has_primary)

pub returns : goal.returns
returns c =
    let run = c.args.run in
    let output = c.args.output in
    let config = c.config.inside in
    let same = c.config.view_is ∙ c.in_ok-config.ensures in
    let limits = config.limits in
    let count : c.loop.counter ≡ config.workers = omega (arith, c.loop.auto.counter-end, c.loop-test.false) in
    let state = c.in_ok-state.ensures
    ∙ ap (λ bs. no_requests (record { limits = limits; run = run; output = output }) (record { standby = bs; retry_wait = limits.retry_wait; retry_max = limits.retry_max })) c.as_slice-standby.ensures in
    let idle = c.loop.invariant.0 ∙ ap (λ n. replicate n no_work) count in
    (λ i. record { config = sym c.config.view_is i; output = state i; workers = idle i })
    ∙ ap (λ k. new_live_lane run output k) same
