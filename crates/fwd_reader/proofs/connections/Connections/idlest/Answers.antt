use Rattle.std.proofs.Common.{None, ap, arith, sym, ◌∙◌}
use Rattle.fwd_reader.specs.Idling.{NoneIsIdle}
use Rattle.fwd_reader.proofs.Idlest.{idlest_after, if_none, is_idlest, none_idle, none_so_long}
use Rattle.fwd_reader.proofs.connections.Connections.idlest.Goals as goal

pub loop-key-init : goal.loop-key-init
loop-key-init g c =
    let left = c.into_iter-key-iterator.ensures.into_iter_gives ∙ c.iter-key-items.ensures.rest in
    (tt, tt, ap (idlest_after None) left)

pub returns-in_err-key-clause-none : goal.returns-in_err-key-clause-none
returns-in_err-key-clause-none g c =
    let all = sym c.loop-key.invariant.2
    ∙ ap (idlest_after c.loop-key.idlest) c.in-None.ensures.steps.0 in
    if_none c.from_residual.result (NoneIsIdle c.args.self.now c.args.limit c.args.now)
    (none_idle c.args.self.now c.args.limit c.args.now (all ∙ c.in_err-key.was))

pub returns-then-saturating_sub-limit-clause-none :
    goal.returns-then-saturating_sub-limit-clause-none
returns-then-saturating_sub-limit-clause-none g c =
    let all = sym c.loop-key.invariant.2
    ∙ ap (idlest_after c.loop-key.idlest) c.in-None.ensures.steps.0 in
    none_so_long c.args.self.now c.args.limit c.args.now c.in_ok-key.field-0
    (all ∙ c.in_ok-key.was)
    (grind (arith, c.if-saturating_sub-limit.true, c.saturating_sub.ensures, c.in_ok-key.since-is))

pub returns-clause-found : goal.returns-clause-found
returns-clause-found g c =
    let all = sym c.loop-key.invariant.2
    ∙ ap (idlest_after c.loop-key.idlest) c.in-None.ensures.steps.0 in
    is_idlest c.args.self.now c.args.limit c.args.now c.in_ok-key.field-0 (all ∙ c.in_ok-key.was)
    (grind (arith, c.if-saturating_sub-limit.false, c.saturating_sub.ensures, c.in_ok-key.since-is))
