use Rattle.std.proofs.Common.{◌≡◌, length, map, sym, ap, subst, ◌∙◌, arith}
use Rattle.std.specs.Prelude.{IfOk}
use Rattle.std.proofs.lemmas.List.{length-map}
use Rattle.fwd_pools.specs.Pools.{all_made_of, hop_of}
use Rattle.fwd_loop.specs.Loops.{LoopShown}
use Rattle.fwd_loop.proofs.Outputs.{outputs_few, known_count, known_made, workers_few}
use Rattle.fwd_loop.proofs.relay_loop.Loop.without_control.Goals as goal

pub relay_of-requires-clause-each : goal.relay_of-requires-clause-each
relay_of-requires-clause-each g c =
    ap length c.in_ok-parts.ensures.hops
    ∙ length-map c.args.settings.outputs hop_of
    ∙ sym (known_count c.args.settings _ c.in_ok-parts.ensures.config.outputs)

pub relay_of-requires-clause-few : goal.relay_of-requires-clause-few
relay_of-requires-clause-few g c =
    let same = known_count c.args.settings _ c.in_ok-parts.ensures.config.outputs in
    omega (arith, same, outputs_few c.args.settings c.requires.range)

pub relay_of-requires-clause-workers : goal.relay_of-requires-clause-workers
relay_of-requires-clause-workers g c =
    workers_few c.args.settings _ c.requires.range c.in_ok-parts.ensures.config.outputs

pub returns : goal.returns
returns g c =
    let parts = c.in_ok-parts.ensures in
    let made =
    ap (all_made_of _) parts.hops ∙ known_made c.args.settings _ parts.config.outputs in
    subst (λ (shown : LoopShown). IfOk c.relay_of.result (λ relay. relay ≡ shown))
    (λ i. record { outputs = made i; routes = parts.config.routes i }) c.relay_of.ensures
