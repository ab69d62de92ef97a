use Rattle.std.proofs.Common.{length, ap, ◌∙◌}
use Rattle.std.proofs.lemmas.List.{length-map}
use Rattle.fwd_loop.specs.Pools.{shown_by}
use Rattle.fwd_program.proofs.running.run_relay.Goals as goal

pub returns-clause-count : goal.returns-clause-count
returns-clause-count g c =
    c.in_ok-outcome.ensures.count
    ∙ (ap (λ relay. length relay.outputs) c.in_ok-relay.ensures
    ∙ length-map c.args.settings.outputs shown_by)
