use Rattle.std.proofs.Common.{◌∙◌, ap}
use Rattle.fwd_run.specs.Pages.{IdsKnown}
use Rattle.fwd_loop.proofs.relay_loop.source_ids.Goals as goal

pub new-requires-2-clause-security : goal.new-requires-2-clause-security
new-requires-2-clause-security g c =
    let set = c.requires.security in (set.0, ap (λ (k : IdsKnown). k.security) c.new.ensures ∙ set.1)

pub new-requires-2-clause-limits : goal.new-requires-2-clause-limits
new-requires-2-clause-limits g c =
    let set = c.requires.limits in (set.0, ap (λ (k : IdsKnown). k.limits) c.new.ensures ∙ set.1)
