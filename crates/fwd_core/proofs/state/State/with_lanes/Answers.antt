use Rattle.std.proofs.Common.{refl}
use Rattle.fwd_core.proofs.OpeningLemmas.{opening-live}
use Rattle.fwd_core.proofs.state.State.with_lanes.Goals as goal

pub returns-in-Ok-clause-ok : goal.returns-in-Ok-clause-ok
returns-in-Ok-clause-ok c = rw (opening-live c.args.config, c.in-Ok.ensures.ok, c.new-in-Ok.ensures.items, c.requires) refl
