use Rattle.std.proofs.Common.{subst}
use Rattle.fwd_output.specs.OutputEvents.{IsLiveOutput}
use Rattle.fwd_output.proofs.output.OutputState.is_sound.Goals as goal

pub returns-clause-reached : goal.returns-clause-reached
returns-clause-reached c = subst IsLiveOutput c.self.view_is c.self.invariant.1
