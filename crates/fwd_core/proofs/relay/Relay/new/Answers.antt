use Rattle.fwd_core.proofs.StandingLemmas.{standing-opening}
use Rattle.fwd_core.proofs.relay.Relay.new.Goals as goal

pub invariant_of-result : goal.invariant_of-result
invariant_of-result c = standing-opening c.in_ok-state.state c.args.config c.in_ok-state.ensures.ok
