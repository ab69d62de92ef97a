use Rattle.std.proofs.Common.{ap}
use Rattle.std.specs.Prelude.{is_some}
use Rattle.fwd_laws.proofs.Meetings.{both_ready, both_refused, one_piece}
use Rattle.fwd_laws.proofs.meeting.agreed_sides_meet.Goals as goal

pub returns-clause-ready : goal.returns-clause-ready
returns-clause-ready c m key agreed some joined within sized =
    both_ready m key agreed.client (ap (λ k. is_some k) agreed.server) joined within agreed some sized

pub returns-clause-denied : goal.returns-clause-denied
returns-clause-denied c m key denial denied joined within =
    both_refused m key denied.client denied.server joined within denial denied.cause

pub returns-clause-uncut : goal.returns-clause-uncut
returns-clause-uncut c client server = one_piece client server
