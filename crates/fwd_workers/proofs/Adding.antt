-- A chunk may be added to a session that was served.
use Rattle.std.proofs.Common.{◌≡◌, true, [], ap, ◌∙◌}
use Rattle.fwd_session.specs.Live.{LiveSession, live_room}
use Rattle.fwd_workers.specs.declared.upstream.WorkerState.{WorkerState}
use Rattle.fwd_workers.specs.declared.upstream.WorkerState.TheVariants as state
use Rattle.fwd_workers.specs.Served.{may_add}
use Rattle.fwd_workers.specs.Working.{HasAdded, HasSettled}

-- what becomes of it settles nothing of the session before
pub added-settles : {L : Type 0} {g : _} (at : WorkerState L g) (t s : LiveSession) → HasAdded at t
    → s.accepted ≡ [] → may_add s ≡ true → live_room t ≡ live_room s → HasSettled at s
added-settles (state.Loaded upstream) t s added none may room = (none, ap live_room added.0 ∙ room)
added-settles (state.Added roomy chunk) t s added none may room = (none, may, ap live_room added.0 ∙ room)
added-settles state.Idle t s added none may room = absurd added
added-settles state.Seeking t s added none may room = absurd added
added-settles (state.Sought free) t s added none may room = absurd added
added-settles (state.Standing free) t s added none may room = absurd added
added-settles (state.Took free chunk) t s added none may room = absurd added
added-settles (state.Settled upstream) t s added none may room = absurd added
