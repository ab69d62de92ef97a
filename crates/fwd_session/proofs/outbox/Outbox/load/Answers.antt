use Rattle.std.proofs.Common.{◌<◌, length, subst, sym}
use Rattle.fwd_session.proofs.Gathering.{frame_some}
use Rattle.fwd_session.proofs.outbox.Outbox.load.Goals as goal

pub push-requires : goal.push-requires
push-requires c = subst (λ f. 0 < length f) (sym c.in_ok-frame.ensures) (frame_some c.args.chunk.now)
