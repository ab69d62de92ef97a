use Rattle.std.proofs.Common.{◌∙◌}
use Rattle.fwd_session.proofs.Judging.{ack_backed}
use Rattle.fwd_session.proofs.hearing.accept.Goals as goal

pub returns-in-Ok-clause-ack : goal.returns-in-Ok-clause-ack
returns-in-Ok-clause-ack c =
    ack_backed c.args.server c.args.unacked.now (record { place = c.args.place; acked = c.in-Ok.acked }) c.args.value.now c.chunk.result.now c.requires c.chunk.ensures (c.in-Ok.ensures.ok ∙ c.in_ok-acked.ensures)
