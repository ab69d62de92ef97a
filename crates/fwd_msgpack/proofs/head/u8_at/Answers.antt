use Rattle.std.proofs.Common.{◌∙◌}
use Rattle.fwd_msgpack.proofs.Readings.{one_number}
use Rattle.fwd_msgpack.proofs.head.u8_at.Goals as goal

pub returns : goal.returns
returns c = c.copied.ensures ∙ c.first.ensures.value ∙ one_number c.args.bytes.now
