use Rattle.std.proofs.Common.{sym}
use Rattle.fwd_msgpack.proofs.Splittings.{row_values}
use Rattle.fwd_msgpack.proofs.members.Members.bytes.Goals as goal

pub returns : goal.returns
returns c = sym (row_values c.args.self.rest.now c.args.self.row).0
