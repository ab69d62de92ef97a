use Rattle.fwd_msgpack.proofs.Rows.{split_append}
use Rattle.fwd_msgpack.proofs.laws.split_continues.Goals as goal

pub returns : goal.returns
returns c = split_append
