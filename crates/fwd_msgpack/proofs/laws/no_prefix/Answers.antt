use Rattle.fwd_msgpack.proofs.Uniques.{no_prefix}
use Rattle.fwd_msgpack.proofs.laws.no_prefix.Goals as goal

pub returns : goal.returns
returns c = no_prefix
