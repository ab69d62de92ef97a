use Rattle.fwd_msgpack.proofs.Splittings.{stream_is}
use Rattle.fwd_msgpack.proofs.laws.split_is_stream.Goals as goal

pub returns : goal.returns
returns c = stream_is
