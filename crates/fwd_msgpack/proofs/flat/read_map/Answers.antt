use Rattle.std.proofs.Common.{arith}
use Rattle.fwd_msgpack.proofs.Flats.{map_found}
use Rattle.fwd_msgpack.proofs.flat.read_map.Goals as goal

pub returns : goal.returns
returns c =
    map_found c.args.limits.depth c.in_ok-pairs.pairs c.in_ok-end.end c.args.bytes.now c.requires (omega (arith, c.in_ok-pairs.ensures.few)) c.in_ok-end.ensures.inside c.in_ok-pairs.ensures.same c.in_ok-end.ensures.row
