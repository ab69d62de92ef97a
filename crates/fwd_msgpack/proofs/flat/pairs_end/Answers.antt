use Rattle.std.proofs.Common.{◌+◌, ◌<◌, length, arith}
use Rattle.fwd_msgpack.proofs.Flats.{row_none, key_there, pair_more}
use Rattle.fwd_msgpack.proofs.flat.pairs_end.Goals as goal

pub loop-place-init : goal.loop-place-init
loop-place-init c = record {
  near = omega (arith, c.requires.inside);
  row = λ le. row_none c.args.limits.depth c.args.bytes.now c.args.from;
}

pub loop-place-preserved : goal.loop-place-preserved
loop-place-preserved c =
    let deep = c.args.limits.depth in
    let bytes = c.args.bytes.now in
    let used = c.loop-place.used in
    let key = c.in_ok-value.field-0 in
    let size = c.in_ok-used.field-0 in
    let is = c.in_ok-value.ensures in
    let here : used < length bytes = omega (arith, c.if-used-bytes.false) in
    let there : used + key < length bytes = omega (arith, c.if-value-bytes.false) in
    record {
      near = c.in_ok-used.ensures.near;
      row = λ le. pair_more deep c.loop-place.place bytes c.args.from used key size (c.loop-place.invariant.row (omega (arith, here))) (key_there deep bytes used key here is.0 is.1 is.2 (omega (arith, there))) (c.in_ok-used.ensures.value le);
    }
