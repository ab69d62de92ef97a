use Rattle.std.proofs.Common.{arith, sym, ap}
use Rattle.fwd_msgpack.specs.Scans.{most_bytes, most_deep, whole_len}
use Rattle.fwd_msgpack.proofs.Wholes.{Front-from}
use Rattle.fwd_msgpack.proofs.cutting.cut.Goals as goal

pub slice_bounds-result-end : goal.slice_bounds-result-end
slice_bounds-result-end c = sym ((Front-from c.args.limits.bytes c.args.limits.depth c.args.limits.bytes c.args.limits.depth (omega arith) (omega arith) c.args.bytes.now c.in-Whole.used (sym (c.in-Whole.ensures))).len)

pub invariant_of-result : goal.invariant_of-result
invariant_of-result c =
    let front = Front-from c.args.limits.bytes c.args.limits.depth most_bytes most_deep (omega arith) (omega arith) c.args.bytes.now c.in-Whole.used (sym (c.in-Whole.ensures)) in
    record { whole = ap whole_len front.alone }

pub returns-in-Whole-clause-extent : goal.returns-in-Whole-clause-extent
returns-in-Whole-clause-extent c =
    let front = Front-from c.args.limits.bytes c.args.limits.depth c.args.limits.bytes c.args.limits.depth (omega arith) (omega arith) c.args.bytes.now c.in-Whole.used (sym (c.in-Whole.ensures)) in
    (front.some, front.within)
