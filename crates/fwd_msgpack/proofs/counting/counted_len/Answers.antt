use Rattle.std.proofs.Common.{arith, ◌≡◌, ℕ, ◌≤◌, ◌+◌, ◌-◌, length, subst}
use Rattle.fwd_msgpack.proofs.Counts.{Stands, stands_first, stands_plain, stands_item, stands_last}
use Rattle.fwd_msgpack.proofs.counting.counted_len.Goals as goal

pub loop-most-init : goal.loop-most-init
loop-most-init c =
    let one : 1 ≡ c.min-end.result - (c.min-end.result - 1) = omega arith in
    record {
      inside = omega arith;
      fits = omega arith;
      most = omega arith;
      room = omega arith;
      stands = subst (λ (k : ℕ). Stands c.args.limits.bytes c.args.limits.depth c.args.bytes.now 0 k c.args.limits.depth) one (stands_first c.args.limits.bytes c.args.limits.depth c.args.bytes.now);
    }

pub loop-most-preserved-in-Some : goal.loop-most-preserved-in-Some
loop-most-preserved-in-Some c =
    let at = c.loop-most.invariant in
    let item = c.in-Some.ensures in
    let end = c.min-end.result in
    let left : end - c.loop-most.most - 1 ≡ end - (c.loop-most.most + 1) = omega arith in
    let inside : c.loop-most.used + c.in-Some.size ≤ length c.args.bytes.now = omega (arith, at.inside) in
    let stands = stands_plain _ _ c.args.bytes.now c.loop-most.used (end - c.loop-most.most) c.loop-most.heads c.in-Some.size at.stands (omega arith) (item.plain inside) inside (omega (arith, at.fits)) in
    record {
      inside = at.inside;
      fits = at.fits;
      most = omega arith;
      room = omega arith;
      stands = subst (λ (k : ℕ). Stands c.args.limits.bytes c.args.limits.depth c.args.bytes.now (c.loop-most.used + c.in-Some.size) k c.loop-most.heads) left stands;
    }

pub loop-most-preserved : goal.loop-most-preserved
loop-most-preserved c =
    let at = c.loop-most.invariant in
    let item = c.in_ok-size.ensures in
    let end = c.min-end.result in
    let size = c.in_ok-size.size in
    let count = c.in_ok-size.members in
    let left : end - c.loop-most.most + count - 1 ≡ end - (c.loop-most.most + 1 - count) = omega (arith, at.most) in
    let inside : c.loop-most.used + size ≤ length c.args.bytes.now = omega (arith, at.inside, at.most) in
    let stands = stands_item _ _ c.args.bytes.now c.loop-most.used (end - c.loop-most.most) c.loop-most.heads size count at.stands (omega arith) (omega arith) item.item inside (omega (arith, at.fits, at.most)) in
    record {
      inside = at.inside;
      fits = at.fits;
      most = omega (arith, at.most);
      room = omega arith;
      stands = subst (λ (k : ℕ). Stands c.args.limits.bytes c.args.limits.depth c.args.bytes.now (c.loop-most.used + size) k (c.loop-most.heads - 1)) left stands;
    }

pub returns : goal.returns
returns c = stands_last _ _ c.args.bytes.now c.loop-most.used (c.min-end.result - c.loop-most.most) c.loop-most.heads c.loop-most.invariant.stands (omega (arith, c.loop-most-test.false))
