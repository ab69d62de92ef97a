use Rattle.std.proofs.Common.{◌≡◌, ◌+◌, ◌-◌, ℕ, subst, arith}
use Rattle.fwd_msgpack.specs.Plain.{AreMembers}
use Rattle.fwd_msgpack.proofs.Plains.{members_more}
use Rattle.fwd_msgpack.proofs.plain.plain_items.Goals as goal

pub loop-left-preserved : goal.loop-left-preserved
loop-left-preserved c =
    let bytes = c.args.bytes.now in
    let before = c.loop-left.invariant in
    let size = c.in-Some.size in
    let one : c.args.most - c.loop-left.left + 1 ≡ c.args.most - (c.loop-left.left - 1) = omega arith in
    let on = members_more bytes (c.args.most - c.loop-left.left) c.loop-left.used size before.same (c.in-Some.ensures.plain (omega arith)) (omega arith) in
    record {
      most = omega arith;
      inside = omega arith;
      none = λ e. absurd (omega (arith, e));
      same = subst (λ (k : ℕ). AreMembers bytes k (c.loop-left.used + size)) one on;
    }
