use Rattle.std.proofs.Common.{arith, ap, length}
use Rattle.fwd_msgpack.specs.Scans.{most_bytes, most_deep, whole_len}
use Rattle.fwd_msgpack.proofs.Rows.{Nonempty-from}
use Rattle.fwd_msgpack.proofs.Wholes.{Front-from}
use Rattle.fwd_msgpack.proofs.members.MembersIterator.next.Goals as goal

pub split_at-requires : goal.split_at-requires
split_at-requires c =
    let front = Front-from most_bytes most_deep most_bytes most_deep (omega arith) (omega arith) c.args.self.now.rest.now c.first_len-used.result c.first_len-used.ensures in
    front.within

pub invariant_of-self : goal.invariant_of-self
invariant_of-self c =
    let split = Nonempty-from c.args.self.now.rest.now c.first_len-used.result c.args.self.now.row c.first_len-used.ensures in
    rw c.split_at.ensures.back record {
      count = omega (arith, c.args.self.now.count, ap length split.values);
      row = split.rest;
    }

pub invariant_of-result : goal.invariant_of-result
invariant_of-result c =
    let front = Front-from most_bytes most_deep most_bytes most_deep (omega arith) (omega arith) c.args.self.now.rest.now c.first_len-used.result c.first_len-used.ensures in
    rw c.split_at.ensures.front record { whole = ap whole_len front.alone }

pub returns-clause-steps : goal.returns-clause-steps
returns-clause-steps c =
    let split = Nonempty-from c.args.self.now.rest.now c.first_len-used.result c.args.self.now.row c.first_len-used.ensures in
    rw (c.split_at.ensures.front, c.split_at.ensures.back) split.values
