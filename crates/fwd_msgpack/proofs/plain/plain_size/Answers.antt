use Rattle.std.proofs.Common.{arith, ◌-◌, ◌∙◌, ℕ, get_or, sym}
use Rattle.fwd_msgpack.proofs.Sizes.{size_told, text_told}
use Rattle.fwd_msgpack.proofs.Plains.{told_here, text_here}
use Rattle.fwd_msgpack.proofs.plain.plain_size.Goals as goal

pub returns-then-matches-clause-plain : goal.returns-then-matches-clause-plain
returns-then-matches-clause-plain c le =
    let first : ℕ = get_or c.args.bytes.now c.args.at 0 in
    let size : ℕ = c.from.result - 159 in
    told_here c.args.bytes.now c.args.at size (λ rest inside. text_told first size (omega arith) (omega arith) (omega arith) rest (omega arith) inside) (omega arith) le

pub returns-then-first-clause-plain : goal.returns-then-first-clause-plain
returns-then-first-clause-plain c le =
    rw c.from-then-first.ensures (text_here c.args.bytes.now c.args.at c.in_ok-len.len c.requires c.if-first.true (sym c.in_ok-len.was ∙ c.u8_at.ensures))

pub returns-in_default-SIZES-clause-plain : goal.returns-in_default-SIZES-clause-plain
returns-in_default-SIZES-clause-plain c le =
    let first : ℕ = get_or c.args.bytes.now c.args.at 0 in
    let size : ℕ = c.from-in_default-SIZES.result in
    told_here c.args.bytes.now c.args.at size (λ rest inside. size_told first c.from-2.result size c.from-2.ensures c.from-in_default-SIZES.ensures (omega (arith, c.type_inv.bytes c.args.at)) rest (omega arith) inside) (omega arith) le
