use Rattle.std.proofs.Common.{arith, ap, sym, ◌∙◌, length}
use Rattle.fwd_msgpack.proofs.Places.{length-from_last}
use Rattle.fwd_msgpack.proofs.stack.Stack.len.Goals as goal

pub returns-clause-len : goal.returns-clause-len
returns-clause-len c = sym (ap length (sym c.self.view_is) ∙ length-from_last c.self.inside.depth c.self.inside.lacking)

pub returns-clause-most : goal.returns-clause-most
returns-clause-most c = omega (arith, ap length c.self.view_is, length-from_last c.self.inside.depth c.self.inside.lacking)
