use Rattle.std.proofs.Common.{refl, lit≤}
use Rattle.fwd_msgpack.proofs.stack.Stack.new.Goals as goal

pub invariant_of-result : goal.invariant_of-result
invariant_of-result c = (lit≤ tt, refl)

pub returns : goal.returns
returns c = refl
