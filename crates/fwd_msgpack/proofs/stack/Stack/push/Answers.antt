use Rattle.std.proofs.Common.{arith, ap, ◌∙◌, ◌<◌, ◌∷◌, length, sum}
use Rattle.fwd_msgpack.proofs.Places.{sum-cons, length-from_last, from_last-push}
use Rattle.fwd_msgpack.proofs.stack.Stack.push.Goals as goal

pub invariant_of-self : goal.invariant_of-self
invariant_of-self c =
    let s = c.self.inside in
    let deep = length-from_last s.depth s.lacking in
    let same = ap length c.self.view_is in
    let room : s.depth < length s.lacking = omega arith in
    let pushed = from_last-push s.depth s.lacking c.args.lacking room in
    let total = sum-cons c.args.lacking c.args.self.now in
    (omega arith, rw (pushed, c.self.view_is) (omega (arith, ap sum c.self.view_is)))

pub returns : goal.returns
returns c =
    let s = c.self.inside in
    let deep = length-from_last s.depth s.lacking in
    let same = ap length c.self.view_is in
    from_last-push s.depth s.lacking c.args.lacking (omega arith) ∙ ap (λ rest. c.args.lacking ∷ rest) c.self.view_is
