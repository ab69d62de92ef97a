use Rattle.std.proofs.Common.{arith, ap, sym, ◌∙◌, ◌-◌, sum, slice_index}
use Rattle.fwd_msgpack.specs.Stacks.{from_last, innermost, less_by}
use Rattle.fwd_msgpack.proofs.Places.{sum-cons, from_last-top, from_last-set_top, empty_less}
use Rattle.fwd_msgpack.proofs.stack.Stack.end_values.Goals as goal

pub invariant_of-self : goal.invariant_of-self
invariant_of-self c =
    let s = c.self.inside in
    let top = slice_index s.lacking (s.depth - 1) in
    let others = from_last (s.depth - 1) s.lacking in
    let top_is = from_last-top s.depth s.lacking (omega arith) in
    let was = ap sum top_is ∙ sum-cons top others in
    let now = sum-cons (top - c.args.items) others in
    let most = ap innermost (sym c.self.view_is ∙ top_is) in
    (omega arith, rw (from_last-set_top s.depth s.lacking (top - c.args.items) (omega arith) (omega arith)) (omega arith))

pub returns-then-self-gt0 : goal.returns-then-self-gt0
returns-then-self-gt0 c =
    let s = c.self.inside in
    let top = slice_index s.lacking (s.depth - 1) in
    from_last-set_top s.depth s.lacking (top - c.args.items) (omega arith) (omega arith)
    ∙ ap (less_by c.args.items) (sym (from_last-top s.depth s.lacking (omega arith)) ∙ c.self.view_is)

pub returns-else-self-gt0 : goal.returns-else-self-gt0
returns-else-self-gt0 c =
    let s = c.self.inside in
    sym c.self.view_is ∙ empty_less c.args.items s.depth s.lacking (omega arith) ∙ ap (less_by c.args.items) c.self.view_is
