use Rattle.std.proofs.Common.{arith, ap, sym, ◌∙◌, ◌-◌, sum, slice_index, Some}
use Rattle.fwd_msgpack.specs.Scans.{after_value}
use Rattle.fwd_msgpack.specs.Stacks.{from_last}
use Rattle.fwd_msgpack.proofs.Places.{sum-cons, from_last-top, from_last-set_top, after_value-lacking}
use Rattle.fwd_msgpack.proofs.stack.Stack.end_value.Goals as goal

pub invariant_of-self-then-lacking-gt0 : goal.invariant_of-self-then-lacking-gt0
invariant_of-self-then-lacking-gt0 c =
    let s = c.loop-self.self-inside in
    let top = slice_index s.lacking (s.depth - 1) in
    let others = from_last (s.depth - 1) s.lacking in
    let was = ap sum (from_last-top s.depth s.lacking (omega arith)) ∙ sum-cons top others in
    let now = sum-cons (top - 1) others in
    (c.loop-self.invariant.most, rw (from_last-set_top s.depth s.lacking (top - 1) (omega arith) (omega arith)) (omega arith))

pub returns-then-lacking-gt0 : goal.returns-then-lacking-gt0
returns-then-lacking-gt0 c =
    let s = c.loop-self.self-inside in
    let top = slice_index s.lacking (s.depth - 1) in
    let others = from_last (s.depth - 1) s.lacking in
    sym c.loop-self.invariant.same
    ∙ ap after_value (from_last-top s.depth s.lacking (omega arith))
    ∙ after_value-lacking top others (omega arith)
    ∙ ap Some (sym (from_last-set_top s.depth s.lacking (top - 1) (omega arith) (omega arith)))
