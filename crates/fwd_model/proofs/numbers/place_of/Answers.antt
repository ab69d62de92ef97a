use Rattle.std.proofs.Common.{arith}
use Rattle.fwd_model.proofs.Inserting.{behind_none, behind_more, placed_here, placed_last}
use Rattle.fwd_model.proofs.numbers.place_of.Goals as goal

pub loop-place-init : goal.loop-place-init
loop-place-init c = behind_none c.args.number c.args.numbers.now

pub returns-then-number-numbers-clause-place : goal.returns-then-number-numbers-clause-place
returns-then-number-numbers-clause-place c = placed_here c.args.number c.args.numbers.now c.loop-place.place c.loop-place.invariant c.loop-place-test.true c.if-number-numbers.true

pub loop-place-preserved : goal.loop-place-preserved
loop-place-preserved c = behind_more c.args.number c.args.numbers.now c.loop-place.place c.loop-place.invariant c.loop-place-test.true c.if-number-numbers.false

pub returns-clause-place : goal.returns-clause-place
returns-clause-place c = placed_last c.args.number c.args.numbers.now c.loop-place.place (omega arith) c.loop-place.invariant
