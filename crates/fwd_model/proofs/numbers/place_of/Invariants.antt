use Rattle.fwd_model.proofs.Inserting.{IsBehind}
use Rattle.fwd_model.proofs.numbers.place_of.Given as goal

abbrev pub invariant-loop-place : goal.invariant-loop-place
invariant-loop-place l = IsBehind l.number l.numbers l.place
