use Rattle.std.proofs.Common.{length}
use Rattle.fwd_script.proofs.ScriptLemmas.{IsSplit}
use Rattle.fwd_script.proofs.script.split_script.Given as goal

abbrev pub invariant-loop-line : goal.invariant-loop-line
invariant-loop-line l = IsSplit l.script l.rest l.lines_before

abbrev pub decreases-loop-line : goal.decreases-loop-line
decreases-loop-line l = length l.rest
