use Rattle.std.proofs.Common.{◌+◌, ◌≤◌, length}
use Rattle.fwd_script.specs.Script.{lines_of}
use Rattle.fwd_script.proofs.ReplayLemmas.{IsAnswered}
use Rattle.fwd_script.proofs.stepping.answer_lines.Given as goal

abbrev pub invariant-loop-line : goal.invariant-loop-line
invariant-loop-line g l =
    IsAnswered g.S.Step.answer_to g.S.Step.next l.initial.relay l.lines_before (lines_of l.text) (g.W.Write.contents l.initial.writer) l.relay l.number (lines_of l.rest) (g.W.Write.contents l.writer)
    × (l.number + length l.rest ≤ l.lines_before + length l.text)

abbrev pub decreases-loop-line : goal.decreases-loop-line
decreases-loop-line g l = length l.rest
