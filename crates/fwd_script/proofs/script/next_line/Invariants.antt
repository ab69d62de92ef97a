use Rattle.std.proofs.Common.{◌≡◌, ◌==◌, false, take}
use Rattle.std.specs.List.{list_any}
use Rattle.fwd_script.proofs.script.next_line.Given as goal

-- no line feed so far
abbrev pub invariant-loop-index : goal.invariant-loop-index
invariant-loop-index l = list_any (λ b. b == 10) (take l.index l.text) ≡ false
