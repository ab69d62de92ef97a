use Rattle.std.proofs.Common.{◌≡◌, ◌++◌, drop}
use Rattle.std.specs.Prelude.{map}
use Rattle.fwd_reader.specs.Entering.{owed_limit}
use Rattle.fwd_reader.proofs.admission.Admission.new.Given as goal

-- what is owed at the outputs so far, and at those that are still to be added, and how much may be
abbrev pub invariant-loop-output : goal.invariant-loop-output
invariant-loop-output g l =
    (map (λ line. line.owed.owed) l.lines.items ++ map (λ output. 0) (drop l.output-index l.outputs)
    ≡ map (λ output. 0) l.outputs)
    × (map (λ line. line.owed.limit) l.lines.items
    ++ map (λ output. owed_limit output.total) (drop l.output-index l.outputs)
    ≡ map (λ output. owed_limit output.total) l.outputs)
