use Rattle.std.proofs.Common.{◌≡◌, ◌++◌, drop}
use Rattle.std.specs.Prelude.{map}
use Rattle.fwd_reader.proofs.output.figures_of.Given as goal

-- the limits so far, and those that are still to be added
abbrev pub invariant-loop-output : goal.invariant-loop-output
invariant-loop-output g l =
    map (λ f. f.total_limit) l.figures.items
    ++ map (λ output. output.total) (drop l.output-index l.outputs)
    ≡ map (λ output. output.total) l.outputs
