use Rattle.std.proofs.Common.{◌≡◌, ◌++◌, map}
use Rattle.std.specs.Option.{option_copied}
use Rattle.fwd_match.specs.Patterns.{alternatives}
use Rattle.fwd_match.specs.Marks.{marks, fields_left, size_left}
use Rattle.fwd_match.specs.declared.fields.Mark.TheVariants.{Comma}
use Rattle.fwd_match.proofs.spelling.put_each.Given as goal

abbrev pub invariant-loop-rest : goal.invariant-loop-rest
invariant-loop-rest l =
    l.initial.out.items ++ map (λ more. l.front ++ more) (alternatives l.inside l.text)
    ≡ l.out.items
    ++ map (λ more. l.front ++ more) (fields_left (marks (Comma l.inside)) (option_copied l.rest))

abbrev pub decreases-loop-rest : goal.decreases-loop-rest
decreases-loop-rest l = size_left (option_copied l.rest)
