use Rattle.std.proofs.Common.{◌≡◌, Bool, ◌&&◌}
use Rattle.std.specs.List.{list_all}
use Rattle.std.specs.Option.{option_copied}
use Rattle.fwd_match.specs.Patterns.{alternatives}
use Rattle.fwd_match.specs.Marks.{marks, fields_left, size_left}
use Rattle.fwd_match.specs.Asterisks.{Front, further, each_front}
use Rattle.fwd_match.specs.declared.fields.Mark.TheVariants.{Comma}
use Rattle.fwd_match.proofs.stars.Fronts.behind_each.Given as goal

abbrev pub invariant-loop-rest : goal.invariant-loop-rest
invariant-loop-rest l = (test : Front → Bool) →
    each_front l.self (λ front.
    list_all (λ bytes. test (further front bytes)) (alternatives l.inside l.text))
    ≡ (each_front l.fronts test
    && each_front l.self (λ front.
    list_all (λ bytes. test (further front bytes))
    (fields_left (marks (Comma l.inside)) (option_copied l.rest))))

abbrev pub decreases-loop-rest : goal.decreases-loop-rest
decreases-loop-rest l = size_left (option_copied l.rest)
