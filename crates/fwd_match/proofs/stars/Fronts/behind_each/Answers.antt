use Rattle.std.proofs.Common.{◌∙◌, sym}
use Rattle.std.specs.Option.{option_copied}
use Rattle.fwd_match.specs.Patterns.{alternatives}
use Rattle.fwd_match.specs.Marks.{marks, fields_left}
use Rattle.fwd_match.specs.declared.fields.Mark.TheVariants.{Comma}
use Rattle.fwd_match.proofs.Asterisks.{alternative_more, no_test, and_true}
use Rattle.fwd_match.proofs.stars.Fronts.behind_each.Goals as goal

pub loop-rest-preserved : goal.loop-rest-preserved
loop-rest-preserved c = λ test.
    let left = fields_left (marks (Comma c.args.inside)) in
    alternative_more c.args.self c.loop-rest.fronts c.behind.result c.or-fronts.result test c.first_field.result.0.now
    (alternatives c.args.inside c.args.text.now) (left (option_copied c.loop-rest.rest)) (left (option_copied c.first_field.result.1))
    (c.loop-rest.invariant test)
    (rw c.in-Some.is c.first_field.ensures.fields)
    (c.behind.ensures test)
    (c.or-fronts.ensures test)

pub returns : goal.returns
returns c = λ test.
    let invariant = rw c.in_default.is at (c.loop-rest.invariant test) in
    sym (invariant ∙ rw (no_test c.args.self) (and_true _))
