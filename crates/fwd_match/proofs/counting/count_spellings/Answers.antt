use Rattle.std.proofs.Common.{◌*◌, not, length, arith}
use Rattle.std.specs.Option.{option_copied}
use Rattle.fwd_match.specs.Patterns.{alternatives}
use Rattle.fwd_match.specs.Marks.{marks, fields_left}
use Rattle.fwd_match.specs.declared.fields.Mark.TheVariants.{Brace}
use Rattle.fwd_match.proofs.Counts.{count_start, count_grows}
use Rattle.fwd_match.proofs.counting.count_spellings.Goals as goal

pub loop-rest-init : goal.loop-rest-init
loop-rest-init c = record { bound = omega arith; counted = count_start c.args.word.now }

pub returns-in_err-texts-clause-none : goal.returns-in_err-texts-clause-none
returns-in_err-texts-clause-none c =
    let more = fields_left (marks Brace) (option_copied c.first_field.result.1) in
    let counted = rw c.first_field.ensures.fields at (rw c.in-Some.is at c.loop-rest.invariant.counted) in
    let grows = count_grows (not c.loop-rest.inside) (c.loop-rest.texts * length (alternatives c.loop-rest.inside c.first_field.result.0.now)) more in
    rw c.from_residual.ensures (omega (arith, counted, grows, (c.in_err-texts.ensures {u = tt}).none))
