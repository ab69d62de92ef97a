use Rattle.std.proofs.Common.{arith}
use Rattle.std.specs.Option.{option_copied}
use Rattle.fwd_match.specs.Marks.{marks, fields_left}
use Rattle.fwd_match.specs.declared.fields.Mark.TheVariants.{Comma}
use Rattle.fwd_match.proofs.Counts.{times_more}
use Rattle.fwd_match.proofs.counting.count_behind.Goals as goal

pub loop-rest-preserved : goal.loop-rest-preserved
loop-rest-preserved c =
    let more = fields_left (marks (Comma c.args.inside)) (option_copied c.first_field.result.1) in
    let counted = rw c.first_field.ensures.fields at (rw c.in-Some.is at c.loop-rest.invariant.counted) in
    let here = times_more c.args.texts c.first_field.result.0.now more in
    record { bound = c.if-count-gt-WORD_LIMIT.false; counted = omega (arith, counted, here) }
