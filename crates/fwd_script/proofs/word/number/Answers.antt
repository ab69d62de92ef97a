use Rattle.std.proofs.Common.{◌<◌, length, arith, rules, sym}
use Rattle.std.proofs.lemmas.Bool.Decides.{nat_tests}
use Rattle.fwd_script.proofs.WordLemmas.{number_of-empty, number_of-leading_zero, number_of-option, no_leading_zero}
use Rattle.fwd_script.proofs.word.number.Goals as goal
use Rattle.fwd_script.proofs.word.number.Goals.{then-is_empty-via-then-is_empty, then-is_empty-via-else-is_empty+then-has_leading_zero}

pub returns-then-is_empty : goal.returns-then-is_empty
returns-then-is_empty c =
    elim c.then-is_empty.branch [
      | then-is_empty-via-then-is_empty w ↦ sym (number_of-empty c.args.word.now (grind (arith, nat_tests)))
      | then-is_empty-via-else-is_empty+then-has_leading_zero w ↦
          let found = w.has_leading_zero.ensures.0 w.if-has_leading_zero.true in
          sym (number_of-leading_zero c.args.word.now found.0 found.1)
    ]

pub returns : goal.returns
returns c =
    let some : 0 < length c.args.word.now = grind (arith, nat_tests) in
    let no_zero = no_leading_zero c.args.word.now c.has_leading_zero.result some c.has_leading_zero.ensures.1 c.if-has_leading_zero.false in
    number_of-option c.args.word.now c.digits.result some no_zero c.digits.ensures (search rules)
