use Rattle.std.proofs.Common.{◌≡◌, length, true, false, nat_le, arith}
use Rattle.std.specs.List.{list_all}
use Rattle.std.proofs.lemmas.Bool.Decides.{nat_tests}
use Rattle.fwd_match.specs.Patterns.{expanded, has_good_stars}
use Rattle.fwd_match.specs.declared.limits.TheConstants.{WORD_LIMIT}
use Rattle.fwd_match.proofs.Verdicts.{many_verdict, star_verdict, good_verdict}
use Rattle.fwd_match.proofs.pattern.judge.Goals as goal

pub returns-then-not-has_few_words-clause-fault : goal.returns-then-not-has_few_words-clause-fault
returns-then-not-has_few_words-clause-fault c =
    let text = c.args.text.now in
    let more : nat_le (length (expanded text)) WORD_LIMIT ≡ false = cc in
    many_verdict text c.in_ok-check_words.ensures.ok.0 c.in_ok-check_words.ensures.ok.1 (grind (arith, nat_tests, more))

pub returns-then-not-has_good_stars-clause-fault : goal.returns-then-not-has_good_stars-clause-fault
returns-then-not-has_good_stars-clause-fault c =
    let text = c.args.text.now in
    let few : nat_le (length (expanded text)) WORD_LIMIT ≡ true = cc in
    let bad : list_all has_good_stars (expanded text) ≡ false = cc in
    star_verdict text c.in_ok-check_words.ensures.ok.0 c.in_ok-check_words.ensures.ok.1 (grind (arith, nat_tests, few)) bad

pub returns-clause-ok : goal.returns-clause-ok
returns-clause-ok c =
    let text = c.args.text.now in
    let few : nat_le (length (expanded text)) WORD_LIMIT ≡ true = cc in
    let good : list_all has_good_stars (expanded text) ≡ true = cc in
    good_verdict text c.in_ok-check_words.ensures.ok.0 c.in_ok-check_words.ensures.ok.1 (grind (arith, nat_tests, few)) good
