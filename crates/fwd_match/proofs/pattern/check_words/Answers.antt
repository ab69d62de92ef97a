use Rattle.std.proofs.Common.{◌≡◌, ◌≢◌, ◌∷◌, ◌∙◌, length, eqb, arith, false}
use Rattle.std.specs.Prelude.{filter}
use Rattle.std.specs.List.{list_all}
use Rattle.std.specs.Option.{option_copied}
use Rattle.fwd_match.specs.Patterns.{words, is_something, is_blank, has_good_braces}
use Rattle.fwd_match.specs.Marks.{fields_left}
use Rattle.fwd_match.proofs.Verdicts.{empty_verdict, brace_verdict, word_stays, bad_word, still_some}
use Rattle.fwd_match.proofs.pattern.check_words.Goals as goal

pub returns-then-not-has_good_braces-clause-fault :
    goal.returns-then-not-has_good_braces-clause-fault
returns-then-not-has_good_braces-clause-fault c =
    let text = c.args.text.now in
    let word = c.first_field.result.0.now in
    let more = fields_left is_blank (option_copied c.first_field.result.1) in
    let here : eqb (length word) 0 ≡ false = cc in
    let none = rw (word_stays word more here) at (rw c.first_field.ensures.fields at (rw c.in-Some.is at c.loop-rest.invariant.none)) in
    let good = rw c.first_field.ensures.fields at (rw c.in-Some.is at c.loop-rest.invariant.good) in
    let some : length (words text) ≢ 0 = still_some c.loop-rest.found (length (words text)) (word ∷ filter is_something more) c.loop-rest.invariant.some none (omega arith) in
    let bad : list_all has_good_braces (words text) ≡ false = good ∙ bad_word word more here cc in
    brace_verdict text some bad

pub returns-else-found-clause-fault : goal.returns-else-found-clause-fault
returns-else-found-clause-fault c =
    let none : length (words c.args.text.now) ≡ 0 = rw c.in_default.is at (c.loop-rest.invariant.none c.if-found.false) in
    empty_verdict c.args.text.now none
