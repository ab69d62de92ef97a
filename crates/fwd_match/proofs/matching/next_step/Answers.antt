use Rattle.std.proofs.Common.{◌≡◌, true, false}
use Rattle.fwd_match.specs.Patterns.{is_stars, fits}
use Rattle.fwd_match.proofs.Matchings.{both_end, word_ends, takes_stars, takes_one, misses, too_short}
use Rattle.fwd_match.proofs.matching.next_step.Goals as goal

pub returns-then-is_none : goal.returns-then-is_none
returns-then-is_none c = rw c.in_default.is (both_end c.args.at.tag c.if-is_none.ensures)

pub returns-else-is_none : goal.returns-else-is_none
returns-else-is_none c = rw c.in_default.is (word_ends c.args.at.tag c.if-is_none.ensures)

pub returns-then-is_stars : goal.returns-then-is_stars
returns-then-is_stars c =
    let stars : is_stars c.first_field.result.0.now ≡ true = cc in
    rw (c.in-Some.is, c.first_field.ensures.fields) (takes_stars _ _ _ stars)

pub returns-in_default-tag : goal.returns-in_default-tag
returns-in_default-tag c =
    let other : is_stars c.first_field.result.0.now ≡ false = cc in
    rw (c.in-Some.is, c.first_field.ensures.fields, c.in_default-tag.is) (too_short _ _ other)

pub returns-then-fits : goal.returns-then-fits
returns-then-fits c =
    let other : is_stars c.first_field.result.0.now ≡ false = cc in
    let fit : fits c.first_field.result.0.now c.first_field-2.result.0.now ≡ true = cc in
    rw (c.in-Some.is, c.first_field.ensures.fields, c.in-Some-tag.is, c.first_field-2.ensures.fields) (takes_one _ _ _ _ other fit)

pub returns-else-fits : goal.returns-else-fits
returns-else-fits c =
    let other : is_stars c.first_field.result.0.now ≡ false = cc in
    let miss : fits c.first_field.result.0.now c.first_field-2.result.0.now ≡ false = cc in
    rw (c.in-Some.is, c.first_field.ensures.fields, c.in-Some-tag.is, c.first_field-2.ensures.fields) (misses _ _ _ _ other miss)
