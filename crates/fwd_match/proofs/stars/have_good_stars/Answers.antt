use Rattle.std.proofs.Common.{◌∙◌, sym, false}
use Rattle.std.specs.List.{slice_split}
use Rattle.fwd_match.specs.Patterns.{choices, is_brace}
use Rattle.fwd_match.specs.Asterisks.{all_fine}
use Rattle.fwd_match.proofs.Asterisks.{fine_spellings}
use Rattle.fwd_match.proofs.stars.have_good_stars.Goals as goal

pub loop-rest-init : goal.loop-rest-init
loop-rest-init c =
    fine_spellings c.args.word.now ∙ sym (c.start-fronts.ensures (all_fine (choices false (slice_split is_brace c.args.word.now))))
