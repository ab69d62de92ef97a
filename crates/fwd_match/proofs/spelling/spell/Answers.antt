use Rattle.std.proofs.Common.{◌≡◌, [], ◌∷◌}
use Rattle.fwd_match.proofs.Spellings.{spellings_start}
use Rattle.fwd_match.proofs.spelling.spell.Goals as goal

pub loop-rest-init : goal.loop-rest-init
loop-rest-init c =
    let one : c.push.new.self.items ≡ [] ∷ [] = rw (c.in_ok-push.ensures.items, c.new-texts.ensures.items, c.new.ensures) in
    spellings_start c.args.word.now c.push.new.self.items one
