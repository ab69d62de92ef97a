use Rattle.std.proofs.Common.{◌≡◌, take}
use Rattle.fwd_match.specs.Patterns.{alternatives, each_with}
use Rattle.fwd_match.proofs.spelling.extended.Given as goal

abbrev pub invariant-loop-front : goal.invariant-loop-front
invariant-loop-front l =
    l.out.items ≡ each_with (take l.front-index l.texts) (alternatives l.inside l.text)
