use Rattle.std.proofs.Common.{◌∙◌, [], ◌∷◌, sym, ap}
use Rattle.std.specs.Prelude.{codes}
use Rattle.std.specs.String.{string_bytes}
use Rattle.fwd_script.proofs.Results.{second, one_word}
use Rattle.fwd_script.proofs.program.is_replay.Goals as goal

pub returns : goal.returns
returns c =
    one_word c.as_str.result.now (codes "replay") c.eq.result _ c.eq.ensures
    (second string_bytes c.args.words.now c.index-words-1.result c.if-words-ne2.false c.index-words-1.is ∙ ap (λ w. w ∷ []) (sym c.as_str.ensures.value))
