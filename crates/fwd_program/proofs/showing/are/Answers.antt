use Rattle.std.proofs.Common.{◌∙◌, [], ◌∷◌, sym, ap}
use Rattle.std.specs.String.{string_bytes}
use Rattle.fwd_script.proofs.Results.{second, one_word}
use Rattle.fwd_program.proofs.showing.are.Goals as goal

pub returns : goal.returns
returns c =
    one_word c.as_str.result.now c.args.word.now c.eq.result _ c.eq.ensures
    (second string_bytes c.args.words.now c.index-words-1.result c.if-words-ne2.false c.index-words-1.is ∙ ap (λ w. w ∷ []) (sym c.as_str.ensures.value))
