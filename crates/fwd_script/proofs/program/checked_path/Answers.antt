use Rattle.std.proofs.Common.{◌≡◌, ◌∙◌, [], ◌∷◌, sym, ap}
use Rattle.std.specs.Prelude.{codes}
use Rattle.std.specs.String.{string_bytes}
use Rattle.fwd_script.proofs.WordLemmas.{bytes_eq-true}
use Rattle.fwd_script.proofs.Results.{third}
use Rattle.fwd_script.proofs.program.checked_path.Goals as goal

pub returns-then-eq : goal.returns-then-eq
returns-then-eq c =
    let word : string_bytes c.index-words-1.result ≡ codes "check" =
    sym c.as_str.ensures.value ∙ bytes_eq-true c.as_str.result.now (codes "check") (sym c.eq.ensures ∙ c.if-eq.true) in
    third string_bytes c.args.words.now c.index-words-1.result c.index-words-2.result c.if-words-ne3.false c.index-words-1.is c.index-words-2.is
    ∙ ap (λ w. w ∷ string_bytes c.index-words-2.result ∷ []) word ∙ ap (λ w. codes "check" ∷ w ∷ []) (sym c.as_str-then-eq.ensures.value)
