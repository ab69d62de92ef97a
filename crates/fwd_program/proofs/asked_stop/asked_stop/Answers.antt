use Rattle.std.proofs.Common.{◌≡◌, ◌-◌, ◌∙◌, ◌∷◌, map, length, take, drop, sym, ap, rules}
use Rattle.std.specs.Prelude.{codes}
use Rattle.std.specs.String.{string_bytes}
use Rattle.fwd_script.proofs.WordLemmas.{bytes_eq-true}
use Rattle.fwd_program.proofs.Words.{front}
use Rattle.fwd_program.proofs.asked_stop.asked_stop.Goals as goal

pub returns-in_ok-seconds : goal.returns-in_ok-seconds
returns-in_ok-seconds c =
    let word : string_bytes c.index-words-1.result ≡ codes "stop" =
    sym c.as_str.ensures.value ∙ bytes_eq-true c.as_str.result.now (codes "stop") (sym c.eq.ensures ∙ c.if-eq.true) in
    let behind = map string_bytes (take (length c.args.words.now - 3) (drop 3 c.args.words.now)) in (
      behind,
      front string_bytes c.args.words.now c.index-words-1.result c.index-words-2.result c.if-words-lt3.false c.index-words-1.is c.index-words-2.is
          ∙ ap (λ w. w ∷ string_bytes c.index-words-2.result ∷ behind) word ∙ ap (λ w. codes "stop" ∷ w ∷ behind) (sym c.as_str-path.ensures.value),
      search rules,
    )
