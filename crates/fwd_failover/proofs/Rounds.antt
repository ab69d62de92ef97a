-- Looking through an order part by part.
use Rattle.std.proofs.Common.{◌≡◌, ℕ, Bool, List, ◌++◌, take, drop, sym, ap, ◌∙◌}
use Rattle.std.specs.List.{find}
use Rattle.std.specs.Option.{option_or}
use Rattle.std.proofs.lemmas.List.Folds.{find-append}
use Rattle.fwd_failover.specs.Choices.{round_from}

-- what lies ahead, then what was passed over, then the rest
pub first_of_three : (test : ℕ → Bool) (place : ℕ) (servers rest : List ℕ)
    → option_or (option_or (find test (drop place servers)) (find test (take place servers)))
    (find test rest)
    ≡ find test (round_from place servers ++ rest)
first_of_three test place servers rest =
    ap (λ o. option_or o (find test rest)) (sym (find-append test (drop place servers) (take place servers)))
    ∙ sym (find-append test (round_from place servers) rest)
