-- A number that is read between two texts.
use Rattle.std.proofs.Common.{◌≡◌, ℕ, ◌^◌, List, ◌++◌, Option, Some, None, sym, ap, ◌∙◌}
use Rattle.std.specs.Prelude.{IfSome}
use Rattle.fwd_script.specs.Words.{number_of}
use Rattle.fwd_listeners.specs.Answers.{said}
use Rattle.fwd_script.proofs.WordLemmas.{number_of-some}

pub between : (text rest digits front back : List ℕ) (number : Option ℕ)
    → text ≡ front ++ rest → rest ≡ digits ++ back → number ≡ number_of (2 ^ 64) digits
    → IfSome number (λ n. text ≡ said front n back)
between text rest digits front back None first last is = tt
between text rest digits front back (Some n) first last is =
    let spelled = (number_of-some (2 ^ 64) digits n (sym is)).1 in
    first ∙ ap (λ (bs : List ℕ). front ++ bs) (last ∙ ap (λ (bs : List ℕ). bs ++ back) spelled)
