-- Words that ask for a check are performed by one.
use Rattle.std.proofs.Common.{◌≡◌, ℕ, List, [], ◌∷◌, Option, refl, sym, ◌∙◌}
use Rattle.std.specs.Prelude.{codes}
use Rattle.fwd_script.specs.Checks.{Checks}
use Rattle.fwd_script.specs.Program.{Performs}
use Rattle.fwd_script.specs.declared.status.Status.{Status}
use Rattle.fwd_script.specs.declared.program.End.TheVariants.{Ran}

-- two words are not one
two-words : (path : List ℕ) → codes "check" ∷ path ∷ [] ≡ codes "replay" ∷ [] → ⊥
two-words path e = cc

pub performs-check : (words : List (List ℕ)) (path : List ℕ) (status : Status) (text : List ℕ)
    (input old new : Option (List ℕ)) → words ≡ codes "check" ∷ path ∷ []
    → Checks status text old new → Performs words (Ran status) input old new
performs-check words path status text input old new is checks = record {
  replay = λ e. absurd (two-words path (sym is ∙ e));
  check = λ p e. (status, refl, (text, checks));
  usage = λ no other. absurd (other path is);
}
