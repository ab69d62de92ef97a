-- What the program's words ask for, and what it tells at its end.
use Rattle.std.specs.Prelude.{◌≡◌, ◌≢◌, ℕ, List, [], ◌∷◌, ◌++◌, codes, Option, Some, None, IfSome}
use Rattle.std.specs.Io.KnownBytes.{Keeps}
use Rattle.fwd_script.specs.Replay.{Replays}
use Rattle.fwd_script.specs.Checks.{Checks}
use Rattle.fwd_script.specs.Statuses.{exit_code, status_text}
use Rattle.fwd_script.specs.declared.status.Status.{Status}
use Rattle.fwd_script.specs.declared.status.Status.TheVariants as statuses
use Rattle.fwd_script.specs.declared.program.Command.{Command}
use Rattle.fwd_script.specs.declared.program.Command.TheVariants.{Replay, Check}
use Rattle.fwd_script.specs.declared.program.End.{End}
use Rattle.fwd_script.specs.declared.program.End.TheVariants.{Usage, Ran}

-- the words after the program's own name
abbrev pub words_behind : List (List ℕ) → List (List ℕ)
words_behind [] = []
words_behind (name ∷ words) = words

-- what words ask for: `replay`, `check` and a path, or nothing that the program knows
abbrev pub Asks : List (List ℕ) → Option Command → Type 0
Asks words (Some Replay) = words ≡ codes "replay" ∷ []
Asks words (Some (Check path)) = words ≡ codes "check" ∷ path.now ∷ []
Asks words None =
    (words ≢ codes "replay" ∷ [])
    × ((path : List ℕ) → words ≢ codes "check" ∷ path ∷ [])

-- the exit status of an end
abbrev pub end_code : End → ℕ
end_code Usage = 2
end_code (Ran status) = exit_code status

-- what is told on standard error, without its line feed
abbrev pub end_text : End → List ℕ
end_text Usage = codes "usage: forward_relay run CONFIG [TURNS] | stop CONFIG [SECONDS] | check CONFIG | replay"
end_text (Ran status) = status_text status

-- what is told on standard error: nothing where all is done
abbrev pub told : End → List ℕ
told (Ran statuses.Done) = []
told end = end_text end ++ 10 ∷ []

-- how a command was carried out, by the bytes of standard input where they are known, and what it
-- wrote
abbrev pub CarriesOut : Command → Status → Option (List ℕ) → Option (List ℕ)
    → Option (List ℕ) → Type 0
CarriesOut Replay status input old new =
    (script : List ℕ) × IfSome input (λ left. script ≡ left) × Replays status script old new
CarriesOut (Check path) status input old new = (text : List ℕ) × Checks status text old new

-- What words come to: a replay, a check, or a usage fault that writes nothing.
pub record Performs (words : List (List ℕ)) (end : End)
    (input old new : Option (List ℕ)) : Type 0 where
  pub replay : words ≡ codes "replay" ∷ []
      → (status : Status) × (end ≡ Ran status) × CarriesOut Replay status input old new
  pub check : (path : List ℕ) → words ≡ codes "check" ∷ path ∷ []
      → (status : Status) × (end ≡ Ran status)
      × ((text : List ℕ) × Checks status text old new)
  pub usage : words ≢ codes "replay" ∷ []
      → ((path : List ℕ) → words ≢ codes "check" ∷ path ∷ [])
      → (end ≡ Usage) × Keeps old new
