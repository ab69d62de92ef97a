-- What is known where a run over lines stops at a line.
use Rattle.std.specs.Prelude.{◌≡◌, ◌⊎◌, ℕ, List, Option, Some, None, Result, Ok, IsErr}
use Rattle.std.specs.Io.KnownBytes.{Keeps}
use Rattle.fwd_model.specs.declared.event.Event.{Event}
use Rattle.fwd_model.specs.declared.answer.Answer.{Answer}
use Rattle.fwd_script.specs.Replay.{answer_line}
use Rattle.fwd_script.specs.Writes.{AppendsFront}
use Rattle.fwd_script.specs.declared.status.Status.{Status}
use Rattle.fwd_script.specs.declared.status.Status.TheVariants as statuses
use Rattle.fwd_script.specs.declared.stepping.StopReason.{StopReason}
use Rattle.fwd_script.specs.declared.stepping.StopReason.TheVariants.{Bad, Memory, Output}

-- At a line that was read as an event, as none, or not when out of memory, from a state to a state,
-- with what was written. Where memory ran out later the line is an event.
abbrev pub Stops : {E S : Type 0} → StopReason → (S → Event → Answer) → (S → Event → S) → S
    → S → Result (Option Event) E → Option (List ℕ) → Option (List ℕ) → Type 0
Stops Bad answer_to next s t read old new = (read ≡ Ok None) × Keeps old new
Stops Memory answer_to next s t read old new =
    Keeps old new
    × ((IsErr read × (t ≡ s))
    ⊎ ((event : Event) × (read ≡ Ok (Some event)) × ((t ≡ s) ⊎ (t ≡ next s event))))
Stops (Output failed) answer_to next s t read old new =
    (event : Event) × (read ≡ Ok (Some event))
    × AppendsFront old new (answer_line (answer_to s event))

-- how a run ends that stops so at the line of a number
abbrev pub stop_status : StopReason → ℕ → Status
stop_status Bad number = statuses.BadLine number
stop_status Memory number = statuses.Memory
stop_status (Output failed) number = statuses.Output failed
