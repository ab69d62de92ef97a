-- What a replay writes, and how it ends.
use Rattle.std.specs.Prelude.{◌≡◌, ◌⊎◌, Result, Ok, Err, ℕ, ◌+◌, List, [], ◌∷◌, ◌++◌, Option, Some, None, is_none, if◌then◌else◌, map, length, MatchOption}
use Rattle.std.specs.List.{flat_map}
use Rattle.std.specs.Option.{option_map_or}
use Rattle.std.specs.Io.KnownBytes.{Appends, Keeps}
use Rattle.fwd_model.specs.declared.event.Event.{Event}
use Rattle.fwd_model.specs.declared.answer.Answer.{Answer}
use Rattle.fwd_model.specs.declared.config.Config.{Config}
use Rattle.fwd_model.specs.Outcome.{answer_of, state_of}
use Rattle.fwd_model.specs.Step.{step}
use Rattle.fwd_model.specs.History.{History, opening, histories}
use Rattle.fwd_model.specs.Live.{LiveRelay, live}
use Rattle.fwd_script.specs.Configs.{Configures}
use Rattle.fwd_script.specs.Lines.{event_of}
use Rattle.fwd_script.specs.Texts.{text_of}
use Rattle.fwd_script.specs.Script.{lines_of, settings_of, event_lines, head_len}
use Rattle.fwd_script.specs.Writes.{AppendsFront}
use Rattle.fwd_script.specs.declared.status.Status.{Status}
use Rattle.fwd_script.specs.declared.status.Status.TheVariants.{Done, BadSettings, BadLine, Memory, Input, Output}

-- what the abstract relay answers to an event
abbrev pub answer_to : History → Event → Answer
answer_to h e = answer_of (step histories h e)

-- and its state afterwards
abbrev pub next : History → Event → History
next h e = state_of h (step histories h e)

-- the events of the lines before the first that is none
abbrev pub events_of : List (List ℕ) → List Event
events_of [] = []
events_of (line ∷ lines) = option_map_or (λ event. event ∷ events_of lines) (event_of line) []

-- the number of the first line that is no event, where count lines stand before these
abbrev pub bad_line : ℕ → List (List ℕ) → Option ℕ
bad_line count [] = None
bad_line count (line ∷ lines) =
    if is_none (event_of line) then Some (count + 1) else bad_line (count + 1) lines

-- the answers to events one after the other, from a state
abbrev pub answers : {S : Type 0} → (S → Event → Answer) → (S → Event → S) → S
    → List Event → List Answer
answers answer_to next s [] = []
answers answer_to next s (event ∷ events) =
    answer_to s event ∷ answers answer_to next (next s event) events

-- the line of an answer, with its line feed
abbrev pub answer_line : Answer → List ℕ
answer_line answer = text_of answer ++ 10 ∷ []

-- what is written for lines, from a state: the line of each answer to their events
abbrev pub output : {S : Type 0} → (S → Event → Answer) → (S → Event → S) → S
    → List (List ℕ) → List ℕ
output answer_to next s lines = flat_map answer_line (answers answer_to next s (events_of lines))

-- the state after events
abbrev pub after : {S : Type 0} → (S → Event → S) → S → List Event → S
after next s [] = s
after next s (event ∷ events) = after next (next s event) events

-- each line is an event: one of the events each
abbrev pub AllAreEvents : List (List ℕ) → Type 0
AllAreEvents lines = map event_of lines ≡ map Some (events_of lines)

-- the events of the lines before one of them were answered, and no more was written than their
-- answers
pub record StopsAtLine {S : Type 0} (answer_to : S → Event → Answer) (next : S → Event
    → S) (s : S)
    (lines : List (List ℕ)) (old new : Option (List ℕ)) : Type 0 where
  pub front : List (List ℕ)
  pub line : List ℕ
  pub rest : List (List ℕ)
  pub parts : lines ≡ front ++ line ∷ rest
  pub are_events : AllAreEvents front
  pub wrote : Appends old new (output answer_to next s front)

-- The same, and the state is the one after those events, or after the event of that line too, whose
-- answer was not written.
pub record MeetsMemory {S : Type 0} (answer_to : S → Event → Answer) (next : S → Event
    → S) (s t : S)
    (lines : List (List ℕ)) (old new : Option (List ℕ)) : Type 0 where
  pub stops : StopsAtLine answer_to next s lines old new
  pub state : (t ≡ after next s (events_of stops.front))
      ⊎ (t ≡ after next s (events_of (stops.front ++ stops.line ∷ [])))

-- How a run over lines ended, where count lines stood before them, and what it wrote.
abbrev pub Ends : {S : Type 0} → Status → (S → Event → Answer) → (S → Event → S) → S
    → ℕ → List (List ℕ) → Option (List ℕ) → Option (List ℕ) → Type 0
Ends Done answer_to next s count lines old new =
    (bad_line count lines ≡ None) × Appends old new (output answer_to next s lines)
Ends (BadLine n) answer_to next s count lines old new =
    (bad_line count lines ≡ Some n) × Appends old new (output answer_to next s lines)
Ends Memory answer_to next s count lines old new = StopsAtLine answer_to next s lines old new
Ends (Output failed) answer_to next s count lines old new =
    AppendsFront old new (output answer_to next s lines)
Ends (BadSettings fault) answer_to next s count lines old new = ⊥
Ends (Input failed) answer_to next s count lines old new = ⊥

-- How the replay of a script ended, and what it wrote: by its settings, the answers of the
-- abstract relay from its opening state.
abbrev pub Replays : Status → List ℕ → Option (List ℕ) → Option (List ℕ) → Type 0
Replays Done script old new =
    (config : Config) × Configures (settings_of script) (Ok config)
    × Ends Done answer_to next (opening config) (head_len (lines_of script))
    (event_lines (lines_of script)) old new
Replays (BadLine n) script old new =
    (config : Config) × Configures (settings_of script) (Ok config)
    × Ends (BadLine n) answer_to next (opening config) (head_len (lines_of script))
    (event_lines (lines_of script)) old new
Replays (BadSettings fault) script old new =
    Configures (settings_of script) (Err fault) × Keeps old new
Replays Memory script old new =
    Keeps old new
    ⊎ ((config : Config) × Configures (settings_of script) (Ok config)
    × Ends Memory answer_to next (opening config) (head_len (lines_of script))
    (event_lines (lines_of script)) old new)
Replays (Input failed) script old new = Keeps old new
Replays (Output failed) script old new =
    (config : Config) × Configures (settings_of script) (Ok config)
    × Ends (Output failed) answer_to next (opening config) (head_len (lines_of script))
    (event_lines (lines_of script)) old new

-- how a relay was opened by a script's text of settings, or why it was not
abbrev pub Opens : List ℕ → Result LiveRelay Status → Type 0
Opens text (Ok relay) =
    (config : Config) × Configures text (Ok config) × (relay ≡ live (opening config))
Opens text (Err (BadSettings fault)) = Configures text (Err fault)
Opens text (Err Memory) = Unit {0}
Opens text (Err Done) = ⊥
Opens text (Err (BadLine n)) = ⊥
Opens text (Err (Input failed)) = ⊥
Opens text (Err (Output failed)) = ⊥

-- ---- what those words say together

-- the line of this number is no event, and those before it are the events
pub record IsBadLine (count : ℕ) (lines : List (List ℕ)) (n : ℕ) : Type 0 where
  pub front : List (List ℕ)
  pub line : List ℕ
  pub rest : List (List ℕ)
  pub parts : lines ≡ front ++ line ∷ rest
  pub are_events : map event_of front ≡ map Some (events_of lines)
  pub is_none : event_of line ≡ None
  pub number : n ≡ count + length front + 1

-- the lines are all events, or there is a first that is none
abbrev pub SplitsAtBad : ℕ → List (List ℕ) → Type 0
SplitsAtBad count lines =
    MatchOption (bad_line count lines) (AllAreEvents lines) (IsBadLine count lines)
