-- When the program's words ask for a run, or that a relay stops.
use Rattle.std.specs.Prelude.{◌≡◌, ℕ, ◌-◌, ◌^◌, ◌&&◌, nat_le, List, [], ◌∷◌, codes, Option, Some, None, option_map, if◌then◌else◌}
use Rattle.fwd_script.specs.Words.{number_of}

-- how many turns the words behind the path ask for: without one, as many as can be counted
abbrev pub turns_of : List (List ℕ) → Option ℕ
turns_of [] = Some (2 ^ 64 - 1)
turns_of (turns ∷ []) = number_of (2 ^ 64) turns
turns_of (turns ∷ word ∷ words) = None

-- words ask for a run by the settings in the file of this path, of so many turns
abbrev pub AsksRun : List (List ℕ) → (path : List ℕ) → (turns : ℕ) → Type 0
AsksRun words path turns =
    (behind : List (List ℕ))
    × (words ≡ codes "run" ∷ path ∷ behind) × (turns_of behind ≡ Some turns)

-- a number of seconds that a relay may be given: at most a day
abbrev pub seconds_in : Option ℕ → Option ℕ
seconds_in None = None
seconds_in (Some n) = if nat_le 1 n && nat_le n 86400 then Some n else None

-- how many seconds the words behind the path give the relay, if they say: they may be empty
abbrev pub seconds_of : List (List ℕ) → Option (Option ℕ)
seconds_of [] = Some None
seconds_of (seconds ∷ []) = option_map Some (seconds_in (number_of (2 ^ 64) seconds))
seconds_of (seconds ∷ word ∷ words) = None

-- words ask that the relay by the settings in the file of this path stops, within so many seconds
-- if they say
abbrev pub AsksStop : List (List ℕ) → (path : List ℕ) → (seconds : Option ℕ) → Type 0
AsksStop words path seconds =
    (behind : List (List ℕ))
    × (words ≡ codes "stop" ∷ path ∷ behind) × (seconds_of behind ≡ Some seconds)
