-- A script: the text of the settings, a line of three dashes, and a line for each event.
use Rattle.std.specs.Prelude.{◌≡◌, ℕ, suc, ◌==◌, ◌<◌, if◌then◌else◌, List, [], ◌∷◌, ◌++◌, length, Bool, codes, ◌⊎◌}
use Rattle.std.specs.List.{onto_first, list_any, flat_map}
use Rattle.std.specs.Str.{bytes_eq}

-- the lines of a text: a line ends at a line feed, and bytes after the last one are a line where
-- there are any
abbrev pub lines_of : List ℕ → List (List ℕ)
lines_of [] = []
lines_of (b ∷ bytes) = if b == 10 then [] ∷ lines_of bytes else onto_first b (lines_of bytes)

-- a line that ends the settings
abbrev pub is_rule : List ℕ → Bool
is_rule line = bytes_eq line (codes "---")

-- the lines after the first that ends the settings, or none
abbrev pub event_lines : List (List ℕ) → List (List ℕ)
event_lines [] = []
event_lines (line ∷ lines) = if is_rule line then lines else event_lines lines

-- how many lines stand before those, the one that ends the settings among them
abbrev pub head_len : List (List ℕ) → ℕ
head_len [] = 0
head_len (line ∷ lines) = if is_rule line then 1 else suc (head_len lines)

-- the lines before the first that ends the settings
abbrev pub settings_lines : List (List ℕ) → List (List ℕ)
settings_lines [] = []
settings_lines (line ∷ lines) = if is_rule line then [] else line ∷ settings_lines lines

-- a line with its line feed
abbrev pub ended : List ℕ → List ℕ
ended line = line ++ 10 ∷ []

-- the text of the settings: what stands before the line that ends it, or all of the script where
-- there is none
abbrev pub settings_of : List ℕ → List ℕ
settings_of script =
    if list_any is_rule (lines_of script) then flat_map ended (settings_lines (lines_of script))
    else script

-- a text is a first line, and what comes after it
pub record IsFirstLine (text line after : List ℕ) : Type 0 where
  pub lines : lines_of text ≡ line ∷ lines_of after
  pub parts : (text ≡ ended line ++ after) ⊎ ((text ≡ line) × (after ≡ []))
  pub shorter : length after < length text

-- The settings, the line that ends them and the text of the events are all of the script; or the
-- script ends with that line, or has none, and there are no events.
abbrev pub IsScript : List ℕ → List ℕ → List ℕ → Type 0
IsScript script settings events =
    (script ≡ settings ++ (ended (codes "---") ++ events))
    ⊎ (((script ≡ settings ++ codes "---") ⊎ (script ≡ settings)) × (events ≡ []))
