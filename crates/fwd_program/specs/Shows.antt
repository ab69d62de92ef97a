-- What the program says of itself, by which words, and how that ends.
use Rattle.std.specs.Prelude.{◌≡◌, ◌⊎◌, ℕ, List, [], ◌∷◌, ◌++◌, codes, Option}
use Rattle.std.specs.Io.KnownBytes.{Appends, Keeps}
use Rattle.fwd_script.specs.Writes.{AppendsFront}
use Rattle.fwd_script.specs.declared.status.Status.{Status}
use Rattle.fwd_script.specs.declared.status.Status.TheVariants.{Done, BadSettings, BadLine, Memory, Input, Output}
use Rattle.fwd_program.specs.declared.showing.Showing.{Showing}
use Rattle.fwd_program.specs.declared.showing.Showing.TheVariants.{Version, Help}
use Rattle.fwd_monitor.specs.declared.version.TheConstants.{VERSION}

-- words ask that this is shown
abbrev pub AsksToShow : List (List ℕ) → Showing → Type 0
AsksToShow words Version = (words ≡ codes "--version" ∷ []) ⊎ (words ≡ codes "version" ∷ [])
AsksToShow words Help = (words ≡ codes "--help" ∷ []) ⊎ (words ≡ codes "help" ∷ [])

-- the program's name and version, on a line
abbrev pub version_text : List ℕ
version_text = codes "forward_relay " ++ VERSION.now ++ codes "\n"

-- a line for each call
abbrev pub help_text : List ℕ
help_text =
    codes "usage: forward_relay run CONFIG [TURNS]     run the relay by the settings in CONFIG\n"
    ++ codes "       forward_relay stop CONFIG [SECONDS]  have it deliver what it holds, then end\n"
    ++ codes "       forward_relay check CONFIG           say whether the settings are good\n"
    ++ codes "       forward_relay replay                 answer the script on standard input\n"
    ++ codes "       forward_relay version                print the version, as does --version\n"
    ++ codes "       forward_relay help                   print these lines, as does --help\n"

-- what is shown
abbrev pub shown_text : Showing → List ℕ
shown_text Version = version_text
shown_text Help = help_text

-- how it ended that this was shown, and what was written: all of the text, or a front of it where a
-- write or a flush failed
abbrev pub Shows : Status → Showing → Option (List ℕ) → Option (List ℕ) → Type 0
Shows Done showing old new = Appends old new (shown_text showing)
Shows Memory showing old new = Keeps old new
Shows (Output failed) showing old new = AppendsFront old new (shown_text showing)
Shows (BadSettings fault) showing old new = ⊥
Shows (BadLine number) showing old new = ⊥
Shows (Input failed) showing old new = ⊥
