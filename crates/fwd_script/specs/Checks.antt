-- What a check of settings answers and writes.
use Rattle.std.specs.Prelude.{◌≡◌, ◌⊎◌, ℕ, List, [], ◌∷◌, ◌++◌, length, codes, Option, Result, Ok, Err}
use Rattle.std.specs.Fmt.{decimal}
use Rattle.std.specs.Io.KnownBytes.{Appends, Keeps}
use Rattle.fwd_settings.specs.Whole.{settings_of}
use Rattle.fwd_settings.specs.declared.settings.Settings.{Settings}
use Rattle.fwd_settings.specs.declared.fault.SettingsFault.{SettingsFault}
use Rattle.fwd_settings.specs.declared.fault.SettingsFault.TheVariants as faults
use Rattle.fwd_script.specs.declared.input.InputError.{InputError}
use Rattle.fwd_script.specs.declared.input.InputError.TheVariants.{Memory as NoRoom, Failed}
use Rattle.fwd_script.specs.declared.status.Status.{Status}
use Rattle.fwd_script.specs.declared.status.Status.TheVariants.{Done, BadSettings, BadLine, Memory, Input, Output}
use Rattle.fwd_script.specs.Statuses.{refused_status}
use Rattle.fwd_script.specs.Writes.{AppendsFront}

-- the settings, or how a check ends that refuses them
abbrev pub verdict_on : Result Settings SettingsFault → Result Settings Status
verdict_on (Ok settings) = Ok settings
verdict_on (Err fault) = Err (refused_status fault)

-- what is wrong with settings that were not read to their end
abbrev pub unread : InputError → SettingsFault
unread NoRoom = faults.Memory
unread (Failed failed) = faults.Unreadable

-- the line that is told of good settings, with its line feed
abbrev pub good_line : Settings → List ℕ
good_line s = codes "settings are good, outputs: " ++ (decimal (length s.outputs) ++ 10 ∷ [])

-- how the telling of good settings ended, and what it wrote
abbrev pub TellsGood : Status → Settings → Option (List ℕ) → Option (List ℕ) → Type 0
TellsGood Done s old new = Appends old new (good_line s)
TellsGood Memory s old new = Keeps old new
TellsGood (Output failed) s old new = AppendsFront old new (good_line s)
TellsGood (BadSettings fault) s old new = ⊥
TellsGood (BadLine n) s old new = ⊥
TellsGood (Input failed) s old new = ⊥

-- How the check of a text ended, and what it wrote. Only a text that was not read is unreadable.
abbrev pub Checks : Status → List ℕ → Option (List ℕ) → Option (List ℕ) → Type 0
Checks Done text old new = (s : Settings) × (settings_of text ≡ Ok s) × TellsGood Done s old new
Checks (BadSettings fault) text old new =
    ((settings_of text ≡ Err fault) ⊎ (fault ≡ faults.Unreadable)) × Keeps old new
Checks Memory text old new = Keeps old new
Checks (Output failed) text old new =
    (s : Settings) × (settings_of text ≡ Ok s) × TellsGood (Output failed) s old new
Checks (BadLine n) text old new = ⊥
Checks (Input failed) text old new = ⊥
