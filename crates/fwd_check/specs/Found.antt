-- What was found of the settings in a text.
use Rattle.std.specs.Prelude.{◌≡◌, ◌⊎◌, ℕ, List, Result, Err}
use Rattle.fwd_settings.specs.Whole.{settings_of}
use Rattle.fwd_settings.specs.declared.settings.Settings.{Settings}
use Rattle.fwd_settings.specs.declared.fault.SettingsFault.{SettingsFault}
use Rattle.fwd_settings.specs.declared.fault.SettingsFault.TheVariants as faults

-- what was found of the settings in a text: they or their first fault, and else that there was no
-- memory, or that it was not read to its end
abbrev pub Found : Result Settings SettingsFault → List ℕ → Type 0
Found found text =
    (found ≡ Err faults.Memory) ⊎ (found ≡ Err faults.Unreadable) ⊎ (found ≡ settings_of text)
