-- What was found of the settings in a text.
use Rattle.std.proofs.Common.{◌≡◌, ◌≢◌, ℕ, List, Result, Ok, Err, inl, inr, refl}
use Rattle.fwd_settings.specs.Whole.{settings_of}
use Rattle.fwd_settings.specs.declared.settings.Settings.{Settings}
use Rattle.fwd_settings.specs.declared.fault.SettingsFault.{SettingsFault}
use Rattle.fwd_settings.specs.declared.fault.SettingsFault.TheVariants as faults
use Rattle.fwd_check.specs.Found.{Found}

-- settings, or a fault, of a text, unless memory ran out
pub of_text : (found : Result Settings SettingsFault) (text : List ℕ)
    → (found ≢ Err faults.Memory → found ≡ settings_of text) → Found found text
of_text (Ok s) text h = inr (inr (h (λ e. absurd cc)))
of_text (Err faults.Memory) text h = inl refl
of_text (Err faults.Unreadable) text h = inr (inl refl)
of_text (Err faults.NotToml) text h = inr (inr (h (λ e. absurd cc)))
of_text (Err (faults.Missing key)) text h = inr (inr (h (λ e. absurd cc)))
of_text (Err (faults.WrongKind key)) text h = inr (inr (h (λ e. absurd cc)))
of_text (Err (faults.OutOfRange key)) text h = inr (inr (h (λ e. absurd cc)))
of_text (Err (faults.Unknown key)) text h = inr (inr (h (λ e. absurd cc)))
of_text (Err (faults.BadPattern key)) text h = inr (inr (h (λ e. absurd cc)))
