-- What a text of settings sets the relay to.
use Rattle.std.specs.Prelude.{◌≡◌, ℕ, List, [], ◌∷◌, ◌++◌, codes, Result, Ok, Err}
use Rattle.std.specs.List.{flat_map}
use Rattle.fwd_settings.specs.declared.settings.Settings.{Settings}
use Rattle.fwd_settings.specs.declared.fault.SettingsFault.{SettingsFault}
use Rattle.fwd_settings.specs.Whole.{settings_of}
use Rattle.fwd_config.specs.Configs.{IsConfig}
use Rattle.fwd_model.specs.declared.config.Config.{Config}

-- the lines that an empty text stands for
abbrev pub row_lines : List (List ℕ)
row_lines =
    codes "[relay]" ∷
    codes "run_id = \"000000000000\"" ∷
    codes "[[output]]" ∷
    codes "match = \"**\"" ∷
    codes "workers = 2" ∷
    codes "chunk_limit = 1000" ∷
    codes "total_limit = 100000" ∷
    codes "flush_interval = 1000" ∷
    codes "retry_wait = 500" ∷
    codes "retry_max = 4000" ∷
    codes "ack_wait = 10000" ∷
    codes "[[output.server]]" ∷
    codes "address = \"127.0.0.1:24225\"" ∷
    codes "[[output.server]]" ∷
    codes "address = \"127.0.0.1:24226\"" ∷
    codes "standby = true" ∷ []

-- the settings that an empty text stands for
unfoldable pub row_text : List ℕ
row_text = flat_map (λ line. line ++ 10 ∷ []) row_lines

-- the settings of a script, whose empty text stands for those lines
abbrev pub settings_text : List ℕ → List ℕ
settings_text [] = row_text
settings_text (byte ∷ more) = byte ∷ more

-- what a script's text of settings sets the relay to, or its first fault
abbrev pub Configures : List ℕ → Result Config SettingsFault → Type 0
Configures text (Ok config) =
    (s : Settings) × (settings_of (settings_text text) ≡ Ok s) × IsConfig s config
Configures text (Err fault) = settings_of (settings_text text) ≡ Err fault
