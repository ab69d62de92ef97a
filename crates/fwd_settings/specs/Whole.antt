-- The settings that a text gives.
use Rattle.std.specs.Prelude.{ℕ, List, [], ◌∷◌, map, codes, Option, Some, None, Result, Ok, Err, if◌then◌else◌}
use Rattle.std.specs.Str.{is_utf8}
use Rattle.toml.specs.Data.{Data, table, Members, no_members, get_member}
use Rattle.toml.specs.Parse.{parse_document}
use Rattle.fwd_settings.specs.declared.fault.SettingsFault.{SettingsFault}
use Rattle.fwd_settings.specs.declared.fault.SettingsFault.TheVariants.{NotToml, WrongKind}
use Rattle.fwd_settings.specs.declared.table_path.TablePath.TheVariants.{Root, Relay}
use Rattle.fwd_settings.specs.declared.settings.Settings.{Settings}
use Rattle.fwd_settings.specs.Faults.{own_key}
use Rattle.fwd_settings.specs.Kinds.{each, fault_at, setting_at}
use Rattle.fwd_settings.specs.Keys.{first, table_in, relay_table, relay_settings, outputs, output_fault, output_settings}
use Rattle.fwd_settings.specs.Unknown.{unknown_fault}

-- a missing `relay` is an empty one
abbrev pub relay_fault : Option Data → Option SettingsFault
relay_fault None = first (relay_table no_members)
relay_fault (Some (table members)) = first (relay_table members)
relay_fault (Some _) = Some (WrongKind (own_key Relay))

-- all faults of a document in their order
abbrev pub root_table : Members → List (Option SettingsFault)
root_table root =
    relay_fault (get_member (codes "relay") root) ∷
    fault_at Root root outputs ∷
    first (each output_fault 0 (setting_at root outputs)) ∷
    unknown_fault root ∷ []

-- the settings of a whole file, by its keys
abbrev pub root_settings : Members → Settings
root_settings root = record {
  relay = relay_settings (table_in (codes "relay") root);
  outputs = map output_settings (setting_at root outputs);
}

-- the first fault of a document, or its settings
abbrev pub judged : Option SettingsFault → Settings → Result Settings SettingsFault
judged None settings = Ok settings
judged (Some fault) settings = Err fault

-- the settings of a file that was read as TOML, or its first fault
abbrev pub of_document : Option Members → Result Settings SettingsFault
of_document None = Err NotToml
of_document (Some root) = judged (first (root_table root)) (root_settings root)

-- the document that a text is: it has to be UTF-8
unfoldable pub document_of : List ℕ → Option Members
document_of text = if is_utf8 text then parse_document text else None

-- the settings of a text, or its first fault
abbrev pub settings_of : List ℕ → Result Settings SettingsFault
settings_of text = of_document (document_of text)
