-- Keys that no table has.
use Rattle.std.specs.Prelude.{ℕ, Bool, not, List, [], ◌∷◌, ◌++◌, map, filter, codes, Option, option_map}
use Rattle.std.specs.List.{find, list_any, flat_map}
use Rattle.std.specs.Str.{bytes_eq}
use Rattle.std.specs.Ordering.{nat_cmp, is_lt}
use Rattle.std.specs.Cmp.Lexicographic.{slice_cmp}
use Rattle.toml.specs.Data.{Data, Members, no_members, member}
use Rattle.fwd_settings.specs.declared.fault.SettingsFault.{SettingsFault}
use Rattle.fwd_settings.specs.declared.fault.SettingsFault.TheVariants.{Unknown}
use Rattle.fwd_settings.specs.declared.table_path.TablePath.{TablePath}
use Rattle.fwd_settings.specs.declared.table_path.TablePath.TheVariants.{Root, Relay, User, Output, Server}
use Rattle.fwd_settings.specs.Faults.{key_under}
use Rattle.fwd_settings.specs.Kinds.{each, list_in}
use Rattle.fwd_settings.specs.Keys.{table_in, table_of, root_names, relay_names, user_names, output_names, server_names}

-- the names in a table
abbrev pub names_in : Members → List (List ℕ)
names_in no_members = []
names_in (member name value more) = name ∷ names_in more

-- the key is none of these
abbrev pub is_unknown : List (List ℕ) → List ℕ → Bool
is_unknown names name = not (list_any (λ known. bytes_eq known name) names)

-- the keys of a table that are none of these names
abbrev pub unknown_under : TablePath → List (List ℕ) → Members → List (List ℕ)
unknown_under place names members =
    map (key_under place) (filter (is_unknown names) (names_in members))

-- the paths of the unknown keys under a user
abbrev pub unknown_in_user : ℕ → Data → List (List ℕ)
unknown_in_user user value = unknown_under (User user) user_names (table_of value)

-- those of the users, of whom the first has this number
abbrev pub unknown_in_users : ℕ → List Data → List (List ℕ)
unknown_in_users user values = flat_map (λ keys. keys) (each unknown_in_user user values)

-- the paths of the unknown keys under `relay` and its users
abbrev pub unknown_in_relay : Members → List (List ℕ)
unknown_in_relay relay =
    unknown_under Relay relay_names relay ++ unknown_in_users 0 (list_in (codes "user") relay)

-- the paths of the unknown keys under a server
abbrev pub unknown_in_server : (output server : ℕ) → Data → List (List ℕ)
unknown_in_server output server value =
    unknown_under (Server output server) server_names (table_of value)

-- those of the servers of an output, of which the first has this number
abbrev pub unknown_in_servers : (output server : ℕ) → List Data → List (List ℕ)
unknown_in_servers output server values =
    flat_map (λ keys. keys) (each (unknown_in_server output) server values)

-- the paths of the unknown keys under an output and its servers
abbrev pub unknown_in_output : ℕ → Data → List (List ℕ)
unknown_in_output output value =
    unknown_under (Output output) output_names (table_of value) ++
    unknown_in_servers output 0 (list_in (codes "server") (table_of value))

-- those of the outputs, of which the first has this number
abbrev pub unknown_in_outputs : ℕ → List Data → List (List ℕ)
unknown_in_outputs output values = flat_map (λ keys. keys) (each unknown_in_output output values)

-- all unknown keys
abbrev pub unknown_keys : Members → List (List ℕ)
unknown_keys root =
    (unknown_under Root root_names root ++ unknown_in_relay (table_in (codes "relay") root)) ++
    unknown_in_outputs 0 (list_in (codes "output") root)

-- whether a key is less than another by their bytes
abbrev pub is_less : List ℕ → List ℕ → Bool
is_less key other = is_lt (slice_cmp nat_cmp key other)

-- whether none of some keys is less than this one
abbrev pub is_least : List (List ℕ) → List ℕ → Bool
is_least keys key = not (list_any (λ other. is_less other key) keys)

-- of some keys the one that none of them is less than, where there is any
unfoldable pub least : List (List ℕ) → Option (List ℕ)
least keys = find (is_least keys) keys

-- the fault of the least path of an unknown key, if there is one
abbrev pub unknown_fault : Members → Option SettingsFault
unknown_fault root = option_map Unknown (least (unknown_keys root))
