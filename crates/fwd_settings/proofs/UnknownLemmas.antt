-- Names in tables, and keys that are none of them.
use Rattle.std.proofs.Common.{◌≡◌, ℕ, ◌||◌, List, [], ◌∷◌, map, String, Global, string_bytes, refl, ap}
use Rattle.std.specs.List.{list_any}
use Rattle.std.specs.Str.{bytes_eq}
use Rattle.std.specs.Map.{keys_of}
use Rattle.toml.specs.View.{members_view}
use Rattle.toml.specs.declared.value.Value.{Value}
use Rattle.fwd_settings.specs.Unknown.{names_in}
use Rattle.fwd_settings.specs.declared.tables.KeyRule.{KeyRule}
use Rattle.fwd_settings.proofs.LeastLemmas.{least_alone, least_more}

-- a name among those of keys
pub any_shown : (rules : List KeyRule) (name : List ℕ)
    → list_any (λ known. bytes_eq known name) (map (λ rule. rule.name.now) rules) ≡ list_any
    (λ rule. bytes_eq rule.name.now name) rules
any_shown [] name = refl
any_shown (rule ∷ more) name = ap (λ found. bytes_eq rule.name.now name || found) (any_shown more name)

-- the names in a table are the keys of its map
pub names_viewed : (entries : List (String Global × Value))
    → names_in (members_view entries) ≡ map string_bytes (keys_of entries)
names_viewed [] = refl
names_viewed (entry ∷ more) = ap (λ names. string_bytes entry.0 ∷ names) (names_viewed more)

-- what a look at a table's names needs
pub ruleset name_steps = (names_viewed, least_alone, least_more)
