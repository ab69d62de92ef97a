-- What the ranges of settings say of the outputs, and of an output's servers.
use Rattle.std.proofs.Common.{◌≡◌, ◌≤◌, ◌&&◌, ◌||◌, ℕ, Bool, true, false, not, List, [], ◌∷◌, length, map, refl, ◌∙◌, arith}
use Rattle.std.specs.List.{list_all, list_any}
use Rattle.std.proofs.lemmas.Bool.Decides.{nat_tests}
use Rattle.std.proofs.lemmas.List.{length-map}
use Rattle.std.proofs.lemmas.Bool.{and_parts}
use Rattle.fwd_settings.specs.Kinds.{is_within}
use Rattle.fwd_settings.specs.Ranges.{in_range, output_in_range, relay_in_range}
use Rattle.fwd_settings.specs.declared.settings.Settings.{Settings}
use Rattle.fwd_settings.specs.declared.settings.OutputSettings.{OutputSettings}
use Rattle.fwd_settings.specs.declared.settings.RelaySettings.{RelaySettings}

-- some fails a test exactly where not all pass it
list_any-not : {X : Type 0} (p : X → Bool) (xs : List X)
    → list_any not (map p xs) ≡ not (list_all p xs)
list_any-not p [] = refl
list_any-not p (x ∷ xs) =
    elim (p x) as (λ b. (not b || list_any not (map p xs)) ≡ not (b && list_all p xs)) [
      | true ↦ list_any-not p xs
      | false ↦ refl
    ]

-- there are 1 to 16 servers
pub servers_few : (o : OutputSettings) → output_in_range o ≡ true
    → length (map (λ s. s.standby) o.servers) ≤ 16
servers_few o h =
    let same : length (map (λ s. s.standby) o.servers) ≡ length o.servers = length-map o.servers (λ s. s.standby) in
    let few : length o.servers ≤ 16 = grind (arith, nat_tests) in
    omega arith

-- and one at least is no standby
pub servers_primary : (o : OutputSettings) → output_in_range o ≡ true
    → list_any not (map (λ s. s.standby) o.servers) ≡ true
servers_primary o h =
    let some : not (list_all (λ s. s.standby) o.servers) ≡ true = grind (arith, nat_tests) in
    list_any-not (λ s. s.standby) o.servers ∙ some

-- there are 1 to 64 outputs
pub outputs_few : (s : Settings) → in_range s ≡ true → length s.outputs ≤ 64
outputs_few s h =
    let counted = is_within 1 64 (length s.outputs) in
    let parts = and_parts (relay_in_range s.relay) (counted && list_all output_in_range s.outputs) h in
    let count = and_parts counted (list_all output_in_range s.outputs) parts.1 in
    at_most (length s.outputs) count.0
  where
    at_most : (n : ℕ) → is_within 1 64 n ≡ true → n ≤ 64
    at_most n e = grind (arith, nat_tests, e)

-- a value of a source has at most 128 arrays and maps in one another
pub depth_small : (s : Settings) → in_range s ≡ true → s.relay.depth ≤ 128
depth_small s h =
    let counted = is_within 1 64 (length s.outputs) in
    let parts = and_parts (relay_in_range s.relay) (counted && list_all output_in_range s.outputs) h in
    deep s.relay parts.0
  where
    deep : (r : RelaySettings) → relay_in_range r ≡ true → r.depth ≤ 128
    deep r e = grind (arith, nat_tests, e)
