-- How many outputs a relay is set to, and what they are.
use Rattle.std.proofs.Common.{◌≡◌, ◌≤◌, ◌&&◌, ℕ, zero, suc, true, List, [], ◌∷◌, Some, length, refl, sym, ap, subst, ◌∙◌, arith}
use Rattle.std.specs.Prelude.{All, map, slice_get}
use Rattle.std.specs.List.{list_all}
use Rattle.std.proofs.lemmas.Bool.{and_parts}
use Rattle.std.proofs.lemmas.Bool.Decides.{nat_tests}
use Rattle.std.proofs.lemmas.List.{length-map}
use Rattle.std.proofs.lemmas.List.Elements.{All-cons, All-head, All-nil, All-tail}
use Rattle.fwd_settings.specs.Kinds.{is_within}
use Rattle.fwd_settings.specs.Ranges.{in_range, relay_in_range, output_in_range}
use Rattle.fwd_settings.specs.declared.settings.Settings.{Settings}
use Rattle.fwd_model.specs.declared.config.OutputConfig.{OutputConfig}
use Rattle.fwd_config.specs.Configs.{OutputParts, parts_known, parts_set}
use Rattle.fwd_settings.specs.declared.settings.OutputSettings.{OutputSettings}
use Rattle.fwd_reader.specs.declared.output.Output.{Output}
use Rattle.fwd_pools.specs.Pools.{all_made_of, hop_of, shown, shown_by}

-- settings in their ranges have at most 64
pub outputs_few : (s : Settings) → in_range s ≡ true → length s.outputs ≤ 64
outputs_few s h =
    let counted = is_within 1 64 (length s.outputs) in
    let parts = and_parts (relay_in_range s.relay) (counted && list_all output_in_range s.outputs) h in
    let within : is_within 1 64 (length s.outputs) ≡ true = (and_parts counted (list_all output_in_range s.outputs) parts.1).0 in
    grind (arith, nat_tests)

-- and what they set a relay to has as many
pub known_count : (s : Settings) (configs : List OutputConfig)
    → map parts_known configs ≡ map parts_set s.outputs
    → length configs ≡ length s.outputs
known_count s configs is = sym (length-map configs parts_known) ∙ ap length is ∙ length-map s.outputs parts_set

made-each : (ss : List OutputSettings)
    → all_made_of (map parts_set ss) (map hop_of ss) ≡ map shown_by ss
made-each [] = refl
made-each (s ∷ ss) = ap (λ xs. shown_by s ∷ xs) (made-each ss)

-- each is made of its own settings
pub known_made : (s : Settings) (configs : List OutputConfig)
    → map parts_known configs ≡ map parts_set s.outputs
    → all_made_of (map parts_known configs) (map hop_of s.outputs) ≡ map shown_by s.outputs
known_made s configs is =
    ap (λ ps. all_made_of ps (map hop_of s.outputs)) is ∙ made-each s.outputs

-- as many are shown as there are
pub shown_count : {J : Type 0} (outputs : List (Output J)) → length outputs ≡ length (map shown outputs)
shown_count outputs = sym (length-map outputs shown)

-- none has more than 30 workers
workers_of : (o : OutputSettings) → output_in_range o ≡ true → o.workers ≤ 30
workers_of o h =
    let within : is_within 1 16 o.workers ≡ true = (and_parts (is_within 1 16 o.workers) _ h).0 in
    grind (arith, nat_tests)

few_each : (ss : List OutputSettings) (configs : List OutputConfig) → list_all output_in_range ss ≡ true
    → map parts_known configs ≡ map parts_set ss → All (λ c. c.workers ≤ 30) configs
few_each [] [] ok is = All-nil (λ (c : OutputConfig). c.workers ≤ 30)
few_each [] (c ∷ cs) ok is = absurd cc
few_each (s ∷ ss) [] ok is = All-nil (λ (c : OutputConfig). c.workers ≤ 30)
few_each (s ∷ ss) (c ∷ cs) ok is =
    let both = and_parts (output_in_range s) (list_all output_in_range ss) ok in
    let one : c.workers ≡ s.workers = ap (λ (p : OutputParts). p.workers) (first_same (parts_known c) (parts_set s) (map parts_known cs) (map parts_set ss) is) in
    All-cons (λ (c : OutputConfig). c.workers ≤ 30) c cs (subst (λ n. n ≤ 30) (sym one) (workers_of s both.0))
    (few_each ss cs both.1 (rest_same (parts_known c) (parts_set s) (map parts_known cs) (map parts_set ss) is))
  where
    first_same : (x y : OutputParts) (xs ys : List OutputParts) → x ∷ xs ≡ y ∷ ys → x ≡ y
    first_same x y xs ys e = cc

    rest_same : (x y : OutputParts) (xs ys : List OutputParts) → x ∷ xs ≡ y ∷ ys → xs ≡ ys
    rest_same x y xs ys e = cc

pub workers_few : (s : Settings) (configs : List OutputConfig) → in_range s ≡ true
    → map parts_known configs ≡ map parts_set s.outputs → All (λ c. c.workers ≤ 30) configs
workers_few s configs h is =
    let counted = is_within 1 64 (length s.outputs) in
    let parts = and_parts (relay_in_range s.relay) (counted && list_all output_in_range s.outputs) h in
    few_each s.outputs configs (and_parts counted (list_all output_in_range s.outputs) parts.1).1 is

-- nor has the one at a place
pub few_at : (configs : List OutputConfig) (o : ℕ) (c : OutputConfig) → All (λ c. c.workers ≤ 30) configs
    → slice_get configs o ≡ Some c → c.workers ≤ 30
few_at [] o c few here = absurd cc
few_at (x ∷ xs) zero c few here =
    subst (λ (y : OutputConfig). y.workers ≤ 30) (same x c here) (All-head (λ (c : OutputConfig). c.workers ≤ 30) x xs few)
  where
    same : (x c : OutputConfig) → Some x ≡ Some c → x ≡ c
    same x c e = cc
few_at (x ∷ xs) (suc o) c few here = few_at xs o c (All-tail (λ (c : OutputConfig). c.workers ≤ 30) x xs few) here
