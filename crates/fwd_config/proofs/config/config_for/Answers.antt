use Rattle.std.proofs.Common.{◌≡◌, ◌≤◌, Bool, true, not, List, length, map, subst, sym, ap, ◌∙◌}
use Rattle.std.specs.List.{list_any}
use Rattle.fwd_settings.specs.declared.settings.ServerSettings.{ServerSettings}
use Rattle.fwd_config.proofs.Ranges.{servers_few, servers_primary}
use Rattle.fwd_config.proofs.config.config_for.Goals as goal

abbrev standby_of : ServerSettings → Bool
standby_of s = s.standby

pub invariant_of-result-3-clause-few : goal.invariant_of-result-3-clause-few
invariant_of-result-3-clause-few c =
    let read = c.from_vec.ensures ∙ c.in_ok-standby.ensures ∙ ap (map standby_of) c.as_slice.ensures in
    subst (λ (xs : List Bool). length xs ≤ 16) (sym read) (servers_few c.args.output.now c.requires)

pub invariant_of-result-3-clause-has_primary : goal.invariant_of-result-3-clause-has_primary
invariant_of-result-3-clause-has_primary c =
    let read = c.from_vec.ensures ∙ c.in_ok-standby.ensures ∙ ap (map standby_of) c.as_slice.ensures in
    subst (λ (xs : List Bool). list_any not xs ≡ true) (sym read) (servers_primary c.args.output.now c.requires)
