use Rattle.std.proofs.Common.{◌∙◌}
use Rattle.toml.specs.View.{table_view}
use Rattle.fwd_settings.specs.Keys.{identity_table, intake_table, users_table}
use Rattle.fwd_settings.proofs.FirstLemmas.{told, first_after, first_found}
use Rattle.fwd_settings.proofs.relay.relay_in.Goals as goal

pub returns-in_err-users : goal.returns-in_err-users
returns-in_err-users c =
    let members = table_view c.args.table.now in
    let listen = rw c.home.ensures at c.in_ok-listen.ensures.0 in
    told _ _ _ c.in_err-users.field-0.0 c.from_residual-in_err-users.ensures.1 λ m.
    rw (listen, c.in_ok-monitor.ensures.0)
    (first_after (identity_table members) _ c.in_ok-identity.ensures.0
    ∙ first_after (intake_table members) _ c.in_ok-intake.ensures.0
    ∙ first_found (users_table members) _ _ (c.in_err-users.ensures m))

pub returns-in_err-metrics : goal.returns-in_err-metrics
returns-in_err-metrics c =
    let members = table_view c.args.table.now in
    let listen = rw c.home.ensures at c.in_ok-listen.ensures.0 in
    told _ _ _ c.in_err-metrics.field-0.0 c.from_residual-in_err-metrics.ensures.1 λ m.
    rw (listen, c.in_ok-monitor.ensures.0)
    (first_after (identity_table members) _ c.in_ok-identity.ensures.0
    ∙ first_after (intake_table members) _ c.in_ok-intake.ensures.0
    ∙ first_after (users_table members) _ c.in_ok-users.ensures.0
    ∙ rw (c.in_err-metrics.ensures m))
