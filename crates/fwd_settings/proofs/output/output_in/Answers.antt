use Rattle.std.proofs.Common.{◌∙◌}
use Rattle.toml.specs.View.{table_view}
use Rattle.fwd_settings.specs.Keys.{size_table, wait_table, login_table, list_table}
use Rattle.fwd_settings.proofs.FirstLemmas.{told, first_after, first_found}
use Rattle.fwd_settings.proofs.output.output_in.Goals as goal

pub returns-in_err-login : goal.returns-in_err-login
returns-in_err-login c =
    let output = c.args.output in
    let members = table_view c.args.table.now in
    told _ _ _ c.in_err-login.field-0.0 c.from_residual-in_err-login.ensures.1 λ m.
    rw c.in_ok-pattern.ensures.0
    (first_after (size_table output members) _ c.in_ok-sizes.ensures.0
    ∙ first_after (wait_table output members) _ c.in_ok-waits.ensures.0
    ∙ first_found (login_table output members) _ _ (c.in_err-login.ensures m))

pub returns-in_err-servers : goal.returns-in_err-servers
returns-in_err-servers c =
    let output = c.args.output in
    let members = table_view c.args.table.now in
    told _ _ _ c.in_err-servers.field-0.0 c.from_residual-in_err-servers.ensures.1 λ m.
    rw c.in_ok-pattern.ensures.0
    (first_after (size_table output members) _ c.in_ok-sizes.ensures.0
    ∙ first_after (wait_table output members) _ c.in_ok-waits.ensures.0
    ∙ first_after (login_table output members) _ c.in_ok-login.ensures.0
    ∙ first_found (list_table output members) _ _ (c.in_err-servers.ensures m))
