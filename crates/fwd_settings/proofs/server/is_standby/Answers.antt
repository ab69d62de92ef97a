use Rattle.std.proofs.Common.{sym, refl}
use Rattle.std.specs.Prelude.{codes}
use Rattle.toml.proofs.Views.{table_get}
use Rattle.fwd_settings.specs.Kinds.{setting_at, flag_key}
use Rattle.fwd_settings.proofs.ListLemmas.{table_seen, no_table}
use Rattle.fwd_settings.proofs.server.is_standby.Goals as goal

pub returns-in-Some : goal.returns-in-Some
unfolding setting_at flag_key
returns-in-Some c =
    let seen = table_seen _ _ (sym (rw c.in-Some.is at c.as_table.ensures)) in
    let got = table_get c.get.result (codes "standby") c.in-Some.table.now.entries c.get.ensures.value in
    rw (seen, ← got) c.is_true.ensures

pub returns-in-None : goal.returns-in-None
unfolding setting_at flag_key
returns-in-None c =
    let none = no_table _ (sym (rw c.in-None.is at c.as_table.ensures)) in
    rw none refl
