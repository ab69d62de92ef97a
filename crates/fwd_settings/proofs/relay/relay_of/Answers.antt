use Rattle.std.proofs.Common.{sym}
use Rattle.fwd_settings.proofs.ListLemmas.{table_seen}
use Rattle.fwd_settings.proofs.relay.relay_of.Goals as goal

pub returns-in_default : goal.returns-in_default
returns-in_default c = rw (sym (rw c.in_default.is at c.get.ensures)) (rw c.empty-nothing.ensures at c.relay_in.ensures)

pub returns-in-Some-as_table : goal.returns-in-Some-as_table
returns-in-Some-as_table c =
    let there = rw c.in-Some.is at c.get.ensures in
    let seen = table_seen _ _ (sym (rw c.in-Some-as_table.is at c.as_table.ensures)) in
    rw (sym there, seen) c.relay_in-in-Some-as_table.ensures
