use Rattle.std.proofs.Common.{sym}
use Rattle.fwd_settings.proofs.ListLemmas.{table_seen}
use Rattle.fwd_settings.proofs.output.output_of.Goals as goal

pub returns-in-Some : goal.returns-in-Some
returns-in-Some c = rw (table_seen _ _ (sym (rw c.in-Some.is at c.as_table.ensures))) c.output_in.ensures
