use Rattle.std.proofs.Common.{Ok, Err}
use Rattle.fwd_script.proofs.CheckLemmas.{told_checks, refused_checks, good_reads, memory_reads, verdict_text, verdict_unread}
use Rattle.fwd_script.proofs.checking.check.Goals as goal

pub returns-in-Ok-clause-checks : goal.returns-in-Ok-clause-checks
returns-in-Ok-clause-checks g c =
    let is = c.in-Ok.ensures {u = tt} in
    told_checks c.read_input.result (g.R.Read.remaining c.args.reader.now) c.in-Ok.settings c.tell_good.result _ _
    c.read_input.ensures.whole
    (verdict_text c.read_input.result c.settings_in.result (Ok c.in-Ok.settings) is c.settings_in.ensures.text)
    (verdict_unread c.read_input.result c.settings_in.result (Ok c.in-Ok.settings) is c.settings_in.ensures.unread) c.tell_good.ensures

pub returns-in-Ok-clause-memory : goal.returns-in-Ok-clause-memory
returns-in-Ok-clause-memory g c is_memory =
    good_reads c.read_input.result c.in-Ok.settings (g.R.Read.remaining c.args.reader.now) (g.R.Read.remaining c.read_input.new.reader)
    c.read_input.ensures.taken c.read_input.ensures.end
    (verdict_unread c.read_input.result c.settings_in.result (Ok c.in-Ok.settings) (c.in-Ok.ensures {u = tt}) c.settings_in.ensures.unread)

pub returns-in-Err-clause-checks : goal.returns-in-Err-clause-checks
returns-in-Err-clause-checks g c =
    let is = c.in-Err.ensures {u = tt} in
    refused_checks c.read_input.result (g.R.Read.remaining c.args.reader.now) c.in-Err.status _
    c.read_input.ensures.whole
    (verdict_text c.read_input.result c.settings_in.result (Err c.in-Err.status) is c.settings_in.ensures.text)
    (verdict_unread c.read_input.result c.settings_in.result (Err c.in-Err.status) is c.settings_in.ensures.unread)

pub returns-in-Err-clause-memory : goal.returns-in-Err-clause-memory
returns-in-Err-clause-memory g c is_memory =
    memory_reads c.read_input.result c.in-Err.status (g.R.Read.remaining c.args.reader.now) (g.R.Read.remaining c.read_input.new.reader)
    c.read_input.ensures.taken c.read_input.ensures.end c.read_input.ensures.unread
    (verdict_unread c.read_input.result c.settings_in.result (Err c.in-Err.status) (c.in-Err.ensures {u = tt}) c.settings_in.ensures.unread) is_memory
