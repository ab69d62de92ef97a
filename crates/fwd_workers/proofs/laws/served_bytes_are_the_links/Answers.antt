use Rattle.fwd_workers.proofs.Lasting.{lasts, acknowledged, whole-first, any-first}
use Rattle.fwd_workers.proofs.laws.served_bytes_are_the_links.Goals as goal

pub returns-clause-lasts : goal.returns-clause-lasts
returns-clause-lasts c s what t before after sane up bytes is some =
    lasts s what t before after sane up bytes is some

pub returns-clause-acked : goal.returns-clause-acked
returns-clause-acked c s t before after sane up bytes is =
    acknowledged s t before after sane up bytes is

pub returns-clause-any : goal.returns-clause-any
returns-clause-any c setup deeds what s middle t start before between after taken given lives up one has =
    any-first setup deeds what s middle t start before between after taken given lives up one has

pub returns-clause-whole : goal.returns-clause-whole
returns-clause-whole c setup deeds s middle t start before between after taken given lives up one heard =
    whole-first setup deeds s middle t start before between after taken given lives up one heard
