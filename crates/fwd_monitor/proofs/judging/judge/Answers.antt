use Rattle.std.proofs.Common.{rules, inl, inr}
use Rattle.fwd_monitor.proofs.HeadLemmas.{counted-few, counted-many}
use Rattle.fwd_monitor.proofs.judging.judge.Goals as goal

pub returns-in-Ok-Partial : goal.returns-in-Ok-Partial
returns-in-Ok-Partial c = record {
  unfinished = search rules;
  hopeful = search rules;
  few = counted-few c.args.heard.now (search rules);
  short = search rules;
}

pub returns-in-Ok-Partial-2 : goal.returns-in-Ok-Partial-2
returns-in-Ok-Partial-2 c =
    inr (inl (counted-many c.args.heard.now (search rules) (search rules) (search rules)))
