use Rattle.httparse.proofs.GrammarLemmas.{request_unique, ReadsRequest-append}
use Rattle.fwd_monitor.proofs.laws.one_head.Goals as goal

pub returns-clause-one : goal.returns-clause-one
returns-clause-one c heard h k rest left x y = request_unique heard h k rest left x y

pub returns-clause-stays : goal.returns-clause-stays
returns-clause-stays c heard h rest more x = ReadsRequest-append heard h rest more x
