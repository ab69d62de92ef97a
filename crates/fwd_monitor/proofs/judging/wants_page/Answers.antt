use Rattle.std.proofs.Common.{subst, sym}
use Rattle.std.specs.Prelude.{IsTrue}
use Rattle.fwd_monitor.specs.Requests.{WantsPage}
use Rattle.fwd_monitor.proofs.ReplyLemmas.{found-wants}
use Rattle.fwd_monitor.proofs.judging.wants_page.Goals as goal

pub returns : goal.returns
returns c = subst (λ b. (IsTrue b → WantsPage c.args.heard.now) × (WantsPage c.args.heard.now → IsTrue b)) (sym c.is_found.ensures) (found-wants c.args.heard.now c.judge.result c.judge.ensures)
