-- What outputs reported last, as the history of the run goes on.
use Rattle.std.proofs.Common.{◌≡◌, ◌++◌, ◌∷◌, [], List, Some}
use Rattle.std.specs.Prelude.{All}
use Rattle.std.proofs.lemmas.List.Elements.{All-push, All-weaker}
use Rattle.fwd_base.specs.declared.report.Report.{Report}
use Rattle.fwd_history.specs.Histories.{Comes}
use Rattle.fwd_output.specs.Outputs.{LiveOutput}
use Rattle.fwd_run.specs.Pages.{EndedOutput}
use Rattle.fwd_run.specs.Runs.{RunEvent, output_at}
use Rattle.fwd_reader.specs.Ends.{IsLast, IsTrueAfter}
use Rattle.fwd_reader.proofs.Told.{further}

-- those of before are known in a longer history, and so is one more
pub one_ends : (past after : List RunEvent) (last : List (Report × EndedOutput))
    (ended : Report × EndedOutput) → Comes past after → All (IsLast past) last → IsLast after ended
    → All (IsLast after) (last ++ ended ∷ [])
one_ends past after last ended onward before is =
    All-push (IsLast after) last ended
    (
    All-weaker (IsLast past) (IsLast after)
    (λ x old. record {
      adds_up = old.adds_up;
      report = old.report;
      onward = further x.1.past past after old.onward onward;
    })
    last before
    ) is

-- a report is true behind the history in which its output is what it was
pub one_stays : (past : List RunEvent) (ended : Report × EndedOutput) → IsLast past ended
    → ((p : LiveOutput) → output_at ended.1.past ended.1.output ≡ Some p
    → output_at past ended.1.output ≡ Some p)
    → IsTrueAfter past ended.0
one_stays past ended last stays =
    let r = last.report in (ended.1.output, (r.0, stays r.0 r.1, r.2))
