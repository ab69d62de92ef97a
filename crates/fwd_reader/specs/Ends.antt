-- What a run reports at its end.
use Rattle.std.specs.Prelude.{ℕ, List, All}
use Rattle.fwd_chunks.specs.TagCounts.{AddsUp}
use Rattle.fwd_history.specs.Histories.{Comes}
use Rattle.fwd_monitor.specs.Report.{Report}
use Rattle.fwd_output.specs.Paged.{IsReportAfter}
use Rattle.fwd_run.specs.Pages.{EndedOutput}
use Rattle.fwd_run.specs.Runs.{RunEvent}

-- of each output, the entries ever accepted are those settled and those held, and what is held is
-- what is held of its tags
abbrev pub AddUp : List Report → Type 0
AddUp reports = All AddsUp reports

-- behind a history of the run an output is what its report says
abbrev pub IsTrueAfter : List RunEvent → Report → Type 0
IsTrueAfter past report = (o : ℕ) × IsReportAfter past o report

-- each of these reports is true behind one history of the run
abbrev pub AreReportsAfter : List RunEvent → List Report → Type 0
AreReportsAfter past reports = All (IsTrueAfter past) reports

-- an output's last report, with its number and the history as far as its page knows it: it is true
-- behind that, and another history is a longer one
pub record IsLast (past : List RunEvent) (last : Report × EndedOutput) : Type 0 where
  pub adds_up : AddsUp last.0
  pub report : IsReportAfter last.1.past last.1.output last.0
  pub onward : Comes last.1.past past
