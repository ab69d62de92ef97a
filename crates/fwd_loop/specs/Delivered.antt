-- What a relay has delivered whose stop ended well.
use Rattle.std.specs.Prelude.{◌≡◌, ℕ, List, Some, All}
use Rattle.fwd_model.specs.declared.config.Config.{Config}
use Rattle.fwd_model.specs.Delivered.{IsDelivered}
use Rattle.fwd_base.specs.declared.report.Report.{Report}
use Rattle.fwd_output.specs.Paged.{IsReportAfter}
use Rattle.fwd_run.specs.Entered.{HasEntered}
use Rattle.fwd_run.specs.Runs.{RunEvent, config_of, relay_events}

-- each request that entered an output by a history of the run is delivered by it, whether its
-- source asked for an acknowledgement or not
abbrev pub HasDelivered : List RunEvent → (output : ℕ) → Type 0
HasDelivered past output =
    (config : Config) (id r : ℕ) → config_of past ≡ Some config
    → HasEntered config (relay_events past) id r output
    → IsDelivered config (relay_events past) id r output

-- behind a history an output is what its report says, and has delivered all
abbrev pub IsEmptied : List RunEvent → Report → Type 0
IsEmptied past report =
    (output : ℕ) × (IsReportAfter past output report × HasDelivered past output)

-- so is each of these outputs
abbrev pub AreEmptied : List RunEvent → List Report → Type 0
AreEmptied past reports = All (IsEmptied past) reports
