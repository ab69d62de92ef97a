-- How a run by the settings in a text ended, and what was written by then.
use Rattle.std.specs.Prelude.{◌≡◌, ◌⊎◌, ℕ, List, length, Option, Ok, Err}
use Rattle.std.specs.Io.KnownBytes.{Appends, Keeps}
use Rattle.fwd_monitor.specs.Report.{Report}
use Rattle.fwd_settings.specs.Whole.{settings_of}
use Rattle.fwd_settings.specs.declared.settings.Settings.{Settings}
use Rattle.fwd_settings.specs.declared.fault.SettingsFault.TheVariants as faults
use Rattle.fwd_monitor.specs.Page.{page_of}
use Rattle.fwd_script.specs.Writes.{AppendsFront}
use Rattle.fwd_script.specs.declared.status.Status.TheVariants as statuses
use Rattle.fwd_journal.specs.declared.ending.RunEnd.{RunEnd}
use Rattle.fwd_journal.specs.declared.ending.RunEnd.TheVariants.{Ran, Start, Left}
use Rattle.fwd_loop.specs.Ends.{AddUp}

-- what a run by these settings may report at its end: of each output once, and so that it adds up
abbrev pub ReportsFor : Settings → List Report → Type 0
ReportsFor settings reports = (length reports ≡ length settings.outputs) × AddUp reports

-- How a run by the settings in a text ended, and what it wrote: all of the page of its reports,
-- also where something is left, and where a write or a flush failed a front of it, or nothing. Only
-- a text that was not read is unreadable. It has no script to end at.
abbrev pub Runs : RunEnd → List ℕ → Option (List ℕ) → Option (List ℕ) → Type 0
Runs (Ran statuses.Done) text old new =
    (s : Settings) × (settings_of text ≡ Ok s) × (reports : List Report) × ReportsFor s reports
    × Appends old new (page_of reports)
Runs (Ran (statuses.BadSettings fault)) text old new =
    ((settings_of text ≡ Err fault) ⊎ (fault ≡ faults.Unreadable)) × Keeps old new
Runs (Ran (statuses.BadLine number)) text old new = ⊥
Runs (Ran statuses.Memory) text old new = Keeps old new
Runs (Ran (statuses.Input failed)) text old new = ⊥
Runs (Ran (statuses.Output failed)) text old new =
    Keeps old new ⊎ ((s : Settings) × (settings_of text ≡ Ok s) × (reports : List Report)
    × ReportsFor s reports × AppendsFront old new (page_of reports))
Runs (Left left) text old new =
    (s : Settings) × (settings_of text ≡ Ok s) × (reports : List Report) × ReportsFor s reports
    × Appends old new (page_of reports)
Runs (Start fault) text old new = (s : Settings) × (settings_of text ≡ Ok s) × Keeps old new
