-- How a run ends, and the exit status of each end.
use Rattle.std.specs.Prelude.{ℕ}
use Rattle.fwd_script.specs.Statuses.{exit_code}
use Rattle.fwd_script.specs.declared.status.Status.TheVariants as statuses
use Rattle.fwd_monitors.specs.declared.start_fault.StartFault.{StartFault}
use Rattle.fwd_monitors.specs.declared.start_fault.StartFault.TheVariants as starts
use Rattle.fwd_listeners.specs.declared.ending.Ending.{Ending}
use Rattle.fwd_listeners.specs.declared.ending.Ending.TheVariants as endings
use Rattle.fwd_journal.specs.declared.ending.RunEnd.{RunEnd}
use Rattle.fwd_journal.specs.declared.ending.RunEnd.TheVariants.{Ran, Start, Left}

-- the exit status: that of a check or a replay that ends so, 4 where the relay could not start, and
-- 6 where it was asked to stop and something is left
abbrev pub run_code : RunEnd → ℕ
run_code (Ran status) = exit_code status
run_code (Start fault) = 4
run_code (Left left) = 6

-- how a run ends that came to its end so
abbrev pub ended_as : Ending → RunEnd
ended_as (endings.Left left) = Left left
ended_as ending = Ran statuses.Done

-- how a run ends whose relay could not start: out of memory is told as such
abbrev pub ended_by : StartFault → RunEnd
ended_by starts.Memory = Ran statuses.Memory
ended_by fault = Start fault
