-- The exit status of a call that has a relay stop.
use Rattle.std.specs.Prelude.{ℕ}
use Rattle.fwd_script.specs.Statuses.{exit_code}
use Rattle.fwd_program.specs.declared.stopping.StopEnd.{StopEnd}
use Rattle.fwd_program.specs.declared.stopping.StopEnd.TheVariants.{Ran, Left, Unanswered}

-- the exit status: that of a check that ends so, 6 where something is left, and 4 where no relay
-- answers
abbrev pub stop_code : StopEnd → ℕ
stop_code (Ran status) = exit_code status
stop_code (Left left) = 6
stop_code Unanswered = 4
