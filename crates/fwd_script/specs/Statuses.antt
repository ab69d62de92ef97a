-- What a program tells of the end of a replay: its exit status, and a line on standard error.
use Rattle.std.specs.Prelude.{ℕ, List, [], ◌++◌, codes}
use Rattle.std.specs.Fmt.{decimal}
use Rattle.fwd_settings.specs.Faults.{fault_text}
use Rattle.fwd_settings.specs.declared.fault.SettingsFault.{SettingsFault}
use Rattle.fwd_settings.specs.declared.fault.SettingsFault.TheVariants as faults
use Rattle.fwd_script.specs.declared.input.InputError.{InputError}
use Rattle.fwd_script.specs.declared.input.InputError.TheVariants as reads
use Rattle.fwd_script.specs.declared.status.Status.{Status}
use Rattle.fwd_script.specs.declared.status.Status.TheVariants.{Done, BadSettings, BadLine, Memory, Input, Output}

-- the exit status of each
abbrev pub exit_code : Status → ℕ
exit_code Done = 0
exit_code (BadSettings fault) = 1
exit_code (BadLine number) = 3
exit_code Memory = 4
exit_code (Input failed) = 5
exit_code (Output failed) = 5

-- the line, without its line feed
abbrev pub status_text : Status → List ℕ
status_text Done = []
status_text (BadSettings fault) = codes "settings: " ++ fault_text fault
status_text (BadLine number) = codes "line " ++ (decimal number ++ codes ": bad event")
status_text Memory = codes "memory"
status_text (Input failed) = codes "input"
status_text (Output failed) = codes "output"

-- how a replay ends whose input was not read to its end
abbrev pub unread_status : InputError → Status
unread_status reads.Memory = Memory
unread_status (reads.Failed failed) = Input failed

-- how a run ends whose settings are refused: out of memory is no fault of theirs
abbrev pub refused_status : SettingsFault → Status
refused_status faults.Memory = Memory
refused_status faults.Unreadable = BadSettings faults.Unreadable
refused_status faults.NotToml = BadSettings faults.NotToml
refused_status (faults.Missing key) = BadSettings (faults.Missing key)
refused_status (faults.WrongKind key) = BadSettings (faults.WrongKind key)
refused_status (faults.OutOfRange key) = BadSettings (faults.OutOfRange key)
refused_status (faults.Unknown key) = BadSettings (faults.Unknown key)
refused_status (faults.BadPattern key) = BadSettings (faults.BadPattern key)
