-- What a link answers, by what a call of its stream answered.
use Rattle.std.specs.Prelude.{ℕ, ◌==◌, Result, Ok, Err, if◌then◌else◌}
use Rattle.std.specs.IoError.{error_kind}
use Rattle.std.specs.declared.io.ErrorKind.{ErrorKind}
use Rattle.std.specs.declared.io.ErrorKind.TheVariants as kind
use Rattle.std.specs.declared.io.Error.{Error}
use Rattle.fwd_environment.specs.declared.link.LinkFault.{LinkFault}
use Rattle.fwd_environment.specs.declared.link.LinkFault.TheVariants as fault
use Rattle.fwd_environment.specs.declared.link.Read.{Read}
use Rattle.fwd_environment.specs.declared.link.Read.TheVariants as read

-- a write failed so: it took no byte where it would have to wait, or is to be made again
abbrev pub unwritten : ErrorKind → Result ℕ LinkFault
unwritten kind.WouldBlock = Ok 0
unwritten kind.Interrupted = Ok 0
unwritten _ = Err fault.Write

-- how many bytes a write took
abbrev pub written : Result ℕ Error → Result ℕ LinkFault
written (Ok count) = Ok count
written (Err error) = unwritten (error_kind error)

-- a read failed so: nothing is there yet where it would have to wait, or is to be made again
abbrev pub unread : ErrorKind → Result Read LinkFault
unread kind.WouldBlock = Ok read.Nothing
unread kind.Interrupted = Ok read.Nothing
unread _ = Err fault.Read

-- What a read gave, of one byte or more that it was asked for: no byte shows that the server closed
-- its side.
abbrev pub given : Result ℕ Error → Result Read LinkFault
given (Ok count) = Ok (if count == 0 then read.Closed else read.Bytes count)
given (Err error) = unread (error_kind error)
