-- The numbers of faults.
use Rattle.std.specs.Prelude.{ℕ}
use Rattle.fwd_msgpack.specs.declared.fault.ScanFault.{ScanFault}
use Rattle.fwd_msgpack.specs.declared.fault.ScanFault.TheVariants.{Reserved, TooDeep, TooLong}
use Rattle.fwd_modes.specs.declared.fault.InputFault.{InputFault}
use Rattle.fwd_modes.specs.declared.fault.InputFault.TheVariants.{BadShape, BadTag, BadEntry, BadOption, Compressed}
use Rattle.fwd_source.specs.declared.fault.SourceFault.{SourceFault}
use Rattle.fwd_source.specs.declared.fault.SourceFault.TheVariants.{Scan, Input, NotPing, Denied, Closed}

-- the number of a fault of the bytes
abbrev pub scan_number : ScanFault → ℕ
scan_number Reserved = 1
scan_number TooDeep = 2
scan_number TooLong = 3

-- the number of a fault of a whole value that is no request
abbrev pub input_number : InputFault → ℕ
input_number BadShape = 4
input_number BadTag = 5
input_number BadEntry = 6
input_number BadOption = 7
input_number Compressed = 8

-- a fault of the bytes or of a request has its own number
abbrev pub fault_number : SourceFault → ℕ
fault_number (Scan fault) = scan_number fault
fault_number (Input fault) = input_number fault
fault_number NotPing = 9
fault_number Denied = 10
fault_number Closed = 11
