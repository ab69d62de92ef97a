-- What a connection asks for, in the words of its values, each read by itself.
use Rattle.std.specs.Prelude.{◌≡◌, ◌≢◌, ℕ, Bool, List, [], ◌∷◌, map, filter_map, take, take_while, Option, Some, None, is_none}
use Rattle.std.specs.Option.{option_or}
use Rattle.fwd_msgpack.specs.declared.limits.Limits.{Limits}
use Rattle.fwd_msgpack.specs.Scans.{Split, Whole, first_of, values_of}
use Rattle.fwd_msgpack.specs.Scans.Split.{Open, Broken}
use Rattle.fwd_modes.specs.declared.fault.InputFault.{InputFault}
use Rattle.fwd_modes.specs.declared.fault.InputFault.TheVariants.{BadEntry}
use Rattle.fwd_modes.specs.Requests.{Request, Reading, request_of}
use Rattle.fwd_modes.specs.Requests.Reading.{Heartbeat, Asks, Fails}
use Rattle.fwd_source.specs.declared.fault.SourceFault.{SourceFault}
use Rattle.fwd_source.specs.declared.fault.SourceFault.TheVariants.{Scan, Input}

-- the request that a value asks for: nil asks for nothing
abbrev pub asked_by : Reading → Option Request
asked_by Heartbeat = None
asked_by (Asks r) = Some r
asked_by (Fails f) = None

-- what is wrong with a value, if anything is
abbrev pub wrong_with : Reading → Option SourceFault
wrong_with Heartbeat = None
wrong_with (Asks r) = None
wrong_with (Fails f) = Some (Input f)

-- nothing is wrong with the value
abbrev pub is_good : Reading → Bool
is_good reading = is_none (wrong_with reading)

-- the first fault of the values, or else what is behind them
abbrev pub first_wrong : List Reading → Option SourceFault → Option SourceFault
first_wrong [] behind = behind
first_wrong (reading ∷ others) behind = option_or (wrong_with reading) (first_wrong others behind)

-- the fault behind the values of a stream, if there is one
abbrev pub fault_behind : Split → Option SourceFault
fault_behind (Open values rest) = None
fault_behind (Broken values fault) = Some (Scan fault)

-- what the values of a stream say, each by itself
abbrev pub readings_of : (deep : ℕ) → Split → List Reading
readings_of deep split = map (request_of deep) (values_of split)

-- the requests of the values before the first faulty one, nil left out
abbrev pub requests_in : (deep : ℕ) → Split → List Request
requests_in deep split = filter_map asked_by (take_while is_good (readings_of deep split))

-- the leftmost fault of a stream: that of its first faulty value, or else the one behind its values
abbrev pub leftmost_fault : (deep : ℕ) → Split → Option SourceFault
leftmost_fault deep split = first_wrong (readings_of deep split) (fault_behind split)

-- the first value of the bytes is no request, by its shape, tag, option or compression
pub record IsRefused (limits : Limits) (bytes : List ℕ) : Type 0 where
  pub size : ℕ
  pub whole : first_of limits.bytes limits.depth bytes ≡ Whole size
  pub fault : InputFault
  pub fails : request_of limits.depth (take size bytes) ≡ Fails fault
  pub beside : fault ≢ BadEntry
