-- Which lines over the control socket ask the relay to stop.
use Rattle.std.specs.Prelude.{ℕ, ◌^◌, ◌&&◌, nat_le, List, codes, take, drop, Option, Some, None, if◌then◌else◌}
use Rattle.std.specs.Str.{bytes_eq}
use Rattle.fwd_settings.specs.declared.ranges.TheConstants.{WAIT_MAX}
use Rattle.fwd_script.specs.Words.{number_of}

-- a time that a relay may be given, in milliseconds: at most a day
abbrev pub wait_in : Option ℕ → Option ℕ
wait_in None = None
wait_in (Some n) = if nat_le 1 n && nat_le n WAIT_MAX then Some n else None

-- within how long a line asks the relay to stop, in milliseconds, if it does: after `stop ` it has
-- only the digits of a number, with no sign and no leading zero. The line has no line feed
abbrev pub asked_of : List ℕ → Option ℕ
asked_of line =
    if bytes_eq (take 5 line) (codes "stop ")
    then wait_in (number_of (2 ^ 64) (drop 5 line)) else None
