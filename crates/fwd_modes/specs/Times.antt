-- The times of entries (Forward Protocol Specification v1, "EventTime Ext Format").
use Rattle.std.specs.Prelude.{ℤ, pos, ℕ, ◌==◌, ◌&&◌, ◌||◌, Bool, List, length, take, drop, Option, Some, None, is_some, option_and_then, if◌then◌else◌}
use Rattle.std.specs.Int.{w32, from_be_bytes}
use Rattle.std.specs.Ordering.{int_eq}
use Rattle.fwd_msgpack.specs.Scans.{ext_of, integer_of}

-- a moment of the Unix epoch
pub record Moment : Type 0 where
  pub sec : ℕ
  pub nanos : ℕ

-- type 0 and 8 bytes: the seconds and the nanoseconds, 32 bits each, big-endian
abbrev pub event_time_in : ℤ × List ℕ → Option Moment
event_time_in (kind, body) =
    if int_eq kind (pos 0) && (length body == 8)
    then Some (record {
      sec = from_be_bytes w32 (take 4 body);
      nanos = from_be_bytes w32 (drop 4 body);
    })
    else None

-- the EventTime that a whole value is, however its head is spelled
abbrev pub event_time_of : List ℕ → Option Moment
event_time_of bytes = option_and_then event_time_in (ext_of bytes)

-- a time is an integer or an EventTime
abbrev pub is_time : List ℕ → Bool
is_time bytes = is_some (integer_of bytes) || is_some (event_time_of bytes)
