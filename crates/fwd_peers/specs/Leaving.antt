-- How far a source has come whose relay was asked to stop.
use Rattle.std.specs.Prelude.{◌-◌, ◌^◌, ℕ, Bool, true, false, nat_le, Option, Some, None}
use Rattle.fwd_peers.specs.declared.leave_stage.LastReading.{LastReading}
use Rattle.fwd_peers.specs.declared.leave_stage.LeaveStage.{LeaveStage}
use Rattle.fwd_peers.specs.declared.leave_stage.LeaveStage.TheVariants as stage

-- it is read from a moment on, for 2^24 bytes at most
abbrev pub begun : (now : ℕ) → LastReading
begun now = record { since = now; empty = None; left = 2 ^ 24 }

-- so many bytes came: its stream was not empty
abbrev pub with_bytes : (count : ℕ) → LastReading → LastReading
with_bytes count r = record r { empty = None; left = r.left - count }

-- when a stream was found empty first that is found so at a moment
abbrev pub first_empty : (now : ℕ) → Option ℕ → Option ℕ
first_empty now None = Some now
first_empty now (Some moment) = Some moment

-- its stream was found empty at a moment
abbrev pub found_empty : (now : ℕ) → LastReading → LastReading
found_empty now r = record r { empty = first_empty now r.empty }

-- for how long it had been read since a moment when its stream became empty, if it is
abbrev pub age_of : (since : ℕ) → Option ℕ → ℕ
age_of since None = 0
age_of since (Some empty) = empty - since

-- for how long it had been read so then
abbrev pub age : LastReading → ℕ
age r = age_of r.since r.empty

-- a stream was found empty so long ago at a moment, if it was
abbrev pub is_past : (pause now : ℕ) → Option ℕ → Bool
is_past pause now None = false
is_past pause now (Some empty) = nat_le pause (now - empty)

-- its stream has been empty for so long at a moment
abbrev pub is_quiet : (pause now : ℕ) → LastReading → Bool
is_quiet pause now r = is_past pause now r.empty

-- it was told that no more comes
abbrev pub is_leaving : LeaveStage → Bool
is_leaving stage.Stays = false
is_leaving (stage.Reads r) = false
is_leaving stage.Settles = false
is_leaving (stage.Leaves r taken) = true
is_leaving stage.Cut = true

-- it was closed before it was read to its end
abbrev pub is_cut : LeaveStage → Bool
is_cut stage.Stays = false
is_cut (stage.Reads r) = false
is_cut stage.Settles = false
is_cut (stage.Leaves r taken) = false
is_cut stage.Cut = true
