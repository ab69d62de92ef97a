-- What becomes of a source of a relay that was asked to stop.
use Rattle.std.specs.Prelude.{◌≡◌, ◌≢◌, ◌==◌, ◌||◌, ◌&&◌, ◌-◌, ℕ, Bool, true, false, List, drop, nat_le, nat_lt, if◌then◌else◌}
use Rattle.fwd_peers.specs.Leaving as leaving
use Rattle.fwd_peers.specs.Leaving.{age, begun, found_empty, with_bytes}
use Rattle.fwd_peers.specs.Peers.{PeerShown, TakesIn, is_owed_nothing}
use Rattle.fwd_peers.specs.declared.leave_stage.LastReading.{LastReading}
use Rattle.fwd_peers.specs.declared.leave_stage.LeaveStage.{LeaveStage}
use Rattle.fwd_peers.specs.declared.leave_stage.LeaveStage.TheVariants.{Stays, Reads, Settles, Leaves, Cut}
use Rattle.fwd_peers.specs.declared.peer_state.PeerState.TheVariants as state
use Rattle.fwd_turns.specs.declared.leaving.Ahead.{Ahead}
use Rattle.fwd_turns.specs.declared.leaving.Ahead.TheVariants as ahead
use Rattle.fwd_turns.specs.declared.leaving.Found.{Found}
use Rattle.fwd_turns.specs.declared.leaving.Found.TheVariants as finds
use Rattle.fwd_turns.specs.declared.leaving.LeaveStep.{LeaveStep}
use Rattle.fwd_turns.specs.declared.leaving.LeaveStep.TheVariants as step
use Rattle.fwd_turns.specs.declared.leaving.TheConstants.{BRIEF, ENDLESS, GAP, HELD, LINGER, LONGEST, QUIET}
use Rattle.fwd_turns.specs.Visits.{judged}

-- ---- when a source goes on

-- for how long a stream is empty that is quiet, which had been read for so long when it became
-- empty
abbrev pub quiet_at : (age : ℕ) → ℕ
quiet_at age = if nat_lt age 1000 then QUIET else 0

-- the same of a source that was told that no more comes, where bytes that were taken stay there
abbrev pub gap_at : (age : ℕ) → ℕ
gap_at age =
    if nat_lt age 1000 then QUIET
    else if nat_lt age LONGEST then GAP
    else if nat_lt age ENDLESS then BRIEF else 0

-- the same where so many bytes stay there
abbrev pub pause_at : (taken age : ℕ) → ℕ
pause_at taken age =
    if nat_lt 0 taken then gap_at age else if nat_lt age LONGEST then LINGER else GAP

-- its stream is quiet at a moment
abbrev pub is_quiet : (now : ℕ) → LastReading → Bool
is_quiet now r = leaving.is_quiet (quiet_at (age r)) now r

-- the same of a source that was told that no more comes, of which so many bytes stay unread
abbrev pub is_done : (now : ℕ) → LastReading → (taken : ℕ) → Bool
is_done now r taken = leaving.is_quiet (pause_at taken (age r)) now r

-- a source is over, where that is so
abbrev pub ended_if : Bool → PeerShown → PeerShown
ended_if over s = if over then record s { stage = state.Over } else s

-- it is looked at once more where that is so
abbrev pub looks_if : Bool → LeaveStep
looks_if due = if due then step.Looks else step.Rests

-- what becomes at a moment of a source that has come so far, and is owed nothing or not
abbrev pub step_for : (now : ℕ) → (owes_nothing : Bool) → LeaveStage → LeaveStep
step_for now owes_nothing Stays = step.Begins
step_for now owes_nothing (Reads r) = looks_if (is_quiet now r)
step_for now owes_nothing Settles = if owes_nothing then step.Ends else step.Rests
step_for now owes_nothing (Leaves r taken) = looks_if (is_done now r taken)
step_for now owes_nothing Cut = step.Rests

-- how far it has come then
abbrev pub swept_stage : (now : ℕ) → (owes_nothing : Bool) → LeaveStage → LeaveStage
swept_stage now owes_nothing Stays = Reads (begun now)
swept_stage now owes_nothing (Reads r) = Reads r
swept_stage now owes_nothing Settles = if owes_nothing then Leaves (begun now) 0 else Settles
swept_stage now owes_nothing (Leaves r taken) = Leaves r taken
swept_stage now owes_nothing Cut = Cut

-- a source that was visited at a moment: nothing else of it changes
abbrev pub swept : (now : ℕ) → PeerShown → PeerShown
swept now s = record s { leave = swept_stage now (is_owed_nothing s) s.leave }

-- ---- when it is read

-- how many bytes were taken of its stream that stay there
abbrev pub taken_of : LeaveStage → ℕ
taken_of Stays = 0
taken_of (Reads r) = 0
taken_of Settles = 0
taken_of (Leaves r taken) = taken
taken_of Cut = 0

-- What a stream has that was seen to have so many bytes, of which so many were taken, and which was
-- found empty at the look before or not: bytes may stay there that are few, and all that came since
-- the relay last had all.
abbrev pub ahead_of : (seen taken : ℕ) → (was_empty : Bool) → Ahead
ahead_of seen taken was_empty =
    if nat_le seen taken then ahead.Nothing
    else if nat_le (seen - taken) HELD && (nat_lt 0 taken || was_empty) then ahead.Few else ahead.Many

-- what a source's stream has behind so many bytes that were taken before is taken in, if it is
-- open, and the source is judged by it
pub record TakesAhead (taken : ℕ) (seen : List ℕ) (s t : PeerShown) : Type 0 where
  pub between : PeerShown
  pub takes : s.stage ≡ state.Open
      → TakesIn s (drop taken seen) between.live between.stage between.why
  pub closed : s.stage ≢ state.Open → between ≡ s
  pub after : t ≡ judged between
  pub leave : t.leave ≡ s.leave

-- the stream of a source was found empty at a moment, but for so many bytes that were taken: it is
-- over where it closed, or where its stream has been empty for long enough
abbrev pub left_empty : (now : ℕ) → (closed : Bool) → LastReading → (taken : ℕ) → PeerShown → PeerShown
left_empty now closed r taken s =
    ended_if (closed || is_done now (found_empty now r) taken)
    (record s { leave = Leaves (found_empty now r) taken })

-- how a source is read on behind a read at a moment of so many bytes
abbrev pub read_by : (now : ℕ) → Found → (count : ℕ) → LastReading → LastReading
read_by now finds.More count r = with_bytes count r
read_by now finds.Last count r = found_empty now (with_bytes count r)
read_by now finds.Nothing count r = found_empty now r

-- it is read no more once its stream is quiet, or it was read as many bytes as it may
abbrev pub reads_on : (now : ℕ) → LastReading → LeaveStage
reads_on now r = if is_quiet now r || (r.left == 0) then Settles else Reads r

-- how far it has come behind such a read
abbrev pub comes_to : (now : ℕ) → Found → (count : ℕ) → LeaveStage → LeaveStage
comes_to now found count Stays = Stays
comes_to now found count (Reads r) = reads_on now (read_by now found count r)
comes_to now found count Settles = Settles
comes_to now found count (Leaves r taken) = Leaves (read_by now found count r) taken
comes_to now found count Cut = Cut

-- a source was read at a moment, and has come so far by what that found: no byte only where none of
-- it came at that moment
pub record GoesOn (now : ℕ) (s t : PeerShown) : Type 0 where
  pub found : Found
  pub count : ℕ
  pub nothing : found ≡ finds.Nothing → t.heard ≢ now
  pub leave : t.leave ≡ comes_to now found count s.leave
