-- What happens to a buffer, and what a run of such events reaches.
use Rattle.std.specs.Prelude.{
  ◌≡◌,
  ◌<◌,
  ◌≤◌,
  ℕ,
  List,
  [],
  ◌∷◌,
  Option,
  Some,
  None,
  slice_get,
  if◌then◌else◌,
}
use Rattle.fwd_modes.specs.Requests.{Request}
use Rattle.fwd_modes.specs.declared.origin.Origin.{Origin}
use Rattle.fwd_chunks.specs.declared.flush.FlushKind.{FlushKind}
use Rattle.fwd_chunks.specs.declared.wanted.Wanted.{Wanted}
use Rattle.fwd_chunks.specs.declared.fault.AdmitError.{AdmitError}
use Rattle.fwd_chunks.specs.Cells.{Cell, is_carried}
use Rattle.fwd_chunks.specs.History.{
  BufferSetting,
  BufferHistory,
  opening,
  refusal,
  enters,
  flushes,
  takes,
  settles,
  frees,
}

-- a request is handed in; open numbers are closed; a worker asks for a chunk that it wants; a
-- number was acknowledged; it is given back
pub data BufferEvent : Type 0 where
  Enter : (origin : Origin) (r : Request) (now : ℕ) → BufferEvent
  Flush : (now : ℕ) (kind : FlushKind) → BufferEvent
  Take : (worker : ℕ) (wanted : Wanted) (now : ℕ) → BufferEvent
  Settle : (number : ℕ) → BufferEvent
  Free : (number : ℕ) (loss : Option ℕ) → BufferEvent

-- a refusal changes nothing
abbrev pub unless_refused : {B : Type 0} → Option AdmitError → B → B → B
unless_refused None next same = next
unless_refused (Some fault) next same = same

-- what an event comes to; a number that no worker has is neither settled nor given back
abbrev pub history_next : BufferHistory → BufferEvent → BufferHistory
history_next h (Enter origin r now) =
    unless_refused (refusal h origin r now) (enters h origin r now) h
history_next h (Flush now kind) = flushes h now kind
history_next h (Take worker wanted now) = takes h worker wanted now
history_next h (Settle number) = if is_carried number h.carried then settles h number else h
history_next h (Free number loss) = if is_carried number h.carried then frees h number loss else h

-- the history that events lead to
abbrev pub history_after : BufferHistory → List BufferEvent → BufferHistory
history_after h [] = h
history_after h (event ∷ events) = history_after (history_next h event) events

-- some events lead from an empty buffer to the history
pub record IsReached (setting : BufferSetting) (h : BufferHistory) : Type 0 where
  pub events : List BufferEvent
  pub leads : history_after (opening setting) events ≡ h

-- ---- what holds of every run

-- in list order the numbers of cells never fall
abbrev pub NumbersRise : List Cell → Type 0
NumbersRise cells =
    (i j : ℕ) (c d : Cell) → i < j → slice_get cells i ≡ Some c
    → slice_get cells j ≡ Some d → c.number ≤ d.number

-- in list order the numbers of one tag never fall
abbrev pub TagNumbersRise : List Cell → Type 0
TagNumbersRise cells =
    (i j : ℕ) (c d : Cell) → i < j → slice_get cells i ≡ Some c
    → slice_get cells j ≡ Some d → c.tag ≡ d.tag → c.number ≤ d.number

-- all entries of a number have one tag
abbrev pub NumbersHaveOneTag : List Cell → Type 0
NumbersHaveOneTag cells =
    (i j : ℕ) (c d : Cell) → slice_get cells i ≡ Some c → slice_get cells j ≡ Some d
    → c.number ≡ d.number → c.tag ≡ d.tag
