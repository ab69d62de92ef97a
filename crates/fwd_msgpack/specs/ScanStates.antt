-- What a scanner's fields show.
use Rattle.std.specs.Prelude.{◌≡◌, ℕ, ◌+◌, ◌<◌, ◌≤◌, Bool, true, false, List, [], ◌∷◌, length}
use Rattle.fwd_msgpack.specs.declared.head.HeadRead.TheVariants as read
use Rattle.fwd_msgpack.specs.declared.scan_state.ScanState.{ScanState}
use Rattle.fwd_msgpack.specs.declared.scan_state.ScanState.TheVariants as stages
use Rattle.fwd_msgpack.specs.Heads.{reading_of}
use Rattle.fwd_msgpack.specs.Scans.{State, Going, Ended, Failed, InHead, InPayload}

-- The state of a scan behind so many bytes, and behind the front of a head.
abbrev pub state_shown : (used : ℕ) → List ℕ → List ℕ → ScanState → State
state_shown used stack front stages.Head = Going (used + length front) stack (InHead front)
state_shown used stack front (stages.Payload left) = Going used stack (InPayload left)
state_shown used stack front stages.Ended = Ended used
state_shown used stack front (stages.Failed fault) = Failed fault

-- What a scan that goes on has used and owes is within the limit, and
-- only in a head there is a front of one, which is less than a head.
abbrev pub IsScanState : (limit used owed : ℕ) → List ℕ → ScanState → Type 0
IsScanState limit used owed front stages.Head =
    (used + owed ≤ limit) × (reading_of front ≡ read.Short)
IsScanState limit used owed front (stages.Payload left) =
    (0 < left) × (used + left + owed ≤ limit) × (front ≡ [])
IsScanState limit used owed front stages.Ended = used ≤ limit
IsScanState limit used owed front (stages.Failed fault) = Unit {0}

-- the scan is within a head
abbrev pub in_head : State → Bool
in_head (Going used stack (InHead [])) = false
in_head (Going used stack (InHead (byte ∷ pending))) = true
in_head (Going used stack (InPayload left)) = false
in_head (Ended used) = false
in_head (Failed fault) = false

-- the scan is within an item
abbrev pub in_item : State → Bool
in_item (Going used stack (InHead [])) = false
in_item (Going used stack (InHead (byte ∷ pending))) = true
in_item (Going used stack (InPayload left)) = true
in_item (Ended used) = false
in_item (Failed fault) = false
