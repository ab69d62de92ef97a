-- What the code's scan of some bytes shows.
use Rattle.std.specs.Prelude.{◌≡◌, ℕ, ◌+◌, ◌<◌, ◌≤◌, List, [], length, drop, fold}
use Rattle.fwd_msgpack.specs.declared.scan.Extent.{Extent}
use Rattle.fwd_msgpack.specs.declared.scan.Extent.TheVariants as extents
use Rattle.fwd_msgpack.specs.declared.scan.Stop.{Stop}
use Rattle.fwd_msgpack.specs.declared.scan.Stop.TheVariants as stops
use Rattle.fwd_msgpack.specs.declared.head.HeadRead.TheVariants as read
use Rattle.fwd_msgpack.specs.Heads.{reading_of}
use Rattle.fwd_msgpack.specs.Scans.{Verdict, Whole, Short, Bad, State, Going, Ended, Failed, InHead, InPayload, scan_byte}

-- the verdict that an extent is
abbrev pub verdict_shown : Extent → Verdict
verdict_shown (extents.Whole used) = Whole used
verdict_shown extents.Short = Short
verdict_shown (extents.Bad fault) = Bad fault

-- the state in the end of a scan that stands behind the first
-- used bytes, where an item begins inside these containers
abbrev pub scan_behind : (limit deep used : ℕ) → List ℕ → List ℕ → State
scan_behind limit deep used stack bytes =
    fold (scan_byte limit deep) (Going used stack (InHead [])) (drop used bytes)

-- the state in which a scan of these bytes stops, where it leaves these containers open
abbrev pub stopped : List ℕ → List ℕ → Stop → State
stopped bytes stack (stops.Whole used) = Ended used
stopped bytes stack (stops.InHead at) = Going (length bytes) stack (InHead (drop at bytes))
stopped bytes stack (stops.InPayload left) = Going (length bytes) stack (InPayload left)
stopped bytes stack (stops.Bad fault) = Failed fault

-- where a scan stops lies within the bytes, and within the limit with all that is owed
abbrev pub StopsWithin : (limit owed : ℕ) → List ℕ → Stop → Type 0
StopsWithin limit owed bytes (stops.Whole used) = (used ≤ length bytes) × (used ≤ limit)
StopsWithin limit owed bytes (stops.InHead at) =
    (at ≤ length bytes) × (at + owed ≤ limit) × (reading_of (drop at bytes) ≡ read.Short)
StopsWithin limit owed bytes (stops.InPayload left) =
    (0 < left) × (length bytes + left + owed ≤ limit)
StopsWithin limit owed bytes (stops.Bad fault) = Unit {0}
