-- What a scanner is, and what it answers.
use Rattle.std.specs.Prelude.{◌≡◌, ℕ, ◌+◌, ◌<◌, ◌≤◌, List, length, fold, None}
use Rattle.fwd_msgpack.specs.declared.limits.Limits.{Limits}
use Rattle.fwd_msgpack.specs.declared.scanner.Fed.{Fed}
use Rattle.fwd_msgpack.specs.declared.scanner.Fed.TheVariants as feds
use Rattle.fwd_msgpack.specs.declared.stream.Next.{Next}
use Rattle.fwd_msgpack.specs.declared.stream.Next.TheVariants as next
use Rattle.fwd_msgpack.specs.declared.value.Cut.{Cut}
use Rattle.fwd_msgpack.specs.declared.value.Cut.TheVariants as cuts
use Rattle.fwd_msgpack.specs.Scans.{Verdict, Whole, Short, Bad, State, Going, Ended, Failed, scan_byte, start, verdict_of, whole_len}

-- where a scan stands, and within which limits
pub record Standing : Type 0 where
  pub limits : Limits
  pub state : State

-- where a scan begins
abbrev pub fresh : Limits → Standing
fresh limits = record { limits = limits; state = start }

-- where a scan stands behind more bytes
abbrev pub onward : Standing → List ℕ → Standing
onward standing bytes = record {
  limits = standing.limits;
  state = fold (scan_byte standing.limits.bytes standing.limits.depth) standing.state bytes;
}

-- where a scan stands behind all these bytes
abbrev pub standing_behind : Limits → List ℕ → Standing
standing_behind limits bytes = onward (fresh limits) bytes

-- how many bytes a scan has taken; behind a fault nothing counts
abbrev pub taken : State → ℕ
taken (Going used stack item) = used
taken (Ended used) = used
taken (Failed fault) = 0

-- the verdict of an answer on all bytes, where so many stand before the piece
abbrev pub heard : (before : ℕ) → Fed → Verdict
heard before feds.More = Short
heard before (feds.End used) = Whole (before + used)
heard before (feds.Bad fault) = Bad fault

-- a value ends within the piece, behind at least one byte of it
abbrev pub EndsWithin : List ℕ → Fed → Type 0
EndsWithin piece (feds.End used) = (0 < used) × (used ≤ length piece)
EndsWithin piece fed = Unit {0}

-- a scan stands behind these bytes, and no value has ended there
abbrev pub IsBehind : Limits → List ℕ → Standing → Type 0
IsBehind limits bytes standing =
    (standing ≡ standing_behind limits bytes) × (whole_len (verdict_of standing.state) ≡ None)

-- where a scan stands after a cut of these bytes: behind less than a value it goes on from there,
-- behind a value the next one begins
abbrev pub StandsAfterCut : Limits → List ℕ → Cut → Standing → Type 0
StandsAfterCut limits bytes cuts.Short standing = IsBehind limits bytes standing
StandsAfterCut limits bytes (cuts.Whole value used) standing = standing ≡ fresh limits
StandsAfterCut limits bytes (cuts.Bad fault) standing = standing.limits ≡ limits

-- the same, after one step of a walk
abbrev pub StandsAfter : Limits → List ℕ → Next → Standing → Type 0
StandsAfter limits bytes next.Unfinished standing = IsBehind limits bytes standing
StandsAfter limits bytes (next.Value value behind) standing = standing ≡ fresh limits
StandsAfter limits bytes (next.Fault fault) standing = standing.limits ≡ limits
