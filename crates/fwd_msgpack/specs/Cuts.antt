-- What a cut shows.
use Rattle.std.specs.Prelude.{◌≡◌, ℕ, List, take, ◌<◌, ◌≤◌, length}
use Rattle.fwd_msgpack.specs.declared.value.Cut.{Cut}
use Rattle.fwd_msgpack.specs.declared.value.Cut.TheVariants as cuts
use Rattle.fwd_msgpack.specs.Scans.{Verdict, Whole, Short, Bad}
use Rattle.fwd_msgpack.specs.Values.{bytes_of}

-- the verdict of a cut
abbrev pub seen : Cut → Verdict
seen (cuts.Whole value used) = Whole used
seen cuts.Short = Short
seen (cuts.Bad fault) = Bad fault

-- the value of a cut is the front of the bytes
abbrev pub IsFront : List ℕ → Cut → Type 0
IsFront bytes (cuts.Whole value used) = bytes_of value ≡ take used bytes
IsFront bytes cut = Unit {0}

-- a value has at least one byte, and stands within the bytes
abbrev pub IsExtent : List ℕ → Cut → Type 0
IsExtent bytes (cuts.Whole value used) = (0 < used) × (used ≤ length bytes)
IsExtent bytes cut = Unit {0}
