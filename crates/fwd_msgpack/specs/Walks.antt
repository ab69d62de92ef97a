-- One step of a walk over the values of a stream.
use Rattle.std.specs.Prelude.{◌≡◌, ℕ, ◌<◌, List, [], ◌∷◌, ◌++◌, length}
use Rattle.fwd_msgpack.specs.declared.stream.Next.{Next}
use Rattle.fwd_msgpack.specs.declared.stream.Next.TheVariants as next
use Rattle.fwd_msgpack.specs.Scans.{Split, split_of, with_front}
use Rattle.fwd_msgpack.specs.Scans.Split.{Open, Broken}
use Rattle.fwd_msgpack.specs.Values.{bytes_of}

-- the stream by what comes next in its bytes: nothing but the rest, nothing but the fault, or the
-- value before all that the bytes behind it are split into
abbrev pub split_by : (limit deep : ℕ) → List ℕ → Next → Split
split_by limit deep bytes next.Unfinished = Open [] bytes
split_by limit deep bytes (next.Fault fault) = Broken [] fault
split_by limit deep bytes (next.Value value behind) =
    with_front (bytes_of value ∷ []) (split_of limit deep behind.now)

-- a value and what is behind it are the bytes, and what is behind it is shorter than they are
abbrev pub AreParts : List ℕ → Next → Type 0
AreParts bytes (next.Value value behind) =
    (bytes ≡ bytes_of value ++ behind.now) × (length behind.now < length bytes)
AreParts bytes next = Unit {0}
