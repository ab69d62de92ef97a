-- What is known of a relay that was asked to stop.
use Rattle.std.specs.Prelude.{◌≡◌, ◌≤◌, ℕ, Option, Some, None, false}
use Rattle.fwd_turns.specs.declared.draining.DrainSeen.{DrainSeen}

-- nothing is left to be done: no source can connect, none is connected, and no output holds an
-- entry
abbrev pub IsDone : DrainSeen → Type 0
IsDone seen = (seen.is_listening ≡ false) × (seen.sources ≡ 0) × (seen.held ≡ 0)

-- every source was read to its end: none can connect, none is connected, and none was cut off
abbrev pub IsReadOut : DrainSeen → Type 0
IsReadOut seen = (seen.is_listening ≡ false) × (seen.sources ≡ 0) × (seen.cut ≡ 0)

-- nothing is left to be done, and every source was read to its end
abbrev pub IsDrained : DrainSeen → Type 0
IsDrained seen = IsDone seen × (seen.cut ≡ 0)

-- a time is over at a moment, if there is one that ends
abbrev pub IsPast : (deadline : Option ℕ) → (now : ℕ) → Type 0
IsPast None now = ⊥
IsPast (Some deadline) now = deadline ≤ now
