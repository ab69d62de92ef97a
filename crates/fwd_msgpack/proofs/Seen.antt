-- What a cut is, by its verdict.
use Rattle.std.proofs.Common.{◌≡◌, ℕ, refl}
use Rattle.fwd_msgpack.specs.declared.value.Value.{Value}
use Rattle.fwd_msgpack.specs.declared.value.Cut.{Cut}
use Rattle.fwd_msgpack.specs.declared.value.Cut.TheVariants as cuts
use Rattle.fwd_msgpack.specs.Scans.{Whole}
use Rattle.fwd_msgpack.specs.Cuts.{seen}

pub seen_whole : (cut : Cut) (n : ℕ) → seen cut ≡ Whole n
    → (value : Value) × ((used : ℕ) × (cut ≡ cuts.Whole value used))
seen_whole (cuts.Whole value used) n e = (value, (used, refl))
seen_whole cuts.Short n e = absurd cc
seen_whole (cuts.Bad fault) n e = absurd cc
