-- A worker has a chunk from a buffer, or has not.
use Rattle.std.proofs.Common.{◌≡◌, ◌⊎◌, inl, inr, Bool, true, false, Option, Some, None, refl, ap}
use Rattle.std.specs.Prelude.{◌==◌}
use Rattle.std.specs.Bool.{Decides}
use Rattle.std.specs.Cmp.Lexicographic.{pointwise}
use Rattle.std.specs.Str.{bytes_eq}
use Rattle.std.proofs.lemmas.Bool.Decides.{Decides-eqb}
use Rattle.std.proofs.lemmas.Option.{none-some, same_Some}
use Rattle.std.proofs.lemmas.Slice.Eq.{bytes_eq-Decides, slice_eq-Decides}
use Rattle.fwd_chunks.specs.History.{CarriedChunk}
use Rattle.fwd_chunks.specs.Live.{LiveBuffer, IsCarried, live_carried}

-- what is tested holds, or does not
tested : {P : Type 0} (r : Bool) → Decides r P → P ⊎ (¬ P)
tested true says = inl (says.0 refl)
tested false says = inr (λ p. never (says.1 p))
  where
    never : false ≡ true → ⊥
    never e = cc

-- both hold, or not both do
both_or : {P Q : Type 0} → P ⊎ (¬ P) → Q ⊎ (¬ Q) → (P × Q) ⊎ (¬ (P × Q))
both_or (inl p) (inl q) = inl (p, q)
both_or (inl p) (inr not) = inr (λ b. not b.1)
both_or (inr not) q = inr (λ b. not b.0)

-- chunks that workers have are one, or are not
same-load : (a b : CarriedChunk) → (a ≡ b) ⊎ (¬ (a ≡ b))
same-load a b =
    whole (both_or (tested (a.number == b.number) (Decides-eqb a.number b.number))
    (both_or (tested (bytes_eq a.tag b.tag) (bytes_eq-Decides a.tag b.tag))
    (both_or (tested (pointwise bytes_eq a.entries b.entries) (slice_eq-Decides bytes_eq-Decides a.entries b.entries (pointwise bytes_eq a.entries b.entries) refl))
    (tested (bytes_eq a.name b.name) (bytes_eq-Decides a.name b.name)))))
  where
    Parts : Type 0
    Parts = (a.number ≡ b.number) × ((a.tag ≡ b.tag) × ((a.entries ≡ b.entries) × (a.name ≡ b.name)))

    whole : Parts ⊎ (¬ Parts) → (a ≡ b) ⊎ (¬ (a ≡ b))
    whole (inl p) = inl (λ i. record { number = p.0 i; tag = p.1.0 i; entries = p.1.1.0 i; name = p.1.1.1 i })
    whole (inr not) = inr (λ e. not (ap (λ (l : CarriedChunk). l.number) e, (ap (λ (l : CarriedChunk). l.tag) e, (ap (λ (l : CarriedChunk). l.entries) e, ap (λ (l : CarriedChunk). l.name) e))))

-- a worker has the chunk from this buffer, or none has
pub carried-or : (b : LiveBuffer) (load : CarriedChunk) → IsCarried b load ⊎ (¬ (IsCarried b load))
carried-or b load = by (live_carried b load.number)
  where
    by : (o : Option CarriedChunk) → (o ≡ Some load) ⊎ (¬ (o ≡ Some load))
    by None = inr (λ e. none-some load e)
    by (Some d) = found (same-load d load)
      where
        found : (d ≡ load) ⊎ (¬ (d ≡ load)) → (Some d ≡ Some load) ⊎ (¬ (Some d ≡ Some load))
        found (inl e) = inl (ap Some e)
        found (inr not) = inr (λ e. not (same_Some d load e))
