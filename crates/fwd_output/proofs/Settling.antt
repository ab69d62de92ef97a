-- How many entries a chunk settles at the most.
use Rattle.std.proofs.Common.{arith, ◌≡◌, ◌≤◌, ◌<◌, ◌+◌, ◌-◌, ℕ, Bool, true, false, cond, List, [], ◌∷◌, ◌⊎◌, inl, inr, length, Option, Some, None, refl, sym, ap, subst, ◌∙◌}
use Rattle.std.specs.Prelude.{nat_le, find, filter, option_map}
use Rattle.std.specs.List.{AllByRecursion}
use Rattle.std.proofs.lemmas.Bool.Decides.{nat_tests}
use Rattle.fwd_chunks.specs.declared.chunk.Chunk.{Chunk}
use Rattle.fwd_chunks.specs.History.{CarriedChunk}
use Rattle.fwd_chunks.specs.Live.{LiveBuffer, IsCarried, held_in, is_at, is_taken, live_carried_chunk}
use Rattle.fwd_chunks.specs.Soundness.{IsSound, IsWithin}
use Rattle.fwd_chunks.proofs.Calls.{carried-by}
use Rattle.fwd_chunks.proofs.Places.{filter-found, if_taken}
use Rattle.std.proofs.lemmas.Option.{none-some, same_Some}

-- a chunk that a worker has of this buffer has all entries under its number
carried-count : (b : LiveBuffer) (load : CarriedChunk) → IsSound b → IsCarried b load
    → held_in (filter (is_at load.number) b.chunks) ≡ length load.entries
carried-count b load sound is =
    by (find (is_at load.number) b.chunks) refl (sym (carried-by b load.number sound) ∙ is)
  where
    nothing : {X : Type 0} {x : X} → None ≡ Some x → ⊥
    nothing e = cc

    one : (n : ℕ) → n + 0 ≡ n
    one n = omega arith

    by : (o : Option Chunk) → find (is_at load.number) b.chunks ≡ o
        → option_map (live_carried_chunk b) (if_taken o) ≡ Some load
        → held_in (filter (is_at load.number) b.chunks) ≡ length load.entries
    by None e f = absurd (nothing f)
    by (Some c) e f =
        ap held_in (filter-found load.number b.chunks c sound.in_order e) ∙ one (length c.entries)
        ∙ entries (is_taken c.stage) f
      where
        entries : (t : Bool) → option_map (live_carried_chunk b) (cond t (Some c) None) ≡ Some load
            → length c.entries ≡ length load.entries
        entries true f = ap (λ (l : CarriedChunk). length l.entries) (same_Some _ _ f)
        entries false f = absurd (nothing f)

-- what is found has what all have
found-has : (P : Chunk → Type 0) (p : Chunk → Bool) (chunks : List Chunk) (c : Chunk)
    → AllByRecursion P chunks → find p chunks ≡ Some c → P c
found-has P p [] c all e = absurd (none-some c e)
found-has P p (d ∷ chunks) c all e = by (p d) e (found-has P p chunks c all.1)
  where
    by : (b : Bool) → cond b (Some d) (find p chunks) ≡ Some c → (find p chunks ≡ Some c → P c) → P c
    by true e others = subst P (same_Some _ _ e) all.0
    by false e others = others e

-- and it has an entry at the least
pub settles-some : (b : LiveBuffer) (load : CarriedChunk) → IsSound b → IsCarried b load
    → 0 < held_in (filter (is_at load.number) b.chunks)
settles-some b load sound is =
    by (find (is_at load.number) b.chunks) refl (sym (carried-by b load.number sound) ∙ is)
  where
    by : (o : Option Chunk) → find (is_at load.number) b.chunks ≡ o
        → option_map (live_carried_chunk b) (if_taken o) ≡ Some load
        → 0 < held_in (filter (is_at load.number) b.chunks)
    by None e f = absurd (none-some load f)
    by (Some c) e f =
        let one = ap held_in (filter-found load.number b.chunks c sound.in_order e) in
        let some = (found-has (IsWithin b.setting.limits.chunk) (is_at load.number) b.chunks c sound.within e).some in
        omega (arith, one, some)

-- what holds where some are counted, as none are where it does not
pub holds-if_some : (P : Type 0) (n : ℕ) → P ⊎ (P → ⊥) → ((P → ⊥) → n ≡ 0) → 0 < n → P
holds-if_some P n (inl is) none some = is
holds-if_some P n (inr not) none some = let no = none not in absurd (omega (arith, no, some))

-- a number that is at most another where something holds, and is nothing where it does not
either-most : (P : Type 0) (n most : ℕ) → (P → n ≤ most) → ((P → ⊥) → n ≡ 0) → n ≤ most
either-most P n most here elsewhere = by (nat_le n most) refl
  where
    by : (b : Bool) → nat_le n most ≡ b → n ≤ most
    by true e = grind (arith, nat_tests, e)
    by false e =
        let over : most < n = grind (arith, nat_tests, e) in
        let none = elsewhere (λ p. omega (arith, here p, over)) in
        omega (arith, none)

pub settles-most : (b : LiveBuffer) (load : CarriedChunk) (n : ℕ) → IsSound b
    → (IsCarried b load → n ≡ held_in (filter (is_at load.number) b.chunks))
    → ((IsCarried b load → ⊥) → n ≡ 0) → n ≤ length load.entries
settles-most b load n sound here elsewhere =
    either-most (IsCarried b load) n (length load.entries)
    (λ is. omega (arith, here is, carried-count b load sound is)) elsewhere
