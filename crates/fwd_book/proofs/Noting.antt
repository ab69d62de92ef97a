-- Notes of the numbers that requests have.
use Rattle.std.proofs.Common.{arith, ◌≡◌, ◌≤◌, ◌-◌, ℕ, Bool, true, false, cond, Option, Some, None, List, Bor, refl, sym, ap, ◌∙◌}
use Rattle.std.specs.Prelude.{is_some, option_map, option_copied, nat_lt, ◌==◌}
use Rattle.std.proofs.lemmas.Bool.{eqb-true, le-ltb}
use Rattle.fwd_session.specs.ServerAcks.{ServerAck}
use Rattle.fwd_book.specs.ChunkRefs.{ChunkRef, note_at, used_less, put_in}

pub none-few : 2 ≤ 0 → ⊥
none-few few = omega (arith, few)

-- where two requests or more have a number, its note stays as one of them leaves
pub less_of : (note : ChunkRef) → 2 ≤ note.uses
    → used_less (Some note) ≡ Some (record note { uses = note.uses - 1 })
less_of note few = ap (λ k. cond k None (Some (record note { uses = note.uses - 1 }))) not_last
  where
    not_last : nat_lt note.uses 2 ≡ false
    not_last = le-ltb note.uses 2 few

-- what is put where nothing was
pub put_first : (e : ServerAck) (note : ChunkRef) → is_some note.found ≡ false
    → put_in e (Some note) ≡ Some (record note { found = Some e })
put_first e note none = ap (λ k. Some (record note { found = cond k note.found (Some e) })) none

-- what is put where no request has the number
pub put_nowhere : (e : ServerAck) (notes : List (ℕ × ChunkRef)) (n : ℕ) → note_at e.number notes ≡ None
    → note_at n notes ≡ cond (e.number == n) (put_in e (note_at e.number notes)) (note_at n notes)
put_nowhere e notes n none = by (e.number == n) refl
  where
    by : (a : Bool) → (e.number == n) ≡ a
        → note_at n notes ≡ cond a (put_in e (note_at e.number notes)) (note_at n notes)
    by true same = ap (λ k. note_at k notes) (sym (eqb-true e.number n same)) ∙ none ∙ ap (put_in e) (sym none)
    by false same = refl

pub copied_some : {X Y : Type 0} (f : X → Y) (o : Option (Bor X))
    → is_some (option_map f (option_copied o)) ≡ is_some o
copied_some f None = refl
copied_some f (Some x) = refl
