-- What an output's book knows as acknowledged is what its buffer does.
use Rattle.std.proofs.Common.{◌≡◌, ℕ, Bool, true, false, cond, List, [], ◌∷◌, ◌++◌, refl, ap, arith}
use Rattle.std.specs.Prelude.{map, not, ◌&&◌, ◌||◌, ◌==◌, is_some, Some}
use Rattle.std.specs.List.{list_any, list_all}
use Rattle.std.proofs.lemmas.Bool.Decides.{nat_tests}
use Rattle.std.proofs.lemmas.Bool.{and_parts}
use Rattle.fwd_chunks.specs.declared.span.Span.{Span}
use Rattle.fwd_chunks.specs.Cells.{has_number}
use Rattle.fwd_session.specs.ServerAcks.{ServerAck}
use Rattle.fwd_book.specs.History.{evidence_of, are_fresh}

-- the numbers that were acknowledged
abbrev pub numbers_in : List ServerAck → List ℕ
numbers_in es = map (λ e. e.number) es

pub numbers_in-push : (es : List ServerAck) (e : ServerAck)
    → numbers_in (es ++ e ∷ []) ≡ numbers_in es ++ e.number ∷ []
numbers_in-push [] e = refl
numbers_in-push (d ∷ es) e = ap (λ ns. d.number ∷ ns) (numbers_in-push es e)

pub found-numbered : (k : ℕ) (es : List ServerAck)
    → is_some (evidence_of es k) ≡ has_number k (numbers_in es)
found-numbered k [] = refl
found-numbered k (e ∷ es) = by (e.number == k) (found-numbered k es)
  where
    by : (b : Bool) → is_some (evidence_of es k) ≡ has_number k (numbers_in es)
        → is_some (cond b (Some e) (evidence_of es k)) ≡ (b || has_number k (numbers_in es))
    by true rest = refl
    by false rest = rest

-- none of the runs has the number, and none one of the others
unsettled-one : (e : ServerAck) (ns : List ℕ) (spans : List Span)
    → list_all (λ s. not (has_number s.number (e.number ∷ ns))) spans ≡ true
    → (list_any (λ s. s.number == e.number) spans ≡ false)
    × (list_all (λ s. not (has_number s.number ns)) spans ≡ true)
unsettled-one e ns [] h = (refl, refl)
unsettled-one e ns (s ∷ spans) h =
    let parts = and_parts (not (has_number s.number (e.number ∷ ns))) (list_all (λ t. not (has_number t.number (e.number ∷ ns))) spans) h in
    let rest = unsettled-one e ns spans parts.1 in
    let here = neither (e.number == s.number) (has_number s.number ns) parts.0 in (
      (λ i. turned e.number s.number here.0 i || rest.0 i),
      (λ i. not (here.1 i) && rest.1 i),
    )
  where
    neither : (a b : Bool) → not (a || b) ≡ true → (a ≡ false) × (b ≡ false)
    neither true b f = absurd cc
    neither false true f = absurd cc
    neither false false f = (refl, refl)

    turned : (m n : ℕ) → (m == n) ≡ false → (n == m) ≡ false
    turned m n f = grind (arith, nat_tests, f)

pub unsettled-fresh : (es : List ServerAck) (spans : List Span)
    → list_all (λ s. not (has_number s.number (numbers_in es))) spans ≡ true
    → are_fresh es spans ≡ true
unsettled-fresh es spans h = ap not (none es h)
  where
    none : (ds : List ServerAck)
        → list_all (λ s. not (has_number s.number (numbers_in ds))) spans ≡ true
        → list_any (λ e. list_any (λ s. s.number == e.number) spans) ds ≡ false
    none [] f = refl
    none (d ∷ ds) f = let parts = unsettled-one d (numbers_in ds) spans f in λ i. parts.0 i || none ds parts.1 i
