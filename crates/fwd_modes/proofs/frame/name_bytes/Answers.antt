use Rattle.std.proofs.Common.{rules, ◌≡◌, ℕ, ◌++◌, ◌∷◌, [], List, length, get_or, ap, refl, sym, arith}
use Rattle.std.specs.Int.{w16, w64, to_be_bytes}
use Rattle.fwd_modes.proofs.frame.name_bytes.Goals as goal

-- a list of n numbers, cell by cell
cells_of_6 : (xs : List ℕ) → length xs ≡ 6
    → xs
    ≡ get_or xs 0 0 ∷ get_or xs 1 0 ∷ get_or xs 2 0 ∷ get_or xs 3 0 ∷ get_or xs 4 0
    ∷ get_or xs 5 0 ∷ []
cells_of_6 [] h = absurd (omega (arith, h))
cells_of_6 (a ∷ []) h = absurd (omega (arith, h))
cells_of_6 (a ∷ b ∷ []) h = absurd (omega (arith, h))
cells_of_6 (a ∷ b ∷ c ∷ []) h = absurd (omega (arith, h))
cells_of_6 (a ∷ b ∷ c ∷ d ∷ []) h = absurd (omega (arith, h))
cells_of_6 (a ∷ b ∷ c ∷ d ∷ e ∷ []) h = absurd (omega (arith, h))
cells_of_6 (a ∷ b ∷ c ∷ d ∷ e ∷ f ∷ []) h = refl
cells_of_6 (a ∷ b ∷ c ∷ d ∷ e ∷ f ∷ g ∷ xs) h = absurd (omega (arith, h))

pub returns : goal.returns
returns c =
    let run : length c.args.run.now ≡ 6 = search rules in
    let front = cells_of_6 c.args.run.now run in
    rw (c.to_be_bytes.ensures, c.to_be_bytes-2.ensures) (ap (λ xs. (xs ++ to_be_bytes w16 c.args.output) ++ to_be_bytes w64 c.args.number) (sym front))
