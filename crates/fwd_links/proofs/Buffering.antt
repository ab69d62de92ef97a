-- Pieces that are no more than there are buffers: their bytes are those of the first four.
use Rattle.std.proofs.Common.{arith, ◌≡◌, ◌≤◌, ◌++◌, ℕ, List, [], ◌∷◌, length, refl}
use Rattle.std.specs.Borrow.{Bor}
use Rattle.std.specs.List.{concat}
use Rattle.std.specs.Prelude.{map}
use Rattle.fwd_links.specs.Buffers.{piece_at}

abbrev pub bytes_in : Bor (List ℕ) → List ℕ
bytes_in piece = piece.now

pub first_four : (pieces : List (Bor (List ℕ))) → length pieces ≤ 4
    → piece_at pieces 0 ++ (piece_at pieces 1 ++ (piece_at pieces 2 ++ (piece_at pieces 3 ++ [])))
    ≡ concat (map bytes_in pieces)
first_four [] few = refl
first_four (a ∷ []) few = refl
first_four (a ∷ b ∷ []) few = refl
first_four (a ∷ b ∷ c ∷ []) few = refl
first_four (a ∷ b ∷ c ∷ d ∷ []) few = refl
first_four (a ∷ b ∷ c ∷ d ∷ e ∷ rest) few = absurd (omega (arith, few))
