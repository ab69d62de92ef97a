-- What stands at the front of some words.
use Rattle.std.proofs.Common.{◌≡◌, ◌≤◌, ◌-◌, ◌∙◌, ℕ, List, [], ◌∷◌, map, length, take, drop, sym, ap, arith, slice_index_or}
use Rattle.std.proofs.lemmas.List.{take_all}
use Rattle.fwd_script.specs.Program.{words_behind}

-- the second and the third word, and those behind them
pub front : {A : Type 0} (f : A → List ℕ) (xs : List A) (x y : A) → 3 ≤ length xs
    → x ≡ slice_index_or xs 1 x → y ≡ slice_index_or xs 2 y
    → words_behind (map f xs) ≡ f x ∷ f y ∷ map f (take (length xs - 3) (drop 3 xs))
front f [] x y len is behind = absurd (omega arith)
front f (a ∷ []) x y len is behind = absurd (omega arith)
front f (a ∷ b ∷ []) x y len is behind = absurd (omega arith)
front f (a ∷ b ∷ c ∷ xs) x y len is behind =
    let all : take (length (a ∷ b ∷ c ∷ xs) - 3) xs ≡ xs = take_all _ xs (omega arith) in
    ap (λ z. f z ∷ f c ∷ map f xs) (sym is) ∙ ap (λ z. f x ∷ f z ∷ map f xs) (sym behind)
    ∙ ap (λ zs. f x ∷ f y ∷ map f zs) (sym all)
