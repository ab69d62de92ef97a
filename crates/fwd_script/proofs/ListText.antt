-- Numbers as a list with commas.
use Rattle.std.proofs.Common.{◌≡◌, ℕ, zero, suc, ◌+◌, ◌<◌, List, [], ◌∷◌, ◌++◌, length, get_or, take, map, sym, ap, ◌∙◌, arith, append-nil, append_assoc}
use Rattle.std.specs.List.{flat_map, join_with_byte}
use Rattle.std.specs.Fmt.{decimal}

-- a number after a comma
abbrev pub after_comma : ℕ → List ℕ
after_comma n = 44 ∷ decimal n

-- the first number, and each other after a comma
pub join-after_comma : (n : ℕ) (ns : List ℕ)
    → decimal n ++ flat_map after_comma ns ≡ join_with_byte 44 (map decimal (n ∷ ns))
join-after_comma n [] = append-nil (decimal n)
join-after_comma n (m ∷ ns) = ap (λ (t : List ℕ). decimal n ++ (44 ∷ t)) (join-after_comma m ns)

after_commas-suc : (ns : List ℕ) (i : ℕ) → i < length ns
    → flat_map after_comma (take (suc i) ns) ≡ flat_map after_comma (take i ns)
    ++ after_comma (get_or ns i 0)
after_commas-suc [] i lt = absurd (omega arith)
after_commas-suc (n ∷ ns) zero lt = append-nil (after_comma n)
after_commas-suc (n ∷ ns) (suc i) lt =
    ap (λ (t : List ℕ). after_comma n ++ t) (after_commas-suc ns i (omega arith)) ∙ sym (append_assoc (after_comma n) (flat_map after_comma (take i ns)) (after_comma (get_or ns i 0)))

-- one number more of those after the first
pub after_commas-more : (ns : List ℕ) (i : ℕ) → i < length ns
    → flat_map after_comma (take (i + 1) ns) ≡ flat_map after_comma (take i ns)
    ++ after_comma (get_or ns i 0)
after_commas-more ns i lt =
    let same : i + 1 ≡ suc i = omega arith in
    rw same (after_commas-suc ns i lt)
