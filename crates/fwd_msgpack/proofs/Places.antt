-- A stack in an array: its length, its sum, and what a write does to it.
use Rattle.std.proofs.Common.{◌≡◌, ℕ, zero, suc, ◌+◌, ◌-◌, ◌<◌, ◌≤◌, List, ◌∷◌, length, sum, Some, refl, ap, arith, slice_index, slice_set, get_or-set_other, get_or-set_same, add-one, sub-one}
use Rattle.std.proofs.lemmas.List.Sums.{sum_by-cons}
use Rattle.fwd_msgpack.specs.Stacks.{from_last, less_by}
use Rattle.fwd_msgpack.specs.Scans.{after_value}

pub sum-cons : (x : ℕ) (xs : List ℕ) → sum (x ∷ xs) ≡ x + sum xs
sum-cons x xs = sum_by-cons (λ n. n) x xs

pub length-from_last : (n : ℕ) (xs : List ℕ) → length (from_last n xs) ≡ n
length-from_last zero xs = refl
length-from_last (suc n) xs = ap suc (length-from_last n xs)

-- a write at or behind the top changes nothing below it
pub from_last-set : (n : ℕ) (xs : List ℕ) (k x : ℕ) → n ≤ k
    → from_last n (slice_set xs k x) ≡ from_last n xs
from_last-set zero xs k x le = refl
from_last-set (suc n) xs k x le =
    let below : n ≤ k = omega arith in
    let apart : n ≡ k → ⊥ = λ e. omega arith in
    rw (get_or-set_other xs k n x 0 apart, from_last-set n xs k x below) refl

pub from_last-push : (n : ℕ) (xs : List ℕ) (x : ℕ) → n < length xs
    → from_last (n + 1) (slice_set xs n x) ≡ x ∷ from_last n xs
from_last-push n xs x lt =
    rw (add-one, get_or-set_same xs n x 0 lt, from_last-set n xs n x (omega arith)) refl

-- the place at the top
pub from_last-top : (n : ℕ) (xs : List ℕ) → 0 < n
    → from_last n xs ≡ slice_index xs (n - 1) ∷ from_last (n - 1) xs
from_last-top zero xs lt = absurd (omega arith)
from_last-top (suc n) xs lt = rw sub-one refl

-- a write to the top
pub from_last-set_top : (n : ℕ) (xs : List ℕ) (x : ℕ) → 0 < n → n ≤ length xs
    → from_last n (slice_set xs (n - 1) x) ≡ x ∷ from_last (n - 1) xs
from_last-set_top zero xs x lt le = absurd (omega arith)
from_last-set_top (suc n) xs x lt le = rw (sub-one, get_or-set_same xs n x 0 (omega arith), from_last-set n xs n x (omega arith)) refl

-- a value that ends in a container that lacks something
pub after_value-lacking : (lacking : ℕ) (stack : List ℕ) → 0 < lacking
    → after_value (lacking ∷ stack) ≡ Some ((lacking - 1) ∷ stack)
after_value-lacking zero stack lt = absurd (omega arith)
after_value-lacking (suc lacking) stack lt = rw sub-one refl

-- where nothing is open nothing ends
pub empty_less : (items n : ℕ) (xs : List ℕ) → n ≤ 0
    → from_last n xs ≡ less_by items (from_last n xs)
empty_less items zero xs le = refl
empty_less items (suc n) xs le = absurd (omega arith)
