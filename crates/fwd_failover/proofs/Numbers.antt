-- The numbers of the servers of a kind, one server after the other.
use Rattle.std.proofs.Common.{◌≡◌, ℕ, zero, suc, ◌+◌, ◌<◌, Bool, true, false, cond, List, [], ◌∷◌, ◌++◌, length, get_or, take, refl, ap, ◌∙◌, arith}
use Rattle.std.specs.Prelude.{map, filter}
use Rattle.std.specs.Bool.{beq}
use Rattle.std.specs.List.{Contains, enumerate_from}
use Rattle.std.proofs.lemmas.List.{take_more, append-nil, length-take}
use Rattle.fwd_failover.specs.Choices.{places}

-- from a number on
abbrev pub places_from : ℕ → Bool → List Bool → List ℕ
places_from k kind flags = map (λ p. p.0) (filter (λ p. beq p.1 kind) (enumerate_from k flags))

one_more : (k : ℕ) (b : Bool) (passes : Bool)
    → map (λ (p : ℕ × Bool). p.0) (cond passes ((k, b) ∷ []) [])
    ≡ cond passes ((k + 0) ∷ []) []
one_more k b true = ap (λ n. n ∷ []) (omega arith)
one_more k b false = refl

before_more : (k : ℕ) (b passes : Bool) (xs : List (ℕ × Bool)) (ys zs : List ℕ)
    → map (λ (p : ℕ × Bool). p.0) xs ≡ ys ++ zs
    → map (λ (p : ℕ × Bool). p.0) (cond passes ((k, b) ∷ xs) xs)
    ≡ cond passes (k ∷ ys) ys ++ zs
before_more k b true xs ys zs e = ap (λ ns. k ∷ ns) e
before_more k b false xs ys zs e = e

before_plain : (k : ℕ) (b passes : Bool) (xs : List (ℕ × Bool))
    → cond passes (k ∷ map (λ (p : ℕ × Bool). p.0) xs) (map (λ (p : ℕ × Bool). p.0) xs)
    ≡ map (λ (p : ℕ × Bool). p.0) (cond passes ((k, b) ∷ xs) xs)
before_plain k b true xs = refl
before_plain k b false xs = refl

places_from-push : (k : ℕ) (kind : Bool) (flags : List Bool) (flag : Bool)
    → places_from k kind (flags ++ flag ∷ [])
    ≡ places_from k kind flags ++ cond (beq flag kind) ((k + length flags) ∷ []) []
places_from-push k kind [] flag = one_more k flag (beq flag kind)
places_from-push k kind (b ∷ flags) flag =
    let rest = filter (λ (p : ℕ × Bool). beq p.1 kind) (enumerate_from (k + 1) flags) in
    let place : k + 1 + length flags ≡ k + suc (length flags) = omega arith in
    before_more k b (beq b kind) _ (places_from (k + 1) kind flags) _ (places_from-push (k + 1) kind flags flag ∙ ap (λ n. places_from (k + 1) kind flags ++ cond (beq flag kind) (n ∷ []) []) place)
    ∙ ap (λ ns. ns ++ cond (beq flag kind) ((k + suc (length flags)) ∷ []) []) (before_plain k b (beq b kind) rest)

-- one server more
pub places-take_more : (kind : Bool) (flags : List Bool) (i : ℕ) → i < length flags
    → places kind (take (i + 1) flags)
    ≡ places kind (take i flags) ++ cond (beq (get_or flags i false) kind) (i ∷ []) []
places-take_more kind flags i lt =
    let count : 0 + length (take i flags) ≡ i = omega (arith, length-take i flags) in
    ap (places kind) (take_more flags i false lt)
    ∙ places_from-push 0 kind (take i flags) (get_or flags i false)
    ∙ ap (λ n. places kind (take i flags) ++ cond (beq (get_or flags i false) kind) (n ∷ []) []) count

-- of this kind, and not of it
pub places-taken : (kind : Bool) (flags : List Bool) (i : ℕ) → i < length flags
    → beq (get_or flags i false) kind ≡ true
    → places kind (take (i + 1) flags) ≡ places kind (take i flags) ++ i ∷ []
places-taken kind flags i lt e = places-take_more kind flags i lt ∙ ap (λ b. places kind (take i flags) ++ cond b (i ∷ []) []) e

pub places-passed : (kind : Bool) (flags : List Bool) (i : ℕ) → i < length flags
    → beq (get_or flags i false) kind ≡ false
    → places kind (take (i + 1) flags) ≡ places kind (take i flags)
places-passed kind flags i lt e =
    places-take_more kind flags i lt ∙ ap (λ b. places kind (take i flags) ++ cond b (i ∷ []) []) e ∙ append-nil (places kind (take i flags))

-- where a server is no standby, there is a primary
primaries_from : (k : ℕ) (flags : List Bool) (i : ℕ) → i < length flags
    → get_or flags i false ≡ false → 0 < length (places_from k false flags)
primaries_from k [] i lt h = absurd (omega arith)
primaries_from k (false ∷ flags) i lt h = omega arith
primaries_from k (true ∷ flags) zero lt h = absurd cc
primaries_from k (true ∷ flags) (suc i) lt h = primaries_from (k + 1) flags i (omega arith) h

pub some_primary : (flags : List Bool) → Contains flags false → 0 < length (places false flags)
some_primary flags found = primaries_from 0 flags found.0 found.1 found.2
