-- Chunks in lists: what holds of each, and how often a number stands.
use Rattle.std.proofs.Common.{◌≡◌, ◌≢◌, ℕ, suc, ◌+◌, ◌≤◌, Bool, true, false, cond, List, [], ◌∷◌, ◌++◌, refl, arith}
use Rattle.std.specs.Prelude.{map, ◌==◌}
use Rattle.std.specs.List.{AllByRecursion}
use Rattle.std.proofs.lemmas.Bool.Decides.{nat_tests}
use Rattle.fwd_chunks.specs.History.{CarriedChunk}
use Rattle.fwd_run.specs.Pages.{times}

-- ---- what holds of each

pub all_front : {X : Type 0} (P : X → Type 0) (xs ys : List X) → AllByRecursion P (xs ++ ys)
    → AllByRecursion P xs
all_front P [] ys all = tt
all_front P (x ∷ xs) ys all = (all.0, all_front P xs ys all.1)

pub all_back : {X : Type 0} (P : X → Type 0) (xs ys : List X) → AllByRecursion P (xs ++ ys)
    → AllByRecursion P ys
all_back P [] ys all = all
all_back P (x ∷ xs) ys all = all_back P xs ys all.1

pub all_map : {X Y : Type 0} (P : Y → Type 0) (f : X → Y) (xs : List X)
    → AllByRecursion (λ x. P (f x)) xs → AllByRecursion P (map f xs)
all_map P f [] all = tt
all_map P f (x ∷ xs) all = (all.0, all_map P f xs all.1)

-- what two facts say of each
pub all_both : {X : Type 0} (P Q R : X → Type 0) (xs : List X) → ((x : X) → P x → Q x → R x)
    → AllByRecursion P xs → AllByRecursion Q xs → AllByRecursion R xs
all_both P Q R [] goes all its = tt
all_both P Q R (x ∷ xs) goes all its = (goes x all.0 its.0, all_both P Q R xs goes all.1 its.1)

-- ---- how often a number stands

pub times-append : (n : ℕ) (cs ds : List CarriedChunk) → times n (cs ++ ds) ≡ times n cs + times n ds
times-append n [] ds = omega arith
times-append n (c ∷ cs) ds = grind (arith, nat_tests, times-append n cs ds)

-- the number of a first chunk stands once more
pub times-first : (c : CarriedChunk) (cs : List CarriedChunk) → times c.number (c ∷ cs) ≡ suc (times c.number cs)
times-first c cs = grind (arith, nat_tests)

pub times-more : (n : ℕ) (c : CarriedChunk) (cs : List CarriedChunk) → times n cs ≤ times n (c ∷ cs)
times-more n c cs = grind (arith, nat_tests)

-- where each has another number, it stands nowhere; and where it stands nowhere, each has another
pub times-none : (n : ℕ) (cs : List CarriedChunk) → AllByRecursion (λ c. c.number ≢ n) cs
    → times n cs ≡ 0
times-none n [] all = refl
times-none n (c ∷ cs) all = by (c.number == n) refl (times-none n cs all.1)
  where
    by : (b : Bool) → (c.number == n) ≡ b → times n cs ≡ 0
        → cond b (suc (times n cs)) (times n cs) ≡ 0
    by true e rest = absurd (all.0 (grind (arith, nat_tests, e)))
    by false e rest = rest

pub times-others : (n : ℕ) (cs : List CarriedChunk) → times n cs ≡ 0
    → AllByRecursion (λ c. n ≢ c.number) cs
times-others n [] none = tt
times-others n (c ∷ cs) none = by (c.number == n) refl none (λ e. times-others n cs e)
  where
    differ : (b : Bool) → b ≡ false → b ≡ true → ⊥
    differ true e f = absurd cc
    differ false e f = absurd cc

    by : (b : Bool) → (c.number == n) ≡ b → cond b (suc (times n cs)) (times n cs) ≡ 0
        → (times n cs ≡ 0 → AllByRecursion (λ c. n ≢ c.number) cs)
        → AllByRecursion (λ c. n ≢ c.number) (c ∷ cs)
    by true e f rest = absurd (omega (arith, f))
    by false e f rest = (λ same. differ (c.number == n) e (grind (arith, nat_tests, same)), rest f)

-- each chunk's number stands
pub times-each : (cs : List CarriedChunk) → AllByRecursion (λ c. 1 ≤ times c.number cs) cs
times-each [] = tt
times-each (c ∷ cs) = (
  omega (arith, times-first c cs),
  all_both (λ d. 1 ≤ times d.number cs) (λ d. 1 ≤ times d.number cs) (λ d. 1 ≤ times d.number (c ∷ cs)) cs (λ d e f. omega (arith, e, times-more d.number c cs)) (times-each cs) (times-each cs),
)
