-- Tests and options: small facts.
use Rattle.std.proofs.Common.{◌≡◌, ℕ, Bool, true, false, cond, Some, None, List, [], ◌∷◌, refl, sym, ap, ◌∙◌}
use Rattle.std.specs.Prelude.{not, filter, find, ◌&&◌, ◌||◌, ◌==◌, nat_eq}
use Rattle.std.specs.List.{list_any}
use Rattle.std.specs.Bool.{Decides}
use Rattle.fwd_chunks.specs.declared.span.Span.{Span}
use Rattle.std.proofs.lemmas.Bool.{eqb-true, eqb-false, eq-eqb}
use Rattle.fwd_modes.specs.declared.origin.Origin.{Origin}
use Rattle.fwd_book.specs.History.{is_origin}

pub apart : false ≡ true → ⊥
apart e = absurd cc

pub none_some : {X : Type 0} {x : X} → None ≡ Some x → ⊥
none_some e = absurd cc

pub neither_left : (a b : Bool) → (a || b) ≡ false → a ≡ false
neither_left false b e = refl
neither_left true b e = e

pub neither_right : (a b : Bool) → (a || b) ≡ false → b ≡ false
neither_right false b e = e
neither_right true b e = absurd (apart (sym e))

pub or-false : (a : Bool) → (a || false) ≡ a
or-false false = refl
or-false true = refl

pub true-or : (a b : Bool) → a ≡ true → (a || b) ≡ true
true-or a b e = ap (λ k. k || b) e

pub or-true : (a b : Bool) → b ≡ true → (a || b) ≡ true
or-true false b e = e
or-true true b e = refl

pub both_left : (a b : Bool) → (a && b) ≡ true → a ≡ true
both_left true b e = refl
both_left false b e = e

pub both_right : (a b : Bool) → (a && b) ≡ true → b ≡ true
both_right true b e = e
both_right false b e = absurd (apart e)

-- numbers that differ do so either way
pub turned : (m n : ℕ) → (n == m) ≡ false → (m == n) ≡ false
turned m n e = by (m == n) refl
  where
    by : (a : Bool) → (m == n) ≡ a → (m == n) ≡ false
    by false is = is
    by true is = absurd (eqb-false n m e (sym (eqb-true m n is)))

pub is_not : (a : Bool) → not a ≡ true → a ≡ false
is_not false e = refl
is_not true e = absurd (apart e)

-- what `==` says of runs
pub span-Decides : (a b : Span)
    → Decides (nat_eq a.number b.number && (nat_eq a.from b.from && nat_eq a.count b.count)) (a ≡ b)
span-Decides a b = (λ all. alike all, λ same. sym (λ i. nat_eq a.number (same i).number && (nat_eq a.from (same i).from && nat_eq a.count (same i).count)) ∙ own)
  where
    alike : (nat_eq a.number b.number && (nat_eq a.from b.from && nat_eq a.count b.count)) ≡ true
        → a ≡ b
    alike all =
        let rest = both_right (nat_eq a.number b.number) (nat_eq a.from b.from && nat_eq a.count b.count) all in
        let number : a.number ≡ b.number = eqb-true a.number b.number (both_left (nat_eq a.number b.number) (nat_eq a.from b.from && nat_eq a.count b.count) all) in
        let from : a.from ≡ b.from = eqb-true a.from b.from (both_left (nat_eq a.from b.from) (nat_eq a.count b.count) rest) in
        let count : a.count ≡ b.count = eqb-true a.count b.count (both_right (nat_eq a.from b.from) (nat_eq a.count b.count) rest) in
        λ i. record { number = number i; from = from i; count = count i }

    own : (nat_eq a.number a.number && (nat_eq a.from a.from && nat_eq a.count a.count)) ≡ true
    own = λ i. eq-eqb a.number a.number refl i && (eq-eqb a.from a.from refl i && eq-eqb a.count a.count refl i)

-- the origin that is looked for is the one that is found
pub origin-is : (a b : Origin) → is_origin a b ≡ true → b ≡ a
origin-is a b same =
    let conn : a.conn ≡ b.conn = eqb-true a.conn b.conn (both_left (a.conn == b.conn) (a.request == b.request) same) in
    let request : a.request ≡ b.request = eqb-true a.request b.request (both_right (a.conn == b.conn) (a.request == b.request) same) in
    λ i. record { conn = sym conn i; request = sym request i }

-- an origin is its own
pub same-origin : (o : Origin) → is_origin o o ≡ true
same-origin o = λ i. eq-eqb o.conn o.conn refl i && eq-eqb o.request o.request refl i

-- ---- what is not there

pub find_none : {X : Type 0} (p : X → Bool) (xs : List X) → list_any p xs ≡ false → find p xs ≡ None
find_none p [] none = refl
find_none p (x ∷ xs) none =
    ap (λ b. cond b (Some x) (find p xs)) (neither_left (p x) (list_any p xs) none) ∙ find_none p xs (neither_right (p x) (list_any p xs) none)

pub filter_none : {X : Type 0} (p : X → Bool) (xs : List X) → list_any p xs ≡ false
    → filter (λ x. not (p x)) xs ≡ xs
filter_none p [] none = refl
filter_none p (x ∷ xs) none =
    (λ i. cond (not (neither_left (p x) (list_any p xs) none i)) (x ∷ filter (λ y. not (p y)) xs) (filter (λ y. not (p y)) xs))
    ∙ ap (λ ys. x ∷ ys) (filter_none p xs (neither_right (p x) (list_any p xs) none))

pub any_none : {X : Type 0} (p : X → Bool) (xs : List X) → find p xs ≡ None → list_any p xs ≡ false
any_none p [] none = refl
any_none p (x ∷ xs) none = by (p x) none (any_none p xs)
  where
    by : (a : Bool) → cond a (Some x) (find p xs) ≡ None
        → (find p xs ≡ None → list_any p xs ≡ false) → (a || list_any p xs) ≡ false
    by true n more = absurd (none_some (sym n))
    by false n more = more n

pub none_pass : {X : Type 0} (p : X → Bool) (xs : List X) → ((x : X) → p x ≡ false)
    → list_any p xs ≡ false
none_pass p [] none = refl
none_pass p (x ∷ xs) none = ap (λ b. b || list_any p xs) (none x) ∙ none_pass p xs none
