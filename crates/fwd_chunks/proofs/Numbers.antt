-- Lists of numbers, and what is made of each of them.
use Rattle.std.proofs.Common.{◌≡◌, ℕ, ◌+◌, ◌<◌, Bool, true, false, cond, eqb, List, [], ◌∷◌, ◌++◌, Option, Some, None, refl, sym, ap, ◌∙◌, min, arith}
use Rattle.std.specs.Prelude.{map, filter, find, not, ◌&&◌, ◌||◌, ◌==◌, option_map}
use Rattle.std.proofs.lemmas.Bool.Decides.{nat_tests}
use Rattle.fwd_chunks.specs.Cells.{has_number}
use Rattle.fwd_chunks.specs.History.{lesser, least}
use Rattle.std.proofs.lemmas.Bool.{eqb-true}

-- ---- tests

pub not_from : (b : Bool) → (b ≡ true → ⊥) → b ≡ false
not_from true h = absurd (h refl)
not_from false h = refl

pub true_false : (b : Bool) → b ≡ true → b ≡ false → ⊥
true_false b e f = cc

pub eq_same : (a : ℕ) → eqb a a ≡ true
eq_same a = grind (arith, nat_tests)

-- ---- filters

pub filter-filter : {X : Type 0} (p q : X → Bool) (xs : List X)
    → filter p (filter q xs) ≡ filter q (filter p xs)
filter-filter p q [] = refl
filter-filter p q (x ∷ xs) = by (filter-filter p q xs) (p x) (q x) refl refl
  where
    by : filter p (filter q xs) ≡ filter q (filter p xs) → (a b : Bool) → p x ≡ a → q x ≡ b
        → filter p (cond b (x ∷ filter q xs) (filter q xs)) ≡ filter q
        (cond a (x ∷ filter p xs) (filter p xs))
    by rest true true e f = ap (λ t. cond t (x ∷ filter p (filter q xs)) (filter p (filter q xs))) e ∙ ap (λ l. x ∷ l) rest ∙ sym (ap (λ t. cond t (x ∷ filter q (filter p xs)) (filter q (filter p xs))) f)
    by rest true false e f = rest ∙ sym (ap (λ t. cond t (x ∷ filter q (filter p xs)) (filter q (filter p xs))) f)
    by rest false true e f = ap (λ t. cond t (x ∷ filter p (filter q xs)) (filter p (filter q xs))) e ∙ rest
    by rest false false e f = rest

-- the second test says what the first does
pub filter-within : {X : Type 0} (p q : X → Bool) → ((x : X) → p x ≡ true → q x ≡ true)
    → (xs : List X) → filter p (filter q xs) ≡ filter p xs
filter-within p q h [] = refl
filter-within p q h (x ∷ xs) = by (filter-within p q h xs) (p x) (q x) refl refl
  where
    by : filter p (filter q xs) ≡ filter p xs → (a b : Bool) → p x ≡ a → q x ≡ b
        → filter p (cond b (x ∷ filter q xs) (filter q xs)) ≡ cond a (x ∷ filter p xs) (filter p xs)
    by rest true true e f = ap (λ t. cond t (x ∷ filter p (filter q xs)) (filter p (filter q xs))) e ∙ ap (λ l. x ∷ l) rest
    by rest true false e f = absurd (true_false (q x) (h x e) f)
    by rest false true e f = ap (λ t. cond t (x ∷ filter p (filter q xs)) (filter p (filter q xs))) e ∙ rest
    by rest false false e f = rest

pub filter-map : {X Y : Type 0} (p : Y → Bool) (f : X → Y) (xs : List X)
    → filter p (map f xs) ≡ map f (filter (λ x. p (f x)) xs)
filter-map p f [] = refl
filter-map p f (x ∷ xs) = by (filter-map p f xs) (p (f x))
  where
    by : filter p (map f xs) ≡ map f (filter (λ y. p (f y)) xs) → (a : Bool)
        → cond a (f x ∷ filter p (map f xs)) (filter p (map f xs)) ≡ map f
        (cond a (x ∷ filter (λ y. p (f y)) xs) (filter (λ y. p (f y)) xs))
    by rest true = ap (λ l. f x ∷ l) rest
    by rest false = rest

pub find-map : {X Y : Type 0} (p : Y → Bool) (f : X → Y) (xs : List X)
    → find p (map f xs) ≡ option_map f (find (λ x. p (f x)) xs)
find-map p f [] = refl
find-map p f (x ∷ xs) = by (find-map p f xs) (p (f x))
  where
    by : find p (map f xs) ≡ option_map f (find (λ y. p (f y)) xs) → (a : Bool)
        → cond a (Some (f x)) (find p (map f xs)) ≡ option_map f
        (cond a (Some x) (find (λ y. p (f y)) xs))
    by rest true = refl
    by rest false = rest

pub map-map : {X Y Z : Type 0} (g : Y → Z) (f : X → Y) (xs : List X)
    → map g (map f xs) ≡ map (λ x. g (f x)) xs
map-map g f [] = refl
map-map g f (x ∷ xs) = ap (λ l. g (f x) ∷ l) (map-map g f xs)

-- ---- numbers in a list

pub has_number-push : (k n : ℕ) (ns : List ℕ)
    → has_number k (ns ++ n ∷ []) ≡ (has_number k ns || (n == k))
has_number-push k n [] = grind (arith, nat_tests)
has_number-push k n (x ∷ ns) = grind (arith, nat_tests, has_number-push k n ns)

pub has_number-filter : (k : ℕ) (p : ℕ → Bool) (ns : List ℕ)
    → has_number k (filter p ns) ≡ (has_number k ns && p k)
has_number-filter k p [] = refl
has_number-filter k p (n ∷ ns) = by (has_number-filter k p ns) (p n) refl (n == k) refl
  where
    by : has_number k (filter p ns) ≡ (has_number k ns && p k) → (a : Bool) → p n ≡ a → (e : Bool)
        → (n == k) ≡ e
        → has_number k (cond a (n ∷ filter p ns) (filter p ns)) ≡
        (((n == k) || has_number k ns) && p k)
    by rest true h true e = let here : p k ≡ true = ap p (sym (eqb-true n k e)) ∙ h in grind (arith, nat_tests, here, e)
    by rest true h false e = grind (arith, nat_tests, rest, e)
    by rest false h true e = let here : p k ≡ false = ap p (sym (eqb-true n k e)) ∙ h in grind (arith, nat_tests, here, rest)
    by rest false h false e = grind (arith, nat_tests, rest, e)

-- what holds of each number of a list
pub filter-same : (p q : ℕ → Bool) (ns : List ℕ)
    → ((k : ℕ) → has_number k ns ≡ true → p k ≡ q k) → filter p ns ≡ filter q ns
filter-same p q [] h = refl
filter-same p q (n ∷ ns) h =
    let here : p n ≡ q n = h n (grind (arith, nat_tests)) in
    let rest = filter-same p q ns (λ k e. h k (grind (arith, nat_tests, e))) in
    λ i. cond (here i) (n ∷ rest i) (rest i)

pub find-same : (p q : ℕ → Bool) (ns : List ℕ)
    → ((k : ℕ) → has_number k ns ≡ true → p k ≡ q k) → find p ns ≡ find q ns
find-same p q [] h = refl
find-same p q (n ∷ ns) h =
    let here : p n ≡ q n = h n (grind (arith, nat_tests)) in
    let rest = find-same p q ns (λ k e. h k (grind (arith, nat_tests, e))) in
    λ i. cond (here i) (Some n) (rest i)

pub map-same : {X : Type 0} (f g : ℕ → X) (ns : List ℕ)
    → ((k : ℕ) → has_number k ns ≡ true → f k ≡ g k) → map f ns ≡ map g ns
map-same f g [] h = refl
map-same f g (n ∷ ns) h =
    let here : f n ≡ g n = h n (grind (arith, nat_tests)) in
    let rest = map-same f g ns (λ k e. h k (grind (arith, nat_tests, e))) in
    λ i. here i ∷ rest i

pub find_number : (k : ℕ) (ns : List ℕ) → has_number k ns ≡ true
    → find (λ j. j == k) ns ≡ Some k
find_number k [] h = absurd cc
find_number k (n ∷ ns) h = by (find_number k ns) (n == k) refl h
  where
    by : (has_number k ns ≡ true → find (λ j. j == k) ns ≡ Some k) → (e : Bool) → (n == k) ≡ e
        → (e || has_number k ns) ≡ true → cond e (Some n) (find (λ j. j == k) ns) ≡ Some k
    by rest true e g = ap Some (eqb-true n k e)
    by rest false e g = rest g

find_none : (p : ℕ → Bool) (ns : List ℕ)
    → ((k : ℕ) → has_number k ns ≡ true → p k ≡ false) → find p ns ≡ None
find_none p ns h = find-same p (λ k. false) ns h ∙ nowhere ns
  where
    nowhere : (ms : List ℕ) → find (λ k. false) ms ≡ None
    nowhere [] = refl
    nowhere (m ∷ ms) = nowhere ms

-- the only number that passes
pub find_only : (p : ℕ → Bool) (k : ℕ) (ns : List ℕ) → has_number k ns ≡ true
    → p k ≡ true → ((j : ℕ) → has_number j ns ≡ true → p j ≡ true → j ≡ k)
    → find p ns ≡ Some k
find_only p k ns h here only =
    find-same p (λ j. j == k) ns (λ j e. agree j e (p j) refl) ∙ find_number k ns h
  where
    agree : (j : ℕ) → has_number j ns ≡ true → (b : Bool) → p j ≡ b → p j ≡ (j == k)
    agree j e true f = f ∙ sym (ap (λ x. eqb x k) (only j e f) ∙ eq_same k)
    agree j e false f = f ∙ sym (not_from (j == k) (λ g. true_false (p j) (ap p (eqb-true j k g) ∙ here) f))

pub find_no : (p : ℕ → Bool) (ns : List ℕ)
    → ((k : ℕ) → has_number k ns ≡ true → p k ≡ true → ⊥) → find p ns ≡ None
find_no p ns h = find_none p ns (λ k e. not_from (p k) (h k e))

-- what is found is there, and passes
pub found : (p : ℕ → Bool) (k : ℕ) (ns : List ℕ) → find p ns ≡ Some k
    → (has_number k ns ≡ true) × (p k ≡ true)
found p k [] e = absurd cc
found p k (n ∷ ns) e = by (found p k ns) (p n) refl e
  where
    by : (find p ns ≡ Some k → (has_number k ns ≡ true) × (p k ≡ true)) → (b : Bool) → p n ≡ b
        → cond b (Some n) (find p ns) ≡ Some k
        → ((eqb n k || has_number k ns) ≡ true) × (p k ≡ true)
    by rest true h f = let same : n ≡ k = cc in (ap (λ b. b || has_number k ns) (ap (λ x. eqb x k) same ∙ eq_same k), ap p (sym same) ∙ h)
    by rest false h f = let there = rest f in (right (eqb n k) there.0, there.1)
      where
        right : (b : Bool) → has_number k ns ≡ true → (b || has_number k ns) ≡ true
        right true g = refl
        right false g = g

pub found_none : (p : ℕ → Bool) (k : ℕ) (ns : List ℕ) → find p ns ≡ None
    → has_number k ns ≡ true → p k ≡ false
found_none p k [] e h = absurd cc
found_none p k (n ∷ ns) e h = by (found_none p k ns) (p n) refl e
  where
    by : (find p ns ≡ None → has_number k ns ≡ true → p k ≡ false) → (b : Bool) → p n ≡ b
        → cond b (Some n) (find p ns) ≡ None → p k ≡ false
    by rest true g f = absurd cc
    by rest false g f = at (n == k) refl h
      where
        at : (b : Bool) → (n == k) ≡ b → (b || has_number k ns) ≡ true → p k ≡ false
        at true same i = ap p (sym (eqb-true n k same)) ∙ g
        at false other i = rest f i

-- ---- rising numbers

abbrev pub AreRising : List ℕ → Type 0
AreRising [] = Unit {0}
AreRising (n ∷ ns) = ((k : ℕ) → has_number k ns ≡ true → n < k) × AreRising ns

pub rising-filter : (p : ℕ → Bool) (ns : List ℕ) → AreRising ns → AreRising (filter p ns)
rising-filter p [] h = tt
rising-filter p (n ∷ ns) h = by (rising-filter p ns h.1) (p n)
  where
    by : AreRising (filter p ns) → (b : Bool) → AreRising (cond b (n ∷ filter p ns) (filter p ns))
    by rest true = (λ k e. h.0 k (left (has_number k ns) (p k) (sym (has_number-filter k p ns) ∙ e)), rest)
      where
        left : (a b : Bool) → (a && b) ≡ true → a ≡ true
        left true b e = refl
        left false b e = e
    by rest false = rest

pub rising-push : (n : ℕ) (ns : List ℕ) → AreRising ns
    → ((k : ℕ) → has_number k ns ≡ true → k < n) → AreRising (ns ++ n ∷ [])
rising-push n [] h below = (λ k e. absurd cc, tt)
rising-push n (m ∷ ns) h below =
    (λ k e. at k (has_number k ns) refl (sym (has_number-push k n ns) ∙ e), rising-push n ns h.1 (λ k e. below k (right (m == k) k e)))
  where
    right : (b : Bool) (k : ℕ) → has_number k ns ≡ true → (b || has_number k ns) ≡ true
    right true k g = refl
    right false k g = g

    first : m < n
    first = below m (ap (λ b. b || has_number m ns) (eq_same m))

    at : (k : ℕ) (b : Bool) → has_number k ns ≡ b → (b || (n == k)) ≡ true → m < k
    at k true e f = h.0 k e
    at k false e f = let same : n ≡ k = eqb-true n k f in omega (arith, same, first)

-- the least of rising numbers that pass is the first
least_up : (n : ℕ) (ns : List ℕ) → ((k : ℕ) → has_number k ns ≡ true → n < k)
    → least (n ∷ ns) ≡ Some n
least_up n [] h = refl
least_up n (m ∷ ns) h = ap Some (at (least ns) refl)
  where
    low : n < m
    low = h m (ap (λ b. b || has_number m ns) (eq_same m))

    at : (o : Option ℕ) → least ns ≡ o → min n (lesser m o) ≡ n
    at None e = omega (arith, low)
    at (Some k) e =
        let below : n < k = h k (member k e) in
        omega (arith, low, below)
      where
        member : (k : ℕ) → least ns ≡ Some k → (eqb m k || has_number k ns) ≡ true
        member k e = grind (arith, nat_tests, least_in k ns e)
          where
            least_in : (k : ℕ) (ks : List ℕ) → least ks ≡ Some k → has_number k ks ≡ true
            least_in k [] e = absurd cc
            least_in k (j ∷ ks) e = by (least ks) refl (λ l f. least_in l ks f) e
              where
                by : (o : Option ℕ) → least ks ≡ o → ((l : ℕ) → o ≡ Some l → has_number l ks ≡ true)
                    → Some (lesser j o) ≡ Some k → (eqb j k || has_number k ks) ≡ true
                by None f rec g = let same : j ≡ k = cc in grind (arith, nat_tests, same)
                by (Some l) f rec g = let same : min j l ≡ k = cc in grind (arith, nat_tests, same, rec l refl)

pub least_first : (p : ℕ → Bool) (ns : List ℕ) → AreRising ns
    → least (filter p ns) ≡ find p ns
least_first p [] h = refl
least_first p (n ∷ ns) h = by (least_first p ns h.1) (p n) refl
  where
    by : least (filter p ns) ≡ find p ns → (b : Bool) → p n ≡ b
        → least (cond b (n ∷ filter p ns) (filter p ns)) ≡ cond b (Some n) (find p ns)
    by rest true e = least_up n (filter p ns) (λ k f. h.0 k (left (has_number k ns) (p k) (sym (has_number-filter k p ns) ∙ f)))
      where
        left : (a b : Bool) → (a && b) ≡ true → a ≡ true
        left true b e = refl
        left false b e = e
    by rest false e = rest

-- ---- sums over numbers

abbrev pub sum_over : (ℕ → ℕ) → List ℕ → ℕ
sum_over f [] = 0
sum_over f (n ∷ ns) = f n + sum_over f ns

pub sum_over-same : (f g : ℕ → ℕ) (ns : List ℕ)
    → ((k : ℕ) → has_number k ns ≡ true → f k ≡ g k) → sum_over f ns ≡ sum_over g ns
sum_over-same f g [] h = refl
sum_over-same f g (n ∷ ns) h =
    let here : f n ≡ g n = h n (grind (arith, nat_tests)) in
    let rest = sum_over-same f g ns (λ k e. h k (grind (arith, nat_tests, e))) in
    λ i. here i + rest i

-- no number twice
abbrev pub AreDistinct : List ℕ → Type 0
AreDistinct [] = Unit {0}
AreDistinct (n ∷ ns) = (has_number n ns ≡ false) × AreDistinct ns

pub distinct-filter : (p : ℕ → Bool) (ns : List ℕ) → AreDistinct ns
    → AreDistinct (filter p ns)
distinct-filter p [] h = tt
distinct-filter p (n ∷ ns) h = by (distinct-filter p ns h.1) (p n)
  where
    by : AreDistinct (filter p ns) → (b : Bool)
        → AreDistinct (cond b (n ∷ filter p ns) (filter p ns))
    by rest true = (has_number-filter n p ns ∙ ap (λ b. b && p n) h.0, rest)
    by rest false = rest

-- a number that is not there
pub filter_absent : (m : ℕ) (ns : List ℕ) → has_number m ns ≡ false
    → filter (λ k. not (k == m)) ns ≡ ns
filter_absent m [] h = refl
filter_absent m (n ∷ ns) h = by (filter_absent m ns) (n == m) refl h
  where
    by : (has_number m ns ≡ false → filter (λ k. not (k == m)) ns ≡ ns) → (b : Bool) → (n == m) ≡ b
        → (b || has_number m ns) ≡ false
        → cond (not b) (n ∷ filter (λ k. not (k == m)) ns) (filter (λ k. not (k == m)) ns) ≡ n ∷ ns
    by rest true e g = absurd cc
    by rest false e g = ap (λ l. n ∷ l) (rest g)

-- a sum by one number and the others
pub sum_over-split : (f : ℕ → ℕ) (m : ℕ) (ns : List ℕ) → AreDistinct ns
    → has_number m ns ≡ true
    → f m + sum_over f (filter (λ k. not (k == m)) ns) ≡ sum_over f ns
sum_over-split f m [] d h = absurd cc
sum_over-split f m (n ∷ ns) d h = by (sum_over-split f m ns d.1) (n == m) refl h
  where
    by : (has_number m ns ≡ true → f m + sum_over f (filter (λ k. not (k == m)) ns) ≡ sum_over f ns)
        → (b : Bool) → (n == m) ≡ b → (b || has_number m ns) ≡ true
        → f m + sum_over f
        (cond (not b) (n ∷ filter (λ k. not (k == m)) ns) (filter (λ k. not (k == m)) ns))
        ≡ f n + sum_over f ns
    by rest true e g =
        let same : n ≡ m = eqb-true n m e in
        let back : m ≡ n = sym same in let gone = filter_absent m ns (ap (λ k. has_number k ns) back ∙ d.0) in λ i. f (back i) + sum_over f (gone i)
    by rest false e g = omega (arith, rest g)
