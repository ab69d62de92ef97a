-- What lists of cells, carries and losses say once one more stands in them, and once some are
-- settled.
use Rattle.std.proofs.Common.{◌≡◌, ◌≢◌, ℕ, ◌+◌, ◌<◌, ◌≤◌, Bool, true, false, cond, eqb, List, [], ◌∷◌, ◌++◌, length, Option, Some, None, refl, sym, ap, ◌∙◌, max, arith}
use Rattle.std.specs.Prelude.{map, filter, find, not, ◌&&◌, ◌||◌, ◌==◌, is_some}
use Rattle.std.specs.List.{list_any}
use Rattle.std.specs.Option.{option_or}
use Rattle.std.specs.Str.{bytes_eq}
use Rattle.std.proofs.lemmas.Bool.Decides.{nat_tests}
use Rattle.std.proofs.lemmas.List.{append-nil, map-append}
use Rattle.std.proofs.lemmas.Slice.Eq.{bytes_eq-Decides}
use Rattle.fwd_chunks.specs.Cells.{Cell, Loss, Carry, size_of, entries_of, cells_at, first_tag, first_moment, has_number, numbers_of, has_entry, last_number, greater, greatest, number_after, is_carried, without, losses_of}
use Rattle.fwd_chunks.proofs.Numbers.{true_false, not_from, eq_same, filter-filter, filter-within, has_number-filter, AreDistinct, distinct-filter, sum_over, sum_over-same, sum_over-split, filter_absent}
use Rattle.std.proofs.lemmas.Bool.{eqb-true}

-- ---- one more

pub filter-push : {X : Type 0} (p : X → Bool) (xs : List X) (y : X)
    → filter p (xs ++ y ∷ []) ≡ filter p xs ++ cond (p y) (y ∷ []) []
filter-push p [] y = refl
filter-push p (x ∷ xs) y = by (filter-push p xs y) (p x)
  where
    by : filter p (xs ++ y ∷ []) ≡ filter p xs ++ cond (p y) (y ∷ []) [] → (b : Bool)
        → cond b (x ∷ filter p (xs ++ y ∷ [])) (filter p (xs ++ y ∷ [])) ≡ cond b (x ∷ filter p xs)
        (filter p xs) ++ cond (p y) (y ∷ []) []
    by rest true = ap (λ l. x ∷ l) rest
    by rest false = rest

pub filter-push_in : {X : Type 0} (p : X → Bool) (xs : List X) (y : X) → p y ≡ true
    → filter p (xs ++ y ∷ []) ≡ filter p xs ++ y ∷ []
filter-push_in p xs y h = filter-push p xs y ∙ ap (λ b. filter p xs ++ cond b (y ∷ []) []) h

pub filter-push_out : {X : Type 0} (p : X → Bool) (xs : List X) (y : X) → p y ≡ false
    → filter p (xs ++ y ∷ []) ≡ filter p xs
filter-push_out p xs y h = filter-push p xs y ∙ ap (λ b. filter p xs ++ cond b (y ∷ []) []) h ∙ append-nil (filter p xs)

pub any-push : {X : Type 0} (p : X → Bool) (xs : List X) (y : X)
    → list_any p (xs ++ y ∷ []) ≡ (list_any p xs || p y)
any-push p [] y = by (p y)
  where
    by : (b : Bool) → (b || false) ≡ (false || b)
    by true = refl
    by false = refl
any-push p (x ∷ xs) y = ap (λ b. p x || b) (any-push p xs y) ∙ by (p x)
  where
    by : (b : Bool) → (b || (list_any p xs || p y)) ≡ ((b || list_any p xs) || p y)
    by true = refl
    by false = refl

pub any-false : {X : Type 0} (p : X → Bool) (xs : List X) → list_any p xs ≡ false
    → filter p xs ≡ []
any-false p [] h = refl
any-false p (x ∷ xs) h = by (any-false p xs) (p x) refl h
  where
    by : (list_any p xs ≡ false → filter p xs ≡ []) → (b : Bool) → p x ≡ b
        → (b || list_any p xs) ≡ false → cond b (x ∷ filter p xs) (filter p xs) ≡ []
    by rest true e g = absurd cc
    by rest false e g = rest g

pub any-find : {X : Type 0} (p : X → Bool) (xs : List X) → list_any p xs ≡ is_some (find p xs)
any-find p [] = refl
any-find p (x ∷ xs) = by (any-find p xs) (p x)
  where
    by : list_any p xs ≡ is_some (find p xs) → (b : Bool)
        → (b || list_any p xs) ≡ is_some (cond b (Some x) (find p xs))
    by rest true = refl
    by rest false = rest

-- ---- numbers

abbrev pub has_cell : ℕ → List Cell → Bool
has_cell number cells = list_any (λ c. c.number == number) cells

pub numbers-has : (k : ℕ) (cells : List Cell)
    → has_number k (numbers_of cells) ≡ has_cell k cells
numbers-has k [] = refl
numbers-has k (c ∷ cells) = by (numbers-has k cells) (c.number == k) refl
  where
    others : has_number k (numbers_of cells) ≡ has_cell k cells
        → has_number k (filter (λ j. not (j == c.number)) (numbers_of cells)) ≡
        (has_cell k cells && not (k == c.number))
    others rest = has_number-filter k (λ j. not (j == c.number)) (numbers_of cells) ∙ ap (λ b. b && not (k == c.number)) rest

    by : has_number k (numbers_of cells) ≡ has_cell k cells → (b : Bool) → (c.number == k) ≡ b
        → (b || has_number k (filter (λ j. not (j == c.number)) (numbers_of cells))) ≡
        (b || has_cell k cells)
    by rest true e = refl
    by rest false e = grind (arith, nat_tests, others rest, e)

pub numbers-distinct : (cells : List Cell) → AreDistinct (numbers_of cells)
numbers-distinct [] = tt
numbers-distinct (c ∷ cells) =
    (has_number-filter c.number (λ j. not (j == c.number)) (numbers_of cells) ∙ last (has_number c.number (numbers_of cells)), distinct-filter (λ j. not (j == c.number)) (numbers_of cells) (numbers-distinct cells))
  where
    last : (b : Bool) → (b && not (eqb c.number c.number)) ≡ false
    last b = grind (arith, nat_tests, eq_same c.number)

pub numbers-push : (cells : List Cell) (d : Cell)
    → numbers_of (cells ++ d ∷ [])
    ≡ cond (has_cell d.number cells) (numbers_of cells) (numbers_of cells ++ d.number ∷ [])
numbers-push [] d = refl
numbers-push (c ∷ cells) d = ap (λ ns. c.number ∷ filter (λ j. not (j == c.number)) ns) (numbers-push cells d) ∙ by (has_cell d.number cells) (c.number == d.number) refl
  where
    by : (b e : Bool) → (c.number == d.number) ≡ e
        → c.number ∷ filter (λ j. not (j == c.number))
        (cond b (numbers_of cells) (numbers_of cells ++ d.number ∷ []))
        ≡ cond (e || b) (c.number ∷ filter (λ j. not (j == c.number)) (numbers_of cells))
        ((c.number ∷ filter (λ j. not (j == c.number)) (numbers_of cells)) ++ d.number ∷ [])
    by true true f = refl
    by true false f = refl
    by false true f = ap (λ l. c.number ∷ l) (filter-push_out (λ j. not (j == c.number)) (numbers_of cells) d.number (ap not (ap (λ x. eqb x c.number) (sym (eqb-true c.number d.number f)) ∙ eq_same c.number)))
    by false false f = ap (λ l. c.number ∷ l) (filter-push_in (λ j. not (j == c.number)) (numbers_of cells) d.number (ap not (not_from (d.number == c.number) (λ g. true_false (c.number == d.number) (ap (λ x. eqb x d.number) (sym (eqb-true d.number c.number g)) ∙ eq_same d.number) f))))

pub numbers-filter : (p : ℕ → Bool) (cells : List Cell)
    → numbers_of (filter (λ c. p c.number) cells) ≡ filter p (numbers_of cells)
numbers-filter p [] = refl
numbers-filter p (c ∷ cells) = by (numbers-filter p cells) (p c.number) refl
  where
    by : numbers_of (filter (λ d. p d.number) cells) ≡ filter p (numbers_of cells) → (b : Bool)
        → p c.number ≡ b
        → numbers_of (cond b (c ∷ filter (λ d. p d.number) cells) (filter (λ d. p d.number) cells))
        ≡ cond b (c.number ∷ filter p (filter (λ j. not (j == c.number)) (numbers_of cells)))
        (filter p (filter (λ j. not (j == c.number)) (numbers_of cells)))
    by rest true e = ap (λ ns. c.number ∷ filter (λ j. not (j == c.number)) ns) rest ∙ ap (λ l. c.number ∷ l) (filter-filter (λ j. not (j == c.number)) p (numbers_of cells))
    by rest false e = rest ∙ sym (filter-within p (λ j. not (j == c.number)) apart (numbers_of cells))
      where
        apart : (k : ℕ) → p k ≡ true → not (k == c.number) ≡ true
        apart k f = ap not (not_from (k == c.number) (λ g. true_false (p c.number) (ap p (sym (eqb-true k c.number g)) ∙ f) e))

-- ---- cells of a number

pub cells_at-here : (k : ℕ) (cells : List Cell) (d : Cell) → (d.number == k) ≡ true
    → cells_at k (cells ++ d ∷ []) ≡ cells_at k cells ++ d ∷ []
cells_at-here k cells d e = filter-push_in (λ c. c.number == k) cells d e

pub cells_at-elsewhere : (k : ℕ) (cells : List Cell) (d : Cell) → (d.number == k) ≡ false
    → cells_at k (cells ++ d ∷ []) ≡ cells_at k cells
cells_at-elsewhere k cells d e = filter-push_out (λ c. c.number == k) cells d e

pub cells_at-none : (k : ℕ) (cells : List Cell) → has_cell k cells ≡ false
    → cells_at k cells ≡ []
cells_at-none k cells h = any-false (λ c. c.number == k) cells h

pub cells_at-some : (k : ℕ) (cells : List Cell) → has_cell k cells ≡ true
    → 0 < length (cells_at k cells)
cells_at-some k [] h = absurd cc
cells_at-some k (c ∷ cells) h = by (cells_at-some k cells) (c.number == k) refl h
  where
    by : (has_cell k cells ≡ true → 0 < length (cells_at k cells)) → (b : Bool)
        → (c.number == k) ≡ b → (b || has_cell k cells) ≡ true
        → 0 < length (cond b (c ∷ cells_at k cells) (cells_at k cells))
    by rest true e g = omega arith
    by rest false e g = rest g

pub cells_at-unsettled : (k : ℕ) (acked : List ℕ) (cells : List Cell)
    → has_number k acked ≡ false
    → cells_at k (filter (λ c. not (has_number c.number acked)) cells) ≡ cells_at k cells
cells_at-unsettled k acked [] h = refl
cells_at-unsettled k acked (c ∷ cells) h = grind (arith, nat_tests, cells_at-unsettled k acked cells h)

-- the first cell of a number stays the first
pub first_tag-push : (cells : List Cell) (d : Cell) → 0 < length cells
    → first_tag (cells ++ d ∷ []) ≡ first_tag cells
first_tag-push [] d h = absurd (omega arith)
first_tag-push (c ∷ cells) d h = refl

pub first_moment-push : (cells : List Cell) (d : Cell) → 0 < length cells
    → first_moment (cells ++ d ∷ []) ≡ first_moment cells
first_moment-push [] d h = absurd (omega arith)
first_moment-push (c ∷ cells) d h = refl

pub entries_of-push : (cells : List Cell) (d : Cell)
    → entries_of (cells ++ d ∷ []) ≡ entries_of cells ++ d.entry ∷ []
entries_of-push cells d = map-append (λ c. c.entry) cells (d ∷ [])

pub size_of-push : (entries : List (List ℕ)) (e : List ℕ)
    → size_of (entries ++ e ∷ []) ≡ size_of entries + length e
size_of-push [] e = omega arith
size_of-push (x ∷ entries) e = omega (arith, size_of-push entries e)

-- ---- tags

pub has_entry-cell : (tag : List ℕ) (k : ℕ) (cells : List Cell)
    → has_entry tag k cells ≡ true → has_cell k cells ≡ true
has_entry-cell tag k [] h = h
has_entry-cell tag k (c ∷ cells) h = by (has_entry-cell tag k cells) (c.number == k) (bytes_eq c.tag tag) h
  where
    by : (has_entry tag k cells ≡ true → has_cell k cells ≡ true) → (a b : Bool)
        → ((a && b) || has_entry tag k cells) ≡ true → (a || has_cell k cells) ≡ true
    by rest true b g = refl
    by rest false b g = rest g

-- the first cell of a number has its tag
pub first_tag-entry : (k : ℕ) (cells : List Cell) → has_cell k cells ≡ true
    → has_entry (first_tag (cells_at k cells)) k cells ≡ true
first_tag-entry k [] h = absurd cc
first_tag-entry k (c ∷ cells) h = by (first_tag-entry k cells) (c.number == k) refl h
  where
    by : (has_cell k cells ≡ true → has_entry (first_tag (cells_at k cells)) k cells ≡ true)
        → (b : Bool) → (c.number == k) ≡ b → (b || has_cell k cells) ≡ true
        →
        ((b && bytes_eq c.tag
        (first_tag (cond b (c ∷ cells_at k cells) (cells_at k cells)))) || has_entry (first_tag
        (cond b (c ∷ cells_at k cells) (cells_at k cells))) k cells) ≡ true
    by rest true e g = ap (λ b. b || has_entry c.tag k cells) ((bytes_eq-Decides c.tag c.tag).1 refl)
    by rest false e g = rest g

pub last_number-push : (tag : List ℕ) (cells : List Cell) (d : Cell)
    → last_number tag (cells ++ d ∷ [])
    ≡ cond (bytes_eq d.tag tag) (Some d.number) (last_number tag cells)
last_number-push tag [] d = refl
last_number-push tag (c ∷ cells) d = ap (λ o. option_or o (cond (bytes_eq c.tag tag) (Some c.number) None)) (last_number-push tag cells d) ∙ by (bytes_eq d.tag tag)
  where
    by : (b : Bool)
        → option_or (cond b (Some d.number) (last_number tag cells))
        (cond (bytes_eq c.tag tag) (Some c.number) None)
        ≡ cond b (Some d.number)
        (option_or (last_number tag cells) (cond (bytes_eq c.tag tag) (Some c.number) None))
    by true = refl
    by false = refl

pub last_number-entry : (tag : List ℕ) (k : ℕ) (cells : List Cell)
    → last_number tag cells ≡ Some k → has_entry tag k cells ≡ true
last_number-entry tag k [] e = absurd cc
last_number-entry tag k (c ∷ cells) e = by (last_number-entry tag k cells) (last_number tag cells) refl (bytes_eq c.tag tag) refl e
  where
    by : (last_number tag cells ≡ Some k → has_entry tag k cells ≡ true) → (o : Option ℕ)
        → last_number tag cells ≡ o → (b : Bool) → bytes_eq c.tag tag ≡ b
        → option_or o (cond b (Some c.number) None) ≡ Some k
        → (((c.number == k) && bytes_eq c.tag tag) || has_entry tag k cells) ≡ true
    by rest (Some j) f b g h = right ((c.number == k) && bytes_eq c.tag tag) (rest (f ∙ h))
      where
        right : (a : Bool) → has_entry tag k cells ≡ true → (a || has_entry tag k cells) ≡ true
        right true i = refl
        right false i = i
    by rest None f true g h = let same : c.number ≡ k = cc in ap (λ b. b || has_entry tag k cells) (ap (λ x. eqb x k && bytes_eq c.tag tag) same ∙ ap (λ b. b && bytes_eq c.tag tag) (eq_same k) ∙ g)
    by rest None f false g h = absurd cc

-- ---- the greatest number

pub le-greater : (j k : ℕ) (cells : List Cell) → has_cell k cells ≡ true
    → k ≤ greater j (greatest cells)
le-greater j k [] h = absurd cc
le-greater j k (c ∷ cells) h = by (le-greater c.number k cells) (c.number == k) refl h
  where
    first : c.number ≤ greater c.number (greatest cells)
    first = at (greatest cells)
      where
        at : (o : Option ℕ) → c.number ≤ greater c.number o
        at None = omega arith
        at (Some m) = omega arith

    by : (has_cell k cells ≡ true → k ≤ greater c.number (greatest cells)) → (b : Bool)
        → (c.number == k) ≡ b → (b || has_cell k cells) ≡ true
        → k ≤ max j (greater c.number (greatest cells))
    by rest true e g = let same : c.number ≡ k = eqb-true c.number k e in omega (arith, same, first)
    by rest false e g = omega (arith, rest g)

pub below-next : (first k : ℕ) (cells : List Cell) → has_cell k cells ≡ true
    → k < number_after first (greatest cells)
below-next first k [] h = absurd cc
below-next first k (c ∷ cells) h = by (c.number == k) refl h
  where
    here : c.number ≤ greater c.number (greatest cells)
    here = at (greatest cells)
      where
        at : (o : Option ℕ) → c.number ≤ greater c.number o
        at None = omega arith
        at (Some m) = omega arith

    by : (b : Bool) → (c.number == k) ≡ b → (b || has_cell k cells) ≡ true
        → k < greater c.number (greatest cells) + 1
    by true e g = let same : c.number ≡ k = eqb-true c.number k e in omega (arith, same, here)
    by false e g = omega (arith, le-greater c.number k cells g)

greater_swap : (a b : ℕ) (o : Option ℕ) → max a (greater b o) ≡ max b (greater a o)
greater_swap a b None = omega arith
greater_swap a b (Some m) = omega arith

pub greatest-push : (cells : List Cell) (d : Cell)
    → greatest (cells ++ d ∷ []) ≡ Some (greater d.number (greatest cells))
greatest-push [] d = refl
greatest-push (c ∷ cells) d = ap (λ o. Some (greater c.number o)) (greatest-push cells d) ∙ ap Some (greater_swap c.number d.number (greatest cells))

-- a number that is there
pub greatest-same : (k : ℕ) (cells : List Cell) → has_cell k cells ≡ true
    → Some (greater k (greatest cells)) ≡ greatest cells
greatest-same k [] h = absurd cc
greatest-same k (c ∷ cells) h = ap Some (by (c.number == k) refl h)
  where
    here : c.number ≤ greater c.number (greatest cells)
    here = at (greatest cells)
      where
        at : (o : Option ℕ) → c.number ≤ greater c.number o
        at None = omega arith
        at (Some m) = omega arith

    by : (b : Bool) → (c.number == k) ≡ b → (b || has_cell k cells) ≡ true
        → max k (greater c.number (greatest cells)) ≡ greater c.number (greatest cells)
    by true e g = let same : c.number ≡ k = eqb-true c.number k e in omega (arith, same, here)
    by false e g = omega (arith, le-greater c.number k cells g)

pub greatest-next : (first : ℕ) (o : Option ℕ)
    → greater (number_after first o) o ≡ number_after first o
greatest-next first None = refl
greatest-next first (Some m) = omega arith

-- ---- sums

abbrev pub weigh : (Cell → ℕ) → List Cell → ℕ
weigh w [] = 0
weigh w (c ∷ cells) = w c + weigh w cells

pub weigh_numbers : (w : Cell → ℕ) (cells : List Cell)
    → sum_over (λ k. weigh w (cells_at k cells)) (numbers_of cells) ≡ weigh w cells
weigh_numbers w [] = refl
weigh_numbers w (c ∷ cells) = omega (arith, here, others, by (weigh_numbers w cells) (has_number c.number (numbers_of cells)) refl)
  where
    here : weigh w (cells_at c.number (c ∷ cells)) ≡ w c + weigh w (cells_at c.number cells)
    here = ap (λ b. weigh w (cond b (c ∷ cells_at c.number cells) (cells_at c.number cells))) (eq_same c.number)

    others : sum_over (λ k. weigh w (cells_at k (c ∷ cells)))
        (filter (λ j. not (j == c.number)) (numbers_of cells)) ≡ sum_over
        (λ k. weigh w (cells_at k cells)) (filter (λ j. not (j == c.number)) (numbers_of cells))
    others = sum_over-same (λ k. weigh w (cells_at k (c ∷ cells))) (λ k. weigh w (cells_at k cells)) (filter (λ j. not (j == c.number)) (numbers_of cells)) (λ k e. passed k (sym (has_number-filter k (λ j. not (j == c.number)) (numbers_of cells)) ∙ e))
      where
        passed : (k : ℕ) → (has_number k (numbers_of cells) && not (k == c.number)) ≡ true
            → weigh w (cells_at k (c ∷ cells)) ≡ weigh w (cells_at k cells)
        passed k e = ap (λ b. weigh w (cond b (c ∷ cells_at k cells) (cells_at k cells))) apart
          where
            apart : (c.number == k) ≡ false
            apart = grind (arith, nat_tests, e)

    by : sum_over (λ k. weigh w (cells_at k cells)) (numbers_of cells) ≡ weigh w cells → (b : Bool)
        → has_number c.number (numbers_of cells) ≡ b
        → weigh w (cells_at c.number cells) + sum_over (λ k. weigh w (cells_at k cells))
        (filter (λ j. not (j == c.number)) (numbers_of cells)) ≡ weigh w cells
    by rest true e = sum_over-split (λ k. weigh w (cells_at k cells)) c.number (numbers_of cells) (numbers-distinct cells) e ∙ rest
    by rest false e =
        let none : cells_at c.number cells ≡ [] = cells_at-none c.number cells (sym (numbers-has c.number cells) ∙ e) in
        let nothing : weigh w (cells_at c.number cells) ≡ 0 = ap (weigh w) none in
        let same = ap (sum_over (λ k. weigh w (cells_at k cells))) (filter_absent c.number (numbers_of cells) e) in
        omega (arith, nothing, same, rest)

pub weigh-length : (cells : List Cell) → length (entries_of cells) ≡ weigh (λ c. 1) cells
weigh-length [] = refl
weigh-length (c ∷ cells) = omega (arith, weigh-length cells)

pub weigh-size : (cells : List Cell)
    → size_of (entries_of cells) ≡ weigh (λ c. length c.entry) cells
weigh-size [] = refl
weigh-size (c ∷ cells) = ap (λ n. length c.entry + n) (weigh-size cells)

-- ---- carries and losses

abbrev pub carry_at : ℕ → List Carry → Option Carry
carry_at number carried = find (λ c. c.number == number) carried

pub carry_at-without_same : (k : ℕ) (cs : List Carry) → carry_at k (without k cs) ≡ None
carry_at-without_same k [] = refl
carry_at-without_same k (c ∷ cs) = grind (arith, nat_tests, carry_at-without_same k cs)

pub carry_at-without_other : (j k : ℕ) (cs : List Carry) → j ≢ k
    → carry_at k (without j cs) ≡ carry_at k cs
carry_at-without_other j k [] differ = refl
carry_at-without_other j k (c ∷ cs) differ = grind (arith, nat_tests, carry_at-without_other j k cs differ)

pub carry_at-push_other : (w j k : ℕ) (cs : List Carry) → j ≢ k
    → carry_at k (cs ++ record { worker = w; number = j } ∷ []) ≡ carry_at k cs
carry_at-push_other w j k [] differ = grind (arith, nat_tests)
carry_at-push_other w j k (c ∷ cs) differ = ap (cond (eqb c.number k) (Some c)) (carry_at-push_other w j k cs differ)

pub carry_at-push_same : (w k : ℕ) (cs : List Carry) → is_carried k cs ≡ false
    → carry_at k (cs ++ record { worker = w; number = k } ∷ [])
    ≡ Some (record { worker = w; number = k })
carry_at-push_same w k [] none = ap (λ b. cond b (Some (record { worker = w; number = k })) None) (eq_same k)
carry_at-push_same w k (c ∷ cs) none = by (carry_at-push_same w k cs) (eqb c.number k) refl none
  where
    by :
        (is_carried k cs ≡ false → carry_at k (cs ++ record { worker = w; number = k } ∷ [])
        ≡ Some (record { worker = w; number = k }))
        → (b : Bool) → eqb c.number k ≡ b → (b || is_carried k cs) ≡ false
        → cond b (Some c) (carry_at k (cs ++ record { worker = w; number = k } ∷ [])) ≡ Some
        (record { worker = w; number = k })
    by rest true e g = absurd cc
    by rest false e g = rest g

pub is_carried-push : (w j k : ℕ) (cs : List Carry)
    → is_carried k (cs ++ record { worker = w; number = j } ∷ [])
    ≡ (is_carried k cs || (j == k))
is_carried-push w j k cs = any-push (λ c. c.number == k) cs (record { worker = w; number = j })

pub is_carried-without : (j k : ℕ) (cs : List Carry)
    → is_carried k (without j cs) ≡ (is_carried k cs && not (k == j))
is_carried-without j k [] = refl
is_carried-without j k (c ∷ cs) = grind (arith, nat_tests, is_carried-without j k cs)

pub losses-here : (k m : ℕ) (ls : List Loss)
    → losses_of k (record { number = k; moment = m } ∷ ls) ≡ m ∷ losses_of k ls
losses-here k m ls = ap (λ b. map (λ (l : Loss). l.moment) (cond b (record { number = k; moment = m } ∷ filter (λ l. l.number == k) ls) (filter (λ l. l.number == k) ls))) (eq_same k)

pub losses-elsewhere : (j k m : ℕ) (ls : List Loss) → (j == k) ≡ false
    → losses_of k (record { number = j; moment = m } ∷ ls) ≡ losses_of k ls
losses-elsewhere j k m ls e = ap (λ b. map (λ (l : Loss). l.moment) (cond b (record { number = j; moment = m } ∷ filter (λ l. l.number == k) ls) (filter (λ l. l.number == k) ls))) e
