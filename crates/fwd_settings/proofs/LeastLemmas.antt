-- The least of some keys, with one key more at a time.
use Rattle.std.proofs.Common.{◌≡◌, ℕ, Bool, true, false, cond, ◌||◌, List, [], ◌∷◌, ◌++◌, Option, Some, None, Ordering, Less, Equal, Greater, refl, sym, ◌∙◌, ap, subst, true≢false}
use Rattle.std.specs.Prelude.{not}
use Rattle.std.specs.List.{list_any, find, cons_option}
use Rattle.std.specs.Ordering.{nat_cmp, is_lt, ordering_reverse}
use Rattle.std.specs.Cmp.Lexicographic.{slice_cmp}
use Rattle.std.proofs.lemmas.Cmp.{nat_list_cmp_total}
use Rattle.std.proofs.lemmas.Map.Lookups.{exact_bytes}
use Rattle.fwd_settings.specs.Unknown.{is_less, is_least, least}
use Rattle.fwd_settings.proofs.ListLemmas.{each_more}

-- ---- the order of keys

less_is : (o : Ordering) → is_lt o ≡ true → o ≡ Less
less_is Less h = refl
less_is Equal h = absurd cc
less_is Greater h = absurd cc

neither : (o p : Ordering) → o ≡ ordering_reverse p → is_lt o ≡ false → is_lt p ≡ false
    → o ≡ Equal
neither Less p e h g = absurd cc
neither Equal p e h g = refl
neither Greater Less e h g = absurd cc
neither Greater Equal e h g = absurd cc
neither Greater Greater e h g = absurd cc

own : (o : Ordering) → o ≡ ordering_reverse o → is_lt o ≡ false
own Less e = absurd cc
own Equal e = refl
own Greater e = refl

irreflexive : (x : List ℕ) → is_less x x ≡ false
irreflexive x = own (slice_cmp nat_cmp x x) (nat_list_cmp_total.antisymm x x)

transitive : (x y z : List ℕ) → is_less x y ≡ true → is_less y z ≡ true
    → is_less x z ≡ true
transitive x y z h g =
    ap is_lt (nat_list_cmp_total.trans x y z (less_is (slice_cmp nat_cmp x y) h) (less_is (slice_cmp nat_cmp y z) g))

exact : (x y : List ℕ) → is_less x y ≡ false → is_less y x ≡ false → x ≡ y
exact x y h g =
    exact_bytes x y (neither (slice_cmp nat_cmp x y) (slice_cmp nat_cmp y x) (nat_list_cmp_total.antisymm x y) h g)

-- ---- tests of one and of another

covered : (a b c : Bool) → (a ≡ true → b ≡ true) → (a || (b || c)) ≡ (b || c)
covered false b c h = refl
covered true true c h = refl
covered true false c h = absurd (true≢false (sym (h refl)))

covers : (a b c : Bool) → (b ≡ true → a ≡ true) → (a || (b || c)) ≡ (a || c)
covers true b c h = refl
covers false false c h = refl
covers false true c h = absurd (true≢false (sym (h refl)))

passed : {A : Type 0} (a b : Bool) (x y z : A) → (b ≡ true → a ≡ true)
    → cond a x (cond b y z) ≡ cond a x z
passed true b x y z h = refl
passed false false x y z h = refl
passed false true x y z h = absurd (true≢false (sym (h refl)))

negated : (b : Bool) → not b ≡ true → b ≡ false
negated true h = absurd cc
negated false h = refl

first_false : (a b : Bool) → (a || b) ≡ false → a ≡ false
first_false true b h = absurd cc
first_false false b h = refl

-- ---- the lesser of two keys

abbrev any_below : List (List ℕ) → List ℕ → Bool
any_below keys key = list_any (λ other. is_less other key) keys

-- the second key is less
module _ (a b : List ℕ) (rest : List (List ℕ)) (h : is_less b a ≡ true) where
  same_tests : (x : List ℕ) → is_least (a ∷ b ∷ rest) x ≡ is_least (b ∷ rest) x
  same_tests x =
      ap not (covered (is_less a x) (is_less b x) (any_below rest x) (transitive b a x h))

  no_least : is_least (a ∷ b ∷ rest) a ≡ false
  no_least = ap not (covered (is_less a a) (is_less b a) (any_below rest a) (λ e. h) ∙ ap (λ t. t || any_below rest a) h)

  second_least : find (is_least (a ∷ b ∷ rest)) (a ∷ b ∷ rest) ≡ find (is_least (b ∷ rest))
      (b ∷ rest)
  second_least =
      ap (λ t. cond t (Some a) (find (is_least (a ∷ b ∷ rest)) (b ∷ rest))) no_least
      ∙ ap (λ (test : List ℕ → Bool). find test (b ∷ rest)) (λ i x. same_tests x i)

-- the second key is not less
module _ (a b : List ℕ) (rest : List (List ℕ)) (h : is_less b a ≡ false) where
  less_than : (x : List ℕ) → is_less b x ≡ true → is_less a x ≡ true
  less_than x g = by (is_less a x) refl
    where
      by : (t : Bool) → is_less a x ≡ t → t ≡ true
      by true e = refl
      by false e = absurd (above (is_less x a) refl)
        where
          above : (t : Bool) → is_less x a ≡ t → ⊥
          above true f = true≢false (sym (transitive b x a g f) ∙ h)
          above false f = true≢false (sym g ∙ ap (is_less b) (exact x a f e) ∙ h)

  kept_tests : (x : List ℕ) → is_least (a ∷ b ∷ rest) x ≡ is_least (a ∷ rest) x
  kept_tests x = ap not (covers (is_less a x) (is_less b x) (any_below rest x) (less_than x))

  least_twice : is_least (a ∷ rest) b ≡ true → is_least (a ∷ rest) a ≡ true
  least_twice e =
      subst (λ x. is_least (a ∷ rest) x ≡ true) (exact b a h (first_false (is_less a b) (any_below rest b) (negated (is_less a b || any_below rest b) e))) e

  first_least : find (is_least (a ∷ b ∷ rest)) (a ∷ b ∷ rest) ≡ find (is_least (a ∷ rest))
      (a ∷ rest)
  first_least =
      ap (λ (test : List ℕ → Bool). find test (a ∷ b ∷ rest)) (λ i x. kept_tests x i)
      ∙ passed (is_least (a ∷ rest) a) (is_least (a ∷ rest) b) (Some a) (Some b) (find (is_least (a ∷ rest)) rest) least_twice

-- the least of two keys and more is the least of the lesser and more
pub lesser_second : (a b : List ℕ) (rest : List (List ℕ)) → is_less b a ≡ true
    → least (a ∷ b ∷ rest) ≡ least (b ∷ rest)
unfolding least
lesser_second a b rest h = second_least a b rest h

pub lesser_first : (a b : List ℕ) (rest : List (List ℕ)) → is_less b a ≡ false
    → least (a ∷ b ∷ rest) ≡ least (a ∷ rest)
unfolding least
lesser_first a b rest h = first_least a b rest h

pub least_one : (a : List ℕ) → least (a ∷ []) ≡ Some a
unfolding least
least_one a = ap (λ t. cond (not (t || false)) (Some a) None) (irreflexive a)

least_none : least [] ≡ None
unfolding least
least_none = refl

least_from : (a : List ℕ) (keys more : List (List ℕ))
    → least (a ∷ keys ++ more) ≡ least (cons_option (least (a ∷ keys)) more)
least_from a [] more = sym (ap (λ found. least (cons_option found more)) (least_one a))
least_from a (b ∷ keys) more = by (least_from a keys more) (least_from b keys more) (is_less b a) refl
  where
    by : least (a ∷ keys ++ more) ≡ least (cons_option (least (a ∷ keys)) more)
        → least (b ∷ keys ++ more) ≡ least (cons_option (least (b ∷ keys)) more)
        → (t : Bool) → is_less b a ≡ t
        → least (a ∷ (b ∷ keys) ++ more) ≡ least (cons_option (least (a ∷ b ∷ keys)) more)
    by first second true h =
        lesser_second a b (keys ++ more) h ∙ second ∙ sym (ap (λ found. least (cons_option found more)) (lesser_second a b keys h))
    by first second false h =
        lesser_first a b (keys ++ more) h ∙ first ∙ sym (ap (λ found. least (cons_option found more)) (lesser_first a b keys h))

-- the least of some keys and more is the least of the least and more
pub least_append : (keys more : List (List ℕ))
    → least (keys ++ more) ≡ least (cons_option (least keys) more)
least_append [] more = ap (λ found. least (cons_option found more)) (sym least_none)
least_append (a ∷ keys) more = least_from a keys more

-- the same behind a key
pub least_onward : (found : Option (List ℕ)) (keys more : List (List ℕ))
    → least (cons_option found (keys ++ more)) ≡ least
    (cons_option (least (cons_option found keys)) more)
least_onward None keys more = least_append keys more
least_onward (Some a) keys more = least_from a keys more

pub least_alone : (found : Option (List ℕ)) → least (cons_option found []) ≡ found
least_alone None = least_none
least_alone (Some a) = least_one a

-- one key more, of which the lesser is known
pub least_more : (found : Option (List ℕ)) (key lesser : List ℕ) (more : List (List ℕ))
    → least (cons_option found (key ∷ [])) ≡ Some lesser
    → least (cons_option found (key ∷ more)) ≡ least (lesser ∷ more)
least_more found key lesser more h = least_onward found (key ∷ []) more ∙ ap (λ known. least (cons_option known more)) h

-- what a look at one more key, or at more keys, needs
pub ruleset lesser_steps = (least_one, lesser_first, lesser_second)

pub ruleset onward_steps = (least_alone, least_onward)

pub ruleset each_steps = (each_more, least_alone, least_onward)
