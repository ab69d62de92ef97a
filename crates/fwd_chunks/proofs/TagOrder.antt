-- Tags that rise by their bytes, and what is held of each.
use Rattle.std.proofs.Common.{◌≡◌, ℕ, zero, suc, get_or, ◌+◌, ◌<◌, Bool, true, false, cond, ◌||◌, List, [], ◌∷◌, length, map, Ordering, Less, Equal, Greater, refl, sym, ap, ◌∙◌, subst, arith}
use Rattle.std.specs.Prelude.{filter, nat_lt}
use Rattle.std.specs.List.{AllByRecursion, IsDistinct, list_any}
use Rattle.std.specs.List.Sorted.{IsStrictlySortedBy, IsPermutation, IsSortedBy}
use Rattle.std.specs.Ordering.{nat_cmp, is_lt, ordering_reverse}
use Rattle.std.specs.Str.{bytes_eq}
use Rattle.std.specs.Cmp.{IsStrictWeakOrder}
use Rattle.std.specs.Cmp.Lexicographic.{slice_cmp}
use Rattle.std.proofs.lemmas.Bool.Decides.{nat_tests}
use Rattle.std.proofs.lemmas.Cmp.{nat_list_cmp_total}
use Rattle.std.proofs.lemmas.List.{length-map}
use Rattle.std.proofs.lemmas.List.Elements.{All-from_recursion, recursion_from_All}
use Rattle.std.proofs.lemmas.List.Sorted.{IsPermutation-map, All-permutation, list_any-IsPermutation}
use Rattle.std.proofs.lemmas.Map.Keys.{IsDistinct-IsPermutation, apart_from_distinct, sorted_from_all_adjacent}
use Rattle.std.proofs.lemmas.Map.Lookups.{exact_bytes}
use Rattle.std.proofs.lemmas.Slice.Eq.{bytes_eq-Decides}
use Rattle.fwd_base.specs.declared.tag_count.TagCount.{TagCount}
use Rattle.fwd_chunks.specs.Cells.{size_of}
use Rattle.fwd_chunks.specs.TagCounts.{Tagged, of_tag, tag_count, is_before, with_tag, tags_of, tag_counts, AreTagCounts}
use Rattle.fwd_chunks.proofs.Numbers.{not_from, true_false}

-- ---- the order of tags

abbrev pub order : List ℕ → List ℕ → Ordering
order x y = slice_cmp nat_cmp x y

-- the tags rise
abbrev pub AreRising : List (List ℕ) → Type 0
AreRising tags = IsStrictlySortedBy order tags

-- the tag is among them
abbrev pub has : List ℕ → List (List ℕ) → Bool
has tag tags = list_any (bytes_eq tag) tags

same : (x y : List ℕ) → bytes_eq x y ≡ true → x ≡ y
same x y e = (bytes_eq-Decides x y).0 e

itself : (x y : List ℕ) → x ≡ y → bytes_eq x y ≡ true
itself x y e = (bytes_eq-Decides x y).1 e

less_is : (o : Ordering) → is_lt o ≡ true → o ≡ Less
less_is Less h = refl
less_is Equal h = absurd cc
less_is Greater h = absurd cc

own : (o : Ordering) → o ≡ ordering_reverse o → o ≡ Equal
own Less e = absurd cc
own Equal e = refl
own Greater e = absurd cc

level : (x : List ℕ) → order x x ≡ Equal
level x = own (order x x) (nat_list_cmp_total.antisymm x x)

not_less : Equal ≡ Less → ⊥
not_less e = cc

-- a tag below another is not the same
apart : (x y : List ℕ) → order x y ≡ Less → bytes_eq x y ≡ false
apart x y e = not_from (bytes_eq x y) (λ f. absurd (not_less (sym (level x) ∙ ap (order x) (same x y f) ∙ e)))

-- neither below nor the same: above
above : (x y : List ℕ) → is_before x y ≡ false → bytes_eq x y ≡ false → order y x ≡ Less
above x y e f = by (order x y) refl (order y x) (nat_list_cmp_total.antisymm y x)
  where
    by : (o : Ordering) → order x y ≡ o → (p : Ordering) → p ≡ ordering_reverse (order x y) → p ≡ Less
    by Less g p h = absurd (true_false (is_lt (order x y)) (ap is_lt g) e)
    by Equal g p h = absurd (true_false (bytes_eq x y) (itself x y (exact_bytes x y g)) f)
    by Greater g p h = h ∙ ap ordering_reverse g

-- a tag below all is none of them
below-none : (x : List ℕ) (tags : List (List ℕ)) → AllByRecursion (λ y. order x y ≡ Less) tags
    → has x tags ≡ false
below-none x [] all = refl
below-none x (y ∷ tags) all = ap (λ b. b || has x tags) (apart x y all.0) ∙ below-none x tags all.1

below-through : (x y : List ℕ) (tags : List (List ℕ)) → order x y ≡ Less
    → AllByRecursion (λ z. order y z ≡ Less) tags → AllByRecursion (λ z. order x z ≡ Less) tags
below-through x y [] e all = tt
below-through x y (z ∷ tags) e all = (nat_list_cmp_total.trans x y z e all.0, below-through x y tags e all.1)

-- tags that rise differ
pub rising-distinct : (tags : List (List ℕ)) → AreRising tags → IsDistinct bytes_eq tags
unfolding IsStrictlySortedBy IsDistinct
rising-distinct [] up = tt
rising-distinct (y ∷ tags) up = (off tags up.0, rising-distinct tags up.1)
  where
    off : (ts : List (List ℕ)) → AllByRecursion (λ z. order y z ≡ Less) ts
        → AllByRecursion (λ z. bytes_eq y z ≡ false) ts
    off [] all = tt
    off (z ∷ ts) all = (apart y z all.0, off ts all.1)

-- ---- a tag among others

all-with_tag : (P : List ℕ → Type 0) (tag : List ℕ) (tags : List (List ℕ)) → P tag
    → AllByRecursion P tags → AllByRecursion P (with_tag tag tags)
all-with_tag P tag [] one all = (one, tt)
all-with_tag P tag (y ∷ tags) one all = by (is_before tag y) (bytes_eq tag y) (all-with_tag P tag tags one all.1)
  where
    by : (a b : Bool) → AllByRecursion P (with_tag tag tags)
        → AllByRecursion P (cond a (tag ∷ y ∷ tags) (cond b (y ∷ tags) (y ∷ with_tag tag tags)))
    by true b more = (one, all)
    by false true more = all
    by false false more = (all.0, more)

rising-with_tag : (tag : List ℕ) (tags : List (List ℕ)) → AreRising tags
    → AreRising (with_tag tag tags)
unfolding IsStrictlySortedBy
rising-with_tag tag [] up = (tt, tt)
rising-with_tag tag (y ∷ tags) up = by (is_before tag y) refl (bytes_eq tag y) refl (rising-with_tag tag tags up.1)
  where
    by : (a : Bool) → is_before tag y ≡ a → (b : Bool) → bytes_eq tag y ≡ b
        → AreRising (with_tag tag tags)
        → AreRising (cond a (tag ∷ y ∷ tags) (cond b (y ∷ tags) (y ∷ with_tag tag tags)))
    by true e b f more =
        let less : order tag y ≡ Less = less_is (order tag y) e in
        ((less, below-through tag y tags less up.0), up)
    by false e true f more = up
    by false e false f more = (all-with_tag (λ z. order y z ≡ Less) tag tags (above tag y e f) up.0, more)

has-with_tag : (t tag : List ℕ) (tags : List (List ℕ))
    → has t (with_tag tag tags) ≡ (bytes_eq t tag || has t tags)
has-with_tag t tag [] = refl
has-with_tag t tag (y ∷ tags) = by (is_before tag y) (bytes_eq tag y) refl (has-with_tag t tag tags)
  where
    swap : (a b c : Bool) → (a || (b || c)) ≡ (b || (a || c))
    swap true true c = refl
    swap true false c = refl
    swap false true c = refl
    swap false false c = refl

    covered : (a b : Bool) → (a || b) ≡ (a || (a || b))
    covered true b = refl
    covered false b = refl

    by : (a b : Bool) → bytes_eq tag y ≡ b
        → has t (with_tag tag tags) ≡ (bytes_eq t tag || has t tags)
        → has t (cond a (tag ∷ y ∷ tags) (cond b (y ∷ tags) (y ∷ with_tag tag tags)))
        ≡ (bytes_eq t tag || (bytes_eq t y || has t tags))
    by true b f more = refl
    by false true f more =
        covered (bytes_eq t y) (has t tags) ∙ ap (λ z. bytes_eq t z || (bytes_eq t y || has t tags)) (sym (same tag y f))
    by false false f more = ap (λ b. bytes_eq t y || b) more ∙ swap (bytes_eq t y) (bytes_eq t tag) (has t tags)

-- ---- the tags of entries

pub rising-tags_of : (held : List Tagged) → AreRising (tags_of held)
unfolding IsStrictlySortedBy
rising-tags_of [] = tt
rising-tags_of (e ∷ held) = rising-with_tag e.tag (tags_of held) (rising-tags_of held)

pub has-tags_of : (t : List ℕ) (held : List Tagged)
    → has t (tags_of held) ≡ list_any (λ e. bytes_eq t e.tag) held
has-tags_of t [] = refl
has-tags_of t (e ∷ held) = has-with_tag t e.tag (tags_of held) ∙ ap (λ b. bytes_eq t e.tag || b) (has-tags_of t held)

-- an entry has the tag just where its count is above 0
pub any-count : (t : List ℕ) (held : List Tagged)
    → list_any (λ e. bytes_eq t e.tag) held ≡ nat_lt 0 (length (of_tag t held))
any-count t [] = refl
any-count t (e ∷ held) = by (bytes_eq t e.tag) (any-count t held)
  where
    by : (b : Bool) → list_any (λ x. bytes_eq t x.tag) held ≡ nat_lt 0 (length (of_tag t held))
        → (b || list_any (λ x. bytes_eq t x.tag) held)
        ≡ nat_lt 0 (length (map (λ x. x.entry) (cond b (e ∷ filter (λ x. bytes_eq t x.tag) held) (filter (λ x. bytes_eq t x.tag) held))))
    by true more = grind (arith, nat_tests)
    by false more = more

-- ---- lists of the same tags that rise are the same

pub one_order : (xs ys : List (List ℕ)) → AreRising xs → AreRising ys
    → ((t : List ℕ) → has t xs ≡ has t ys) → xs ≡ ys
unfolding IsStrictlySortedBy
one_order [] [] up on alike = refl
one_order [] (y ∷ ys) up on alike = absurd (true_false (has y (y ∷ ys)) (ap (λ b. b || has y ys) (itself y y refl)) (sym (alike y)))
one_order (x ∷ xs) [] up on alike = absurd (true_false (has x (x ∷ xs)) (ap (λ b. b || has x xs) (itself x x refl)) (alike x))
one_order (x ∷ xs) (y ∷ ys) up on alike = by (one_order xs ys up.1 on.1) (order x y) refl
  where
    first-no : (a b : Bool) → a ≡ false → b ≡ false → (a || b) ≡ false
    first-no a b e f = ap (λ c. c || b) e ∙ f

    by : (((t : List ℕ) → has t xs ≡ has t ys) → xs ≡ ys) → (o : Ordering) → order x y ≡ o
        → (x ∷ xs) ≡ (y ∷ ys)
    by more Less e =
        let mine : has x (x ∷ xs) ≡ true = ap (λ b. b || has x xs) (itself x x refl) in
        let none : has x (y ∷ ys) ≡ false = first-no (bytes_eq x y) (has x ys) (apart x y e) (below-none x ys (below-through x y ys e on.0)) in
        absurd (true_false (has x (x ∷ xs)) mine (alike x ∙ none))
    by more Greater e =
        let turned : order y x ≡ Less = nat_list_cmp_total.antisymm y x ∙ ap ordering_reverse e in
        let mine : has y (y ∷ ys) ≡ true = ap (λ b. b || has y ys) (itself y y refl) in
        let none : has y (x ∷ xs) ≡ false = first-no (bytes_eq y x) (has y xs) (apart y x turned) (below-none y xs (below-through y x xs turned up.0)) in
        absurd (true_false (has y (x ∷ xs)) (alike y ∙ mine) none)
    by more Equal e =
        let is : x ≡ y = exact_bytes x y e in
        λ i. is i ∷ more (λ t. rest t is (bytes_eq t x) refl) i
      where
        rest : (t : List ℕ) → x ≡ y → (b : Bool) → bytes_eq t x ≡ b → has t xs ≡ has t ys
        rest t is true f =
            let at : t ≡ x = same t x f in
            ap (λ z. has z xs) at ∙ below-none x xs up.0 ∙ sym (ap (λ z. has z ys) (at ∙ is) ∙ below-none y ys on.0)
        rest t is false f =
            ap (λ b. b || has t xs) (sym f) ∙ alike t ∙ ap (λ b. b || has t ys) (ap (bytes_eq t) (sym is) ∙ f)

-- ---- counts

-- entries that count alike under each tag
pub record CountAlike (xs ys : List Tagged) : Type 0 where
  pub held : (t : List ℕ) → length (of_tag t xs) ≡ length (of_tag t ys)
  pub bytes : (t : List ℕ) → size_of (of_tag t xs) ≡ size_of (of_tag t ys)

pub counts_alike : (xs ys : List Tagged) → CountAlike xs ys → tag_counts xs ≡ tag_counts ys
unfolding tag_counts
counts_alike xs ys alike =
    let tags : tags_of xs ≡ tags_of ys = one_order (tags_of xs) (tags_of ys) (rising-tags_of xs) (rising-tags_of ys)
    (λ t. has-tags_of t xs ∙ any-count t xs ∙ ap (nat_lt 0) (alike.held t) ∙ sym (has-tags_of t ys ∙ any-count t ys)) in
    (λ i. map (tag_count xs) (tags i)) ∙ each (tags_of ys)
  where
    each : (tags : List (List ℕ)) → map (tag_count xs) tags ≡ map (tag_count ys) tags
    each [] = refl
    each (t ∷ tags) = λ i. record { tag = t; held = alike.held t i; bytes = alike.bytes t i } ∷ each tags i

pub tags-map : (held : List Tagged) (tags : List (List ℕ))
    → map (λ (t : TagCount). t.tag) (map (tag_count held) tags) ≡ tags
tags-map held [] = refl
tags-map held (t ∷ tags) = ap (λ l. t ∷ l) (tags-map held tags)

pub tags_rise : (held : List Tagged) → AreRising (map (λ (t : TagCount). t.tag) (tag_counts held))
unfolding tag_counts
tags_rise held = subst AreRising (sym (tags-map held (tags_of held))) (rising-tags_of held)

-- a tag that is counted is that of an entry
counted : (held : List Tagged) (t : List ℕ) (l : List TagCount)
    → AllByRecursion (λ x. (x ≡ tag_count held x.tag) × (0 < x.held)) l
    → has t (map (λ x. x.tag) l) ≡ true → list_any (λ e. bytes_eq t e.tag) held ≡ true
counted held t [] all e = absurd cc
counted held t (x ∷ l) all e = by (counted held t l all.1) (bytes_eq t x.tag) refl e
  where
    some : (k : ℕ) → 0 < k → nat_lt 0 k ≡ true
    some k lt = grind (arith, nat_tests, lt)

    by : (has t (map (λ z. z.tag) l) ≡ true → list_any (λ e. bytes_eq t e.tag) held ≡ true)
        → (b : Bool) → bytes_eq t x.tag ≡ b → (b || has t (map (λ z. z.tag) l)) ≡ true
        → list_any (λ z. bytes_eq t z.tag) held ≡ true
    by more true f g =
        any-count t held ∙ some (length (of_tag t held))
        (subst (λ k. 0 < k) (ap (λ z. z.held) all.0.0 ∙ ap (λ z. length (of_tag z held)) (sym (same t x.tag f))) all.0.1)
    by more false f g = more g

-- the tag of an entry is counted
listed-all : (listed : List TagCount) (t : List ℕ) (es : List Tagged)
    → AllByRecursion (λ e. has e.tag (map (λ x. x.tag) listed) ≡ true) es
    → list_any (λ e. bytes_eq t e.tag) es ≡ true → has t (map (λ x. x.tag) listed) ≡ true
listed-all listed t [] all e = absurd cc
listed-all listed t (x ∷ es) all e = by (listed-all listed t es all.1) (bytes_eq t x.tag) refl e
  where
    by : (list_any (λ z. bytes_eq t z.tag) es ≡ true → has t (map (λ z. z.tag) listed) ≡ true)
        → (b : Bool) → bytes_eq t x.tag ≡ b → (b || list_any (λ z. bytes_eq t z.tag) es) ≡ true
        → has t (map (λ z. z.tag) listed) ≡ true
    by more true f g = ap (λ z. has z (map (λ y. y.tag) listed)) (same t x.tag f) ∙ all.0
    by more false f g = more g

as_told : (held : List Tagged) (l : List TagCount)
    → AllByRecursion (λ t. (t ≡ tag_count held t.tag) × (0 < t.held)) l
    → l ≡ map (tag_count held) (map (λ t. t.tag) l)
as_told held [] all = refl
as_told held (t ∷ l) all = λ i. all.0.0 i ∷ as_told held l all.1 i

both : (a b : Bool) → (a ≡ true → b ≡ true) → (b ≡ true → a ≡ true) → a ≡ b
both true b f g = sym (f refl)
both false true f g = g refl
both false false f g = refl

-- the counts of some tags, in any order, once they rise
pub in_order : (held : List Tagged) (listed : List TagCount) → AreTagCounts held listed
    → AreRising (map (λ t. t.tag) listed) → listed ≡ tag_counts held
unfolding tag_counts
in_order held listed are up =
    as_told held listed are.told
    ∙ ap (map (tag_count held)) (one_order (map (λ t. t.tag) listed) (tags_of held) up (rising-tags_of held)
    (λ t. both (has t (map (λ x. x.tag) listed)) (list_any (λ e. bytes_eq t e.tag) held) (counted held t listed are.told) (listed-all listed t held are.all) ∙ sym (has-tags_of t held)))

-- ---- a list that was sorted

-- by the bytes of the tags
abbrev pub comes_before : TagCount → TagCount → Bool
comes_before a b = is_before a.tag b.tag

pub comes_before-weak : IsStrictWeakOrder comes_before
comes_before-weak = record { one_way = λ x y e. one_way x.tag y.tag e; chain = λ x y z e f. chain x.tag y.tag z.tag e f }
  where
    greater : (o : Ordering) → is_lt o ≡ true → is_lt (ordering_reverse o) ≡ false
    greater Less e = refl
    greater Equal e = refl
    greater Greater e = absurd cc

    one_way : (x y : List ℕ) → is_before x y ≡ true → is_before y x ≡ false
    one_way x y e = ap is_lt (nat_list_cmp_total.antisymm y x) ∙ greater (order x y) e

    -- y is at most x, and z at most y
    chain : (x y z : List ℕ) → is_before x y ≡ false → is_before y z ≡ false → is_before x z ≡ false
    chain x y z e f = by (bytes_eq x y) refl (bytes_eq y z) refl
      where
        by : (a : Bool) → bytes_eq x y ≡ a → (b : Bool) → bytes_eq y z ≡ b → is_before x z ≡ false
        by true g b h = ap (λ l. is_before l z) (same x y g) ∙ f
        by false g true h = ap (is_before x) (sym (same y z h)) ∙ e
        by false g false h =
            let down : order z x ≡ Less = nat_list_cmp_total.trans z y x (above y z f h) (above x y e g) in
            one_way z x (ap is_lt down)

pub sorted-counts : (held : List Tagged) (listed sorted : List TagCount) → AreTagCounts held listed
    → IsPermutation listed sorted → IsSortedBy comes_before sorted → sorted ≡ tag_counts held
sorted-counts held listed sorted are moved up = in_order held sorted all (rising sorted all.once up)
  where
    Told : TagCount → Type 0
    Told t = (t ≡ tag_count held t.tag) × (0 < t.held)

    tags : IsPermutation (map (λ t. t.tag) listed) (map (λ t. t.tag) sorted)
    tags = IsPermutation-map (λ (t : TagCount). t.tag) listed sorted moved

    each : (es : List Tagged) → AllByRecursion (λ e. list_any (bytes_eq e.tag) (map (λ t. t.tag) listed) ≡ true) es
        → AllByRecursion (λ e. list_any (bytes_eq e.tag) (map (λ t. t.tag) sorted) ≡ true) es
    each [] is = tt
    each (e ∷ es) is = (sym (list_any-IsPermutation (bytes_eq e.tag) (map (λ t. t.tag) listed) (map (λ t. t.tag) sorted) tags) ∙ is.0, each es is.1)

    flip : (x y : List ℕ) → bytes_eq x y ≡ bytes_eq y x
    flip x y = both (bytes_eq x y) (bytes_eq y x) (λ e. itself y x (sym (same x y e))) (λ e. itself x y (sym (same y x e)))

    all : AreTagCounts held sorted
    all = record {
      told = recursion_from_All Told sorted (All-permutation Told listed sorted moved (All-from_recursion Told listed are.told));
      once = IsDistinct-IsPermutation bytes_eq flip (map (λ t. t.tag) listed) (map (λ t. t.tag) sorted) tags are.once;
      all = each held are.all;
    }

    nothing : TagCount
    nothing = record { tag = []; held = 0; bytes = 0 }

    tag-at : (xs : List TagCount) (k : ℕ) → get_or (map (λ t. t.tag) xs) k [] ≡ (get_or xs k nothing).tag
    tag-at [] k = refl
    tag-at (x ∷ xs) zero = refl
    tag-at (x ∷ xs) (suc k) = tag-at xs k

    rising : (xs : List TagCount) → IsDistinct bytes_eq (map (λ t. t.tag) xs) → IsSortedBy comes_before xs
        → AreRising (map (λ t. t.tag) xs)
    rising xs apart-all sorted-all = sorted_from_all_adjacent nat_list_cmp_total (map (λ t. t.tag) xs) [] (λ k lt.
        let within : k + 1 < length xs = omega (arith, lt, length-map xs (λ t. t.tag)) in
        let low : is_before (get_or xs (k + 1) nothing).tag (get_or xs k nothing).tag ≡ false = sorted-all k nothing (omega arith) within in
        let off : bytes_eq (get_or (map (λ t. t.tag) xs) k []) (get_or (map (λ t. t.tag) xs) (k + 1) []) ≡ false = apart_from_distinct bytes_eq (map (λ t. t.tag) xs) k (k + 1) [] apart-all (omega arith) lt in
        above (get_or (map (λ t. t.tag) xs) (k + 1) []) (get_or (map (λ t. t.tag) xs) k [])
        ((λ i. is_before (tag-at xs (k + 1) i) (tag-at xs k i)) ∙ low)
        (flip (get_or (map (λ t. t.tag) xs) (k + 1) []) (get_or (map (λ t. t.tag) xs) k []) ∙ off))
