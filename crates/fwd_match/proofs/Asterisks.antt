-- Asterisks in all spellings of a word at once.
use Rattle.std.proofs.Common.{◌≡◌, ℕ, Bool, true, false, not, ◌&&◌, List, [], ◌∷◌, ◌++◌, length, map, refl, ap, sym, ◌∙◌, cond, ◌||◌, ◌<◌, arith}
use Rattle.std.specs.List.{slice_split, onto_first, list_all, list_any, flat_map}
use Rattle.std.proofs.lemmas.List.Folds.{list_all-append, list_all-map}
use Rattle.std.proofs.lemmas.Grind.{fold-append}
use Rattle.std.proofs.lemmas.List.Splits.{length-slice_split}
use Rattle.fwd_match.specs.Patterns.{is_dot, is_asterisk, is_good_part, parts, has_good_stars, choices, each_with, spelled, spellings, is_brace}
use Rattle.fwd_match.specs.Asterisks.{Front, dotted, starred, lettered, Nothing, Star, Stars, Plain, Bad, one_further, further, is_fine, all_fine, each_front}
use Rattle.fwd_match.specs.declared.stars.Fronts.{Fronts}
use Rattle.fwd_match.proofs.Spellings.{stars_start, spellings_start}

-- a part with no asterisk
abbrev plain : List ℕ → Bool
plain part = not (list_any is_asterisk part)

-- the rest of a part is good behind such a front
abbrev good_rest : Front → List ℕ → Bool
good_rest Nothing part = is_good_part part
good_rest Star [] = true
good_rest Star (byte ∷ []) = is_asterisk byte
good_rest Star (byte ∷ next ∷ more) = false
good_rest Stars [] = true
good_rest Stars (byte ∷ more) = false
good_rest Plain part = plain part
good_rest Bad part = false

-- the rest of a part, and the parts behind it
abbrev good_parts : Front → List (List ℕ) → Bool
good_parts front [] = false
good_parts front (part ∷ more) = good_rest front part && list_all is_good_part more

-- a second asterisk, and nothing behind it
star_behind : (byte next : ℕ) → is_asterisk byte ≡ true
    → is_asterisk next ≡ is_good_part (byte ∷ next ∷ [])
star_behind byte next e = rw e (second (is_asterisk next))
  where
    second : (star : Bool) → star ≡ (star && true) || not (true || (star || false))
    second true = refl
    second false = refl

stars_behind : (byte next other : ℕ) (more : List ℕ) → is_asterisk byte ≡ true
    → false ≡ is_good_part (byte ∷ next ∷ other ∷ more)
stars_behind byte next other more e = rw e (third (is_asterisk next))
  where
    third : (star : Bool) → false ≡ (star && false) || false
    third true = refl
    third false = refl

at_star : (byte : ℕ) (front : Front) (part : List ℕ) → is_asterisk byte ≡ true
    → good_rest (starred front) part ≡ good_rest front (byte ∷ part)
at_star byte Nothing [] e = rw e refl
at_star byte Nothing (next ∷ []) e = star_behind byte next e
at_star byte Nothing (next ∷ other ∷ more) e = stars_behind byte next other more e
at_star byte Star [] e = sym e
at_star byte Star (next ∷ more) e = refl
at_star byte Stars part e = refl
at_star byte Plain part e = rw e refl
at_star byte Bad part e = refl

at_letter : (byte : ℕ) (front : Front) (part : List ℕ) → is_asterisk byte ≡ false
    → good_rest (lettered front) part ≡ good_rest front (byte ∷ part)
at_letter byte Nothing part e = rw e refl
at_letter byte Star [] e = sym e
at_letter byte Star (next ∷ more) e = refl
at_letter byte Stars part e = refl
at_letter byte Plain part e = rw e refl
at_letter byte Bad part e = refl

at_dot : (front : Front) (part : List ℕ) (more : List (List ℕ))
    → good_parts (dotted front) (part ∷ more) ≡ good_parts front ([] ∷ part ∷ more)
at_dot Nothing part more = refl
at_dot Star part more = refl
at_dot Stars part more = refl
at_dot Plain part more = refl
at_dot Bad part more = refl

-- one byte more, by what it is
one_step : (dot star : Bool) (byte : ℕ) (front : Front) (part : List ℕ) (more : List (List ℕ))
    → is_asterisk byte ≡ star →
    good_parts (cond dot (dotted front) (cond star (starred front) (lettered front))) (part ∷ more)
    ≡ good_parts front (cond dot ([] ∷ part ∷ more) ((byte ∷ part) ∷ more))
one_step true star byte front part more e = at_dot front part more
one_step false true byte front part more e = ap (λ (b : Bool). b && list_all is_good_part more) (at_star byte front part e)
one_step false false byte front part more e = ap (λ (b : Bool). b && list_all is_good_part more) (at_letter byte front part e)

-- a byte put before parts, of which there is always one
parts_step : (byte : ℕ) (front : Front) (fields : List (List ℕ)) → 0 < length fields →
    good_parts (one_further front byte) fields ≡ good_parts front
    (cond (is_dot byte) ([] ∷ fields) (onto_first byte fields))
parts_step byte front [] some = absurd (omega arith)
parts_step byte front (part ∷ more) some = one_step (is_dot byte) (is_asterisk byte) byte front part more refl

at_end : (front : Front) → is_fine front ≡ good_parts front ([] ∷ [])
at_end Nothing = refl
at_end Star = refl
at_end Stars = refl
at_end Plain = refl
at_end Bad = refl

fine_parts : (front : Front) (word : List ℕ)
    → is_fine (further front word) ≡ good_parts front (parts word)
fine_parts front [] = at_end front
fine_parts front (byte ∷ word) =
    fine_parts (one_further front byte) word ∙ parts_step byte front (parts word) (omega (arith, length-slice_split is_dot word))

good_front : (fields : List (List ℕ)) → 0 < length fields
    → good_parts Nothing fields ≡ list_all is_good_part fields
good_front [] some = absurd (omega arith)
good_front (part ∷ more) some = refl

-- a word has good stars where it ends well
fine_word : (word : List ℕ) → has_good_stars word ≡ is_fine (further Nothing word)
fine_word word =
    stars_start word ∙ sym (good_front (parts word) (omega (arith, length-slice_split is_dot word))) ∙ sym (fine_parts Nothing word)

same_all : {A : Type 0} (p q : A → Bool) (xs : List A) → ((x : A) → p x ≡ q x)
    → list_all p xs ≡ list_all q xs
same_all p q [] same = refl
same_all p q (x ∷ xs) same = rw (same x, same_all p q xs same) refl

all_flat : {A B : Type 0} (p : B → Bool) (f : A → List B) (xs : List A)
    → list_all p (flat_map f xs) ≡ list_all (λ x. list_all p (f x)) xs
all_flat p f [] = refl
all_flat p f (x ∷ xs) = list_all-append p (f x) (flat_map f xs) ∙ ap (λ (b : Bool). list_all p (f x) && b) (all_flat p f xs)

-- one choice behind each text
one_choice : (choice : List (List ℕ)) (more : List (List (List ℕ))) (texts : List (List ℕ))
    →
    list_all (λ text. all_fine (choice ∷ more) (further Nothing text)) texts
    ≡ list_all (λ text. all_fine more (further Nothing text)) (each_with texts choice)
one_choice choice more texts =
    sym (all_flat (λ (text : List ℕ). all_fine more (further Nothing text)) (λ (text : List ℕ). map (λ next. text ++ next) choice) texts
    ∙ same_all (λ (text : List ℕ). list_all (λ last. all_fine more (further Nothing last)) (map (λ next. text ++ next) choice))
    (λ (text : List ℕ). all_fine (choice ∷ more) (further Nothing text)) texts
    (λ (text : List ℕ). list_all-map (λ (last : List ℕ). all_fine more (further Nothing last)) (λ (next : List ℕ). text ++ next) choice
    ∙ same_all (λ (next : List ℕ). all_fine more (further Nothing (text ++ next))) (λ (next : List ℕ). all_fine more (further (further Nothing text) next)) choice
    (λ (next : List ℕ). ap (all_fine more) (fold-append one_further Nothing text next))))

fine_spelled : (choices : List (List (List ℕ))) (texts : List (List ℕ)) →
    list_all (λ text. all_fine choices (further Nothing text)) texts ≡ list_all has_good_stars
    (spelled texts choices)
fine_spelled [] texts = same_all (λ (text : List ℕ). is_fine (further Nothing text)) has_good_stars texts (λ (text : List ℕ). sym (fine_word text))
fine_spelled (choice ∷ more) texts = one_choice choice more texts ∙ fine_spelled more (each_with texts choice)

pub and_true : (b : Bool) → (b && true) ≡ b
and_true true = refl
and_true false = refl

-- all the words that a word stands for have good stars where each way through its choices ends well
pub fine_spellings : (word : List ℕ)
    → list_all has_good_stars (spellings word)
    ≡ all_fine (choices false (slice_split is_brace word)) Nothing
fine_spellings word =
    ap (list_all has_good_stars) (spellings_start word ([] ∷ []) refl)
    ∙ sym (fine_spelled (choices false (slice_split is_brace word)) ([] ∷ []))
    ∙ and_true (all_fine (choices false (slice_split is_brace word)) Nothing)

-- ---- fronts

pass_or : (a b t : Bool) → (not (a || b) || t) ≡ ((not a || t) && (not b || t))
pass_or true true true = refl
pass_or true true false = refl
pass_or true false true = refl
pass_or true false false = refl
pass_or false b t = refl

regrouped : (a b c d : Bool) → ((a && b) && (c && d)) ≡ ((a && c) && (b && d))
regrouped true true c d = refl
regrouped true false true d = refl
regrouped true false false d = refl
regrouped false b c d = refl

one_front : (a b t rest left right : Bool) → rest ≡ (left && right)
    → ((not (a || b) || t) && rest) ≡ (((not a || t) && left) && ((not b || t) && right))
one_front a b t rest left right e = rw (e, pass_or a b t) (regrouped (not a || t) (not b || t) left right)

-- both of two sets of fronts
pub either : (f g : Fronts) (test : Front → Bool) →
    each_front
    (record { nothing = f.nothing || g.nothing; star = f.star || g.star; stars = f.stars || g.stars; plain = f.plain || g.plain; bad = f.bad || g.bad }) test
    ≡ (each_front f test && each_front g test)
either f g test =
    one_front f.nothing g.nothing (test Nothing) _ _ _ (one_front f.star g.star (test Star) _ _ _
    (one_front f.stars g.stars (test Stars) _ _ _ (one_front f.plain g.plain (test Plain) _ _ _ (pass_or f.bad g.bad (test Bad)))))

pass_and : (a s t : Bool) → (not a || (s && t)) ≡ ((not a || s) && (not a || t))
pass_and true s t = refl
pass_and false s t = refl

one_test : (a s t rest left right : Bool) → rest ≡ (left && right)
    → ((not a || (s && t)) && rest) ≡ (((not a || s) && left) && ((not a || t) && right))
one_test a s t rest left right e = rw (e, pass_and a s t) (regrouped (not a || s) (not a || t) left right)

-- both of two tests
pub both_tests : (f : Fronts) (test other : Front → Bool)
    → each_front f (λ front. test front && other front)
    ≡ (each_front f test && each_front f other)
both_tests f test other =
    one_test f.nothing (test Nothing) (other Nothing) _ _ _ (one_test f.star (test Star) (other Star) _ _ _
    (one_test f.stars (test Stars) (other Stars) _ _ _ (one_test f.plain (test Plain) (other Plain) _ _ _ (pass_and f.bad (test Bad) (other Bad)))))

true_right : (a : Bool) → (not a || true) ≡ true
true_right true = refl
true_right false = refl

-- the test that all pass
pub no_test : (f : Fronts) → each_front f (λ _. true) ≡ true
no_test f = rw (true_right f.nothing, true_right f.star, true_right f.stars, true_right f.plain, true_right f.bad) refl

and_assoc : (a b c : Bool) → (a && (b && c)) ≡ ((a && b) && c)
and_assoc true b c = refl
and_assoc false b c = refl

-- some alternatives of a text behind each of the texts
abbrev behind_all : (Front → Bool) → List (List ℕ) → Front → Bool
behind_all test fields front = list_all (λ bytes. test (further front bytes)) fields

-- one alternative more
pub alternative_more :
    (self fronts behind both : Fronts) (test : Front → Bool) (text : List ℕ)
    (all fields more : List (List ℕ))
    →
    each_front self (behind_all test all) ≡ (each_front fronts test && each_front self (behind_all test fields)) →
    fields ≡ text ∷ more →
    each_front behind test ≡ each_front self (λ front. test (further front text)) →
    each_front both test ≡ (each_front fronts test && each_front behind test) →
    each_front self (behind_all test all) ≡ (each_front both test && each_front self (behind_all test more))
alternative_more self fronts behind both test text all fields more invariant is behinds boths =
    invariant
    ∙ ap (λ (list : List (List ℕ)). each_front fronts test && each_front self (behind_all test list)) is
    ∙ ap (λ (b : Bool). each_front fronts test && b) (both_tests self (λ front. test (further front text)) (behind_all test more))
    ∙ and_assoc (each_front fronts test) (each_front self (λ front. test (further front text))) (each_front self (behind_all test more))
    ∙ sym (ap (λ (b : Bool). b && each_front self (behind_all test more))
    (boths ∙ ap (λ (b : Bool). each_front fronts test && b) behinds))
