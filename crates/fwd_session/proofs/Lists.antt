-- Lists of chunks, of which values take away the first that they name.
use Rattle.std.proofs.Common.{◌≡◌, ℕ, zero, suc, ◌+◌, Bool, true, false, cond, List, [], ◌∷◌, ◌++◌, length, Some, refl, ap, subst, ◌∙◌, arith, append_assoc, length-append}
use Rattle.std.specs.Prelude.{map, find, slice_get, option_map}
use Rattle.std.specs.List.{AllByRecursion}
use Rattle.std.proofs.lemmas.Option.{same_Some}
use Rattle.fwd_chunks.specs.History.{CarriedChunk}
use Rattle.fwd_session.specs.Said.{names, without_first, left_by, accepted_for, accepted_by}

-- ---- one function after another

pub map_map : {A B C : Type 0} (g : B → C) (f : A → B) (xs : List A)
    → map g (map f xs) ≡ map (λ x. g (f x)) xs
map_map g f [] = refl
map_map g f (x ∷ xs) = ap (λ ys. g (f x) ∷ ys) (map_map g f xs)

pub map_same : {A B : Type 0} (f g : A → B) (xs : List A) → ((x : A) → f x ≡ g x)
    → map f xs ≡ map g xs
map_same f g [] same = refl
map_same f g (x ∷ xs) same = λ i. same x i ∷ map_same f g xs same i

pub map_none : {A : Type 0} (f : A → A) (xs : List A) → ((x : A) → f x ≡ x) → map f xs ≡ xs
map_none f [] same = refl
map_none f (x ∷ xs) same = λ i. same x i ∷ map_none f xs same i

pub length_map : {A B : Type 0} (f : A → B) (xs : List A) → length (map f xs) ≡ length xs
length_map f [] = refl
length_map f (x ∷ xs) = ap suc (length_map f xs)

-- ---- the first that passes a test

pub find_map : {A B : Type 0} (test : B → Bool) (f : A → B) (xs : List A)
    → find test (map f xs) ≡ option_map f (find (λ x. test (f x)) xs)
find_map {A} {B} test f [] = refl
find_map {A} {B} test f (x ∷ xs) = by (test (f x)) (find_map test f xs)
  where
    by : (b : Bool) → find test (map f xs) ≡ option_map f (find (λ x. test (f x)) xs)
        → cond b (Some (f x)) (find test (map f xs)) ≡ option_map f
        (cond b (Some x) (find (λ x. test (f x)) xs))
    by true later = refl
    by false later = later

pub without_map : {A B : Type 0} (test : B → Bool) (f : A → B) (xs : List A)
    → without_first test (map f xs) ≡ map f (without_first (λ x. test (f x)) xs)
without_map {A} {B} test f [] = refl
without_map {A} {B} test f (x ∷ xs) = by (test (f x)) (without_map test f xs)
  where
    by : (b : Bool)
        → without_first test (map f xs) ≡ map f (without_first (λ x. test (f x)) xs)
        → cond b (map f xs) (f x ∷ without_first test (map f xs)) ≡ map f
        (cond b xs (x ∷ without_first (λ x. test (f x)) xs))
    by true later = refl
    by false later = ap (λ ys. f x ∷ ys) later

-- what it gives passes it
pub find_passes : {A : Type 0} (test : A → Bool) (xs : List A) (y : A) → find test xs ≡ Some y
    → test y ≡ true
find_passes {A} test [] y e = absurd cc
find_passes {A} test (x ∷ xs) y e = by (test x) refl e (find_passes test xs y)
  where
    by : (b : Bool) → test x ≡ b → cond b (Some x) (find test xs) ≡ Some y
        → (find test xs ≡ Some y → test y ≡ true) → test y ≡ true
    by true is found later = subst (λ z. test z ≡ true) (same_Some _ _ found) is
    by false is found later = later found

pub all_find : {A : Type 0} (P : A → Type 0) (test : A → Bool) (xs : List A) (y : A)
    → AllByRecursion P xs → find test xs ≡ Some y → P y
all_find {A} P test [] y all e = absurd cc
all_find {A} P test (x ∷ xs) y all e = by (test x) e (all_find P test xs y all.1)
  where
    by : (b : Bool) → cond b (Some x) (find test xs) ≡ Some y → (find test xs ≡ Some y → P y)
        → P y
    by true found later = subst P (same_Some _ _ found) all.0
    by false found later = later found

pub all_without : {A : Type 0} (P : A → Type 0) (test : A → Bool) (xs : List A)
    → AllByRecursion P xs → AllByRecursion P (without_first test xs)
all_without {A} P test [] all = tt
all_without {A} P test (x ∷ xs) all = by (test x) (all_without P test xs all.1)
  where
    by : (b : Bool) → AllByRecursion P (without_first test xs)
        → AllByRecursion P (cond b xs (x ∷ without_first test xs))
    by true later = all.1
    by false later = (all.0, later)

pub all_same : {A : Type 0} (P Q : A → Type 0) (xs : List A) → ((x : A) → P x → Q x)
    → AllByRecursion P xs → AllByRecursion Q xs
all_same P Q [] goes all = tt
all_same P Q (x ∷ xs) goes all = (goes x all.0, all_same P Q xs goes all.1)

pub all_append : {A : Type 0} (P : A → Type 0) (xs ys : List A) → AllByRecursion P xs
    → AllByRecursion P ys → AllByRecursion P (xs ++ ys)
all_append P [] ys left right = right
all_append P (x ∷ xs) ys left right = (left.0, all_append P xs ys left.1 right)

-- each member stands at a place
pub all_placed : {A : Type 0} (xs : List A)
    → AllByRecursion (λ x. (place : ℕ) × (slice_get xs place ≡ Some x)) xs
all_placed [] = tt
all_placed {A} (x ∷ xs) = ((zero, refl), all_same (λ y. (place : ℕ) × (slice_get xs place ≡ Some y)) (λ y. (place : ℕ) × (slice_get (x ∷ xs) place ≡ Some y)) xs (λ y p. (suc p.0, p.1)) (all_placed xs))

-- ---- what values take away

pub left_map : {A B : Type 0} (name_of : B → List ℕ) (f : A → B) (vs : List (List ℕ))
    (xs : List A)
    → left_by name_of vs (map f xs) ≡ map f (left_by (λ x. name_of (f x)) vs xs)
left_map name_of f [] xs = refl
left_map name_of f (v ∷ vs) xs =
    ap (left_by name_of vs) (without_map (λ y. names v (name_of y)) f xs) ∙ left_map name_of f vs (without_first (λ x. names v (name_of (f x))) xs)

pub left_append : {A : Type 0} (name_of : A → List ℕ) (us vs : List (List ℕ)) (xs : List A)
    → left_by name_of vs (left_by name_of us xs) ≡ left_by name_of (us ++ vs) xs
left_append name_of [] vs xs = refl
left_append name_of (u ∷ us) vs xs = left_append name_of us vs (without_first (λ x. names u (name_of x)) xs)

pub left_none : {A : Type 0} (name_of : A → List ℕ) (vs : List (List ℕ))
    → left_by name_of vs [] ≡ []
left_none name_of [] = refl
left_none name_of (v ∷ vs) = left_none name_of vs

pub all_left : {A : Type 0} (P : A → Type 0) (name_of : A → List ℕ) (vs : List (List ℕ))
    (xs : List A) → AllByRecursion P xs → AllByRecursion P (left_by name_of vs xs)
all_left P name_of [] xs all = all
all_left P name_of (v ∷ vs) xs all =
    all_left P name_of vs (without_first (λ x. names v (name_of x)) xs) (all_without P (λ x. names v (name_of x)) xs all)

-- the chunks that values acknowledge, where others came first
pub accepted_append : (us vs : List (List ℕ)) (cs : List CarriedChunk)
    → accepted_by us cs ++ accepted_by vs (left_by (λ c. c.name) us cs) ≡ accepted_by (us ++ vs) cs
accepted_append [] vs cs = refl
accepted_append (u ∷ us) vs cs =
    let left = without_first (λ c. names u c.name) cs in
    append_assoc (accepted_for u (find (λ c. names u c.name) cs)) (accepted_by us left) (accepted_by vs (left_by (λ c. c.name) us left))
    ∙ ap (λ ys. accepted_for u (find (λ c. names u c.name) cs) ++ ys) (accepted_append us vs left)

-- one chunk is acknowledged, or none is taken away
one_length : (test : CarriedChunk → Bool) (cs : List CarriedChunk) (v : List ℕ)
    → length (without_first test cs) + length (accepted_for v (find test cs)) ≡ length cs
one_length test [] v = refl
one_length test (c ∷ cs) v = by (test c) (one_length test cs v)
  where
    by : (b : Bool)
        → length (without_first test cs) + length (accepted_for v (find test cs)) ≡ length cs
        → length (cond b cs (c ∷ without_first test cs))
        + length (accepted_for v (cond b (Some c) (find test cs))) ≡ length (c ∷ cs)
    by true later = omega arith
    by false later = omega (arith, later)

-- each chunk is acknowledged or left
pub left_length : (vs : List (List ℕ)) (cs : List CarriedChunk)
    → length (left_by (λ c. c.name) vs cs) + length (accepted_by vs cs) ≡ length cs
left_length [] cs = omega arith
left_length (v ∷ vs) cs =
    let test : CarriedChunk → Bool = λ c. names v c.name in
    omega (arith, left_length vs (without_first test cs), one_length test cs v, length-append (accepted_for v (find test cs)) (accepted_by vs (without_first test cs)))
