-- The chunks that a worker has, and those of them that its session has.
use Rattle.std.proofs.Common.{◌≡◌, ℕ, zero, suc, ◌+◌, ◌≤◌, Bool, true, false, cond, eqb, List, [], ◌∷◌, ◌++◌, length, Option, Some, None, refl, sym, ap, subst, ◌∙◌, arith}
use Rattle.std.specs.Prelude.{map, filter, find, not, nat_lt, ◌||◌, ◌==◌, slice_get, option_to_list}
use Rattle.std.specs.List.{AllByRecursion}
use Rattle.std.proofs.lemmas.Bool.Decides.{nat_tests}
use Rattle.fwd_chunks.specs.Cells.{has_number}
use Rattle.fwd_chunks.specs.History.{CarriedChunk}
use Rattle.fwd_session.proofs.Lists.{find_passes}
use Rattle.fwd_model.specs.Outputs.{has_chunk, not_loaded}
use Rattle.fwd_model.proofs.Lists.{slice_get-append}

-- ---- one of them

-- the chunk is one of these
pub record IsAmong (c : CarriedChunk) (cs : List CarriedChunk) : Type 0 where
  pub place : ℕ
  pub here : slice_get cs place ≡ Some c

pub among-later : (c d : CarriedChunk) (cs : List CarriedChunk) → IsAmong c cs → IsAmong c (d ∷ cs)
among-later c d cs one = record { place = suc one.place; here = one.here }

pub among-append : (c : CarriedChunk) (cs ds : List CarriedChunk) → IsAmong c cs → IsAmong c (cs ++ ds)
among-append c cs ds one = record { place = one.place; here = slice_get-append cs ds one.place c one.here }

pub among-found : (test : CarriedChunk → Bool) (cs : List CarriedChunk) (c : CarriedChunk) → find test cs ≡ Some c
    → IsAmong c cs
among-found test [] c e = absurd cc
among-found test (d ∷ cs) c e = by (test d) e (λ f. among-found test cs c f)
  where
    by : (b : Bool) → cond b (Some d) (find test cs) ≡ Some c → (find test cs ≡ Some c → IsAmong c cs)
        → IsAmong c (d ∷ cs)
    by true e rest = record { place = 0; here = e }
    by false e rest = among-later c d cs (rest e)

pub among-has : (c : CarriedChunk) (cs : List CarriedChunk) → IsAmong c cs → has_chunk c.number cs ≡ true
among-has c cs one = at cs one.place one.here
  where
    at : (cs : List CarriedChunk) (i : ℕ) → slice_get cs i ≡ Some c → has_chunk c.number cs ≡ true
    at [] i h = absurd cc
    at (d ∷ cs) zero h = let same : d ≡ c = cc in let number : d.number ≡ c.number = ap (λ (y : CarriedChunk). y.number) same in grind (arith, nat_tests, number)
    at (d ∷ cs) (suc i) h = grind (arith, nat_tests, at cs i h)

-- ---- all but a number

abbrev pub others : ℕ → List CarriedChunk → List CarriedChunk
others k cs = filter (λ c. not (c.number == k)) cs

pub among-others : (k : ℕ) (c : CarriedChunk) (cs : List CarriedChunk) → (c.number == k) ≡ false → IsAmong c cs
    → IsAmong c (others k cs)
among-others k c cs other one = at cs one.place one.here
  where
    first : (d : CarriedChunk) (cs : List CarriedChunk) (b : Bool) → b ≡ false → d ≡ c
        → IsAmong c (cond (not b) (d ∷ others k cs) (others k cs))
    first d cs true e same = absurd cc
    first d cs false e same = record { place = 0; here = ap Some same }

    later : (d : CarriedChunk) (cs : List CarriedChunk) (b : Bool) → IsAmong c (others k cs)
        → IsAmong c (cond (not b) (d ∷ others k cs) (others k cs))
    later d cs true one = one
    later d cs false one = among-later c d (others k cs) one

    at : (cs : List CarriedChunk) (i : ℕ) → slice_get cs i ≡ Some c → IsAmong c (others k cs)
    at [] i h = absurd cc
    at (d ∷ cs) zero h = let same : d ≡ c = cc in first d cs (d.number == k) (ap (λ (y : CarriedChunk). y.number == k) same ∙ other) same
    at (d ∷ cs) (suc i) h = later d cs (d.number == k) (at cs i h)

pub others-none : (k : ℕ) (cs : List CarriedChunk) → has_chunk k cs ≡ false → others k cs ≡ cs
others-none k [] h = refl
others-none k (c ∷ cs) h = grind (arith, nat_tests, others-none k cs)

-- ---- how often a number stands

abbrev pub times : ℕ → List CarriedChunk → ℕ
times k [] = 0
times k (c ∷ cs) = cond (c.number == k) (suc (times k cs)) (times k cs)

pub times-append : (k : ℕ) (cs ds : List CarriedChunk) → times k (cs ++ ds) ≡ times k cs + times k ds
times-append k [] ds = omega arith
times-append k (c ∷ cs) ds = grind (arith, nat_tests, times-append k cs ds)

pub has-times : (k : ℕ) (cs : List CarriedChunk) → has_chunk k cs ≡ nat_lt 0 (times k cs)
has-times k [] = grind (arith, nat_tests)
has-times k (c ∷ cs) = grind (arith, nat_tests, has-times k cs)

-- ---- the one that is not loaded

abbrev pub missing : (loaded : List CarriedChunk) → List CarriedChunk → List CarriedChunk
missing loaded cs = filter (λ c. not (has_chunk c.number loaded)) cs

pub same_has : (hs gs : List CarriedChunk) → ((k : ℕ) → times k gs ≡ times k hs) → (k : ℕ)
    → has_chunk k gs ≡ has_chunk k hs
same_has hs gs same k = has-times k gs ∙ ap (nat_lt 0) (same k) ∙ sym (has-times k hs)

pub same_missing : (hs gs cs : List CarriedChunk) → ((k : ℕ) → times k gs ≡ times k hs)
    → missing gs cs ≡ missing hs cs
same_missing hs gs cs same = λ i. filter (λ c. not (same_has hs gs same c.number i)) cs

pub same_not_loaded : (hs gs cs : List CarriedChunk) → ((k : ℕ) → times k gs ≡ times k hs)
    → not_loaded gs cs ≡ not_loaded hs cs
same_not_loaded hs gs cs same = λ i. find (λ c. not (same_has hs gs same c.number i)) cs

-- where no more than one passes a test, none passes one that is narrower and leaves out the first
none_left : {X : Type 0} (t u : X → Bool) (xs : List X) → ((x : X) → t x ≡ false → u x ≡ false)
    → length (filter t xs) ≤ 0 → (filter u xs ≡ []) × (find u xs ≡ None)
none_left t u [] narrower few = (refl, refl)
none_left {X} t u (x ∷ xs) narrower few = by (t x) refl few (λ f. none_left t u xs narrower f)
  where
    skip : (b : Bool) → b ≡ false → (filter u xs ≡ []) × (find u xs ≡ None)
        → (cond b (x ∷ filter u xs) (filter u xs) ≡ []) × (cond b (Some x) (find u xs) ≡ None)
    skip true e rest = absurd cc
    skip false e rest = rest

    by : (b : Bool) → t x ≡ b → length (cond b (x ∷ filter t xs) (filter t xs)) ≤ 0
        → (length (filter t xs) ≤ 0 → (filter u xs ≡ []) × (find u xs ≡ None))
        → (filter u (x ∷ xs) ≡ []) × (find u (x ∷ xs) ≡ None)
    by true e f rest = absurd (omega (arith, f))
    by false e f rest = skip (u x) (narrower x e) (rest f)

pub one_left : {X : Type 0} (t u : X → Bool) (xs : List X) (c : X)
    → ((x : X) → t x ≡ false → u x ≡ false) → u c ≡ false → find t xs ≡ Some c
    → length (filter t xs) ≤ 1 → (filter u xs ≡ []) × (find u xs ≡ None)
one_left t u [] c narrower here e few = absurd cc
one_left {X} t u (x ∷ xs) c narrower here e few = by (t x) refl e few (λ f g. one_left t u xs c narrower here f g)
  where
    skip : (b : Bool) → b ≡ false → (filter u xs ≡ []) × (find u xs ≡ None)
        → (cond b (x ∷ filter u xs) (filter u xs) ≡ []) × (cond b (Some x) (find u xs) ≡ None)
    skip true e rest = absurd cc
    skip false e rest = rest

    by : (b : Bool) → t x ≡ b → cond b (Some x) (find t xs) ≡ Some c
        → length (cond b (x ∷ filter t xs) (filter t xs)) ≤ 1
        → (find t xs ≡ Some c → length (filter t xs) ≤ 1 → (filter u xs ≡ []) × (find u xs ≡ None))
        → (filter u (x ∷ xs) ≡ []) × (find u (x ∷ xs) ≡ None)
    by true e f g rest =
        let same : x ≡ c = cc in
        skip (u x) (ap u same ∙ here) (none_left t u xs narrower (omega (arith, g)))
    by false e f g rest = skip (u x) (narrower x e) (rest f g)

pub none_found : {X : Type 0} (t : X → Bool) (xs : List X) → find t xs ≡ None → filter t xs ≡ []
none_found t [] e = refl
none_found {X} t (x ∷ xs) e = by (t x) e (λ f. none_found t xs f)
  where
    by : (b : Bool) → cond b (Some x) (find t xs) ≡ None → (find t xs ≡ None → filter t xs ≡ [])
        → cond b (x ∷ filter t xs) (filter t xs) ≡ []
    by true e rest = absurd cc
    by false e rest = rest e

-- one more behind them
pub found_last : {X : Type 0} (t : X → Bool) (xs : List X) (c : X) → find t xs ≡ None → t c ≡ true
    → (find t (xs ++ c ∷ []) ≡ Some c) × (filter t (xs ++ c ∷ []) ≡ c ∷ [])
found_last t [] c e here = ((λ i. cond (here i) (Some c) None), (λ i. cond (here i) (c ∷ []) []))
found_last {X} t (x ∷ xs) c e here = by (t x) e (λ f. found_last t xs c f here)
  where
    by : (b : Bool) → cond b (Some x) (find t xs) ≡ None
        →
        (find t xs ≡ None
        → (find t (xs ++ c ∷ []) ≡ Some c) × (filter t (xs ++ c ∷ []) ≡ c ∷ []))
        → (cond b (Some x) (find t (xs ++ c ∷ [])) ≡ Some c)
        × (cond b (x ∷ filter t (xs ++ c ∷ [])) (filter t (xs ++ c ∷ [])) ≡ c ∷ [])
    by true e rest = absurd cc
    by false e rest = rest e

-- the first that passes is one
pub some_pass : {X : Type 0} (t : X → Bool) (xs : List X) (c : X) → find t xs ≡ Some c
    → 1 ≤ length (filter t xs)
some_pass t [] c e = absurd cc
some_pass {X} t (x ∷ xs) c e = by (t x) e (λ f. some_pass t xs c f)
  where
    by : (b : Bool) → cond b (Some x) (find t xs) ≡ Some c
        → (find t xs ≡ Some c → 1 ≤ length (filter t xs))
        → 1 ≤ length (cond b (x ∷ filter t xs) (filter t xs))
    by true e rest = omega arith
    by false e rest = rest e

-- the chunks of a number and the others are all
pub length-others : (k : ℕ) (cs : List CarriedChunk) → length (others k cs) + times k cs ≡ length cs
length-others k [] = omega arith
length-others k (c ∷ cs) = by (c.number == k) (length-others k cs)
  where
    by : (b : Bool) → length (others k cs) + times k cs ≡ length cs
        → length (cond (not b) (c ∷ others k cs) (others k cs)) + cond b (suc (times k cs)) (times k cs)
        ≡ suc (length cs)
    by true e = omega (arith, e)
    by false e = omega (arith, e)

-- ---- a chunk is loaded

module _ (hs gs cs : List CarriedChunk) (c : CarriedChunk) (more : (k : ℕ) → times k gs ≡ times k (c ∷ hs)) where
  narrower : (d : CarriedChunk) → not (has_chunk d.number hs) ≡ false → not (has_chunk d.number gs) ≡ false
  narrower d e = grind (arith, nat_tests, has-times d.number hs, has-times d.number gs, more d.number)

  not_here : not (has_chunk c.number gs) ≡ false
  not_here = grind (arith, nat_tests, has-times c.number gs, more c.number)

  pub loads_one : not_loaded hs cs ≡ Some c → length (missing hs cs) ≤ 1
      → (missing gs cs ≡ []) × (not_loaded gs cs ≡ None)
  loads_one found few = one_left (λ d. not (has_chunk d.number hs)) (λ d. not (has_chunk d.number gs)) cs c narrower not_here found few

  pub loads_once : not_loaded hs cs ≡ Some c → ((k : ℕ) → times k hs ≤ 1) → (k : ℕ)
      → times k gs ≤ 1
  loads_once found once k =
      let fresh : not (has_chunk c.number hs) ≡ true = find_passes (λ d. not (has_chunk d.number hs)) cs c found in
      by (eqb c.number k) refl fresh
    where
      by : (b : Bool) → eqb c.number k ≡ b → not (has_chunk c.number hs) ≡ true → times k gs ≤ 1
      by true e fresh =
          let same : c.number ≡ k = grind (arith, nat_tests, e) in
          let none : times k hs ≡ 0 = ap (λ j. times j hs) (sym same) ∙ grind (arith, nat_tests, has-times c.number hs, fresh) in
          omega (arith, more k ∙ ap (λ b. cond b (suc (times k hs)) (times k hs)) e, none)
      by false e fresh = omega (arith, more k ∙ ap (λ b. cond b (suc (times k hs)) (times k hs)) e, once k)

-- ---- a chunk is settled

module _ (hs gs cs : List CarriedChunk) (c : CarriedChunk) (less : (k : ℕ) → times k hs ≡ times k (c ∷ gs)) (once : (k : ℕ) → times k hs ≤ 1) where
  gone : times c.number gs ≡ 0
  gone =
      let here : eqb c.number c.number ≡ true = grind (arith, nat_tests) in
      omega (arith, once c.number, less c.number ∙ ap (λ b. cond b (suc (times c.number gs)) (times c.number gs)) here)

  pub settles_once : (k : ℕ) → times k gs ≤ 1
  settles_once k = by (eqb c.number k) (less k)
    where
      by : (b : Bool) → times k hs ≡ cond b (suc (times k gs)) (times k gs) → times k gs ≤ 1
      by true e = omega (arith, once k, e)
      by false e = omega (arith, once k, e)

  -- of the others, those that are missing are the same
  tests_same : (d : CarriedChunk) → (d.number == c.number) ≡ false
      → has_chunk d.number gs ≡ has_chunk d.number hs
  tests_same d other =
      let turned : (c.number == d.number) ≡ false = grind (arith, nat_tests, other) in
      has-times d.number gs ∙ ap (nat_lt 0) (sym (less d.number ∙ ap (λ b. cond b (suc (times d.number gs)) (times d.number gs)) turned)) ∙ sym (has-times d.number hs)

  has_it : has_chunk c.number hs ≡ true
  has_it = grind (arith, nat_tests, has-times c.number hs, less c.number)

  pub settles_rest : (missing gs (others c.number cs) ≡ missing hs cs)
      × (not_loaded gs (others c.number cs) ≡ not_loaded hs cs)
  settles_rest = at cs
    where
      at : (cs : List CarriedChunk) → (missing gs (others c.number cs) ≡ missing hs cs)
          × (not_loaded gs (others c.number cs) ≡ not_loaded hs cs)
      at [] = (refl, refl)
      at (d ∷ ds) = by (d.number == c.number) refl (at ds)
        where
          keeps : (a b : Bool) → a ≡ b
              → (missing gs (others c.number ds) ≡ missing hs ds)
              × (not_loaded gs (others c.number ds) ≡ not_loaded hs ds)
              → (cond (not a) (d ∷ missing gs (others c.number ds)) (missing gs (others c.number ds))
              ≡ cond (not b) (d ∷ missing hs ds) (missing hs ds))
              × (cond (not a) (Some d) (not_loaded gs (others c.number ds))
              ≡ cond (not b) (Some d) (not_loaded hs ds))
          keeps a b e rest = ((λ i. cond (not (e i)) (d ∷ rest.0 i) (rest.0 i)), (λ i. cond (not (e i)) (Some d) (rest.1 i)))

          left : (b : Bool) → b ≡ true
              → (missing gs (others c.number ds) ≡ missing hs ds)
              × (not_loaded gs (others c.number ds) ≡ not_loaded hs ds)
              → (missing gs (others c.number ds) ≡ cond (not b) (d ∷ missing hs ds) (missing hs ds))
              × (not_loaded gs (others c.number ds) ≡ cond (not b) (Some d) (not_loaded hs ds))
          left true e rest = rest
          left false e rest = absurd cc

          by : (b : Bool) → (d.number == c.number) ≡ b
              → (missing gs (others c.number ds) ≡ missing hs ds)
              × (not_loaded gs (others c.number ds) ≡ not_loaded hs ds)
              → (missing gs (cond (not b) (d ∷ others c.number ds) (others c.number ds)) ≡ missing hs (d ∷ ds))
              × (not_loaded gs (cond (not b) (d ∷ others c.number ds) (others c.number ds)) ≡ not_loaded hs (d ∷ ds))
          by true e rest =
              let same : d.number ≡ c.number = grind (arith, nat_tests, e) in
              left (has_chunk d.number hs) (ap (λ k. has_chunk k hs) same ∙ has_it) rest
          by false e rest = keeps (has_chunk d.number gs) (has_chunk d.number hs) (tests_same d e) rest

  pub settles_his : AllByRecursion (λ d. IsAmong d cs) gs
      → AllByRecursion (λ d. IsAmong d (others c.number cs)) gs
  settles_his all = at gs gone all
    where
      at : (ds : List CarriedChunk) → times c.number ds ≡ 0 → AllByRecursion (λ d. IsAmong d cs) ds
          → AllByRecursion (λ d. IsAmong d (others c.number cs)) ds
      at [] e all = tt
      at (d ∷ ds) e all = by (d.number == c.number) refl e (λ f. at ds f all.1)
        where
          by : (b : Bool) → (d.number == c.number) ≡ b
              → cond b (suc (times c.number ds)) (times c.number ds) ≡ 0
              → (times c.number ds ≡ 0 → AllByRecursion (λ d. IsAmong d (others c.number cs)) ds)
              → AllByRecursion (λ d. IsAmong d (others c.number cs)) (d ∷ ds)
          by true f g rest = absurd (omega (arith, g))
          by false f g rest = (among-others c.number d cs f all.0, rest g)

-- ---- chunks are given back

-- all but some numbers
abbrev pub others_all : List ℕ → List CarriedChunk → List CarriedChunk
others_all [] cs = cs
others_all (k ∷ ks) cs = others_all ks (others k cs)

-- they are those that have none of the numbers
pub others_all-filter : (ks : List ℕ) (cs : List CarriedChunk)
    → others_all ks cs ≡ filter (λ c. not (has_number c.number ks)) cs
others_all-filter [] cs = sym (all_pass cs)
  where
    all_pass : (cs : List CarriedChunk) → filter (λ c. not false) cs ≡ cs
    all_pass [] = refl
    all_pass (c ∷ cs) = ap (λ ds. c ∷ ds) (all_pass cs)
others_all-filter (k ∷ ks) cs = others_all-filter ks (others k cs) ∙ twice cs
  where
    twice : (cs : List CarriedChunk)
        → filter (λ c. not (has_number c.number ks)) (others k cs)
        ≡ filter (λ c. not (has_number c.number (k ∷ ks))) cs
    twice [] = refl
    twice (c ∷ cs) = grind (arith, nat_tests, twice cs)

-- the numbers of chunks
abbrev pub numbers_in : List CarriedChunk → List ℕ
numbers_in cs = map (λ c. c.number) cs

pub has_in : (k : ℕ) (cs : List CarriedChunk) → has_number k (numbers_in cs) ≡ has_chunk k cs
has_in k [] = refl
has_in k (c ∷ cs) = ap (λ b. (c.number == k) || b) (has_in k cs)

-- each of the numbers stands once
abbrev pub AreOnce : List ℕ → Type 0
AreOnce [] = Unit {0}
AreOnce (k ∷ ks) = (has_number k ks ≡ false) × AreOnce ks

pub once_in : (cs : List CarriedChunk) → ((k : ℕ) → times k cs ≤ 1) → AreOnce (numbers_in cs)
once_in [] once = tt
once_in (c ∷ cs) once = (has_in c.number cs ∙ none, once_in cs (λ k. less k (eqb c.number k) (once k)))
  where
    none : has_chunk c.number cs ≡ false
    none =
        let here : eqb c.number c.number ≡ true = grind (arith, nat_tests) in
        let few : suc (times c.number cs) ≤ 1 = subst (λ b. cond b (suc (times c.number cs)) (times c.number cs) ≤ 1) here (once c.number) in
        let zero_times : times c.number cs ≡ 0 = omega (arith, few) in
        has-times c.number cs ∙ ap (nat_lt 0) zero_times

    less : (k : ℕ) (b : Bool) → cond b (suc (times k cs)) (times k cs) ≤ 1 → times k cs ≤ 1
    less k true h = omega (arith, h)
    less k false h = h

-- a worker without its chunk that is not loaded and without its session's has nothing
pub all_gone : (hs cs : List CarriedChunk) → length (missing hs cs) ≤ 1
    → others_all (numbers_in (option_to_list (not_loaded hs cs) ++ hs)) cs ≡ []
all_gone hs cs few = by (not_loaded hs cs) refl
  where
    by : (o : Option CarriedChunk) → not_loaded hs cs ≡ o → others_all (numbers_in (option_to_list o ++ hs)) cs ≡ []
    by None e =
        others_all-filter (numbers_in hs) cs
        ∙ (λ i. filter (λ c. not (has_in c.number hs i)) cs)
        ∙ none_found (λ c. not (has_chunk c.number hs)) cs e
    by (Some d) e =
        others_all-filter (numbers_in (d ∷ hs)) cs
        ∙ (λ i. filter (λ c. not (has_in c.number (d ∷ hs) i)) cs)
        ∙ (loads_one hs (d ∷ hs) cs d (λ k. refl) e few).0
