-- What is carried, where a worker takes a number, and where numbers leave what is carried.
use Rattle.std.proofs.Common.{◌≡◌, ◌≢◌, ℕ, zero, suc, ◌≤◌, Bool, true, false, cond, eqb, List, [], ◌∷◌, ◌++◌, Some, refl, sym, ap, ◌∙◌, arith}
use Rattle.std.specs.Prelude.{map, not, ◌||◌, ◌==◌, slice_get}
use Rattle.std.proofs.lemmas.Bool.Decides.{nat_tests}
use Rattle.fwd_chunks.specs.Cells.{Carry, is_carried, without}
use Rattle.fwd_chunks.specs.History.{BufferHistory, CarriedChunk, carried_chunk_of}
use Rattle.fwd_model.specs.Outputs.{carries_of, carried_by, has_chunk}
use Rattle.fwd_model.proofs.Chunks.{IsAmong, among-has, times, others, others-none}

-- each number is carried once
abbrev pub AreApart : List Carry → Type 0
AreApart [] = Unit {0}
AreApart (c ∷ cs) = (is_carried c.number cs ≡ false) × AreApart cs

-- ---- the chunks that a worker has

-- the chunks of what is carried
abbrev pub loads_of : BufferHistory → List Carry → List CarriedChunk
loads_of b cs = map (λ c. carried_chunk_of b c.number) cs

pub has-loads : (b : BufferHistory) (k : ℕ) (cs : List Carry)
    → has_chunk k (loads_of b cs) ≡ is_carried k cs
has-loads b k [] = refl
has-loads b k (c ∷ cs) = ap (λ t. (c.number == k) || t) (has-loads b k cs)

carries-carried : (w k : ℕ) (cs : List Carry) → is_carried k (carries_of w cs) ≡ true
    → is_carried k cs ≡ true
carries-carried w k [] h = absurd cc
carries-carried w k (c ∷ cs) h = grind (arith, nat_tests, carries-carried w k cs)

-- what a worker has is carried
pub mine-carried : (b : BufferHistory) (w k : ℕ) → has_chunk k (carried_by b w) ≡ true
    → is_carried k b.carried ≡ true
mine-carried b w k h = carries-carried w k b.carried (sym (has-loads b k (carries_of w b.carried)) ∙ h)

-- what a chunk that a worker has says of the buffer
pub record IsHis (b : BufferHistory) (w : ℕ) (c : CarriedChunk) : Type 0 where
  pub mine : has_chunk c.number (carried_by b w) ≡ true
  pub carried : is_carried c.number b.carried ≡ true
  pub same : carried_chunk_of b c.number ≡ c

load_at : (b : BufferHistory) (c : CarriedChunk) (cs : List Carry) (i : ℕ)
    → slice_get (loads_of b cs) i ≡ Some c → carried_chunk_of b c.number ≡ c
load_at b c [] i h = absurd cc
load_at b c (d ∷ cs) zero h =
    let same : carried_chunk_of b d.number ≡ c = cc in
    ap (carried_chunk_of b) (ap (λ (y : CarriedChunk). y.number) (sym same)) ∙ same
load_at b c (d ∷ cs) (suc i) h = load_at b c cs i h

pub his : (b : BufferHistory) (w : ℕ) (c : CarriedChunk) → IsAmong c (carried_by b w) → IsHis b w c
his b w c one =
    let mine = among-has c (carried_by b w) one in
    record { mine = mine; carried = mine-carried b w c.number mine; same = load_at b c (carries_of w b.carried) one.place one.here }

-- ---- one more carry

pub carries-push_other : (w j k : ℕ) (cs : List Carry) → w ≢ j
    → carries_of j (cs ++ record { worker = w; number = k } ∷ []) ≡ carries_of j cs
carries-push_other w j k [] differ = grind (arith, nat_tests)
carries-push_other w j k (c ∷ cs) differ = ap (λ ds. cond (eqb c.worker j) (c ∷ ds) ds) (carries-push_other w j k cs differ)

pub carries-push_same : (w k : ℕ) (cs : List Carry)
    → carries_of w (cs ++ record { worker = w; number = k } ∷ [])
    ≡ carries_of w cs ++ record { worker = w; number = k } ∷ []
carries-push_same w k [] = grind (arith, nat_tests)
carries-push_same w k (c ∷ cs) = by (eqb c.worker w) (carries-push_same w k cs)
  where
    by : (b : Bool)
        → carries_of w (cs ++ record { worker = w; number = k } ∷ [])
        ≡ carries_of w cs ++ record { worker = w; number = k } ∷ []
        → cond b (c ∷ carries_of w (cs ++ record { worker = w; number = k } ∷ []))
        (carries_of w (cs ++ record { worker = w; number = k } ∷ []))
        ≡ cond b (c ∷ carries_of w cs) (carries_of w cs) ++ record { worker = w; number = k } ∷ []
    by true rest = ap (λ ds. c ∷ ds) rest
    by false rest = rest

is_carried-push : (j w k : ℕ) (cs : List Carry)
    → is_carried j (cs ++ record { worker = w; number = k } ∷ [])
    ≡ (is_carried j cs || (k == j))
is_carried-push j w k [] = grind (arith, nat_tests)
is_carried-push j w k (c ∷ cs) = grind (arith, nat_tests, is_carried-push j w k cs)

pub apart-push : (w k : ℕ) (cs : List Carry) → AreApart cs → is_carried k cs ≡ false
    → AreApart (cs ++ record { worker = w; number = k } ∷ [])
apart-push w k [] apart free = (refl, tt)
apart-push w k (c ∷ cs) apart free =
    let number : eqb c.number k ≡ false = grind (arith, nat_tests, free) in
    let rest_free : is_carried k cs ≡ false = grind (arith, nat_tests, free) in (
      grind (arith, nat_tests, is_carried-push c.number w k cs, apart.0, number),
      apart-push w k cs apart.1 rest_free,
    )

-- ---- one carry less

is_carried-without : (j k : ℕ) (cs : List Carry) → is_carried j cs ≡ false
    → is_carried j (without k cs) ≡ false
is_carried-without j k [] h = refl
is_carried-without j k (c ∷ cs) h = grind (arith, nat_tests, is_carried-without j k cs)

-- another number stays
pub stays-without : (j k : ℕ) (cs : List Carry) → (k == j) ≡ false
    → is_carried j (without k cs) ≡ is_carried j cs
stays-without j k [] other = refl
stays-without j k (c ∷ cs) other = grind (arith, nat_tests, other, stays-without j k cs other)

pub apart-without : (k : ℕ) (cs : List Carry) → AreApart cs → AreApart (without k cs)
apart-without k [] apart = tt
apart-without k (c ∷ cs) apart = by (not (c.number == k)) (apart-without k cs apart.1)
  where
    by : (b : Bool) → AreApart (without k cs) → AreApart (cond b (c ∷ without k cs) (without k cs))
    by true rest = (is_carried-without c.number k cs apart.0, rest)
    by false rest = rest

-- a worker's chunks without a number
pub mine-without : (b : BufferHistory) (w k : ℕ) (cs : List Carry)
    → loads_of b (carries_of w (without k cs)) ≡ others k (loads_of b (carries_of w cs))
mine-without b w k [] = refl
mine-without b w k (c ∷ cs) = by (eqb c.worker w) (eqb c.number k) refl refl (mine-without b w k cs)
  where
    by : (a t : Bool) → eqb c.worker w ≡ a → eqb c.number k ≡ t
        → loads_of b (carries_of w (without k cs)) ≡ others k (loads_of b (carries_of w cs))
        → loads_of b (carries_of w (cond (not t) (c ∷ without k cs) (without k cs)))
        ≡ others k (loads_of b (cond a (c ∷ carries_of w cs) (carries_of w cs)))
    by true true e f rest = rest ∙ sym (ap (λ x. cond (not x) (carried_chunk_of b c.number ∷ others k (loads_of b (carries_of w cs))) (others k (loads_of b (carries_of w cs)))) f)
    by true false e f rest =
        ap (λ x. loads_of b (cond x (c ∷ carries_of w (without k cs)) (carries_of w (without k cs)))) e
        ∙ ap (λ xs. carried_chunk_of b c.number ∷ xs) rest
        ∙ sym (ap (λ x. cond (not x) (carried_chunk_of b c.number ∷ others k (loads_of b (carries_of w cs))) (others k (loads_of b (carries_of w cs)))) f)
    by false true e f rest = rest
    by false false e f rest = ap (λ x. loads_of b (cond x (c ∷ carries_of w (without k cs)) (carries_of w (without k cs)))) e ∙ rest

-- a number that one worker has is no other's
pub not_others : (w v k : ℕ) (cs : List Carry) → AreApart cs
    → is_carried k (carries_of w cs) ≡ true → w ≢ v → is_carried k (carries_of v cs) ≡ false
not_others w v k [] apart h differ = refl
not_others w v k (c ∷ cs) apart h differ = by (eqb c.number k) (eqb c.worker w) (eqb c.worker v) refl refl refl h (λ g. not_others w v k cs apart.1 g differ)
  where
    no : true ≡ false → ⊥
    no e = cc

    part : (u : ℕ) (ds : List Carry) → is_carried k ds ≡ false → is_carried k (carries_of u ds) ≡ false
    part u [] e = refl
    part u (d ∷ ds) e = grind (arith, nat_tests, part u ds)

    none : (n : Bool) → eqb c.number k ≡ n → n ≡ true → is_carried k cs ≡ false
    none n e f = let same : c.number ≡ k = grind (arith, nat_tests, e ∙ f) in ap (λ j. is_carried j cs) (sym same) ∙ apart.0

    by : (n a t : Bool) → eqb c.number k ≡ n → eqb c.worker w ≡ a → eqb c.worker v ≡ t
        → is_carried k (cond a (c ∷ carries_of w cs) (carries_of w cs)) ≡ true
        → (is_carried k (carries_of w cs) ≡ true → is_carried k (carries_of v cs) ≡ false)
        → is_carried k (cond t (c ∷ carries_of v cs) (carries_of v cs)) ≡ false
    by true true true e f g h rest = absurd (differ (grind (arith, nat_tests, f, g)))
    by true a false e f g h rest = part v cs (none true e refl)
    by true false true e f g h rest = absurd (no (sym h ∙ part w cs (none true e refl)))
    by false true true e f g h rest = ap (λ x. x || is_carried k (carries_of v cs)) e ∙ rest (sym (ap (λ x. x || is_carried k (carries_of w cs)) e) ∙ h)
    by false true false e f g h rest = rest (sym (ap (λ x. x || is_carried k (carries_of w cs)) e) ∙ h)
    by false false true e f g h rest = ap (λ x. x || is_carried k (carries_of v cs)) e ∙ rest h
    by false false false e f g h rest = rest h

-- so the others have what they had
pub others-keep : (b : BufferHistory) (w v k : ℕ) → AreApart b.carried
    → has_chunk k (carried_by b w) ≡ true → w ≢ v → others k (carried_by b v) ≡ carried_by b v
others-keep b w v k apart mine differ =
    others-none k (carried_by b v) (has-loads b k (carries_of v b.carried) ∙ not_others w v k b.carried apart (sym (has-loads b k (carries_of w b.carried)) ∙ mine) differ)

-- no worker has two chunks of one number
pub once-carried : (b : BufferHistory) (w k : ℕ) (cs : List Carry) → AreApart cs
    → times k (loads_of b (carries_of w cs)) ≤ 1
once-carried b w k [] apart = omega arith
once-carried b w k (c ∷ cs) apart = by (eqb c.worker w) (once-carried b w k cs apart.1)
  where
    part : (ds : List Carry) → is_carried k ds ≡ false → times k (loads_of b (carries_of w ds)) ≡ 0
    part [] e = refl
    part (d ∷ ds) e = at (eqb d.worker w) (eqb d.number k) refl (part ds (grind (arith, nat_tests, e)))
      where
        at : (a t : Bool) → eqb d.number k ≡ t → times k (loads_of b (carries_of w ds)) ≡ 0
            → times k (loads_of b (cond a (d ∷ carries_of w ds) (carries_of w ds))) ≡ 0
        at true true f rest = absurd (grind (arith, nat_tests, e, f))
        at true false f rest = ap (λ x. cond x (suc (times k (loads_of b (carries_of w ds)))) (times k (loads_of b (carries_of w ds)))) f ∙ rest
        at false t f rest = rest

    here : (t : Bool) → eqb c.number k ≡ t → times k (loads_of b (carries_of w cs)) ≤ 1
        → cond t (suc (times k (loads_of b (carries_of w cs)))) (times k (loads_of b (carries_of w cs))) ≤ 1
    here true e rest =
        let same : c.number ≡ k = grind (arith, nat_tests, e) in
        let none = part cs (ap (λ j. is_carried j cs) (sym same) ∙ apart.0) in omega (arith, none)
    here false e rest = rest

    by : (a : Bool) → times k (loads_of b (carries_of w cs)) ≤ 1
        → times k (loads_of b (cond a (c ∷ carries_of w cs) (carries_of w cs))) ≤ 1
    by true rest = here (eqb c.number k) refl rest
    by false rest = rest
