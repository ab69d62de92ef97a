-- One value at most stands at the front of some bytes, and one verdict holds of them.
use Rattle.std.proofs.Common.{◌≡◌, ◌⊎◌, ℕ, ◌+◌, ◌<◌, ◌≤◌, List, [], ◌++◌, length, take, drop, refl, sym, ap, subst, ◌∙◌, arith, ⊎_elim}
use Rattle.std.proofs.lemmas.Bool.{cases_lt, cases_order}
use Rattle.std.proofs.lemmas.List.{length-append, nil_from_length, length-take-le, take-append-drop, take-take}
use Rattle.fwd_msgpack.specs.declared.fault.ScanFault.{ScanFault}
use Rattle.fwd_msgpack.specs.declared.fault.ScanFault.TheVariants.{Reserved, TooDeep, TooLong}
use Rattle.fwd_msgpack.specs.Scans.{Verdict, Whole, Short, Bad, State, Ended, start}
use Rattle.fwd_msgpack.specs.Values.{IsValue}
use Rattle.fwd_msgpack.specs.Streams.{AreBytes, Begins, HasFault, IsFirst}
use Rattle.fwd_msgpack.proofs.Fronts.{scanned, scanned-Ended}
use Rattle.fwd_msgpack.proofs.Wholes.{scanned-append}
use Rattle.fwd_msgpack.proofs.Fillings.{AreBytes-front}
use Rattle.fwd_msgpack.proofs.Openings.{value_ended_here}

-- no value is a proper prefix of another
pub no_prefix : (deep deep' : ℕ) (value more : List ℕ) → IsValue deep value
    → IsValue deep' (value ++ more) → more ≡ []
no_prefix deep deep' value more v w =
    let long = length (value ++ more) in
    let most = deep + deep' in
    let size = length-append value more in
    let first = value_ended_here 0 0 deep long most value v (omega arith) (omega arith) in
    let second = value_ended_here 0 0 deep' long most (value ++ more) w (omega arith) (omega arith) in
    let both : Ended (length value) ≡ Ended (length (value ++ more)) =
    sym (scanned-append long most start value more ∙ ap (λ (s : State). scanned long most s more) first ∙ scanned-Ended long most (length value) more) ∙ second in
    let same : length value ≡ length (value ++ more) = cc in
    nil_from_length more (omega arith)

-- a judged front has one fault
one_fault : (limit deep : ℕ) (front : List ℕ) (f g : ScanFault) → HasFault limit deep front f
    → HasFault limit deep front g → f ≡ g
one_fault limit deep front Reserved Reserved a b = refl
one_fault limit deep front Reserved TooDeep a b = absurd (a b.0.0 b.0.1)
one_fault limit deep front Reserved TooLong a b = absurd (a deep b.0)
one_fault limit deep front TooDeep Reserved a b = absurd (b a.0.0 a.0.1)
one_fault limit deep front TooDeep TooDeep a b = refl
one_fault limit deep front TooDeep TooLong a b = absurd (a.1 b.0)
one_fault limit deep front TooLong Reserved a b = absurd (b deep a.0)
one_fault limit deep front TooLong TooDeep a b = absurd (b.1 a.0)
one_fault limit deep front TooLong TooLong a b = refl

-- what begins a value within the limits has no fault
sound_front : (limit deep : ℕ) (front value : List ℕ) (fault : ScanFault) → Begins front value
    → IsValue deep value → length value ≤ limit → HasFault limit deep front fault → ⊥
sound_front limit deep front value Reserved b v fits h = h deep (value, (b, v))
sound_front limit deep front value TooDeep b v fits h = h.1 (value, (b, v))
sound_front limit deep front value TooLong b v fits h =
    let long = h.1 value b v in
    omega arith

module _ (limit deep : ℕ) (bytes : List ℕ) (are : AreBytes bytes) where
  -- a value within the limits leaves no fault
  whole_bad : (n : ℕ) (fault : ScanFault) → IsFirst limit deep bytes (Whole n)
      → IsFirst limit deep bytes (Bad fault) → ⊥
  whole_bad n fault w f =
      let m = f.0 in
      let faulty = f.1.1 in
      let size = length-take-le n bytes w.0 in
      let front_size = length-take-le m bytes f.1.0 in
      ⊎_elim (λ (lt : n < m). faulty.0.running n deep (omega arith) (subst (IsValue deep) (sym (take-take n m bytes (omega arith))) w.2))
      (λ (le : m ≤ n).
      let same : take m (take n bytes) ≡ take m bytes = take-take m n bytes le in
      let begins : Begins (take m bytes) (take n bytes) = record {
        bytes = AreBytes-front (take n bytes) (drop n bytes) (subst AreBytes (sym (take-append-drop n bytes)) are);
        rest = drop m (take n bytes);
        parts = sym (take-append-drop m (take n bytes)) ∙ ap (λ (xs : List ℕ). xs ++ drop m (take n bytes)) same;
      } in
      sound_front limit deep (take m bytes) (take n bytes) fault begins w.2 (omega (arith, size, w.1)) faulty.1) (cases_lt n m)

  whole_whole : (n m : ℕ) → n ≤ m → IsFirst limit deep bytes (Whole n)
      → IsFirst limit deep bytes (Whole m) → n ≡ m
  whole_whole n m le a b =
      let same : take n (take m bytes) ≡ take n bytes = take-take n m bytes le in
      let whole : take n bytes ++ drop n (take m bytes) ≡ take m bytes = ap (λ (xs : List ℕ). xs ++ drop n (take m bytes)) (sym same) ∙ take-append-drop n (take m bytes) in
      let nothing = no_prefix deep deep (take n bytes) (drop n (take m bytes)) a.2 (subst (IsValue deep) (sym whole) b.2) in
      omega (arith, length-take-le n bytes a.0, length-take-le m bytes b.0, ap length whole, length-append (take n bytes) (drop n (take m bytes)), ap length nothing)

  bad_bad : (f g : ScanFault) → IsFirst limit deep bytes (Bad f)
      → IsFirst limit deep bytes (Bad g) → f ≡ g
  bad_bad f g a b =
      ⊎_elim (λ (e : a.0 ≡ b.0). one_fault limit deep (take b.0 bytes) f g (subst (λ (n : ℕ). HasFault limit deep (take n bytes) f) e a.1.1.1) b.1.1.1)
      (λ (o : (a.0 < b.0) ⊎ (b.0 < a.0)). ⊎_elim (λ (lt : a.0 < b.0). absurd (b.1.2 a.0 f lt a.1.1)) (λ (lt : b.0 < a.0). absurd (a.1.2 b.0 g lt b.1.1)) o) (cases_order a.0 b.0)

  -- one verdict holds
  pub one_verdict : (v w : Verdict) → IsFirst limit deep bytes v → IsFirst limit deep bytes w
      → v ≡ w
  one_verdict (Whole n) (Whole m) a b = ⊎_elim (λ (lt : n < m). ap Whole (whole_whole n m (omega arith) a b)) (λ (le : m ≤ n). ap Whole (sym (whole_whole m n le b a))) (cases_lt n m)
  one_verdict (Whole n) Short a b = absurd (b.0 n deep a.2)
  one_verdict (Whole n) (Bad g) a b = absurd (whole_bad n g a b)
  one_verdict Short (Whole m) a b = absurd (a.0 m deep b.2)
  one_verdict Short Short a b = refl
  one_verdict Short (Bad g) a b = absurd (a.1 b.0 g b.1.1)
  one_verdict (Bad f) (Whole m) a b = absurd (whole_bad m f b a)
  one_verdict (Bad f) Short a b = absurd (b.1 a.0 f a.1.1)
  one_verdict (Bad f) (Bad g) a b = ap Bad (bad_bad f g a b)
