-- A map from tags, as its view has it.
use Rattle.std.proofs.Common.{◌≡◌, ℕ, zero, suc, ◌+◌, ◌≤◌, ◌<◌, ◌++◌, length, take, arith, Bool, true, false, cond, List, [], ◌∷◌, Option, Some, None, refl, sym, ap, ◌∙◌}
use Rattle.std.specs.Prelude.{map, slice_get}
use Rattle.std.specs.List.{AllByRecursion, IsDistinct}
use Rattle.std.proofs.lemmas.Option.{same_Some}
use Rattle.std.specs.Str.{bytes_eq}
use Rattle.std.specs.HashMap.{HashMap, UpdatesBy}
use Rattle.std.specs.Cmp.{IsEquivalence}
use Rattle.std.proofs.lemmas.Cmp.{nat_list_eq_equiv}
use Rattle.std.specs.Map.{lookup, IsKeyTest, AreApart, KeepsOthers}
use Rattle.std.proofs.lemmas.Slice.Eq.{bytes_eq-Decides}
use Rattle.fwd_chunks.specs.declared.tag_entry.TagEntry.{TagEntry}
use Rattle.fwd_chunks.specs.Newest.{tag_entry}
use Rattle.fwd_chunks.specs.Listing.{listed}
use Rattle.fwd_chunks.proofs.Numbers.{not_from, true_false}

-- the map's entries, their keys as bytes
abbrev pub seen : {K : Type 0} → List (K × TagEntry) → (K → List ℕ) → List (List ℕ × TagEntry)
seen es items = map (λ e. (items e.0, e.1)) es

pub tag_entry-seen : {K : Type 0} (es : List (K × TagEntry)) (items : K → List ℕ) (t : List ℕ)
    → tag_entry t (seen es items) ≡ lookup (λ k. bytes_eq t (items k)) es
tag_entry-seen [] items t = refl
tag_entry-seen (e ∷ es) items t = ap (cond (bytes_eq t (items e.0)) (Some e.1)) (tag_entry-seen es items t)

others : {K : Type 0} (eq : K → K → Bool) (test : K → Bool) (old new : List (K × TagEntry))
    → KeepsOthers eq test old new → (other : K → Bool) → IsKeyTest eq other
    → AreApart test other → lookup other new ≡ lookup other old
unfolding KeepsOthers
others eq test old new h = h

same_bytes : (bs cs : List ℕ) → bytes_eq bs cs ≡ true → bs ≡ cs
same_bytes bs cs e = (bytes_eq-Decides bs cs).0 e

pub bytes_self : (bs : List ℕ) → bytes_eq bs bs ≡ true
bytes_self bs = (bytes_eq-Decides bs bs).1 refl

-- what an update at a tag leaves at any tag
pub seen-updates : {K S : Type 0} (m n : HashMap K TagEntry S) (w : Option TagEntry) (items : K → List ℕ)
    (bs : List ℕ)
    → UpdatesBy (λ x y. bytes_eq (items x) (items y)) (λ k. bytes_eq bs (items k)) m n w
    → (t : List ℕ)
    → tag_entry t (seen n.entries items) ≡ cond (bytes_eq bs t) w
    (tag_entry t (seen m.entries items))
seen-updates m n w items bs h t = tag_entry-seen n.entries items t ∙ by (bytes_eq bs t) refl
  where
    by : (b : Bool) → bytes_eq bs t ≡ b
        → lookup (λ k. bytes_eq t (items k)) n.entries ≡ cond b w
        (tag_entry t (seen m.entries items))
    by true e = ap (λ l. lookup (λ k. bytes_eq l (items k)) n.entries) (sym (same_bytes bs t e)) ∙ h.1
    by false e =
        others (λ x y. bytes_eq (items x) (items y)) (λ k. bytes_eq bs (items k)) m.entries n.entries h.3 (λ k. bytes_eq t (items k))
        (λ x y f. ap (λ l. bytes_eq l (items y)) (same_bytes t (items x) f))
        (λ k f. not_from (bytes_eq t (items k)) (λ g. true_false (bytes_eq bs t) (ap (bytes_eq bs) (same_bytes t (items k) g) ∙ f) e))
        ∙ sym (tag_entry-seen m.entries items t)

-- what is kept for the tag of a key that is there
pub named-entry : {K : Type 0} (es : List (K × TagEntry)) (items : K → List ℕ) (name : K)
    (tag : List ℕ) (e : TagEntry) → items name ≡ tag
    → lookup (λ k. bytes_eq (items name) (items k)) es ≡ Some e
    → tag_entry tag (seen es items) ≡ Some e
named-entry es items name tag e same found =
    tag_entry-seen es items tag ∙ ap (λ bs. lookup (λ k. bytes_eq bs (items k)) es) (sym same) ∙ found

-- keys are compared by their bytes
pub by_bytes : {K : Type 0} (items : K → List ℕ)
    → IsEquivalence (λ (x y : K). bytes_eq (items x) (items y))
by_bytes items = record {
  refl = λ x. nat_list_eq_equiv.refl (items x);
  symm = λ x y. nat_list_eq_equiv.symm (items x) (items y);
  congr = λ x y z. nat_list_eq_equiv.congr (items x) (items y) (items z);
}

-- ---- entries by place

taken-more : {X : Type 0} (xs : List X) (i : ℕ) (x : X) → slice_get xs i ≡ Some x
    → take (i + 1) xs ≡ take i xs ++ x ∷ []
taken-more [] i x e = absurd cc
taken-more (y ∷ xs) zero x e = λ j. same_Some _ _ e j ∷ []
taken-more (y ∷ xs) (suc i) x e =
    (let more : suc i + 1 ≡ suc (i + 1) = omega arith in ap (λ k. take k (y ∷ xs)) more)
    ∙ ap (λ l. y ∷ l) (taken-more xs i x e)

listed-append : (xs ys : List (List ℕ × TagEntry)) → listed (xs ++ ys) ≡ listed xs ++ listed ys
listed-append [] ys = refl
listed-append (x ∷ xs) ys = ap (λ l. record { tag = x.0; held = x.1.held; bytes = x.1.bytes } ∷ l) (listed-append xs ys)

seen-append : {K : Type 0} (xs ys : List (K × TagEntry)) (items : K → List ℕ)
    → seen (xs ++ ys) items ≡ seen xs items ++ seen ys items
seen-append [] ys items = refl
seen-append (x ∷ xs) ys items = ap (λ l. (items x.0, x.1) ∷ l) (seen-append xs ys items)

-- one entry more is listed
pub listed-next : {K : Type 0} (es : List (K × TagEntry)) (items : K → List ℕ) (place : ℕ)
    (e : K × TagEntry) → slice_get es place ≡ Some e
    → listed (seen (take place es) items) ++ record { tag = items e.0; held = e.1.held; bytes = e.1.bytes } ∷ []
    ≡ listed (seen (take (place + 1) es) items)
listed-next es items place e f =
    sym (listed-append (seen (take place es) items) ((items e.0, e.1) ∷ []))
    ∙ ap listed (sym (seen-append (take place es) (e ∷ []) items))
    ∙ ap (λ l. listed (seen l items)) (sym (taken-more es place e f))

pub listed-all : {K : Type 0} (es : List (K × TagEntry)) (items : K → List ℕ) (place : ℕ)
    → length es ≤ place → listed (seen (take place es) items) ≡ listed (seen es items)
listed-all es items place le = ap (λ l. listed (seen l items)) (all es place le)
  where
    all : {X : Type 0} (xs : List X) (n : ℕ) → length xs ≤ n → take n xs ≡ xs
    all [] zero l = refl
    all [] (suc n) l = refl
    all (x ∷ xs) zero l = absurd (omega (arith, l))
    all (x ∷ xs) (suc n) l = ap (λ k. x ∷ k) (all xs n (omega (arith, l)))

-- keys that differ differ in their bytes
pub seen-distinct : {K : Type 0} (es : List (K × TagEntry)) (items : K → List ℕ)
    → IsDistinct (λ x y. bytes_eq (items x) (items y)) (map (λ e. e.0) es)
    → IsDistinct bytes_eq (map (λ e. e.0) (seen es items))
unfolding IsDistinct
seen-distinct [] items own = tt
seen-distinct {K = K} (e ∷ es) items own = (apart es own.0, seen-distinct es items own.1)
  where
    apart : (fs : List (K × TagEntry)) → AllByRecursion (λ k. bytes_eq (items e.0) (items k) ≡ false) (map (λ x. x.0) fs)
        → AllByRecursion (λ l. bytes_eq (items e.0) l ≡ false) (map (λ x. x.0) (seen fs items))
    apart [] all = tt
    apart (f ∷ fs) all = (all.0, apart fs all.1)

-- there is an entry at each place
pub entry-at : {X : Type 0} (xs : List X) (i : ℕ) → i < length xs → slice_get xs i ≡ None → ⊥
entry-at [] i lt e = absurd (omega (arith, lt))
entry-at (x ∷ xs) zero lt e = cc
entry-at (x ∷ xs) (suc i) lt e = entry-at xs i (omega (arith, lt)) e
