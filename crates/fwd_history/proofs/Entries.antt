-- What whoever has a page may add, and what he knows then: a word is how many events its component
-- has a part in, so where the pen's number is still that count, the component had no further part.
use Rattle.std.proofs.Common.{◌≡◌, ℕ, ◌+◌, ◌<◌, ◌≤◌, ◌==◌, Bool, true, false, ◌||◌, List, [], ◌∷◌, ◌++◌, length, set, reverse, refl, ap, sym, ◌∙◌, subst, arith, append_assoc, length-set}
use Rattle.std.proofs.lemmas.List.{reverse-append, get_or-set_same, get_or-set_other, get_or-replicate, length-replicate}
use Rattle.std.proofs.lemmas.Bool.Decides.{eqb_tells}
use mathlib.Core.List.{IsPrefix}
use mathlib.Core.Logic.{◌⊎◌, inl, inr, ⊎_elim, ◌≢◌}
use Rattle.logbook.specs.Pages.{Cell, cell, Nib, nib, Right, may_make_home, no_nib}
use Rattle.fwd_history.specs.Notes.{Allowed, WentOn, raise, raised}
use Rattle.fwd_history.specs.Histories.{one_if, count_of, Comes, Went, IsOf, IsOfBoth, IsLegal, IsKept}

-- clients of the log see nothing of it
abbrev pub shown : {E : Type 0} → List E → List E
shown log = []

-- an event at the end of a log is the newest of its history
pub newest : {E : Type 0} (log : List E) (e : E) → reverse (log ++ e ∷ []) ≡ e ∷ reverse log
newest log e = reverse-append log (e ∷ [])

-- a log that goes on is a history that goes on
pub newer : {E : Type 0} (v log : List E) → IsPrefix v log → (more : List E) × (more ++ reverse v ≡ reverse log)
newer v log p = (reverse p.0, sym (reverse-append v p.0) ∙ ap reverse p.1)

-- a beginning of a beginning is a beginning
pub further : {E : Type 0} (xs ys zs : List E) → IsPrefix xs ys → IsPrefix ys zs → IsPrefix xs zs
further xs ys zs p q = (p.0 ++ q.0, sym (append_assoc xs p.0 q.0) ∙ (ap (λ w. w ++ q.0) p.1 ∙ q.1))

pub same : (k : ℕ) → (k == k) ≡ true
same k = ⊎_elim (λ (h : ((k == k) ≡ true) × (k ≡ k)). h.0) (λ h. absurd (h.1 refl)) (eqb_tells k k)

or_true : (b : Bool) → (b || true) ≡ true
or_true true = refl
or_true false = refl

module _ {E : Type 0} (touches : ℕ → E → Bool) where
  abbrev C : ℕ → List E → ℕ
  C = count_of touches

  counts : (k : ℕ) (e : E) (n : ℕ) (b : Bool) → touches k e ≡ b → one_if (touches k e) n ≡ one_if b n
  counts k e n b is = ap (λ (t : Bool). one_if t n) is

  pub count_grows : (k : ℕ) (more old : List E) → C k old ≤ C k (more ++ old)
  count_grows k [] old = omega arith
  count_grows k (e ∷ more) old = let h = count_grows k more old in by h (touches k e) refl
    where
      by : C k old ≤ C k (more ++ old) → (b : Bool) → touches k e ≡ b → C k old ≤ one_if (touches k e) (C k (more ++ old))
      by h true is = let c = counts k e (C k (more ++ old)) true is in omega (arith, h, c)
      by h false is = let c = counts k e (C k (more ++ old)) false is in omega (arith, h, c)

  -- a component whose count stays had no part in the newest event
  pub step_untouched : (k : ℕ) (e : E) (more old : List E) → C k (e ∷ (more ++ old)) ≡ C k old → (touches k e ≡ false) × (C k (more ++ old) ≡ C k old)
  step_untouched k e more old h = by (touches k e) refl
    where
      by : (b : Bool) → touches k e ≡ b → (touches k e ≡ false) × (C k (more ++ old) ≡ C k old)
      by true is = let g = count_grows k more old in let c = counts k e (C k (more ++ old)) true is in absurd (omega (arith, g, c, h))
      by false is = let c = counts k e (C k (more ++ old)) false is in (is, sym c ∙ h)

  module _ (may : List E → E → Type 0) where
    abbrev K : List Cell → List E → Type 0
    K = IsKept touches may

    abbrev Says : List Cell → ℕ → ℕ → Type 0
    Says cs a n = (a < length cs) × ((cell cs a).1 ≡ true → (cell cs a).0 ≡ n)

    -- a pen's number is the count of its component
    pub count_is : (cs : List Cell) (log : List E) (a n : ℕ) → K cs log → Says cs a n → C a (reverse log) ≡ n
    count_is cs log a n kept says = let w : cell cs a ≡ (C a (reverse log), true) = kept.words a says.0 in sym (ap (λ (c : Cell). c.0) w) ∙ says.1 (ap (λ (c : Cell). c.1) w)

    -- what its holder knows of the component, whatever the log is by now
    pub has_gone : (cs : List Cell) (log v : List E) (a n : ℕ) → K cs log → IsPrefix v log → n ≡ C a (reverse v) → Says cs a n → Went touches a (reverse v) (reverse log)
    has_gone cs log v a n kept pre count says = let m = newer v log pre in (m.0, m.1, count_is cs log a n kept says ∙ count)

    abbrev one : List Cell → ℕ → ℕ → List Cell
    one cs a n = set cs a (n + 1, true)

    here : (cs : List Cell) (k a n : ℕ) → k ≡ a → a < length cs → cell (one cs a n) k ≡ (n + 1, true)
    here cs k a n e l = ap (λ (j : ℕ). cell (one cs a n) j) e ∙ get_or-set_same cs a (n + 1, true) (0, false) l

    else : (cs : List Cell) (k a n : ℕ) → k ≢ a → cell (one cs a n) k ≡ cell cs k
    else cs k a n e = get_or-set_other cs a k (n + 1, true) (0, false) e

    touched : (log : List E) (k n : ℕ) (e : E) → touches k e ≡ true → C k (reverse log) ≡ n → ◌≡◌ {A = Cell} (n + 1, true) (one_if (touches k e) (C k (reverse log)), true)
    touched log k n e is count = let c = counts k e (C k (reverse log)) true is in let s : n + 1 ≡ one_if (touches k e) (C k (reverse log)) = omega (arith, c, count) in ap (λ (m : ℕ). (m, true)) s

    untouched : (log : List E) (k : ℕ) (e : E) → touches k e ≡ false → ◌≡◌ {A = Cell} (C k (reverse log), true) (one_if (touches k e) (C k (reverse log)), true)
    untouched log k e is = ap (λ (m : ℕ). (m, true)) (sym (counts k e (C k (reverse log)) false is))

    added : (cs ds : List Cell) (log : List E) (e : E) → K cs log → may (reverse log) e → length ds ≡ length cs
        → ((k : ℕ) → k < length cs → cell ds k ≡ (one_if (touches k e) (C k (reverse log)), true)) → K ds (log ++ e ∷ [])
    added cs ds log e kept ok size by = record {
      words = λ k l. subst (λ (past : List E). cell ds k ≡ (C k past, true)) (sym (newest log e)) (by k (omega (arith, size, l)));
      legal = subst (IsLegal may) (sym (newest log e)) (kept.legal, ok);
    }

    pub alone_kept : (cs : List Cell) (log : List E) (a n : ℕ) (e : E) → K cs log → Says cs a n → IsOf touches a e → may (reverse log) e → K (one cs a n) (log ++ e ∷ [])
    alone_kept cs log a n e kept says of_a ok = added cs (one cs a n) log e kept ok (length-set cs a (n + 1, true)) (λ k l. by k l (eqb_tells k a))
      where
        by : (k : ℕ) → k < length cs → (((k == a) ≡ true) × (k ≡ a)) ⊎ (((k == a) ≡ false) × (k ≢ a)) → cell (one cs a n) k ≡ (one_if (touches k e) (C k (reverse log)), true)
        by k l (inl h) = here cs k a n h.1 says.0 ∙ touched log k n e (of_a k ∙ h.0) (ap (λ (j : ℕ). C j (reverse log)) h.1 ∙ count_is cs log a n kept says)
        by k l (inr h) = else cs k a n h.1 ∙ (kept.words k l ∙ untouched log k e (of_a k ∙ h.0))

    pub both_kept : (cs : List Cell) (log : List E) (a n b m : ℕ) (e : E) → K cs log → Says cs a n → Says cs b m → a ≢ b → IsOfBoth touches a b e → may (reverse log) e → K (one (one cs a n) b m) (log ++ e ∷ [])
    both_kept cs log a n b m e kept says tells differ of_both ok =
        added cs (one (one cs a n) b m) log e kept ok (length-set (one cs a n) b (m + 1, true) ∙ length-set cs a (n + 1, true)) (λ k l. by k l (eqb_tells k a) (eqb_tells k b))
      where
        size : length (one cs a n) ≡ length cs
        size = length-set cs a (n + 1, true)

        by : (k : ℕ) → k < length cs → (((k == a) ≡ true) × (k ≡ a)) ⊎ (((k == a) ≡ false) × (k ≢ a)) → (((k == b) ≡ true) × (k ≡ b)) ⊎ (((k == b) ≡ false) × (k ≢ b))
            → cell (one (one cs a n) b m) k ≡ (one_if (touches k e) (C k (reverse log)), true)
        by k l (inl h) (inl g) = absurd (differ (sym h.1 ∙ g.1))
        by k l (inl h) (inr g) = else (one cs a n) k b m g.1 ∙ (here cs k a n h.1 says.0 ∙ touched log k n e (of_both k ∙ ap (λ (t : Bool). t || (k == b)) h.0) (ap (λ (j : ℕ). C j (reverse log)) h.1 ∙ count_is cs log a n kept says))
        by k l (inr h) (inl g) = here (one cs a n) k b m g.1 (omega (arith, size, tells.0)) ∙ touched log k m e (of_both k ∙ (ap (λ (t : Bool). t || (k == b)) h.0 ∙ g.0)) (ap (λ (j : ℕ). C j (reverse log)) g.1 ∙ count_is cs log b m kept tells)
        by k l (inr h) (inr g) = else (one cs a n) k b m g.1 ∙ (else cs k a n h.1 ∙ (kept.words k l ∙ untouched log k e (of_both k ∙ (ap (λ (t : Bool). t || (k == b)) h.0 ∙ g.0))))

    -- what a page's pen is, once its history is seen as far as v
    abbrev pub Holds : Nib → List E → Type 0
    Holds p v = (p.right ≡ may_make_home) × (p.value ≡ C p.key (reverse v))

    is_home : (p : Nib) → p.right ≡ may_make_home → nib may_make_home p.key p.value ≡ p
    is_home p h = λ i. nib (sym h i) p.key p.value

    -- the events of one component, and of two, that are meant, in the words of `Page`
    abbrev pub OfOne : (List E → E → Type 0) → ℕ → List E → E → Type 0
    OfOne means a log e = IsOf touches a e × may (reverse log) e × means (reverse log) e

    abbrev pub OfBoth : (List E → E → Type 0) → ℕ → ℕ → List E → E → Type 0
    OfBoth means a b log e = IsOfBoth touches a b e × may (reverse log) e × means (reverse log) e

    -- Whoever has one component's page may add its event, behind what others have seen too: that is
    -- a beginning of what he has seen.
    alone_allowed : (means : List E → E → Type 0) (seen v w : List E) (a n : ℕ) (e : E) → IsPrefix v seen → IsPrefix w seen → n ≡ C a (reverse v) → IsOf touches a e
        → ((past : List E) → Went touches a (reverse v) past → Comes (reverse w) past → may past e × means past e)
        → Allowed K shown (OfOne means a) seen (nib may_make_home a n) no_nib e
    alone_allowed means seen v w a n e pv pw count of_a ok cs log kept pre kp kq =
        let says = kp refl in let c = kept.words a says.0 in
        let so = ok (reverse log) (has_gone cs log v a n kept (further v seen log pv pre) count says) (newer w log (further w seen log pw pre)) in (
          (λ _. (says.0, ap (λ (x : Cell). x.1) c)),
          (λ r. absurd (cc r)),
          alone_kept cs log a n e kept says of_a so.0,
          refl,
          (of_a, so.0, so.1),
        )

    -- the event of two, each of whom has seen a beginning of what both have seen
    both_allowed : (means : List E → E → Type 0) (seen v w : List E) (a n b m : ℕ) (e : E) → IsPrefix v seen → IsPrefix w seen → n ≡ C a (reverse v) → m ≡ C b (reverse w) → a ≢ b → IsOfBoth touches a b e
        → ((past : List E) → Went touches a (reverse v) past → Went touches b (reverse w) past → may past e × means past e)
        → Allowed K shown (OfBoth means a b) seen (nib may_make_home a n) (nib may_make_home b m) e
    both_allowed means seen v w a n b m e pv pw count count' differ of_both ok cs log kept pre kp kq =
        let says = kp refl in let tells = kq refl in let x = kept.words a says.0 in let y = kept.words b tells.0 in
        let so = ok (reverse log) (has_gone cs log v a n kept (further v seen log pv pre) count says) (has_gone cs log w b m kept (further w seen log pw pre) count' tells) in (
          (λ _. (says.0, ap (λ (c : Cell). c.1) x)),
          (λ _. (omega (arith, length-set cs a (n + 1, true), tells.0), ap (λ (c : Cell). c.1) (else cs b a n (λ h. differ (sym h)) ∙ y))),
          both_kept cs log a n b m e kept says tells differ of_both so.0,
          refl,
          (of_both, so.0, so.1),
        )

    pub opens : (n : ℕ) → K (lib.ListN.replicate n (0, true)) []
    opens n = record {
      words = λ k l. let zeros : Cell = (0, true) in get_or-replicate n k (0, true) (0, false) (omega (arith, length-replicate n zeros, l));
      legal = tt;
    }

    -- what is asked of an event of one component, of the page as contracts see it
    abbrev pub AsksOne : (means : List E → E → Type 0) → ℕ × List E → List E → E → Type 0
    AsksOne means s w e = IsOf touches s.0 e × ((past : List E) → Went touches s.0 s.1 past → Comes w past → may past e × means past e)

    -- and of an event of two
    abbrev pub AsksBoth : (means : List E → E → Type 0) → ℕ × List E → ℕ × List E → E → Type 0
    AsksBoth means s t e = IsOfBoth touches s.0 t.0 e × ((past : List E) → Went touches s.0 s.1 past → Went touches t.0 t.1 past → may past e × means past e)

    pub may_add : (means : List E → E → Type 0) (seen v w : List E) (p q : Nib) (s : ℕ × List E) (e : E) → IsPrefix v seen → IsPrefix w seen → Holds p v → q ≡ no_nib
        → ◌≡◌ {A = ℕ × List E} (p.key, reverse v) s → AsksOne means s (reverse w) e → Allowed K shown (OfOne means p.key) seen p q e
    may_add means seen v w p q s e pv pw holds none view asks =
        let own = subst (λ (x : ℕ × List E). AsksOne means x (reverse w) e) (sym view) asks in
        subst (λ (n : Nib). Allowed K shown (OfOne means p.key) seen n q e) (is_home p holds.0) (subst (λ (n : Nib). Allowed K shown (OfOne means p.key) seen (nib may_make_home p.key p.value) n e) (sym none)
        (alone_allowed means seen v w p.key p.value e pv pw holds.1 own.0 own.1))

    pub may_add_both : (means : List E → E → Type 0) (seen v w : List E) (p q : Nib) (s t : ℕ × List E) (e : E) → IsPrefix v seen → IsPrefix w seen → Holds p v → Holds q w → s.0 ≢ t.0
        → ◌≡◌ {A = ℕ × List E} (p.key, reverse v) s → ◌≡◌ {A = ℕ × List E} (q.key, reverse w) t → AsksBoth means s t e → Allowed K shown (OfBoth means p.key q.key) seen p q e
    may_add_both means seen v w p q s t e pv pw holds keeps differ view seen_so asks =
        let own = subst (λ (x : ℕ × List E). AsksBoth means (p.key, reverse v) x e) (sym seen_so) (subst (λ (x : ℕ × List E). AsksBoth means x t e) (sym view) asks) in
        let apart : p.key ≢ q.key = λ same. differ (sym (ap (λ (x : ℕ × List E). x.0) view) ∙ (same ∙ ap (λ (x : ℕ × List E). x.0) seen_so)) in
        subst (λ (n : Nib). Allowed K shown (OfBoth means p.key q.key) seen n q e) (is_home p holds.0) (subst (λ (n : Nib). Allowed K shown (OfBoth means p.key q.key) seen (nib may_make_home p.key p.value) n e) (is_home q keeps.0)
        (both_allowed means seen v w p.key p.value q.key q.value e pv pw holds.1 keeps.1 apart own.0 own.1))

    -- what one of those who added an event knows then
    pub record Knew (p n : Nib) (v new : List E) (e : E) (past : List E) : Type 0 where
      pub holds : Holds n new
      pub key : n.key ≡ p.key
      pub went : Went touches p.key (reverse v) past

    knew : (seen v log : List E) (cs : List Cell) (p n : Nib) (e : E) → K cs log → IsPrefix v seen → IsPrefix seen log → Holds p v → (p.right ≡ may_make_home → Says cs p.key p.value) → touches p.key e ≡ true
        → n ≡ raised p → Knew p n v (log ++ e ∷ []) e (reverse log)
    knew seen v log cs p n e kept pv pre holds says is new =
        let says' = says holds.0 in let count = count_is cs log p.key p.value kept says' in
        let value : n.value ≡ p.value + 1 = ap (λ (m : Nib). m.value) new ∙ ap (λ (r : Right). raise r p.value) holds.0 in record {
          holds = (ap (λ (m : Nib). m.right) new ∙ holds.0, value ∙ (count_added log p.key p.value e is (sym count) ∙ ap (λ (k : ℕ). C k (reverse (log ++ e ∷ []))) (sym (ap (λ (m : Nib). m.key) new))));
          key = ap (λ (m : Nib). m.key) new;
          went = has_gone cs log v p.key p.value kept (further v seen log pv pre) holds.1 says';
        }
      where
        -- one part more, as the component has one in the event
        count_added : (l : List E) (a m : ℕ) (f : E) → touches a f ≡ true → m ≡ C a (reverse l) → m + 1 ≡ C a (reverse (l ++ f ∷ []))
        count_added l a m f has count = let c = counts a f (C a (reverse l)) true has in let more : m + 1 ≡ C a (f ∷ reverse l) = omega (arith, c, count) in more ∙ ap (C a) (sym (newest l f))

    -- after an event of one
    pub record Alone (means : List E → E → Type 0) (p n : Nib) (v w new : List E) : Type 0 where
      pub past : List E
      pub event : E
      pub one : Knew p n v new event past
      pub own : IsOf touches p.key event
      pub comes : Comes (reverse w) past
      pub so : means past event
      pub is : reverse new ≡ event ∷ past
      pub legal : IsLegal may (reverse new)

    pub alone : (means : List E → E → Type 0) (seen v w new : List E) (p q n : Nib) → IsPrefix v seen → IsPrefix w seen → Holds p v
        → n ≡ raised p → (log : List E) (e : E) → WentOn K (OfOne means p.key) seen p q log e → new ≡ log ++ e ∷ [] → Alone means p n v w new
    alone means seen v w new p q n pv pw holds up log e r is =
        let so = r.2 in
        let k = knew seen v log r.1.0 p n e r.1.1 pv r.0 holds r.1.2 (so.0 p.key ∙ same p.key) up in subst (λ (l : List E). Alone means p n v w l) (sym is) (record {
          past = reverse log;
          event = e;
          one = k;
          own = so.0;
          comes = newer w log (further w seen log pw r.0);
          so = so.2;
          is = newest log e;
          legal = subst (IsLegal may) (sym (newest log e)) (r.1.1.legal, so.1);
        })

    -- after an event of two
    pub record Both (means : List E → E → Type 0) (p q n m : Nib) (v w new : List E) : Type 0 where
      pub past : List E
      pub event : E
      pub one : Knew p n v new event past
      pub other : Knew q m w new event past
      pub own : IsOfBoth touches p.key q.key event
      pub so : means past event
      pub is : reverse new ≡ event ∷ past
      pub legal : IsLegal may (reverse new)

    pub both : (means : List E → E → Type 0) (seen v w new : List E) (p q n m : Nib) → IsPrefix v seen → IsPrefix w seen → Holds p v → Holds q w
        → n ≡ raised p → m ≡ raised q → (log : List E) (e : E) → WentOn K (OfBoth means p.key q.key) seen p q log e → new ≡ log ++ e ∷ [] → Both means p q n m v w new
    both means seen v w new p q n m pv pw holds keeps up on log e r is =
        let so = r.2 in
        let k = knew seen v log r.1.0 p n e r.1.1 pv r.0 holds r.1.2 (so.0 p.key ∙ ap (λ (t : Bool). t || (p.key == q.key)) (same p.key)) up in
        let j = knew seen w log r.1.0 q m e r.1.1 pw r.0 keeps r.1.3 (so.0 q.key ∙ (ap (λ (t : Bool). (q.key == p.key) || t) (same q.key) ∙ or_true (q.key == p.key))) on in
        subst (λ (l : List E). Both means p q n m v w l) (sym is) (record {
          past = reverse log;
          event = e;
          one = k;
          other = j;
          own = so.0;
          so = so.2;
          is = newest log e;
          legal = subst (IsLegal may) (sym (newest log e)) (r.1.1.legal, so.1);
        })
