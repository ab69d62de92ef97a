-- A connection's requests, linked to one another.
use Rattle.std.proofs.Common.{length, ◌≡◌, ℕ, Bool, true, false, cond, zero, suc, take, Option, Some, None, List, [], ◌∷◌, ◌++◌, refl, sym, ap, subst, ◌∙◌}
use Rattle.std.specs.Prelude.{not, ◌||◌, ◌==◌, is_some, filter, option_map, option_and_then, unwrap_or, slice_get}
use Rattle.std.specs.List.{list_any}
use Rattle.std.proofs.lemmas.Bool.{eqb-true, eq-eqb}
use Rattle.fwd_book.specs.declared.connection_index.RequestLinks.{RequestLinks}
use Rattle.fwd_book.specs.Links.{is_the, last_of, link_in, with_later, with_earlier, AreOnce}
use Rattle.fwd_book.proofs.Facts.{apart, none_some, neither_left, neither_right, turned}
use Rattle.std.proofs.lemmas.Option.{same_Some}

-- ---- what is not there

-- what filters keep where nothing passes
pub all_stay : (rs : List ℕ) (n : ℕ) → list_any (λ r. n == r) rs ≡ false
    → filter (λ r. not (n == r)) rs ≡ rs
all_stay [] n none = refl
all_stay (r ∷ rs) n none =
    ap (λ b. cond (not b) (r ∷ filter (λ s. not (n == s)) rs) (filter (λ s. not (n == s)) rs)) (neither_left (n == r) (list_any (λ s. n == s) rs) none)
    ∙ ap (λ xs. r ∷ xs) (all_stay rs n (neither_right (n == r) (list_any (λ s. n == s) rs) none))

-- where there is none, it is none of them
pub none_any : (rs : List ℕ) → list_any (is_the None) rs ≡ false
none_any [] = refl
none_any (r ∷ rs) = none_any rs

-- a request that is not among them has no link among them
pub none_in : (before : Option ℕ) (rs : List ℕ) (m : ℕ) → list_any (λ r. m == r) rs ≡ false
    → link_in before rs m ≡ None
none_in before [] m none = refl
none_in before (r ∷ rs) m none =
    ap (λ b. cond b (Some (record { earlier = before; later = slice_get rs 0 })) (link_in (Some r) rs m)) (turned r m (neither_left (m == r) (list_any (λ s. m == s) rs) none))
    ∙ none_in (Some r) rs m (neither_right (m == r) (list_any (λ s. m == s) rs) none)

-- and one that has none is not among them
pub not_in : (before : Option ℕ) (rs : List ℕ) (m : ℕ) → link_in before rs m ≡ None
    → list_any (λ r. m == r) rs ≡ false
not_in before [] m none = refl
not_in before (r ∷ rs) m none = by (r == m) refl none (not_in (Some r) rs m)
  where
    by : (b : Bool) → (r == m) ≡ b
        → cond b (Some (record { earlier = before; later = slice_get rs 0 })) (link_in (Some r) rs m)
        ≡ None
        → (link_in (Some r) rs m ≡ None → list_any (λ s. m == s) rs ≡ false)
        → list_any (λ s. m == s) (r ∷ rs) ≡ false
    by true e f more = absurd (none_some (sym f))
    by false e f more = ap (λ b. b || list_any (λ s. m == s) rs) (turned m r e) ∙ more f

-- the last of them is one of them
last_other : (r m : ℕ) (rs : List ℕ) → list_any (λ s. m == s) (r ∷ rs) ≡ false
    → is_the (last_of (Some r) rs) m ≡ false
last_other r m [] none = turned r m (neither_left (m == r) false none)
last_other r m (s ∷ rs) none =
    last_other s m rs (neither_right (m == r) (list_any (λ x. m == x) (s ∷ rs)) none)

pub last_none : (rs : List ℕ) (m : ℕ) → list_any (λ s. m == s) rs ≡ false
    → is_the (last_of None rs) m ≡ false
last_none [] m none = refl
last_none (r ∷ rs) m none = last_other r m rs none

-- ---- a request comes behind the others

-- the links with one more: the last so far leads to it
pub appended : (before : Option ℕ) (rs : List ℕ) (n m : ℕ) → list_any (λ r. n == r) rs ≡ false
    → AreOnce rs
    → link_in before (rs ++ n ∷ []) m
    ≡ cond (n == m) (Some (record { earlier = last_of before rs; later = None }))
    (cond (is_the (last_of before rs) m) (option_map (with_later (Some n)) (link_in before rs m))
    (link_in before rs m))
appended before [] n m fresh once = by (is_the before m)
  where
    new : Option RequestLinks
    new = Some (record { earlier = before; later = None })

    by : (b : Bool) → cond (n == m) new None ≡ cond (n == m) new (cond b None None)
    by true = refl
    by false = refl
appended before (r ∷ []) n m fresh once = by (r == m) (n == m) refl refl
  where
    told : Option RequestLinks
    told = Some (record { earlier = before; later = Some n })

    own : Option RequestLinks
    own = Some (record { earlier = before; later = None })

    new : Option RequestLinks
    new = Some (record { earlier = Some r; later = None })

    by : (a b : Bool) → (r == m) ≡ a → (n == m) ≡ b
        → cond a told (cond b new None)
        ≡ cond b new (cond a (option_map (with_later (Some n)) (cond a own None)) (cond a own None))
    by true true e f = absurd (apart (sym (neither_left (n == r) false fresh) ∙ eq-eqb n r (eqb-true n m f ∙ sym (eqb-true r m e))))
    by true false e f = refl
    by false true e f = refl
    by false false e f = refl
appended before (r ∷ s ∷ rs) n m fresh once = by (r == m) refl (appended (Some r) (s ∷ rs) n m (neither_right (n == r) (list_any (λ x. n == x) (s ∷ rs)) fresh) once.1)
  where
    last : Option ℕ
    last = last_of (Some s) rs

    own : Option RequestLinks
    own = Some (record { earlier = before; later = Some s })

    link : Option RequestLinks
    link = link_in (Some r) (s ∷ rs) m

    new : Option RequestLinks
    new = Some (record { earlier = last; later = None })

    by : (a : Bool) → (r == m) ≡ a
        → link_in (Some r) (s ∷ rs ++ n ∷ []) m
        ≡ cond (n == m) new (cond (is_the last m) (option_map (with_later (Some n)) link) link)
        → cond a own (link_in (Some r) (s ∷ rs ++ n ∷ []) m)
        ≡ cond (n == m) new (cond (is_the last m) (option_map (with_later (Some n)) (cond a own link)) (cond a own link))
    by false e more = more
    by true e more =
        let is : r ≡ m = eqb-true r m e in
        let other : (n == m) ≡ false = ap (λ k. n == k) (sym is) ∙ neither_left (n == r) (list_any (λ x. n == x) (s ∷ rs)) fresh in
        let behind : is_the last m ≡ false = last_other s m rs (subst (λ k. list_any (λ x. k == x) (s ∷ rs) ≡ false) is once.0) in
        sym (λ i. cond (other i) new (cond (behind i) (option_map (with_later (Some n)) own) own))

-- with one more each stands once
pub once_with : (rs : List ℕ) (n : ℕ) → list_any (λ r. n == r) rs ≡ false → AreOnce rs
    → AreOnce (rs ++ n ∷ [])
once_with [] n fresh once = (refl, tt)
once_with (r ∷ rs) n fresh once =
    (behind rs once.0, once_with rs n (neither_right (n == r) (list_any (λ s. n == s) rs) fresh) once.1)
  where
    other : (r == n) ≡ false
    other = turned r n (neither_left (n == r) (list_any (λ s. n == s) rs) fresh)

    behind : (xs : List ℕ) → list_any (λ s. r == s) xs ≡ false
        → list_any (λ s. r == s) (xs ++ n ∷ []) ≡ false
    behind [] none = ap (λ b. b || false) other
    behind (x ∷ xs) none =
        ap (λ b. b || list_any (λ s. r == s) (xs ++ n ∷ [])) (neither_left (r == x) (list_any (λ s. r == s) xs) none)
        ∙ behind xs (neither_right (r == x) (list_any (λ s. r == s) xs) none)

-- the first and the last with one more
pub first_with : (rs : List ℕ) (n : ℕ)
    → slice_get (rs ++ n ∷ []) 0 ≡ Some (unwrap_or (slice_get rs 0) n)
first_with [] n = refl
first_with (r ∷ rs) n = refl

pub last_with : (before : Option ℕ) (rs : List ℕ) (n : ℕ) → last_of before (rs ++ n ∷ []) ≡ Some n
last_with before [] n = refl
last_with before (r ∷ rs) n = last_with (Some r) rs n

-- ---- a request leaves

-- what is found of a request's link once a request with this link left
abbrev pub relinked : ℕ → Option ℕ → Option ℕ → ℕ → Option RequestLinks → Option RequestLinks
relinked n earlier later m link =
    cond (is_the later m)
    (option_map (with_earlier earlier) (cond (is_the earlier m) (option_map (with_later later) (cond (n == m) None link)) (cond (n == m) None link)))
    (cond (is_the earlier m) (option_map (with_later later) (cond (n == m) None link)) (cond (n == m) None link))

-- the request behind one is another than what is not there
pub later_other : (before : Option ℕ) (rs : List ℕ) (n : ℕ) (link : RequestLinks) (m : ℕ)
    → link_in before rs n ≡ Some link → list_any (λ r. m == r) rs ≡ false
    → is_the link.later m ≡ false
later_other before [] n link m there none = absurd (none_some there)
later_other before (r ∷ rs) n link m there none = by (r == n) there (λ f. later_other (Some r) rs n link m f (neither_right (m == r) (list_any (λ s. m == s) rs) none))
  where
    next : (xs : List ℕ) → list_any (λ s. m == s) xs ≡ false → is_the (slice_get xs 0) m ≡ false
    next [] f = refl
    next (x ∷ xs) f = turned x m (neither_left (m == x) (list_any (λ s. m == s) xs) f)

    by : (a : Bool)
        → cond a (Some (record { earlier = before; later = slice_get rs 0 })) (link_in (Some r) rs n)
        ≡ Some link
        → (link_in (Some r) rs n ≡ Some link → is_the link.later m ≡ false)
        → is_the link.later m ≡ false
    by true f more =
        sym (ap (λ (k : RequestLinks). is_the k.later m) (same_Some _ _ f)) ∙ next rs (neither_right (m == r) (list_any (λ s. m == s) rs) none)
    by false f more = more f

-- and so is the request before one
pub earlier_other : (before : Option ℕ) (rs : List ℕ) (n : ℕ) (link : RequestLinks) (m : ℕ)
    → link_in before rs n ≡ Some link → list_any (λ r. m == r) rs ≡ false
    → is_the before m ≡ false → is_the link.earlier m ≡ false
earlier_other before [] n link m there none first = absurd (none_some there)
earlier_other before (r ∷ rs) n link m there none first = by (r == n) there (λ f. earlier_other (Some r) rs n link m f (neither_right (m == r) (list_any (λ s. m == s) rs) none) (turned r m (neither_left (m == r) (list_any (λ s. m == s) rs) none)))
  where
    by : (a : Bool)
        → cond a (Some (record { earlier = before; later = slice_get rs 0 })) (link_in (Some r) rs n)
        ≡ Some link
        → (link_in (Some r) rs n ≡ Some link → is_the link.earlier m ≡ false)
        → is_the link.earlier m ≡ false
    by true f more = sym (ap (λ (k : RequestLinks). is_the k.earlier m) (same_Some _ _ f)) ∙ first
    by false f more = more f

-- behind another one there is an earlier one
has_earlier : (r : ℕ) (rs : List ℕ) (n : ℕ) (link : RequestLinks) → link_in (Some r) rs n ≡ Some link
    → is_some link.earlier ≡ true
has_earlier r [] n link there = absurd (none_some there)
has_earlier r (s ∷ rs) n link there = by (s == n) there (has_earlier s rs n link)
  where
    by : (a : Bool)
        → cond a (Some (record { earlier = Some r; later = slice_get rs 0 })) (link_in (Some s) rs n)
        ≡ Some link
        → (link_in (Some s) rs n ≡ Some link → is_some link.earlier ≡ true)
        → is_some link.earlier ≡ true
    by true f more = sym (ap (λ (k : RequestLinks). is_some k.earlier) (same_Some _ _ f))
    by false f more = more f

-- the one that leaves is the first of them, and none else
module _ (r n : ℕ) (rs : List ℕ) (same : r ≡ n) (others : list_any (λ s. r == s) rs ≡ false) where
  pub without_first : filter (λ s. not (n == s)) (r ∷ rs) ≡ rs
  without_first =
      ap (λ b. cond (not b) (r ∷ filter (λ s. not (n == s)) rs) (filter (λ s. not (n == s)) rs)) (eq-eqb n r (sym same))
      ∙ all_stay rs n (subst (λ k. list_any (λ s. k == s) rs ≡ false) same others)

-- the one that leaves is not the first of them
without_other : (r n : ℕ) (rs : List ℕ) → (r == n) ≡ false
    → filter (λ s. not (n == s)) (r ∷ rs) ≡ r ∷ filter (λ s. not (n == s)) rs
without_other r n rs other =
    ap (λ b. cond (not b) (r ∷ filter (λ s. not (n == s)) rs) (filter (λ s. not (n == s)) rs)) (turned n r other)

-- what is first behind a request once one leaves
next_without : (r : ℕ) (rs : List ℕ) (n : ℕ) (link : RequestLinks) → list_any (λ s. r == s) rs ≡ false
    → AreOnce rs → link_in (Some r) rs n ≡ Some link
    → slice_get (filter (λ s. not (n == s)) rs) 0
    ≡ cond (is_the link.earlier r) link.later (slice_get rs 0)
next_without r [] n link others once there = absurd (none_some there)
next_without r (s ∷ rs) n link others once there = by (s == n) refl there
  where
    by : (a : Bool) → (s == n) ≡ a
        → cond a (Some (record { earlier = Some r; later = slice_get rs 0 })) (link_in (Some s) rs n)
        ≡ Some link
        → slice_get (filter (λ x. not (n == x)) (s ∷ rs)) 0
        ≡ cond (is_the link.earlier r) link.later (Some s)
    by true e f =
        ap (λ xs. slice_get xs 0) (without_first s n rs (eqb-true s n e) once.0)
        ∙ sym (ap (λ b. cond b (slice_get rs 0) (Some s)) (eq-eqb r r refl))
        ∙ ap (λ (k : RequestLinks). cond (is_the k.earlier r) k.later (Some s)) (same_Some _ _ f)
    by false e f =
        ap (λ xs. slice_get xs 0) (without_other s n rs e)
        ∙ sym (ap (λ b. cond b link.later (Some s)) (earlier_other (Some s) rs n link r f (neither_right (r == s) (list_any (λ x. r == x) rs) others) (turned s r (neither_left (r == s) (list_any (λ x. r == x) rs) others))))

-- the first of them leaves: the next one has no longer it before it, but what was before it
first_leaves : (before : Option ℕ) (r : ℕ) (rs : List ℕ) (m : ℕ) (own : RequestLinks) → AreOnce rs
    → list_any (λ s. r == s) rs ≡ false → list_any (is_the before) rs ≡ false
    → link_in before rs m
    ≡ relinked r before (slice_get rs 0) m (cond (r == m) (Some own) (link_in (Some r) rs m))
first_leaves before r [] m own once others aside = sym (by (r == m) (is_the before m))
  where
    by : (a b : Bool)
        → cond b (option_map (with_later None) (cond a None (cond a (Some own) None))) (cond a None (cond a (Some own) None))
        ≡ None
    by true true = refl
    by true false = refl
    by false true = refl
    by false false = refl
first_leaves before r (s ∷ rs) m own once others aside = by (s == m) refl
  where
    rest : Option RequestLinks
    rest = link_in (Some s) rs m

    old : Option RequestLinks
    old = Some (record { earlier = Some r; later = slice_get rs 0 })

    none_before : (b : Bool) → is_the before m ≡ b → link_in (Some s) rs m ≡ cond b (option_map (with_later (Some s)) rest) rest
    none_before false f = refl
    none_before true f = lacks ∙ sym (ap (λ k. option_map (with_later (Some s)) k) lacks)
      where
        is_own : (o : Option ℕ) → is_the o m ≡ true → (xs : List ℕ) → list_any (is_the o) xs ≡ false → list_any (λ x. m == x) xs ≡ false
        is_own None g xs h = absurd (apart g)
        is_own (Some k) g xs h = subst (λ j. list_any (λ x. j == x) xs ≡ false) (eqb-true k m g) h

        lacks : rest ≡ None
        lacks = none_in (Some s) rs m (is_own before f rs (neither_right (is_the before s) (list_any (is_the before) rs) aside))

    left : (d : Bool) → (r == m) ≡ d
        → rest ≡ cond (is_the before m) (option_map (with_later (Some s)) (cond d None (cond d (Some own) rest))) (cond d None (cond d (Some own) rest))
    left false f = none_before (is_the before m) refl
    left true f = lacks ∙ sym (nothing (is_the before m))
      where
        lacks : rest ≡ None
        lacks = none_in (Some s) rs m (subst (λ k. list_any (λ x. k == x) rs ≡ false) (eqb-true r m f) (neither_right (r == s) (list_any (λ x. r == x) rs) others))

        nothing : (b : Bool) → cond b (option_map (with_later (Some s)) None) None ≡ None
        nothing true = refl
        nothing false = refl

    by : (a : Bool) → (s == m) ≡ a
        → cond a (Some (record { earlier = before; later = slice_get rs 0 })) rest
        ≡ cond a
        (option_map (with_earlier before) (cond (is_the before m) (option_map (with_later (Some s)) (cond (r == m) None (cond (r == m) (Some own) (cond a old rest)))) (cond (r == m) None (cond (r == m) (Some own) (cond a old rest)))))
        (cond (is_the before m) (option_map (with_later (Some s)) (cond (r == m) None (cond (r == m) (Some own) (cond a old rest)))) (cond (r == m) None (cond (r == m) (Some own) (cond a old rest))))
    by false e = left (r == m) refl
    by true e =
        let is : s ≡ m = eqb-true s m e in
        let other : (r == m) ≡ false = ap (λ k. r == k) (sym is) ∙ neither_left (r == s) (list_any (λ x. r == x) rs) others in
        let first : is_the before m ≡ false = ap (is_the before) (sym is) ∙ neither_left (is_the before s) (list_any (is_the before) rs) aside in
        sym (λ i. option_map (with_earlier before) (cond (first i) (option_map (with_later (Some s)) (cond (other i) None (cond (other i) (Some own) old))) (cond (other i) None (cond (other i) (Some own) old))))

-- the links without one: what it was linked to is linked to one another
pub unlinked : (before : Option ℕ) (rs : List ℕ) (n : ℕ) (link : RequestLinks) → AreOnce rs
    → list_any (is_the before) rs ≡ false → link_in before rs n ≡ Some link
    → (m : ℕ)
    → link_in before (filter (λ r. not (n == r)) rs) m
    ≡ relinked n link.earlier link.later m (link_in before rs m)
unlinked before [] n link once aside there m = absurd (none_some there)
unlinked before (r ∷ rs) n link once aside there m = by (r == n) refl there (unlinked (Some r) rs n link once.1 once.0)
  where
    own : RequestLinks
    own = record { earlier = before; later = slice_get rs 0 }

    left : List ℕ
    left = filter (λ s. not (n == s)) rs

    by : (a : Bool) → (r == n) ≡ a → cond a (Some own) (link_in (Some r) rs n) ≡ Some link
        → (link_in (Some r) rs n ≡ Some link → (k : ℕ) → link_in (Some r) left k
        ≡ relinked n link.earlier link.later k (link_in (Some r) rs k))
        → link_in before (filter (λ s. not (n == s)) (r ∷ rs)) m
        ≡ relinked n link.earlier link.later m (cond (r == m) (Some own) (link_in (Some r) rs m))
    by true e f more =
        let is : own ≡ link = same_Some _ _ f in
        let same : r ≡ n = eqb-true r n e in
        ap (λ xs. link_in before xs m) (without_first r n rs same once.0)
        ∙ first_leaves before r rs m own once.1 once.0 (neither_right (is_the before r) (list_any (is_the before) rs) aside)
        ∙ (λ i. relinked (same i) (is i).earlier (is i).later m (cond (r == m) (Some own) (link_in (Some r) rs m)))
    by false e f more =
        ap (λ xs. link_in before xs m) (without_other r n rs e) ∙ at (r == m) refl
      where
        at : (b : Bool) → (r == m) ≡ b
            → cond b (Some (record { earlier = before; later = slice_get left 0 })) (link_in (Some r) left m)
            ≡ relinked n link.earlier link.later m (cond b (Some own) (link_in (Some r) rs m))
        at false g = more f m
        at true g =
            let is : r ≡ m = eqb-true r m g in
            let other : (n == m) ≡ false = ap (λ k. n == k) (sym is) ∙ turned n r e in
            let later : is_the link.later m ≡ false = ap (is_the link.later) (sym is) ∙ later_other (Some r) rs n link r f once.0 in
            let next : slice_get left 0 ≡ cond (is_the link.earlier m) link.later (slice_get rs 0) = next_without r rs n link once.0 once.1 f ∙ ap (λ k. cond (is_the link.earlier k) link.later (slice_get rs 0)) is in
            ap (λ o. Some (record { earlier = before; later = o })) next
            ∙ told (is_the link.earlier m)
            ∙ sym (λ i. cond (later i) (option_map (with_earlier link.earlier) (cond (is_the link.earlier m) (option_map (with_later link.later) (cond (other i) None (Some own))) (cond (other i) None (Some own)))) (cond (is_the link.earlier m) (option_map (with_later link.later) (cond (other i) None (Some own))) (cond (other i) None (Some own))))
          where
            told : (d : Bool)
                → Some (record { earlier = before; later = cond d link.later (slice_get rs 0) })
                ≡ cond d (option_map (with_later link.later) (Some own)) (Some own)
            told true = refl
            told false = refl

-- without one each stands once
pub once_without : (rs : List ℕ) (n : ℕ) → AreOnce rs → AreOnce (filter (λ r. not (n == r)) rs)
once_without [] n once = tt
once_without (r ∷ rs) n once = by (n == r) (once_without rs n once.1)
  where
    still : (xs : List ℕ) → list_any (λ s. r == s) xs ≡ false
        → list_any (λ s. r == s) (filter (λ s. not (n == s)) xs) ≡ false
    still [] none = refl
    still (x ∷ xs) none = at (n == x) (still xs (neither_right (r == x) (list_any (λ s. r == s) xs) none))
      where
        at : (b : Bool) → list_any (λ s. r == s) (filter (λ s. not (n == s)) xs) ≡ false
            → list_any (λ s. r == s) (cond (not b) (x ∷ filter (λ s. not (n == s)) xs) (filter (λ s. not (n == s)) xs)) ≡ false
        at true more = more
        at false more = ap (λ b. b || list_any (λ s. r == s) (filter (λ s. not (n == s)) xs)) (neither_left (r == x) (list_any (λ s. r == s) xs) none) ∙ more

    by : (b : Bool) → AreOnce (filter (λ s. not (n == s)) rs)
        → AreOnce (cond (not b) (r ∷ filter (λ s. not (n == s)) rs) (filter (λ s. not (n == s)) rs))
    by true more = more
    by false more = (still rs once.0, more)

-- without one there is one less
pub length_without : (rs : List ℕ) (n : ℕ) → AreOnce rs → list_any (λ r. n == r) rs ≡ true
    → suc (length (filter (λ r. not (n == r)) rs)) ≡ length rs
length_without [] n once among = absurd (apart among)
length_without (r ∷ rs) n once among = by (n == r) refl among (length_without rs n once.1)
  where
    rest : List ℕ
    rest = filter (λ s. not (n == s)) rs

    by : (a : Bool) → (n == r) ≡ a → (a || list_any (λ s. n == s) rs) ≡ true
        → (list_any (λ s. n == s) rs ≡ true → suc (length rest) ≡ length rs)
        → suc (length (cond (not a) (r ∷ rest) rest)) ≡ suc (length rs)
    by true e f more =
        ap (λ xs. suc (length xs)) (all_stay rs n (subst (λ k. list_any (λ s. k == s) rs ≡ false) (sym (eqb-true n r e)) once.0))
    by false e f more = ap suc (more f)

-- the first and the last without one
pub first_without : (rs : List ℕ) (n : ℕ) (link : RequestLinks) → AreOnce rs → link_in None rs n ≡ Some link
    → slice_get (filter (λ r. not (n == r)) rs) 0
    ≡ cond (is_some link.earlier) (slice_get rs 0) link.later
first_without [] n link once there = absurd (none_some there)
first_without (r ∷ rs) n link once there = by (r == n) refl there
  where
    by : (a : Bool) → (r == n) ≡ a
        → cond a (Some (record { earlier = None; later = slice_get rs 0 })) (link_in (Some r) rs n)
        ≡ Some link
        → slice_get (filter (λ s. not (n == s)) (r ∷ rs)) 0
        ≡ cond (is_some link.earlier) (Some r) link.later
    by true e f =
        ap (λ xs. slice_get xs 0) (without_first r n rs (eqb-true r n e) once.0)
        ∙ ap (λ (k : RequestLinks). cond (is_some k.earlier) (Some r) k.later) (same_Some _ _ f)
    by false e f =
        ap (λ xs. slice_get xs 0) (without_other r n rs e)
        ∙ sym (ap (λ b. cond b (Some r) link.later) (has_earlier r rs n link f))

pub last_without : (before : Option ℕ) (rs : List ℕ) (n : ℕ) (link : RequestLinks) → AreOnce rs
    → link_in before rs n ≡ Some link
    → last_of before (filter (λ r. not (n == r)) rs)
    ≡ cond (is_some link.later) (last_of before rs) link.earlier
last_without before [] n link once there = absurd (none_some there)
last_without before (r ∷ rs) n link once there = by (r == n) refl there (last_without (Some r) rs n link once.1)
  where
    behind : (xs : List ℕ) → last_of before xs ≡ cond (is_some (slice_get xs 0)) (last_of (Some r) xs) before
    behind [] = refl
    behind (x ∷ xs) = refl

    by : (a : Bool) → (r == n) ≡ a
        → cond a (Some (record { earlier = before; later = slice_get rs 0 })) (link_in (Some r) rs n)
        ≡ Some link
        → (link_in (Some r) rs n ≡ Some link → last_of (Some r) (filter (λ s. not (n == s)) rs)
        ≡ cond (is_some link.later) (last_of (Some r) rs) link.earlier)
        → last_of before (filter (λ s. not (n == s)) (r ∷ rs))
        ≡ cond (is_some link.later) (last_of (Some r) rs) link.earlier
    by true e f more =
        ap (last_of before) (without_first r n rs (eqb-true r n e) once.0) ∙ behind rs
        ∙ ap (λ (k : RequestLinks). cond (is_some k.later) (last_of (Some r) rs) k.earlier) (same_Some _ _ f)
    by false e f more = ap (last_of before) (without_other r n rs e) ∙ more f

-- ---- one after the other

-- what stands at a place is among them
pub among_at : (rs : List ℕ) (i n m : ℕ) → slice_get rs i ≡ Some n → list_any (λ r. m == r) rs ≡ false
    → (m == n) ≡ false
among_at [] i n m at none = absurd (none_some at)
among_at (r ∷ rs) zero n m at none =
    ap (λ k. m == k) (sym (same_Some _ _ at)) ∙ neither_left (m == r) (list_any (λ s. m == s) rs) none
among_at (r ∷ rs) (suc i) n m at none =
    among_at rs i n m at (neither_right (m == r) (list_any (λ s. m == s) rs) none)

-- the request behind the one at a place stands at the next place
pub later_at : (before : Option ℕ) (rs : List ℕ) (i n : ℕ) → AreOnce rs → slice_get rs i ≡ Some n
    → option_and_then (λ (k : RequestLinks). k.later) (link_in before rs n) ≡ slice_get rs (suc i)
later_at before [] i n once at = absurd (none_some at)
later_at before (r ∷ rs) zero n once at =
    ap (λ b. option_and_then (λ (k : RequestLinks). k.later) (cond b (Some (record { earlier = before; later = slice_get rs 0 })) (link_in (Some r) rs n))) (eq-eqb r n (same_Some _ _ at))
later_at before (r ∷ rs) (suc i) n once at =
    ap (λ b. option_and_then (λ (k : RequestLinks). k.later) (cond b (Some (record { earlier = before; later = slice_get rs 0 })) (link_in (Some r) rs n))) (among_at rs i n r at once.0)
    ∙ later_at (Some r) rs i n once.1 at

-- so many of them and the next one
pub take_next : (rs : List ℕ) (i k n : ℕ) → k ≡ suc i → slice_get rs i ≡ Some n
    → take k rs ≡ take i rs ++ n ∷ []
take_next rs i k n next at = ap (λ j. take j rs) next ∙ more rs i at
  where
    more : (xs : List ℕ) (j : ℕ) → slice_get xs j ≡ Some n → take (suc j) xs ≡ take j xs ++ n ∷ []
    more [] j f = absurd (none_some f)
    more (x ∷ xs) zero f = ap (λ y. y ∷ []) (same_Some _ _ f)
    more (x ∷ xs) (suc j) f = ap (λ ys. x ∷ ys) (more xs j f)

-- past the last of them there is none
pub take_whole : (rs : List ℕ) (i : ℕ) → slice_get rs i ≡ None → take i rs ≡ rs
take_whole [] zero past = refl
take_whole [] (suc i) past = refl
take_whole (r ∷ rs) zero past = absurd (none_some (sym past))
take_whole (r ∷ rs) (suc i) past = ap (λ xs. r ∷ xs) (take_whole rs i past)
