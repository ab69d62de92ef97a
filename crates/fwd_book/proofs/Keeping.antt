-- What a book keeps goes on as its definition does.
use Rattle.std.proofs.Common.{arith, ◌≡◌, ◌≤◌, ◌<◌, ◌+◌, ◌-◌, ℕ, Bool, true, false, cond, Option, Some, None, List, [], ◌∷◌, ◌++◌, length, refl, sym, ap, subst, ◌∙◌}
use Rattle.std.specs.Prelude.{filter, drop, not, ◌||◌, ◌==◌, is_some, nat_lt, if◌then◌else◌}
use Rattle.std.specs.Option.{option_or}
use Rattle.std.specs.List.{list_any, list_all, flat_map}
use Rattle.std.proofs.lemmas.Bool.{eqb-true, le-ltb, ltb-false, ltb-true}
use Rattle.std.proofs.lemmas.List.{length-append, length-drop}
use Rattle.std.proofs.lemmas.List.Elements.{filter-append}
use Rattle.fwd_modes.specs.declared.origin.Origin.{Origin}
use Rattle.fwd_chunks.specs.declared.span.Span.{Span}
use Rattle.fwd_modes.specs.Requests.{Request}
use Rattle.fwd_session.specs.ServerAcks.{ServerAck}
use Rattle.fwd_chunks.specs.Spans.{AreCutBy}
use Rattle.fwd_book.specs.History.{BookSetting, Entered, is_origin, is_among, request_at, evidence_of, is_settled, has_run, are_fresh}
use Rattle.fwd_book.specs.Receipts.{part_of, parts_of, once}
use Rattle.fwd_book.specs.Live.{LiveBook, found_under, found_for, evidence_for, live_left, live_leaves, AreApart}
use Rattle.fwd_book.specs.ChunkRefs.{ChunkRef, note_at, uses_in, found_in, found_at, used_more, used_less, put_in, uses_of, AreOf, HasRoom, live_of}
use Rattle.fwd_book.proofs.Facts.{apart, none_some, is_not, or-false, origin-is, any_none, find_none, filter_none}
use Rattle.fwd_book.proofs.Found.{for-alike, for-found, for-none, under-alike, numbered}
use Rattle.fwd_book.proofs.Sound.{find_left}
use Rattle.fwd_book.proofs.Following.{any-last, left-found, none-found, enters-found, kept-then, any-filter}
use Rattle.std.proofs.lemmas.Option.{same_Some}

-- ---- counts

some-many : {X : Type 0} (p : X → Bool) (xs : List X) → list_any p xs ≡ true
    → 0 < length (filter p xs)
some-many p [] some = absurd (apart some)
some-many p (x ∷ xs) some = by (p x) some (some-many p xs)
  where
    by : (a : Bool) → (a || list_any p xs) ≡ true
        → (list_any p xs ≡ true → 0 < length (filter p xs))
        → 0 < length (cond a (x ∷ filter p xs) (filter p xs))
    by true e more = omega arith
    by false e more = more e

none-nought : {X : Type 0} (p : X → Bool) (xs : List X) → list_any p xs ≡ false
    → length (filter p xs) ≡ 0
none-nought p [] none = refl
none-nought p (x ∷ xs) none = by (p x) none (none-nought p xs)
  where
    by : (a : Bool) → (a || list_any p xs) ≡ false
        → (list_any p xs ≡ false → length (filter p xs) ≡ 0)
        → length (cond a (x ∷ filter p xs) (filter p xs)) ≡ 0
    by true e more = absurd (apart (sym e))
    by false e more = more e

-- ---- room

-- no more runs than entries
pub cut-few : (spans : List Span) (own : List (List ℕ)) → AreCutBy spans own
    → length spans ≤ length own
cut-few [] own cut = omega arith
cut-few (s ∷ spans) own cut =
    let some = cut.0 in
    let within = cut.1 in
    let rest = cut-few spans (drop s.count own) cut.2 in
    let left = length-drop s.count own in
    omega (arith, some, within, rest, left)

pub filter-few : {X : Type 0} (p : X → Bool) (xs : List X) → length (filter p xs) ≤ length xs
filter-few p [] = omega arith
filter-few p (x ∷ xs) = by (p x) (filter-few p xs)
  where
    by : (a : Bool) → length (filter p xs) ≤ length xs
        → length (cond a (x ∷ filter p xs) (filter p xs)) ≤ length (x ∷ xs)
    by true more = omega (arith, more)
    by false more = omega (arith, more)

-- more room is room
pub room-more : (r : Option Request) {a b c d : ℕ} → HasRoom r a b → a ≤ c → b ≤ d → HasRoom r c d
room-more None room places numbers = tt
room-more (Some r) room places numbers = (let here = room.0 in omega (arith, here, places), let here = room.1 in omega (arith, here, numbers))

-- ---- the notes of requests

module _ (notes : List (ℕ × ChunkRef)) (qs : List Entered) (of : AreOf notes qs) where
  -- what is found by the notes is found in what the book shows
  pub shown-found : (n : ℕ) → evidence_of (found_for (found_at notes) qs) n ≡ found_at notes n
  shown-found n = by (list_any (has_run n) qs) refl
    where
      unused : (o : Option ChunkRef) → note_at n notes ≡ o → list_any (has_run n) qs ≡ false
          → found_in o ≡ None
      unused None is none = refl
      unused (Some note) is none =
          let uses : note.uses ≡ 0 = ap uses_in (sym is) ∙ of.uses n ∙ none-nought (has_run n) qs none in
          let used : 0 < note.uses = of.used n note is in
          absurd (omega (arith, uses, used))

      by : (a : Bool) → list_any (has_run n) qs ≡ a
          → evidence_of (found_for (found_at notes) qs) n ≡ found_at notes n
      by true some = for-found (found_at notes) qs n of.numbers some
      by false none = for-none (found_at notes) qs n of.numbers none ∙ sym (unused (note_at n notes) refl none)

  -- a number that some request has is noted
  pub used-noted : (n : ℕ) → list_any (has_run n) qs ≡ true
      → (note : ChunkRef) × (note_at n notes ≡ Some note)
  used-noted n some = by (note_at n notes) refl
    where
      by : (o : Option ChunkRef) → note_at n notes ≡ o → (note : ChunkRef) × (note_at n notes ≡ Some note)
      by None is =
          let uses : 0 ≡ length (filter (has_run n) qs) = ap uses_in (sym is) ∙ of.uses n in
          let many : 0 < length (filter (has_run n) qs) = some-many (has_run n) qs some in
          absurd (omega (arith, uses, many))
      by (Some note) is = (note, is)

-- ---- a chunk is acknowledged

module _ (notes new : List (ℕ × ChunkRef)) (qs : List Entered) (e : ServerAck) (of : AreOf notes qs)
    (put : (n : ℕ) → note_at n new ≡ cond (e.number == n) (put_in e (note_at e.number notes)) (note_at n notes)) where
  put-uses : (o : Option ChunkRef) → uses_in (put_in e o) ≡ uses_in o
  put-uses None = refl
  put-uses (Some note) = refl

  put-used : (o : Option ChunkRef) (note : ChunkRef) → put_in e o ≡ Some note
      → (m : ChunkRef) × (o ≡ Some m) × (note.uses ≡ m.uses)
  put-used None note is = absurd (none_some is)
  put-used (Some m) note is = (m, refl, ap (λ (k : ChunkRef). k.uses) (sym (same_Some _ _ is)))

  put-found : (o : Option ChunkRef) (d : ServerAck) → found_in (put_in e o) ≡ Some d
      → (found_in o ≡ Some d → d.number ≡ e.number) → d.number ≡ e.number
  put-found None d is more = absurd (none_some is)
  put-found (Some m) d is more = by m.found is more
    where
      by : (o : Option ServerAck) → (if is_some o then o else Some e) ≡ Some d
          → (o ≡ Some d → d.number ≡ e.number) → d.number ≡ e.number
      by None f g = ap (λ (x : ServerAck). x.number) (sym (same_Some _ _ f))
      by (Some x) f g = g f

  pub put-of : AreOf new qs
  put-of = record {
    uses = λ n. uses n (e.number == n) refl;
    used = λ n note is. used n note (e.number == n) refl (sym (put n) ∙ is);
    numbers = λ n d is. numbers n d (e.number == n) refl (ap found_in (sym (put n)) ∙ is);
  }
    where
      uses : (n : ℕ) (a : Bool) → (e.number == n) ≡ a → uses_in (note_at n new) ≡ uses_of n qs
      uses n true same =
          ap uses_in (put n ∙ ap (λ a. cond a (put_in e (note_at e.number notes)) (note_at n notes)) same)
          ∙ put-uses (note_at e.number notes) ∙ ap (λ k. uses_in (note_at k notes)) (eqb-true e.number n same) ∙ of.uses n
      uses n false same =
          ap uses_in (put n ∙ ap (λ a. cond a (put_in e (note_at e.number notes)) (note_at n notes)) same) ∙ of.uses n

      used : (n : ℕ) (note : ChunkRef) (a : Bool) → (e.number == n) ≡ a
          → cond (e.number == n) (put_in e (note_at e.number notes)) (note_at n notes) ≡ Some note
          → 0 < note.uses
      used n note true same is =
          let was = put-used (note_at e.number notes) note (sym (ap (λ a. cond a (put_in e (note_at e.number notes)) (note_at n notes)) same) ∙ is) in
          subst (λ k. 0 < k) (sym was.2) (of.used e.number was.0 was.1)
      used n note false same is = of.used n note (sym (ap (λ a. cond a (put_in e (note_at e.number notes)) (note_at n notes)) same) ∙ is)

      numbers : (n : ℕ) (d : ServerAck) (a : Bool) → (e.number == n) ≡ a
          → found_in
          (cond (e.number == n) (put_in e (note_at e.number notes)) (note_at n notes)) ≡ Some d
          → d.number ≡ n
      numbers n d true same is =
          put-found (note_at e.number notes) d (sym (ap (λ a. found_in (cond a (put_in e (note_at e.number notes)) (note_at n notes))) same) ∙ is) (of.numbers e.number d)
          ∙ eqb-true e.number n same
      numbers n d false same is = of.numbers n d (sym (ap (λ a. found_in (cond a (put_in e (note_at e.number notes)) (note_at n notes))) same) ∙ is)

  pub put-shown : found_for (found_at new) qs ≡ evidence_for qs
      (found_for (found_at notes) qs ++ e ∷ [])
  put-shown = for-alike (found_at new) (evidence_of (found_for (found_at notes) qs ++ e ∷ [])) qs (λ n some. alike n some ∙ sym (kept-then (found_at notes) qs e n of.numbers some))
    where
      first : (note : ChunkRef) → found_in (put_in e (Some note)) ≡ option_or note.found (Some e)
      first note = by note.found
        where
          by : (o : Option ServerAck) → (if is_some o then o else Some e) ≡ option_or o (Some e)
          by None = refl
          by (Some x) = refl

      or_none : (o : Option ServerAck) → o ≡ option_or o None
      or_none None = refl
      or_none (Some x) = refl

      alike : (n : ℕ) → list_any (has_run n) qs ≡ true
          → found_at new n ≡ option_or (found_at notes n) (cond (e.number == n) (Some e) None)
      alike n some = by (e.number == n) refl (used-noted notes qs of n some)
        where
          by : (a : Bool) → (e.number == n) ≡ a → (note : ChunkRef) × (note_at n notes ≡ Some note)
              → found_at new n ≡ option_or (found_at notes n) (cond (e.number == n) (Some e) None)
          by true same (note, is) =
              ap found_in (put n ∙ ap (λ a. cond a (put_in e (note_at e.number notes)) (note_at n notes)) same ∙ ap (λ k. put_in e (note_at k notes)) (eqb-true e.number n same) ∙ ap (put_in e) is)
              ∙ first note
              ∙ (λ i. option_or (found_in (sym is i)) (cond (sym same i) (Some e) None))
          by false same (note, is) =
              ap found_in (put n ∙ ap (λ a. cond a (put_in e (note_at e.number notes)) (note_at n notes)) same)
              ∙ or_none (found_at notes n)
              ∙ ap (λ a. option_or (found_at notes n) (cond a (Some e) None)) (sym same)

-- ---- a request is entered

module _ (notes new : List (ℕ × ChunkRef)) (qs : List Entered) (q : Entered) (of : AreOf notes qs)
    (more : (n : ℕ) → note_at n new ≡ cond (list_any (λ s. s.number == n) q.spans) (Some (used_more (note_at n notes))) (note_at n notes)) where
  more-uses : (o : Option ChunkRef) → uses_in (Some (used_more o)) ≡ uses_in o + 1
  more-uses None = refl
  more-uses (Some note) = refl

  found-more : (o : Option ChunkRef) → found_in (Some (used_more o)) ≡ found_in o
  found-more None = refl
  found-more (Some note) = refl

  -- what is found stays
  more-found : (n : ℕ) → found_at new n ≡ found_at notes n
  more-found n = ap found_in (more n) ∙ by (list_any (λ s. s.number == n) q.spans)
    where
      by : (a : Bool)
          → found_in (cond a (Some (used_more (note_at n notes))) (note_at n notes)) ≡ found_in
          (note_at n notes)
      by true = found-more (note_at n notes)
      by false = refl

  uses-behind : (n : ℕ) → uses_of n (qs ++ q ∷ []) ≡ uses_of n qs + (if has_run n q then 1 else 0)
  uses-behind n = ap length (filter-append (has_run n) qs (q ∷ [])) ∙ length-append (filter (has_run n) qs) (filter (has_run n) (q ∷ [])) ∙ ap (λ k. uses_of n qs + k) (by (has_run n q))
    where
      by : (a : Bool) → length (cond a (q ∷ []) []) ≡ (if a then 1 else 0)
      by true = refl
      by false = refl

  pub more-of : AreOf new (qs ++ q ∷ [])
  more-of = record {
    uses = λ n. ap uses_in (more n) ∙ uses n (has_run n q) ∙ sym (uses-behind n);
    used = λ n note is. used n note (list_any (λ s. s.number == n) q.spans) (sym (more n) ∙ is);
    numbers = λ n d is. of.numbers n d (sym (more-found n) ∙ is);
  }
    where
      uses : (n : ℕ) (a : Bool)
          → uses_in (cond a (Some (used_more (note_at n notes))) (note_at n notes)) ≡ uses_of n qs +
          (if a then 1 else 0)
      uses n true = more-uses (note_at n notes) ∙ ap (λ k. k + 1) (of.uses n)
      uses n false = of.uses n ∙ omega arith

      positive : (o : Option ChunkRef) (note : ChunkRef) → Some (used_more o) ≡ Some note → 0 < note.uses
      positive o note is = let many : note.uses ≡ uses_in o + 1 = ap uses_in (sym is) ∙ more-uses o in omega (arith, many)

      used : (n : ℕ) (note : ChunkRef) (a : Bool)
          → cond a (Some (used_more (note_at n notes))) (note_at n notes) ≡ Some note
          → 0 < note.uses
      used n note true is = positive (note_at n notes) note is
      used n note false is = of.used n note is

  -- where none of its numbers was acknowledged, nothing is shown for it
  pub more-shown : are_fresh (found_for (found_at notes) qs) q.spans ≡ true
      → found_for (found_at new) (qs ++ q ∷ []) ≡ found_for (found_at notes) qs
  more-shown fresh =
      let settled : List ServerAck = found_for (found_at notes) qs in
      let none : found_under (found_at notes) q.spans ≡ [] =
      under-alike (found_at notes) (evidence_of settled) q.spans (λ n some. sym (shown-found notes qs of n))
      ∙ none-found q.spans settled (is_not (list_any (λ e. has_run e.number q) settled) fresh) in
      for-alike (found_at new) (found_at notes) (qs ++ q ∷ []) (λ n some. more-found n) ∙ enters-found (found_at notes) qs q none

-- ---- a request leaves

-- where a request has an origin, no other has it
alone-there : (qs : List Entered) (o p : Origin) → is_origin o p ≡ true → request_at qs p ≡ None
    → list_any (λ r. is_origin o r.origin) qs ≡ false
alone-there qs o p same none = any_none (λ r. is_origin o r.origin) qs (find-as qs ∙ none)
  where
    find-as : (rs : List Entered) → request_at rs o ≡ request_at rs p
    find-as [] = refl
    find-as (r ∷ rs) = λ i. cond (is_origin (sym (origin-is o p same) i) r.origin) (Some r) (find-as rs i)

module _ (n : ℕ) (o : Origin) (q : Entered) where
  pub uses-left : (qs : List Entered) → AreApart qs → request_at qs o ≡ Some q
      → uses_of n qs ≡ uses_of n (filter (λ r. not (is_origin o r.origin)) qs) +
      (if has_run n q then 1 else 0)
  uses-left [] alone there = absurd (none_some there)
  uses-left (r ∷ qs) alone there = by (is_origin o r.origin) refl there (uses-left qs alone.1)
    where
      left : List Entered
      left = filter (λ x. not (is_origin o x.origin)) qs

      front : (a : Bool) (xs : List Entered)
          → length (cond a (r ∷ xs) xs) ≡ length xs + (if a then 1 else 0)
      front true xs = omega arith
      front false xs = omega arith

      by : (a : Bool) → is_origin o r.origin ≡ a → cond a (Some r) (request_at qs o) ≡ Some q
          →
          (request_at qs o ≡ Some q → uses_of n qs
          ≡ uses_of n left + (if has_run n q then 1 else 0))
          → uses_of n (r ∷ qs) ≡ uses_of n (cond (not a) (r ∷ left) left) +
          (if has_run n q then 1 else 0)
      by true same is more =
          front (has_run n r) (filter (has_run n) qs)
          ∙ (λ i. length (filter (has_run n) (sym (filter_none (λ x. is_origin o x.origin) qs (alone-there qs o r.origin same alone.0)) i)) + (if has_run n (same_Some _ _ is i) then 1 else 0))
      by false same is more =
          let one = front (has_run n r) (filter (has_run n) qs) in
          let two = front (has_run n r) (filter (has_run n) left) in
          let rest = more is in
          omega (arith, one, two, rest)

module _ (notes new : List (ℕ × ChunkRef)) (qs : List Entered) (o : Origin) (q : Entered) (of : AreOf notes qs)
    (alone : AreApart qs) (there : request_at qs o ≡ Some q)
    (less : (n : ℕ) → note_at n new ≡ cond (list_any (λ s. s.number == n) q.spans) (used_less (note_at n notes)) (note_at n notes)) where
  abbrev left : List Entered
  left = filter (λ r. not (is_origin o r.origin)) qs

  less-some : (m : ChunkRef) (a : Bool) → nat_lt m.uses 2 ≡ a
      → used_less (Some m) ≡ cond a None (Some (record m { uses = m.uses - 1 }))
  less-some m a is = ap (λ b. cond b None (Some (record m { uses = m.uses - 1 }))) is

  less-uses : (k : Option ChunkRef) → uses_in (used_less k) ≡ uses_in k - 1
  less-uses None = omega arith
  less-uses (Some m) = by (nat_lt m.uses 2) refl
    where
      by : (a : Bool) → nat_lt m.uses 2 ≡ a → uses_in (used_less (Some m)) ≡ m.uses - 1
      by true few = ap uses_in (less-some m true few) ∙ (let less_than = ltb-true m.uses 2 few in omega (arith, less_than))
      by false few = ap uses_in (less-some m false few)

  less-used : (k : Option ChunkRef) (note : ChunkRef) → used_less k ≡ Some note → 0 < note.uses
  less-used None note is = absurd (none_some is)
  less-used (Some m) note is = by (nat_lt m.uses 2) refl
    where
      by : (a : Bool) → nat_lt m.uses 2 ≡ a → 0 < note.uses
      by true few = absurd (none_some (sym (less-some m true few) ∙ is))
      by false few =
          let many : 2 ≤ m.uses = ltb-false m.uses 2 few in
          let same : m.uses - 1 ≡ note.uses = ap uses_in (sym (less-some m false few) ∙ is) in
          omega (arith, many, same)

  less-found : (k : Option ChunkRef) (d : ServerAck) → found_in (used_less k) ≡ Some d
      → found_in k ≡ Some d
  less-found None d is = is
  less-found (Some m) d is = by (nat_lt m.uses 2) refl
    where
      by : (a : Bool) → nat_lt m.uses 2 ≡ a → m.found ≡ Some d
      by true few = absurd (none_some (ap found_in (sym (less-some m true few)) ∙ is))
      by false few = ap found_in (sym (less-some m false few)) ∙ is

  pub less-of : AreOf new left
  less-of = record {
    uses = λ n. ap uses_in (less n) ∙ uses n (has_run n q) (uses-left n o q qs alone there);
    used = λ n note is. used n note (list_any (λ s. s.number == n) q.spans) (sym (less n) ∙ is);
    numbers = λ n d is. numbers n d (list_any (λ s. s.number == n) q.spans) (ap found_in (sym (less n)) ∙ is);
  }
    where
      uses : (n : ℕ) (a : Bool) → uses_of n qs ≡ uses_of n left + (if a then 1 else 0)
          → uses_in (cond a (used_less (note_at n notes)) (note_at n notes)) ≡ uses_of n left
      uses n true is = let one = less-uses (note_at n notes) in let all = of.uses n in omega (arith, one, all, is)
      uses n false is = let all = of.uses n in omega (arith, all, is)

      used : (n : ℕ) (note : ChunkRef) (a : Bool)
          → cond a (used_less (note_at n notes)) (note_at n notes) ≡ Some note → 0 < note.uses
      used n note true is = less-used (note_at n notes) note is
      used n note false is = of.used n note is

      numbers : (n : ℕ) (d : ServerAck) (a : Bool)
          → found_in (cond a (used_less (note_at n notes)) (note_at n notes)) ≡ Some d
          → d.number ≡ n
      numbers n d true is = of.numbers n d (less-found (note_at n notes) d is)
      numbers n d false is = of.numbers n d is

  pub less-shown : found_for (found_at new) left ≡ evidence_for left (found_for (found_at notes) qs)
  less-shown = for-alike (found_at new) (evidence_of (found_for (found_at notes) qs)) left (λ n some. ap found_in (less n) ∙ alike n some (has_run n q) refl (used-noted notes qs of n (any-filter (λ r. not (is_origin o r.origin)) (has_run n) qs some)) ∙ sym (shown-found notes qs of n))
    where
      alike : (n : ℕ) → list_any (has_run n) left ≡ true → (a : Bool) → has_run n q ≡ a
          → (m : ChunkRef) × (note_at n notes ≡ Some m)
          → found_in (cond a (used_less (note_at n notes)) (note_at n notes)) ≡ found_at notes n
      alike n some true has (m, is) =
          let many : 0 < uses_of n left = some-many (has_run n) left some in
          let all : uses_of n qs ≡ uses_of n left + 1 = uses-left n o q qs alone there ∙ ap (λ a. uses_of n left + (if a then 1 else 0)) has in
          let uses : m.uses ≡ uses_of n qs = ap uses_in (sym is) ∙ of.uses n in
          let two : 2 ≤ m.uses = omega (arith, many, all, uses) in
          ap (λ k. found_in (used_less k)) is ∙ ap found_in (less-some m false (le-ltb m.uses 2 two)) ∙ ap found_in (sym is)
      alike n some false has noted = refl

-- ---- requests of one origin

pub among-one : (qs : List Entered) (o : Origin)
    → filter (λ q. not (is_among (o ∷ []) q.origin)) qs ≡ filter
    (λ q. not (is_origin o q.origin)) qs
among-one [] o = refl
among-one (q ∷ qs) o = λ i. cond (not (or-false (is_origin o q.origin) i)) (q ∷ among-one qs o i) (among-one qs o i)

-- where no request has the origin, nothing leaves
pub none-leaves : (setting : BookSetting) (notes : List (ℕ × ChunkRef)) (qs : List Entered) (o : Origin)
    → AreOf notes qs
    → request_at qs o ≡ None
    → live_of setting qs notes ≡ live_leaves (live_of setting qs notes) (o ∷ [])
none-leaves setting notes qs o of none =
    let stays : qs ≡ filter (λ q. not (is_among (o ∷ []) q.origin)) qs = sym (among-one qs o ∙ filter_none (λ q. is_origin o q.origin) qs (any_none (λ q. is_origin o q.origin) qs none)) in
    let settled : List ServerAck = found_for (found_at notes) qs in
    let same : settled ≡ evidence_for qs settled = for-alike (found_at notes) (evidence_of settled) qs (λ n some. sym (shown-found notes qs of n)) in
    λ i. record { setting = setting; requests = stays i; settled = (same ∙ ap (λ rs. evidence_for rs settled) stays) i }

-- ---- requests of one origin after the other

pub leaves-then : (b : LiveBook) (xs : List Origin) (o : Origin)
    → live_leaves (live_leaves b xs) (o ∷ []) ≡ live_leaves b (xs ++ o ∷ [])
leaves-then b xs o =
    let first : List Entered = live_left b xs in
    let both : live_left (live_leaves b xs) (o ∷ []) ≡ live_left b (xs ++ o ∷ []) = each b.requests in
    let same : evidence_for (live_left (live_leaves b xs) (o ∷ [])) (evidence_for first b.settled) ≡ evidence_for (live_left (live_leaves b xs) (o ∷ [])) b.settled =
    sym (left-found (evidence_of b.settled) first (λ q. not (is_among (o ∷ []) q.origin)) (numbered b.settled)) in
    λ i. record { setting = b.setting; requests = both i; settled = (same ∙ ap (λ qs. evidence_for qs b.settled) both) i }
  where
    each : (qs : List Entered)
        → filter (λ q. not (is_among (o ∷ []) q.origin))
        (filter (λ q. not (is_among xs q.origin)) qs) ≡ filter
        (λ q. not (is_among (xs ++ o ∷ []) q.origin)) qs
    each [] = refl
    each (q ∷ qs) = by (is_among xs q.origin) (each qs) (any-last (λ p. is_origin p q.origin) xs o)
      where
        rest : List Entered
        rest = filter (λ r. not (is_among xs r.origin)) qs

        all : List Entered
        all = filter (λ r. not (is_among (xs ++ o ∷ []) r.origin)) qs

        by : (a : Bool) → filter (λ r. not (is_among (o ∷ []) r.origin)) rest ≡ all
            → is_among (xs ++ o ∷ []) q.origin ≡ (a || is_origin o q.origin)
            → filter (λ r. not (is_among (o ∷ []) r.origin)) (cond (not a) (q ∷ rest) rest) ≡ cond
            (not (is_among (xs ++ o ∷ []) q.origin)) (q ∷ all) all
        by true more is = more ∙ ap (λ d. cond (not d) (q ∷ all) all) (sym is)
        by false more is = λ i. cond (not ((or-false (is_origin o q.origin) ∙ sym is) i)) (q ∷ more i) (more i)

pub owed-then : (qs : List Entered) (xs : List Origin) (o : Origin) → AreApart qs
    → length (filter (λ q. is_among (xs ++ o ∷ []) q.origin) qs)
    ≡ length (filter (λ q. is_among xs q.origin) qs) +
    (if is_some (request_at (filter (λ q. not (is_among xs q.origin)) qs) o) then 1 else 0)
owed-then [] xs o alone = refl
owed-then (q ∷ qs) xs o alone = by (is_among xs q.origin) (is_origin o q.origin) refl refl (any-last (λ p. is_origin p q.origin) xs o) (owed-then qs xs o alone.1)
  where
    left : List Entered
    left = filter (λ r. not (is_among xs r.origin)) qs

    count : ℕ
    count = length (filter (λ r. is_among xs r.origin) qs)

    all : ℕ
    all = length (filter (λ r. is_among (xs ++ o ∷ []) r.origin) qs)

    one : Option Entered → ℕ
    one k = if is_some k then 1 else 0

    bit : Bool → ℕ
    bit d = if d then 1 else 0

    step : (d : Bool) (p : Entered → Bool)
        → length (cond d (q ∷ filter p qs) (filter p qs)) ≡ length (filter p qs) + bit d
    step true p = omega arith
    step false p = omega arith

    gone : is_origin o q.origin ≡ true → request_at left o ≡ None
    gone same = find_left (λ r. is_origin o r.origin) (λ r. not (is_among xs r.origin)) qs (find_none (λ r. is_origin o r.origin) qs (alone-there qs o q.origin same alone.0))

    by : (a c : Bool) → is_among xs q.origin ≡ a → is_origin o q.origin ≡ c
        → is_among (xs ++ o ∷ []) q.origin ≡ (is_among xs q.origin || is_origin o q.origin)
        → all ≡ count + one (request_at left o)
        → length (filter (λ r. is_among (xs ++ o ∷ []) r.origin) (q ∷ qs)) ≡ length
        (filter (λ r. is_among xs r.origin) (q ∷ qs)) + one
        (request_at (filter (λ r. not (is_among xs r.origin)) (q ∷ qs)) o)
    by true c in_xs at_o is more =
        let whole = step (is_among (xs ++ o ∷ []) q.origin) (λ r. is_among (xs ++ o ∷ []) r.origin) in
        let here : bit (is_among (xs ++ o ∷ []) q.origin) ≡ 1 = ap bit (is ∙ ap (λ d. d || is_origin o q.origin) in_xs) in
        let part = step (is_among xs q.origin) (λ r. is_among xs r.origin) in
        let there : bit (is_among xs q.origin) ≡ 1 = ap bit in_xs in
        let rest : one (request_at (filter (λ r. not (is_among xs r.origin)) (q ∷ qs)) o) ≡ one (request_at left o) = ap (λ d. one (request_at (cond (not d) (q ∷ left) left) o)) in_xs in
        omega (arith, whole, here, part, there, rest, more)
    by false true in_xs at_o is more =
        let whole = step (is_among (xs ++ o ∷ []) q.origin) (λ r. is_among (xs ++ o ∷ []) r.origin) in
        let here : bit (is_among (xs ++ o ∷ []) q.origin) ≡ 1 = ap bit (is ∙ (λ i. in_xs i || at_o i)) in
        let part = step (is_among xs q.origin) (λ r. is_among xs r.origin) in
        let there : bit (is_among xs q.origin) ≡ 0 = ap bit in_xs in
        let rest : one (request_at (filter (λ r. not (is_among xs r.origin)) (q ∷ qs)) o) ≡ 1 = ap (λ d. one (request_at (cond (not d) (q ∷ left) left) o)) in_xs ∙ ap (λ d. one (cond d (Some q) (request_at left o))) at_o in
        let none : one (request_at left o) ≡ 0 = ap one (gone at_o) in
        omega (arith, whole, here, part, there, rest, more, none)
    by false false in_xs at_o is more =
        let whole = step (is_among (xs ++ o ∷ []) q.origin) (λ r. is_among (xs ++ o ∷ []) r.origin) in
        let here : bit (is_among (xs ++ o ∷ []) q.origin) ≡ 0 = ap bit (is ∙ (λ i. in_xs i || at_o i)) in
        let part = step (is_among xs q.origin) (λ r. is_among xs r.origin) in
        let there : bit (is_among xs q.origin) ≡ 0 = ap bit in_xs in
        let rest : one (request_at (filter (λ r. not (is_among xs r.origin)) (q ∷ qs)) o) ≡ one (request_at left o) = ap (λ d. one (request_at (cond (not d) (q ∷ left) left) o)) in_xs ∙ ap (λ d. one (cond d (Some q) (request_at left o))) at_o in
        omega (arith, whole, here, part, there, rest, more)

-- of no origins nothing leaves
pub leaves-none : (b : LiveBook) → evidence_for b.requests b.settled ≡ b.settled
    → b ≡ live_leaves b []
leaves-none b kept =
    let same : b.requests ≡ live_left b [] = all b.requests in
    λ i. record { setting = b.setting; requests = same i; settled = (sym kept ∙ ap (λ qs. evidence_for qs b.settled) same) i }
  where
    all : (qs : List Entered) → qs ≡ filter (λ q. not (is_among [] q.origin)) qs
    all [] = refl
    all (q ∷ qs) = ap (λ rs. q ∷ rs) (all qs)

pub owed-none : (qs : List Entered) → 0 ≡ length (filter (λ q. is_among [] q.origin) qs)
owed-none [] = refl
owed-none (q ∷ qs) = owed-none qs

-- ---- whether a request is settled

pub settled-alike : (notes : List (ℕ × ChunkRef)) (qs : List Entered) (q : Entered) → AreOf notes qs
    → list_all (λ s. is_some (found_at notes s.number)) q.spans ≡ is_settled
    (found_for (found_at notes) qs) q
settled-alike notes qs q of = sym (λ i. list_all (λ s. is_some (shown-found notes qs of s.number i)) q.spans)

pub parts-alike-noted : (notes : List (ℕ × ChunkRef)) (qs : List Entered) (spans : List Span)
    → AreOf notes qs
    → flat_map (λ s. part_of (found_at notes s.number) s) spans ≡ parts_of
    (found_for (found_at notes) qs) spans
parts-alike-noted notes qs spans of = sym (λ i. flat_map (λ s. part_of (shown-found notes qs of s.number i) s) spans)

-- ---- origins once

-- one origin more
pub once-then : (xs : List Origin) (o : Origin)
    → once (xs ++ o ∷ []) ≡ once xs ++ (if is_among xs o then [] else o ∷ [])
once-then [] o = refl
once-then (x ∷ xs) o =
    ap (λ os. x ∷ filter (λ p. not (is_origin x p)) os) (once-then xs o)
    ∙ ap (λ os. x ∷ os) (filter-append (λ p. not (is_origin x p)) (once xs) (if is_among xs o then [] else o ∷ []) ∙ ap (λ os. filter (λ p. not (is_origin x p)) (once xs) ++ os) (by (is_among xs o) (is_origin x o) refl))
  where
    by : (a c : Bool) → is_origin x o ≡ c
        → filter (λ p. not (is_origin x p)) (if a then [] else o ∷ []) ≡
        (if c || a then [] else o ∷ [])
    by true true is = refl
    by true false is = refl
    by false true is = ap (λ k. cond (not k) (o ∷ []) []) is
    by false false is = ap (λ k. cond (not k) (o ∷ []) []) is

-- what is known is known once one more is
pub known-then : (xs : List Origin) (o p : Origin) (a : Bool)
    → a ≡ cond (is_origin o p) true (is_among xs p)
    → a ≡ is_among (xs ++ o ∷ []) p
known-then xs o p a is = is ∙ by (is_origin o p) (is_among xs p) ∙ sym (any-last (λ x. is_origin x p) xs o)
  where
    by : (c d : Bool) → cond c true d ≡ (d || c)
    by true true = refl
    by true false = refl
    by false true = refl
    by false false = refl
