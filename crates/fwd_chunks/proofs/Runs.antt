-- The laws over runs.
use Rattle.std.proofs.Common.{◌≡◌, ℕ, zero, suc, ◌<◌, ◌≤◌, ◌^◌, Bool, true, false, cond, eqb, List, [], ◌∷◌, ◌++◌, length, drop, Option, Some, None, refl, sym, ap, ◌∙◌, subst, min, inl, inr, arith, append_assoc}
use Rattle.std.specs.Prelude.{◌⊎◌, filter, ◌&&◌, ◌||◌, ◌==◌, slice_get, option_map, is_some}
use Rattle.std.specs.Option.{option_or}
use Rattle.std.specs.Str.{bytes_eq}
use Rattle.std.proofs.lemmas.Bool.{or_cases, and_parts}
use Rattle.std.proofs.lemmas.List.{drop_at, append-nil}
use Rattle.std.proofs.lemmas.Slice.Eq.{bytes_eq-Decides}
use Rattle.fwd_modes.specs.declared.origin.Origin.{Origin}
use Rattle.fwd_modes.specs.Requests.{Request}
use Rattle.fwd_chunks.specs.declared.fault.AdmitError.{AdmitError}
use Rattle.fwd_chunks.specs.Cells.{Cell, cells_at, first_tag, has_number, numbers_of, has_entry, last_number, is_carried}
use Rattle.fwd_chunks.specs.declared.wanted.Wanted.{Wanted}
use Rattle.fwd_chunks.specs.History.{BufferSetting, BufferHistory, opening, next_number, joins, adds, adds_all, looks, enters, refusal, is_free, lesser, least, given, given_for, IsGiven, carried_chunk_of, settles, frees}
use Rattle.fwd_chunks.specs.Events.{BufferEvent, Enter, Flush, Take, Settle, Free, unless_refused, history_next, history_after, IsReached, NumbersRise, TagNumbersRise, NumbersHaveOneTag}
use Rattle.fwd_chunks.specs.Live.{live_buffer, live_opening, live_chunk, live_given_for, live_carried_chunk, live_settles, live_frees, live_next}
use Rattle.fwd_chunks.specs.Soundness.{IsSound}
use Rattle.fwd_chunks.proofs.Numbers.{true_false, not_from, eq_same, has_number-filter}
use Rattle.fwd_chunks.proofs.CellLemmas.{any-push, has_entry-cell, last_number-entry, below-next}
use Rattle.fwd_chunks.proofs.Sane.{IsSane, joins_or_begins, cell_at, adds-at, next-sane, opening-sane, reached-sane, free_parts}
use Rattle.fwd_chunks.proofs.Follows.{enters-live, refusal-live, flushes-live, given_for-live, takes-live, carried-live, settles-live, frees-live}
use Rattle.fwd_chunks.proofs.Sounding.{opening-sound, next-sound}
use Rattle.std.proofs.lemmas.Option.{same_Some}
use Rattle.std.proofs.lemmas.Bool.{eqb-true}

-- ---- the live part follows

pub opening-live : (setting : BufferSetting)
    → live_buffer (opening setting) ≡ live_opening setting
unfolding live_buffer
opening-live setting = refl

some-carried : (b : Bool) (h : BufferHistory) (k : ℕ)
    → is_some (cond b (Some (carried_chunk_of h k)) None) ≡ b
some-carried true h k = refl
some-carried false h k = refl

pub next-live : (h : BufferHistory) (event : BufferEvent) → h.setting.limits.retry_max < 2 ^ 64
    → IsSane h → live_buffer (history_next h event) ≡ live_next (live_buffer h) event
next-live h (Enter origin r now) fits own =
    by (refusal h origin r now) ∙ (λ i. unless_refused (refusal-live h origin r now own i) (enters-live h origin r now own i) (live_buffer h))
  where
    by : (o : Option AdmitError)
        → live_buffer (unless_refused o (enters h origin r now) h) ≡ unless_refused o
        (live_buffer (enters h origin r now)) (live_buffer h)
    by None = refl
    by (Some fault) = refl
next-live h (Flush now kind) fits own = flushes-live h now kind own
next-live h (Take worker wanted now) fits own = takes-live h worker wanted now fits own
next-live h (Settle number) fits own =
    by (is_carried number h.carried) refl ∙ ap (λ b. cond b (live_settles (live_buffer h) number) (live_buffer h)) (sym (ap is_some (carried-live h number own) ∙ some-carried (is_carried number h.carried) h number))
  where
    by : (b : Bool) → is_carried number h.carried ≡ b
        → live_buffer (cond b (settles h number) h) ≡ cond b (live_settles (live_buffer h) number)
        (live_buffer h)
    by true e = settles-live h number own e
    by false e = refl
next-live h (Free number loss) fits own =
    by (is_carried number h.carried) refl ∙ ap (λ b. cond b (live_frees (live_buffer h) number loss) (live_buffer h)) (sym (ap is_some (carried-live h number own) ∙ some-carried (is_carried number h.carried) h number))
  where
    by : (b : Bool) → is_carried number h.carried ≡ b
        → live_buffer (cond b (frees h number loss) h) ≡ cond b
        (live_frees (live_buffer h) number loss) (live_buffer h)
    by true e = frees-live h number loss own e
    by false e = refl

-- ---- the setting stays

adds_all-setting : (entries : List (List ℕ)) (h : BufferHistory) (tag : List ℕ)
    (origin : Origin) → (adds_all h tag origin entries).setting ≡ h.setting
unfolding adds
adds_all-setting [] h tag origin = refl
adds_all-setting (entry ∷ entries) h tag origin = adds_all-setting entries (adds h tag origin entry) tag origin

next-setting : (h : BufferHistory) (event : BufferEvent)
    → (history_next h event).setting ≡ h.setting
next-setting h (Enter origin r now) = by (refusal h origin r now)
  where
    by : (o : Option AdmitError) → (unless_refused o (enters h origin r now) h).setting ≡ h.setting
    by None = adds_all-setting r.entries (looks h now) r.tag origin
    by (Some fault) = refl
next-setting h (Flush now kind) = refl
next-setting h (Take worker wanted now) = refl
next-setting h (Settle number) = by (is_carried number h.carried)
  where
    by : (b : Bool) → (cond b (settles h number) h).setting ≡ h.setting
    by true = refl
    by false = refl
next-setting h (Free number loss) = by (is_carried number h.carried) loss
  where
    by : (b : Bool) (l : Option ℕ) → (cond b (frees h number l) h).setting ≡ h.setting
    by true None = refl
    by true (Some now) = refl
    by false l = refl

after-setting : (events : List BufferEvent) (h : BufferHistory)
    → (history_after h events).setting ≡ h.setting
after-setting [] h = refl
after-setting (event ∷ events) h = after-setting events (history_next h event) ∙ next-setting h event

pub reached-setting : (setting : BufferSetting) (h : BufferHistory) → IsReached setting h
    → h.setting ≡ setting
reached-setting setting h r = ap (λ x. x.setting) (sym r.leads) ∙ after-setting r.events (opening setting)

-- ---- sound

after-sound : (events : List BufferEvent) (h : BufferHistory)
    → h.setting.limits.retry_max < 2 ^ 64 → IsSane h → IsSound (live_buffer h)
    → IsSound (live_buffer (history_after h events))
after-sound [] h fits own sound = sound
after-sound (event ∷ events) h fits own sound =
    after-sound events (history_next h event) (subst (λ s. s.limits.retry_max < 2 ^ 64) (sym (next-setting h event)) fits) (next-sane h event own)
    (subst IsSound (sym (next-live h event fits own)) (next-sound (live_buffer h) event sound))

pub reached-sound : (setting : BufferSetting) (h : BufferHistory) → setting.limits.first < 2 ^ 64
    → setting.limits.retry_max < 2 ^ 64 → IsReached setting h → IsSound (live_buffer h)
reached-sound setting h first fits r =
    subst (λ x. IsSound (live_buffer x)) r.leads (after-sound r.events (opening setting) fits (opening-sane setting) (subst IsSound (sym (opening-live setting)) (opening-sound setting first)))

-- ---- the least free number

lesser_first : (n : ℕ) (o : Option ℕ) → lesser n o ≤ n
lesser_first n None = omega arith
lesser_first n (Some m) = omega arith

-- the least of numbers is one of them, and none is below
least_is : (ns : List ℕ) (k : ℕ) → least ns ≡ Some k → (has_number k ns ≡ true)
    × ((j : ℕ) → has_number j ns ≡ true → k ≤ j)
least_is [] k e = absurd (none e)
  where
    none : None ≡ Some k → ⊥
    none f = cc
least_is (n ∷ ns) k e = by (least ns) refl (λ l f. least_is ns l f) (same e)
  where
    same : Some (lesser n (least ns)) ≡ Some k → lesser n (least ns) ≡ k
    same f = cc

    by : (o : Option ℕ) → least ns ≡ o
        →
        ((l : ℕ) → o ≡ Some l → (has_number l ns ≡ true)
        × ((j : ℕ) → has_number j ns ≡ true → l ≤ j))
        → lesser n o ≡ k
        → ((eqb n k || has_number k ns) ≡ true) ×
        ((j : ℕ) → (eqb n j || has_number j ns) ≡ true → k ≤ j)
    by None f rec g = (
      ap (λ x. eqb n x || has_number x ns) (sym g) ∙ ap (λ b. b || has_number n ns) (eq_same n),
      λ j h. elim (or_cases (eqb n j) (has_number j ns) h) [
        | inl i ↦ omega (arith, eqb-true n j i, g)
        | inr i ↦ absurd (nowhere ns j f i)
      ],
    )
      where
        nowhere : (ms : List ℕ) (j : ℕ) → least ms ≡ None → has_number j ms ≡ true → ⊥
        nowhere [] j e h = cc
        nowhere (m ∷ ms) j e h = cc
    by (Some l) f rec g =
        let is = rec l refl in (
          elim (order n l) [ inl i ↦ ap (λ b. b || has_number k ns) (ap (λ x. eqb n x) (sym (sym i ∙ g)) ∙ eq_same n) | inr i ↦ right (eqb n k) (ap (λ x. has_number x ns) (sym (sym i ∙ g)) ∙ is.0) ],
          λ j h. elim (or_cases (eqb n j) (has_number j ns) h) [ inl i ↦ omega (arith, eqb-true n j i, g) | inr i ↦ omega (arith, is.1 j i, g) ],
        )
      where
        order : (a b : ℕ) → (min a b ≡ a) ⊎ (min a b ≡ b)
        order a b = grind arith

        right : (b : Bool) → has_number k ns ≡ true → (b || has_number k ns) ≡ true
        right true h = refl
        right false h = h

pub given-is : (h : BufferHistory) → IsGiven h (given h)
given-is h = by (given h) refl
  where
    split : (k : ℕ) → has_number k (filter (is_free h) (numbers_of h.cells)) ≡ true
        → is_free h k ≡ true
    split k e = (and_parts (has_number k (numbers_of h.cells)) (is_free h k) (sym (has_number-filter k (is_free h) (numbers_of h.cells)) ∙ e)).1

    join : (k : ℕ) → is_free h k ≡ true
        → has_number k (filter (is_free h) (numbers_of h.cells)) ≡ true
    join k e = has_number-filter k (is_free h) (numbers_of h.cells) ∙ both (has_number k (numbers_of h.cells)) (is_free h k) (free_parts h k e).has e
      where
        both : (a b : Bool) → a ≡ true → b ≡ true → (a && b) ≡ true
        both true b f g = g
        both false b f g = absurd cc

    by : (o : Option ℕ) → given h ≡ o → IsGiven h o
    by None e = λ k. not_from (is_free h k) (λ f. nowhere (filter (is_free h) (numbers_of h.cells)) k e (join k f))
      where
        nowhere : (ms : List ℕ) (j : ℕ) → least ms ≡ None → has_number j ms ≡ true → ⊥
        nowhere [] j e h = cc
        nowhere (m ∷ ms) j e h = cc
    by (Some k) e = let is = least_is (filter (is_free h) (numbers_of h.cells)) k e in (split k is.0, λ j f. is.1 j (join j f))

pub given-only : (h : BufferHistory) (answer : Option ℕ) → IsGiven h answer
    → answer ≡ given h
given-only h answer is = by answer (given h) is (given-is h)
  where
    by : (a o : Option ℕ) → IsGiven h a → IsGiven h o → a ≡ o
    by None None f g = refl
    by None (Some k) f g = absurd (true_false (is_free h k) g.0 (f k))
    by (Some k) None f g = absurd (true_false (is_free h k) f.0 (g k))
    by (Some j) (Some k) f g = ap Some (omega (arith, f.1 k g.0, g.1 j f.0))

pub load-live : (h : BufferHistory) (wanted : Wanted) → h.setting.limits.retry_max < 2 ^ 64
    → IsSane h
    → option_map (carried_chunk_of h) (given_for h wanted)
    ≡ option_map (live_carried_chunk (live_buffer h)) (live_given_for (live_buffer h) wanted)
unfolding live_buffer
load-live h wanted fits own = by (given_for h wanted) ∙ ap (option_map (live_carried_chunk (live_buffer h))) (sym (given_for-live h wanted fits own))
  where
    by : (o : Option ℕ)
        → option_map (carried_chunk_of h) o ≡ option_map (live_carried_chunk (live_buffer h))
        (option_map (live_chunk h) o)
    by None = refl
    by (Some k) = refl

-- ---- numbers rise

-- each cell is followed by cells of its tag with no lower number
abbrev TagsRise : List Cell → Type 0
TagsRise [] = Unit {0}
TagsRise (c ∷ cells) = ((k : ℕ) → has_entry c.tag k cells ≡ true → c.number ≤ k) × TagsRise cells

rise-push : (cells : List Cell) (d : Cell) → TagsRise cells
    → ((k : ℕ) → has_entry d.tag k cells ≡ true → k ≤ d.number)
    → TagsRise (cells ++ d ∷ [])
rise-push [] d h low = (λ k e. absurd (none e), tt)
  where
    none : false ≡ true → ⊥
    none f = cc
rise-push (c ∷ cells) d h low = (
  λ k e. at k (or_cases (has_entry c.tag k cells) ((d.number == k) && bytes_eq d.tag c.tag) (sym (any-push (λ x. (x.number == k) && bytes_eq x.tag c.tag) cells d) ∙ e)),
  rise-push cells d h.1 (λ k e. low k (right ((c.number == k) && bytes_eq c.tag d.tag) k e)),
)
  where
    right : (b : Bool) (k : ℕ) → has_entry d.tag k cells ≡ true
        → (b || has_entry d.tag k cells) ≡ true
    right true k f = refl
    right false k f = f

    at : (k : ℕ)
        → (has_entry c.tag k cells ≡ true) ⊎ (((d.number == k) && bytes_eq d.tag c.tag) ≡ true)
        → c.number ≤ k
    at k (inl e) = h.0 k e
    at k (inr e) =
        let parts = and_parts (d.number == k) (bytes_eq d.tag c.tag) e in
        let same : d.tag ≡ c.tag = (bytes_eq-Decides d.tag c.tag).0 parts.1 in
        let first : c.number ≤ d.number = low c.number (ap (λ b. b || has_entry d.tag c.number cells) ((λ i. eq_same c.number i && (bytes_eq-Decides c.tag d.tag).1 (sym same) i))) in
        omega (arith, first, eqb-true d.number k parts.0)

-- the last number of a tag is its greatest
last_greatest : (cells : List Cell) (tag : List ℕ) (m k : ℕ) → TagsRise cells
    → last_number tag cells ≡ Some m → has_entry tag k cells ≡ true → k ≤ m
last_greatest [] tag m k h e f = absurd (none f)
  where
    none : false ≡ true → ⊥
    none g = cc
last_greatest (c ∷ cells) tag m k h e f = by (last_greatest cells tag m k h.1) (last_number tag cells) refl (bytes_eq c.tag tag) refl e (or_cases ((c.number == k) && bytes_eq c.tag tag) (has_entry tag k cells) f)
  where
    by : (last_number tag cells ≡ Some m → has_entry tag k cells ≡ true → k ≤ m) → (o : Option ℕ)
        → last_number tag cells ≡ o → (b : Bool) → bytes_eq c.tag tag ≡ b
        → option_or o (cond b (Some c.number) None) ≡ Some m
        → (((c.number == k) && bytes_eq c.tag tag) ≡ true) ⊎ (has_entry tag k cells ≡ true) → k ≤ m
    by rest (Some j) g b i p (inr q) = rest (g ∙ p) q
    by rest (Some j) g b i p (inl q) =
        let parts = and_parts (c.number == k) (bytes_eq c.tag tag) q in
        let same : c.tag ≡ tag = (bytes_eq-Decides c.tag tag).0 parts.1 in
        let low : c.number ≤ m = h.0 m (ap (λ t. has_entry t m cells) same ∙ last_number-entry tag m cells (g ∙ p)) in
        omega (arith, low, eqb-true c.number k parts.0)
    by rest None g true i p (inl q) = omega (arith, same_Some c.number m p, eqb-true c.number k (and_parts (c.number == k) (bytes_eq c.tag tag) q).0)
    by rest None g false i p (inl q) = absurd (true_false (bytes_eq c.tag tag) (and_parts (c.number == k) (bytes_eq c.tag tag) q).1 i)
    by rest None g b i p (inr q) = absurd (lacks cells g q)
      where
        lacks : (cs : List Cell) → last_number tag cs ≡ None → has_entry tag k cs ≡ true → ⊥
        lacks [] x y = cc
        lacks (d ∷ cs) x y = each (lacks cs) (last_number tag cs) refl (bytes_eq d.tag tag) refl x (or_cases ((d.number == k) && bytes_eq d.tag tag) (has_entry tag k cs) y)
          where
            each : (last_number tag cs ≡ None → has_entry tag k cs ≡ true → ⊥) → (o : Option ℕ)
                → last_number tag cs ≡ o → (b : Bool) → bytes_eq d.tag tag ≡ b
                → option_or o (cond b (Some d.number) None) ≡ None
                → (((d.number == k) && bytes_eq d.tag tag) ≡ true) ⊎ (has_entry tag k cs ≡ true) → ⊥
            each more (Some j) u b v w z = cc
            each more None u true v w z = cc
            each more None u false v w (inl z) = true_false (bytes_eq d.tag tag) (and_parts (d.number == k) (bytes_eq d.tag tag) z).1 v
            each more None u false v w (inr z) = more u z

adds-rise : (h : BufferHistory) (tag : List ℕ) (origin : Origin) (entry : List ℕ)
    → TagsRise h.cells → TagsRise (adds h tag origin entry).cells
adds-rise h tag origin entry rise = elim (joins_or_begins h tag entry) [
  | inl j ↦ subst (λ x. TagsRise x.cells) (sym (adds-at h tag origin entry j.number j.is)) (rise-push h.cells (cell_at h tag origin entry j.number) rise (λ k e. last_greatest h.cells tag j.number k rise j.last e))
  | inr b ↦ subst (λ x. TagsRise x.cells) (sym (adds-at h tag origin entry (next_number h) b.is)) (rise-push h.cells (cell_at h tag origin entry (next_number h)) rise
      (λ k e. omega (arith, below-next h.setting.limits.first k h.cells (has_entry-cell tag k h.cells e))))
]

pub adds_all-rise : (entries : List (List ℕ)) (h : BufferHistory) (tag : List ℕ)
    (origin : Origin) → TagsRise h.cells → TagsRise (adds_all h tag origin entries).cells
adds_all-rise [] h tag origin rise = rise
adds_all-rise (entry ∷ entries) h tag origin rise = adds_all-rise entries (adds h tag origin entry) tag origin (adds-rise h tag origin entry rise)

next-rise : (h : BufferHistory) (event : BufferEvent) → TagsRise h.cells
    → TagsRise (history_next h event).cells
next-rise h (Enter origin r now) rise = by (refusal h origin r now)
  where
    by : (o : Option AdmitError) → TagsRise (unless_refused o (enters h origin r now) h).cells
    by None = adds_all-rise r.entries (looks h now) r.tag origin rise
    by (Some fault) = rise
next-rise h (Flush now kind) rise = rise
next-rise h (Take worker wanted now) rise = rise
next-rise h (Settle number) rise = by (is_carried number h.carried)
  where
    by : (b : Bool) → TagsRise (cond b (settles h number) h).cells
    by true = rise
    by false = rise
next-rise h (Free number loss) rise = by (is_carried number h.carried) loss
  where
    by : (b : Bool) (l : Option ℕ) → TagsRise (cond b (frees h number l) h).cells
    by true None = rise
    by true (Some now) = rise
    by false l = rise

after-rise : (events : List BufferEvent) (h : BufferHistory) → TagsRise h.cells
    → TagsRise (history_after h events).cells
after-rise [] h rise = rise
after-rise (event ∷ events) h rise = after-rise events (history_next h event) (next-rise h event rise)

reached-rise : (setting : BufferSetting) (h : BufferHistory) → IsReached setting h
    → TagsRise h.cells
reached-rise setting h r = subst (λ x. TagsRise x.cells) r.leads (after-rise r.events (opening setting) tt)

-- a cell that stands in the list is one of its entries
stands : (cells : List Cell) (j : ℕ) (d : Cell) (tag : List ℕ) → slice_get cells j ≡ Some d
    → tag ≡ d.tag → has_entry tag d.number cells ≡ true
stands [] j d tag e same = absurd (none e)
  where
    none : None ≡ Some d → ⊥
    none f = cc
stands (c ∷ cells) zero d tag e same =
    let is : c ≡ d = same_Some _ _ e in
    ap (λ b. b || has_entry tag d.number cells) ((λ i. (ap (λ x. eqb x.number d.number) is ∙ eq_same d.number) i && (bytes_eq-Decides c.tag tag).1 (ap (λ x. x.tag) is ∙ sym same) i))
stands (c ∷ cells) (suc j) d tag e same = right ((c.number == d.number) && bytes_eq c.tag tag) (stands cells j d tag e same)
  where
    right : (b : Bool) → has_entry tag d.number cells ≡ true
        → (b || has_entry tag d.number cells) ≡ true
    right true f = refl
    right false f = f

rise-places : (cells : List Cell) → TagsRise cells → TagNumbersRise cells
rise-places [] rise i j c d lt e f same = absurd (none e)
  where
    none : None ≡ Some c → ⊥
    none g = cc
rise-places (x ∷ cells) rise zero zero c d lt e f same = absurd (omega arith)
rise-places (x ∷ cells) rise zero (suc j) c d lt e f same =
    let is : x ≡ c = same_Some _ _ e in
    subst (λ y. y.number ≤ d.number) is (rise.0 d.number (stands cells j d x.tag f (ap (λ y. y.tag) is ∙ same)))
rise-places (x ∷ cells) rise (suc i) zero c d lt e f same = absurd (omega arith)
rise-places (x ∷ cells) rise (suc i) (suc j) c d lt e f same = rise-places cells rise.1 i j c d (omega arith) e f same

pub tags-rise : (setting : BufferSetting) (h : BufferHistory) → IsReached setting h
    → TagNumbersRise h.cells
tags-rise setting h r = rise-places h.cells (reached-rise setting h r)

-- the cells of a request, which all have its tag
abbrev HaveTag : List ℕ → List Cell → Type 0
HaveTag tag [] = Unit {0}
HaveTag tag (c ∷ cells) = (c.tag ≡ tag) × HaveTag tag cells

abbrev new_cells : List (List ℕ) → BufferHistory → List ℕ → Origin → List Cell
new_cells [] h tag origin = []
new_cells (entry ∷ entries) h tag origin = cell_at h tag origin entry (joins h tag entry) ∷ new_cells entries (adds h tag origin entry) tag origin

new-cells : (entries : List (List ℕ)) (h : BufferHistory) (tag : List ℕ) (origin : Origin)
    → (adds_all h tag origin entries).cells ≡ h.cells ++ new_cells entries h tag origin
unfolding adds
new-cells [] h tag origin = sym (append-nil h.cells)
new-cells (entry ∷ entries) h tag origin =
    new-cells entries (adds h tag origin entry) tag origin ∙ append_assoc h.cells (cell_at h tag origin entry (joins h tag entry) ∷ []) (new_cells entries (adds h tag origin entry) tag origin)

new-tag : (entries : List (List ℕ)) (h : BufferHistory) (tag : List ℕ) (origin : Origin)
    → HaveTag tag (new_cells entries h tag origin)
new-tag [] h tag origin = tt
new-tag (entry ∷ entries) h tag origin = (refl, new-tag entries (adds h tag origin entry) tag origin)

has-tag : (tag : List ℕ) (cells : List Cell) (i : ℕ) (c : Cell) → HaveTag tag cells
    → slice_get cells i ≡ Some c → c.tag ≡ tag
has-tag tag [] i c all e = absurd (none e)
  where
    none : None ≡ Some c → ⊥
    none f = cc
has-tag tag (x ∷ cells) zero c all e = ap (λ y. y.tag) (sym (same_Some _ _ e)) ∙ all.0
has-tag tag (x ∷ cells) (suc i) c all e = has-tag tag cells i c all.1 e

rise-behind : (others cells : List Cell) → TagsRise (others ++ cells) → TagsRise cells
rise-behind [] cells rise = rise
rise-behind (c ∷ others) cells rise = rise-behind others cells rise.1

pub request-rises : (setting : BufferSetting) (h : BufferHistory) (origin : Origin) (r : Request)
    (now : ℕ) → IsReached setting h
    → NumbersRise (drop (length h.cells) (enters h origin r now).cells)
request-rises setting h origin r now reached =
    let l = looks h now in
    let cells = new-cells r.entries l r.tag origin in
    let own : drop (length h.cells) (enters h origin r now).cells ≡ new_cells r.entries (looks h now) r.tag origin = ap (drop (length h.cells)) cells ∙ drop_at h.cells (new_cells r.entries l r.tag origin) (length h.cells) refl in
    let rise = rise-behind h.cells (new_cells r.entries l r.tag origin) (subst TagsRise cells (adds_all-rise r.entries l r.tag origin (reached-rise setting h reached))) in
    subst NumbersRise (sym own) (λ i j c d lt e f. rise-places (new_cells r.entries l r.tag origin) rise i j c d lt e f
    (has-tag r.tag (new_cells r.entries l r.tag origin) i c (new-tag r.entries l r.tag origin) e ∙ sym (has-tag r.tag (new_cells r.entries l r.tag origin) j d (new-tag r.entries l r.tag origin) f)))

pub one-tag : (setting : BufferSetting) (h : BufferHistory) → IsReached setting h
    → NumbersHaveOneTag h.cells
one-tag setting h r i j c d e f same =
    let own = reached-sane setting h r in
    sym (own.one_tag c.number c.tag (stands h.cells i c c.tag e refl))
    ∙ ap (λ n. first_tag (cells_at n h.cells)) same
    ∙ own.one_tag d.number d.tag (stands h.cells j d d.tag f refl)
