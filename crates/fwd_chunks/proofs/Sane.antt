-- What holds of every history that a run reaches, as the law of the live part needs it.
use Rattle.std.proofs.Common.{◌≡◌, ℕ, ◌+◌, ◌<◌, Bool, true, false, cond, eqb, List, [], ◌∷◌, ◌++◌, length, Option, Some, None, refl, sym, ap, ◌∙◌, subst, max, inl, inr, arith}
use Rattle.std.specs.Prelude.{◌⊎◌, filter, not, ◌&&◌, ◌||◌, ◌==◌, nat_le}
use Rattle.std.specs.Str.{bytes_eq}
use Rattle.std.proofs.lemmas.Bool.Decides.{nat_tests}
use Rattle.std.proofs.lemmas.Bool.{and_parts, or_cases, or_left, or_right, not-true}
use Rattle.std.proofs.lemmas.Slice.Eq.{bytes_eq-Decides}
use Rattle.fwd_modes.specs.declared.origin.Origin.{Origin}
use Rattle.fwd_modes.specs.Requests.{Request}
use Rattle.fwd_chunks.specs.declared.flush.FlushKind.{FlushKind}
use Rattle.fwd_chunks.specs.declared.fault.AdmitError.{AdmitError}
use Rattle.fwd_chunks.specs.Cells.{Cell, size_of, cells_at, contents, first_tag, has_number, numbers_of, has_entry, last_number, is_carried, without, losses_of}
use Rattle.fwd_chunks.specs.declared.wanted.Wanted.{Wanted}
use Rattle.fwd_chunks.specs.History.{BufferSetting, BufferHistory, opening, next_number, has_room, joined_to, joins, adds, adds_all, looks, enters, refusal, closes, flushes, is_over, is_free, given, asked_for, given_for, carry_more, takes, settles, frees}
use Rattle.fwd_chunks.specs.Events.{BufferEvent, Enter, Flush, Take, Settle, Free, unless_refused, history_next, history_after, IsReached}
use Rattle.fwd_chunks.proofs.Numbers.{true_false, not_from, eq_same, has_number-push, has_number-filter, AreRising, rising-push, least_first, found}
use Rattle.fwd_chunks.proofs.CellLemmas.{has_cell, any-push, numbers-has, numbers-push, cells_at-here, cells_at-elsewhere, cells_at-none, cells_at-some, first_tag-push, has_entry-cell, first_tag-entry, last_number-push, last_number-entry, below-next, is_carried-push, is_carried-without, losses-elsewhere}
use Rattle.std.proofs.lemmas.Bool.{eqb-true}

pub record IsSane (h : BufferHistory) : Type 0 where
  pub rising : AreRising (numbers_of h.cells)
  pub opened_has : (k : ℕ) → has_number k h.opened ≡ true → has_cell k h.cells ≡ true
  pub opened_last : (k : ℕ) (tag : List ℕ) → has_number k h.opened ≡ true → has_entry tag k h.cells ≡ true → last_number tag h.cells ≡ Some k
  pub opened_unacked : (k : ℕ) → has_number k h.opened ≡ true → has_number k h.acknowledged ≡ false
  pub opened_uncarried : (k : ℕ) → has_number k h.opened ≡ true → is_carried k h.carried ≡ false
  pub one_tag : (k : ℕ) (tag : List ℕ) → has_entry tag k h.cells ≡ true → first_tag (cells_at k h.cells) ≡ tag
  pub acked_has : (k : ℕ) → has_number k h.acknowledged ≡ true → has_cell k h.cells ≡ true
  pub carried_has : (k : ℕ) → is_carried k h.carried ≡ true → has_cell k h.cells ≡ true
  pub carried_unacked : (k : ℕ) → is_carried k h.carried ≡ true → has_number k h.acknowledged ≡ false
  pub lost_has : (k : ℕ) → has_cell k h.cells ≡ false → losses_of k h.losses ≡ []

pub opening-sane : (setting : BufferSetting) → IsSane (opening setting)
opening-sane setting = record {
  rising = tt;
  opened_has = λ k e. e;
  opened_last = λ k tag e f. absurd cc;
  opened_unacked = λ k e. refl;
  opened_uncarried = λ k e. refl;
  one_tag = λ k tag e. absurd cc;
  acked_has = λ k e. e;
  carried_has = λ k e. e;
  carried_unacked = λ k e. refl;
  lost_has = λ k e. refl;
}

pub looks-sane : (h : BufferHistory) (now : ℕ) → IsSane h → IsSane (looks h now)
looks-sane h now own = record {
  rising = own.rising;
  opened_has = own.opened_has;
  opened_last = own.opened_last;
  opened_unacked = own.opened_unacked;
  opened_uncarried = own.opened_uncarried;
  one_tag = own.one_tag;
  acked_has = own.acked_has;
  carried_has = own.carried_has;
  carried_unacked = own.carried_unacked;
  lost_has = own.lost_has;
}

-- a history as it is asked differs in its moment alone
pub asked-sane : (h : BufferHistory) (wanted : Wanted) → IsSane h → IsSane (asked_for h wanted)
asked-sane h wanted own = record {
  rising = own.rising;
  opened_has = own.opened_has;
  opened_last = own.opened_last;
  opened_unacked = own.opened_unacked;
  opened_uncarried = own.opened_uncarried;
  one_tag = own.one_tag;
  acked_has = own.acked_has;
  carried_has = own.carried_has;
  carried_unacked = own.carried_unacked;
  lost_has = own.lost_has;
}

-- ---- joining

-- the entry goes to its tag's last number
pub record Joins (h : BufferHistory) (tag entry : List ℕ) : Type 0 where
  pub number : ℕ
  pub is : joins h tag entry ≡ number
  pub last : last_number tag h.cells ≡ Some number
  pub opened : has_number number h.opened ≡ true
  pub fits : nat_le (size_of (contents number h.cells) + length entry) h.setting.limits.chunk ≡ true

-- the entry begins the next number
pub record Begins (h : BufferHistory) (tag entry : List ℕ) : Type 0 where
  pub is : joins h tag entry ≡ next_number h
  pub none : (k : ℕ) → last_number tag h.cells ≡ Some k → has_room h entry k ≡ false

pub joins_or_begins : (h : BufferHistory) (tag entry : List ℕ) → Joins h tag entry
    ⊎ Begins h tag entry
joins_or_begins h tag entry = by (last_number tag h.cells) refl
  where
    by : (o : Option ℕ) → last_number tag h.cells ≡ o → Joins h tag entry ⊎ Begins h tag entry
    by None e = inr (record { is = ap (joined_to h entry) e; none = λ k f. absurd (apart k (sym e ∙ f)) })
      where
        apart : (k : ℕ) → None ≡ Some k → ⊥
        apart k g = cc
    by (Some k) e = at (has_room h entry k) refl
      where
        at : (b : Bool) → has_room h entry k ≡ b → Joins h tag entry ⊎ Begins h tag entry
        at true f =
            let parts = and_parts (has_number k h.opened) (nat_le (size_of (contents k h.cells) + length entry) h.setting.limits.chunk) f in
            inl (record { number = k; is = ap (joined_to h entry) e ∙ ap (λ b. cond b k (next_number h)) f; last = e; opened = parts.0; fits = parts.1 })
        at false f = inr (record { is = ap (joined_to h entry) e ∙ ap (λ b. cond b k (next_number h)) f; none = λ j g. ap (has_room h entry) (sym (same j (sym e ∙ g))) ∙ f })
          where
            same : (j : ℕ) → Some k ≡ Some j → k ≡ j
            same j g = cc

-- an entry with its number
abbrev pub cell_at : BufferHistory → List ℕ → Origin → List ℕ → ℕ → Cell
cell_at h tag origin entry n = record { tag = tag; entry = entry; origin = origin; number = n; moment = h.moment }

abbrev pub adds_at : BufferHistory → List ℕ → Origin → List ℕ → ℕ → BufferHistory
adds_at h tag origin entry n = record h {
  cells = h.cells ++ cell_at h tag origin entry n ∷ [];
  opened = n ∷ filter (λ k. not (has_entry tag k h.cells)) h.opened;
}

pub adds-at : (h : BufferHistory) (tag : List ℕ) (origin : Origin) (entry : List ℕ) (n : ℕ)
    → joins h tag entry ≡ n → adds h tag origin entry ≡ adds_at h tag origin entry n
unfolding adds
adds-at h tag origin entry n e = ap (adds_at h tag origin entry) e

-- a number that may take an entry of the tag
pub record IsFor (h : BufferHistory) (tag : List ℕ) (n : ℕ) : Type 0 where
  pub same_tag : (t : List ℕ) → has_entry t n h.cells ≡ true → t ≡ tag
  pub unacked : has_number n h.acknowledged ≡ false
  pub uncarried : is_carried n h.carried ≡ false
  pub there : (has_cell n h.cells ≡ true) ⊎ (n ≡ next_number h)

pub next-fresh : (h : BufferHistory) → has_cell (next_number h) h.cells ≡ false
next-fresh h = not_from (has_cell (next_number h) h.cells) (λ e. absurd (omega (arith, below-next h.setting.limits.first (next_number h) h.cells e)))

pub joins-for : (h : BufferHistory) (tag entry : List ℕ) → IsSane h → (j : Joins h tag entry)
    → IsFor h tag j.number
joins-for h tag entry own j =
    let here = last_number-entry tag j.number h.cells j.last in
    record {
      same_tag = λ t e. sym (own.one_tag j.number t e) ∙ own.one_tag j.number tag here;
      unacked = own.opened_unacked j.number j.opened;
      uncarried = own.opened_uncarried j.number j.opened;
      there = inl (has_entry-cell tag j.number h.cells here);
    }

pub next-for : (h : BufferHistory) (tag : List ℕ) → IsSane h → IsFor h tag (next_number h)
next-for h tag own =
    let n = next_number h in
    let fresh = next-fresh h in
    record {
      same_tag = λ t e. absurd (true_false (has_cell n h.cells) (has_entry-cell t n h.cells e) fresh);
      unacked = not_from (has_number n h.acknowledged) (λ e. true_false (has_cell n h.cells) (own.acked_has n e) fresh);
      uncarried = not_from (is_carried n h.carried) (λ e. true_false (has_cell n h.cells) (own.carried_has n e) fresh);
      there = inr refl;
    }

-- what is open afterwards
pub opened_was : (n k : ℕ) (p : ℕ → Bool) (opened : List ℕ)
    → has_number k (n ∷ filter (λ j. not (p j)) opened) ≡ true → (n ≡ k)
    ⊎ (((n == k) ≡ false) × (has_number k opened ≡ true) × (p k ≡ false))
opened_was n k p opened e = by (n == k) refl e
  where
    by : (b : Bool) → (n == k) ≡ b → (b || has_number k (filter (λ j. not (p j)) opened)) ≡ true
        → (n ≡ k) ⊎ (((n == k) ≡ false) × (has_number k opened ≡ true) × (p k ≡ false))
    by true f g = inl (eqb-true n k f)
    by false f g =
        let parts = and_parts (has_number k opened) (not (p k)) (sym (has_number-filter k (λ j. not (p j)) opened) ∙ g) in
        inr (f, parts.0, not-true (p k) parts.1)

module _ (h : BufferHistory) (tag : List ℕ) (origin : Origin) (entry : List ℕ) (n : ℕ) (own : IsSane h) (takes_it : IsFor h tag n) where
  has_cell-more : (k : ℕ)
      → has_cell k (h.cells ++ cell_at h tag origin entry n ∷ []) ≡ (has_cell k h.cells || (n == k))
  has_cell-more k = any-push (λ c. c.number == k) h.cells (cell_at h tag origin entry n)

  has_entry-more : (t : List ℕ) (k : ℕ)
      → has_entry t k (h.cells ++ cell_at h tag origin entry n ∷ []) ≡
      (has_entry t k h.cells || ((n == k) && bytes_eq tag t))
  has_entry-more t k = any-push (λ c. (c.number == k) && bytes_eq c.tag t) h.cells (cell_at h tag origin entry n)

  stays : (k : ℕ) → has_cell k h.cells ≡ true
      → has_cell k (h.cells ++ cell_at h tag origin entry n ∷ []) ≡ true
  stays k e = has_cell-more k ∙ or_left (has_cell k h.cells) (n == k) e

  rises : AreRising (numbers_of (h.cells ++ cell_at h tag origin entry n ∷ []))
  rises = subst AreRising (sym (numbers-push h.cells (cell_at h tag origin entry n))) (by (has_cell n h.cells) refl takes_it.there)
    where
      by : (b : Bool) → has_cell n h.cells ≡ b → (has_cell n h.cells ≡ true) ⊎ (n ≡ next_number h)
          → AreRising (cond b (numbers_of h.cells) (numbers_of h.cells ++ n ∷ []))
      by true e w = own.rising
      by false e (inl f) = absurd (true_false (has_cell n h.cells) f e)
      by false e (inr f) = rising-push n (numbers_of h.cells) own.rising (λ k g. subst (λ x. k < x) (sym f) (below-next h.setting.limits.first k h.cells (sym (numbers-has k h.cells) ∙ g)))

  last_here : (k : ℕ) (t : List ℕ) → n ≡ k
      → (has_entry t k h.cells || ((n == k) && bytes_eq tag t)) ≡ true → (b : Bool)
      → bytes_eq tag t ≡ b → cond b (Some n) (last_number t h.cells) ≡ Some k
  last_here k t same e true f = ap Some same
  last_here k t same e false f =
      let here : has_entry t k h.cells ≡ true = old (has_entry t k h.cells) (n == k) (bytes_eq tag t) f e in
      let tags : t ≡ tag = takes_it.same_tag t (ap (λ x. has_entry t x h.cells) same ∙ here) in
      absurd (true_false (bytes_eq tag t) ((bytes_eq-Decides tag t).1 (sym tags)) f)
    where
      old : (a b c : Bool) → c ≡ false → (a || (b && c)) ≡ true → a ≡ true
      old true b c g i = refl
      old false true c g i = absurd cc
      old false false c g i = absurd cc

  last_there : (k : ℕ) (t : List ℕ) → (n == k) ≡ false → has_number k h.opened ≡ true
      → has_entry tag k h.cells ≡ false
      → (has_entry t k h.cells || ((n == k) && bytes_eq tag t)) ≡ true
      → (b : Bool) → bytes_eq tag t ≡ b → cond b (Some n) (last_number t h.cells) ≡ Some k
  last_there k t differ open_ other e b f =
      let here : has_entry t k h.cells ≡ true = old (has_entry t k h.cells) (n == k) (bytes_eq tag t) differ e in at b f here
    where
      old : (a b c : Bool) → b ≡ false → (a || (b && c)) ≡ true → a ≡ true
      old true b c g i = refl
      old false true c g i = absurd cc
      old false false c g i = absurd cc

      at : (b : Bool) → bytes_eq tag t ≡ b → has_entry t k h.cells ≡ true
          → cond b (Some n) (last_number t h.cells) ≡ Some k
      at true g here = absurd (true_false (has_entry tag k h.cells) (ap (λ x. has_entry x k h.cells) ((bytes_eq-Decides tag t).0 g) ∙ here) other)
      at false g here = own.opened_last k t open_ here

  tag_here : (k : ℕ) (t : List ℕ) → (n == k) ≡ true
      → (has_entry t k h.cells || ((n == k) && bytes_eq tag t)) ≡ true → (b : Bool)
      → has_cell k h.cells ≡ b
      → first_tag (cells_at k h.cells ++ cell_at h tag origin entry n ∷ []) ≡ t
  tag_here k t same e true f = first_tag-push (cells_at k h.cells) (cell_at h tag origin entry n) (cells_at-some k h.cells f) ∙ at (or_cases (has_entry t k h.cells) ((n == k) && bytes_eq tag t) e)
    where
      is_tag : first_tag (cells_at k h.cells) ≡ tag
      is_tag = takes_it.same_tag (first_tag (cells_at k h.cells)) (ap (λ x. has_entry (first_tag (cells_at k h.cells)) x h.cells) (eqb-true n k same) ∙ first_tag-entry k h.cells f)

      at : (has_entry t k h.cells ≡ true) ⊎ (((n == k) && bytes_eq tag t) ≡ true)
          → first_tag (cells_at k h.cells) ≡ t
      at (inl g) = own.one_tag k t g
      at (inr g) = is_tag ∙ (bytes_eq-Decides tag t).0 (and_parts (n == k) (bytes_eq tag t) g).1
  tag_here k t same e false f =
      let none = cells_at-none k h.cells f in
      let no_entry : has_entry t k h.cells ≡ false = not_from (has_entry t k h.cells) (λ g. true_false (has_cell k h.cells) (has_entry-cell t k h.cells g) f) in
      ap (λ cs. first_tag (cs ++ cell_at h tag origin entry n ∷ [])) none ∙ (bytes_eq-Decides tag t).0 (last (has_entry t k h.cells) (n == k) (bytes_eq tag t) no_entry e)
    where
      last : (a b c : Bool) → a ≡ false → (a || (b && c)) ≡ true → c ≡ true
      last true b c g i = absurd cc
      last false true c g i = i
      last false false c g i = absurd cc

  pub adds_at-sane : IsSane (adds_at h tag origin entry n)
  adds_at-sane = record {
    rising = rises;
    opened_has = λ k e. elim (opened_was n k (λ j. has_entry tag j h.cells) h.opened e) [
      | inl same ↦ has_cell-more k ∙ or_right (has_cell k h.cells) (n == k) (ap (λ x. eqb x k) same ∙ eq_same k)
      | inr was ↦ stays k (own.opened_has k was.1)
    ];
    opened_last = λ k t e f. last_number-push t h.cells (cell_at h tag origin entry n) ∙ elim (opened_was n k (λ j. has_entry tag j h.cells) h.opened e) [
      | inl same ↦ last_here k t same (sym (has_entry-more t k) ∙ f) (bytes_eq tag t) refl
      | inr was ↦ last_there k t was.0 was.1 was.2 (sym (has_entry-more t k) ∙ f) (bytes_eq tag t) refl
    ];
    opened_unacked = λ k e. elim (opened_was n k (λ j. has_entry tag j h.cells) h.opened e) [
      | inl same ↦ ap (λ x. has_number x h.acknowledged) (sym same) ∙ takes_it.unacked
      | inr was ↦ own.opened_unacked k was.1
    ];
    opened_uncarried = λ k e. elim (opened_was n k (λ j. has_entry tag j h.cells) h.opened e) [
      | inl same ↦ ap (λ x. is_carried x h.carried) (sym same) ∙ takes_it.uncarried
      | inr was ↦ own.opened_uncarried k was.1
    ];
    one_tag = λ k t e. by k t e (n == k) refl;
    acked_has = λ k e. stays k (own.acked_has k e);
    carried_has = λ k e. stays k (own.carried_has k e);
    carried_unacked = own.carried_unacked;
    lost_has = λ k e. own.lost_has k (left (has_cell k h.cells) (n == k) (sym (has_cell-more k) ∙ e));
  }
    where
      left : (a b : Bool) → (a || b) ≡ false → a ≡ false
      left true b e = e
      left false b e = refl

      by : (k : ℕ) (t : List ℕ)
          → has_entry t k (h.cells ++ cell_at h tag origin entry n ∷ []) ≡ true → (b : Bool)
          → (n == k) ≡ b → first_tag (cells_at k (h.cells ++ cell_at h tag origin entry n ∷ [])) ≡ t
      by k t e true f = ap first_tag (cells_at-here k h.cells (cell_at h tag origin entry n) f) ∙ tag_here k t f (sym (has_entry-more t k) ∙ e) (has_cell k h.cells) refl
      by k t e false f =
          ap first_tag (cells_at-elsewhere k h.cells (cell_at h tag origin entry n) f)
          ∙ own.one_tag k t (old (has_entry t k h.cells) (n == k) (bytes_eq tag t) f (sym (has_entry-more t k) ∙ e))
        where
          old : (a b c : Bool) → b ≡ false → (a || (b && c)) ≡ true → a ≡ true
          old true b c g i = refl
          old false true c g i = absurd cc
          old false false c g i = absurd cc

pub adds-sane : (h : BufferHistory) (tag : List ℕ) (origin : Origin) (entry : List ℕ)
    → IsSane h → IsSane (adds h tag origin entry)
adds-sane h tag origin entry own = elim (joins_or_begins h tag entry) [
  | inl j ↦ subst IsSane (sym (adds-at h tag origin entry j.number j.is)) (adds_at-sane h tag origin entry j.number own (joins-for h tag entry own j))
  | inr b ↦ subst IsSane (sym (adds-at h tag origin entry (next_number h) b.is)) (adds_at-sane h tag origin entry (next_number h) own (next-for h tag own))
]

pub adds_all-sane : (entries : List (List ℕ)) (h : BufferHistory) (tag : List ℕ)
    (origin : Origin) → IsSane h → IsSane (adds_all h tag origin entries)
adds_all-sane [] h tag origin own = own
adds_all-sane (entry ∷ entries) h tag origin own = adds_all-sane entries (adds h tag origin entry) tag origin (adds-sane h tag origin entry own)

pub enters-sane : (h : BufferHistory) (origin : Origin) (r : Request) (now : ℕ) → IsSane h
    → IsSane (enters h origin r now)
enters-sane h origin r now own = adds_all-sane r.entries (looks h now) r.tag origin (looks-sane h now own)

-- ---- the other events

pub flushes-sane : (h : BufferHistory) (now : ℕ) (kind : FlushKind) → IsSane h
    → IsSane (flushes h now kind)
flushes-sane h now kind own =
    let was : (k : ℕ) → has_number k (filter (λ j. not (closes (looks h now) kind j)) h.opened) ≡ true → has_number k h.opened ≡ true =
    λ k e. (and_parts (has_number k h.opened) (not (closes (looks h now) kind k)) (sym (has_number-filter k (λ j. not (closes (looks h now) kind j)) h.opened) ∙ e)).0 in
    record {
      rising = own.rising;
      opened_has = λ k e. own.opened_has k (was k e);
      opened_last = λ k tag e f. own.opened_last k tag (was k e) f;
      opened_unacked = λ k e. own.opened_unacked k (was k e);
      opened_uncarried = λ k e. own.opened_uncarried k (was k e);
      one_tag = own.one_tag;
      acked_has = own.acked_has;
      carried_has = own.carried_has;
      carried_unacked = own.carried_unacked;
      lost_has = own.lost_has;
    }

-- what is free
pub record Loose (h : BufferHistory) (k : ℕ) : Type 0 where
  pub has : has_number k (numbers_of h.cells) ≡ true
  pub closed : has_number k h.opened ≡ false
  pub unacked : has_number k h.acknowledged ≡ false
  pub uncarried : is_carried k h.carried ≡ false

pub free_parts : (h : BufferHistory) (k : ℕ) → is_free h k ≡ true → Loose h k
free_parts h k e = by (has_number k (numbers_of h.cells)) refl (has_number k h.opened) refl (has_number k h.acknowledged) refl (is_carried k h.carried) refl e
  where
    by : (a : Bool) → has_number k (numbers_of h.cells) ≡ a → (b : Bool) → has_number k h.opened ≡ b
        → (c : Bool) → has_number k h.acknowledged ≡ c → (d : Bool) → is_carried k h.carried ≡ d
        →
        (a &&
        (not b && (not c && (not d && is_over h.setting.limits (losses_of k h.losses) h.moment))))
        ≡ true
        → Loose h k
    by true f false g false i false j e = record { has = f; closed = g; unacked = i; uncarried = j }
    by false f b g c i d j e = absurd cc
    by true f true g c i d j e = absurd cc
    by true f false g true i d j e = absurd cc
    by true f false g false i true j e = absurd cc

pub given-free : (h : BufferHistory) (k : ℕ) → IsSane h → given h ≡ Some k
    → is_free h k ≡ true
given-free h k own e = (found (is_free h) k (numbers_of h.cells) (sym (least_first (is_free h) (numbers_of h.cells) own.rising) ∙ e)).1

-- what is given for what is wanted is closed, not acknowledged, and no worker has it
pub given_for-loose : (h : BufferHistory) (wanted : Wanted) (k : ℕ) → IsSane h
    → given_for h wanted ≡ Some k → Loose h k
given_for-loose h wanted k own e =
    let asked = asked_for h wanted in
    let is = free_parts asked k (given-free asked k (asked-sane h wanted own) e) in
    record { has = is.has; closed = is.closed; unacked = is.unacked; uncarried = is.uncarried }

carried_more-sane : (h : BufferHistory) (worker : ℕ) (o : Option ℕ) → IsSane h
    → ((k : ℕ) → o ≡ Some k → Loose h k)
    → IsSane (record h { carried = carry_more worker o h.carried })
carried_more-sane h worker None own free = record {
  rising = own.rising;
  opened_has = own.opened_has;
  opened_last = own.opened_last;
  opened_unacked = own.opened_unacked;
  opened_uncarried = own.opened_uncarried;
  one_tag = own.one_tag;
  acked_has = own.acked_has;
  carried_has = own.carried_has;
  carried_unacked = own.carried_unacked;
  lost_has = own.lost_has;
}
carried_more-sane h worker (Some n) own free =
    let is = free n refl in
    let was : (k : ℕ) → is_carried k (h.carried ++ record { worker = worker; number = n } ∷ []) ≡ true → (is_carried k h.carried ≡ true) ⊎ (n ≡ k) = λ k e. split k (or_cases (is_carried k h.carried) (n == k) (sym (is_carried-push worker n k h.carried) ∙ e)) in
    record {
      rising = own.rising;
      opened_has = own.opened_has;
      opened_last = own.opened_last;
      opened_unacked = own.opened_unacked;
      opened_uncarried = λ k e. is_carried-push worker n k h.carried ∙ neither (is_carried k h.carried) (n == k) (own.opened_uncarried k e)
          (not_from (n == k) (λ f. true_false (has_number k h.opened) e (ap (λ x. has_number x h.opened) (sym (eqb-true n k f)) ∙ is.closed)));
      one_tag = own.one_tag;
      acked_has = own.acked_has;
      carried_has = λ k e. elim (was k e) [ inl f ↦ own.carried_has k f | inr f ↦ subst (λ x. has_cell x h.cells ≡ true) f (sym (numbers-has n h.cells) ∙ is.has) ];
      carried_unacked = λ k e. elim (was k e) [ inl f ↦ own.carried_unacked k f | inr f ↦ subst (λ x. has_number x h.acknowledged ≡ false) f is.unacked ];
      lost_has = own.lost_has;
    }
  where
    split : (k : ℕ) → (is_carried k h.carried ≡ true) ⊎ ((n == k) ≡ true)
        → (is_carried k h.carried ≡ true) ⊎ (n ≡ k)
    split k (inl e) = inl e
    split k (inr e) = inr (eqb-true n k e)

    neither : (a b : Bool) → a ≡ false → b ≡ false → (a || b) ≡ false
    neither true b e f = e
    neither false b e f = f

pub takes-sane : (h : BufferHistory) (worker : ℕ) (wanted : Wanted) (now : ℕ) → IsSane h
    → IsSane (takes h worker wanted now)
takes-sane h worker wanted now own =
    let l = looks h now in
    carried_more-sane l worker (given_for l wanted) (looks-sane h now own) (λ k e. given_for-loose l wanted k (looks-sane h now own) e)

pub settles-sane : (h : BufferHistory) (n : ℕ) → IsSane h → is_carried n h.carried ≡ true
    → IsSane (settles h n)
settles-sane h n own has =
    let was : (k : ℕ) → is_carried k (without n h.carried) ≡ true → (is_carried k h.carried ≡ true) × (not (k == n) ≡ true) = λ k e. and_parts (is_carried k h.carried) (not (k == n)) (sym (is_carried-without n k h.carried) ∙ e) in
    record {
      rising = own.rising;
      opened_has = own.opened_has;
      opened_last = own.opened_last;
      opened_unacked = λ k e. has_number-push k n h.acknowledged ∙ neither (has_number k h.acknowledged) (n == k) (own.opened_unacked k e)
          (not_from (n == k) (λ f. true_false (is_carried n h.carried) has (ap (λ x. is_carried x h.carried) (eqb-true n k f) ∙ own.opened_uncarried k e)));
      opened_uncarried = λ k e. is_carried-without n k h.carried ∙ ap (λ b. b && not (k == n)) (own.opened_uncarried k e);
      one_tag = own.one_tag;
      acked_has = λ k e. elim (or_cases (has_number k h.acknowledged) (n == k) (sym (has_number-push k n h.acknowledged) ∙ e)) [ inl f ↦ own.acked_has k f | inr f ↦ subst (λ x. has_cell x h.cells ≡ true) (eqb-true n k f) (own.carried_has n has) ];
      carried_has = λ k e. own.carried_has k (was k e).0;
      carried_unacked = λ k e. has_number-push k n h.acknowledged ∙ neither (has_number k h.acknowledged) (n == k) (own.carried_unacked k (was k e).0) (swap k (not-true (k == n) (was k e).1));
      lost_has = own.lost_has;
    }
  where
    neither : (a b : Bool) → a ≡ false → b ≡ false → (a || b) ≡ false
    neither true b e f = e
    neither false b e f = f

    swap : (k : ℕ) → (k == n) ≡ false → (n == k) ≡ false
    swap k e = grind (arith, nat_tests, e)

pub frees-sane : (h : BufferHistory) (n : ℕ) (loss : Option ℕ) → IsSane h
    → is_carried n h.carried ≡ true → IsSane (frees h n loss)
frees-sane h n None own has =
    let was : (k : ℕ) → is_carried k (without n h.carried) ≡ true → is_carried k h.carried ≡ true = λ k e. (and_parts (is_carried k h.carried) (not (k == n)) (sym (is_carried-without n k h.carried) ∙ e)).0 in
    record {
      rising = own.rising;
      opened_has = own.opened_has;
      opened_last = own.opened_last;
      opened_unacked = own.opened_unacked;
      opened_uncarried = λ k e. is_carried-without n k h.carried ∙ ap (λ b. b && not (k == n)) (own.opened_uncarried k e);
      one_tag = own.one_tag;
      acked_has = own.acked_has;
      carried_has = λ k e. own.carried_has k (was k e);
      carried_unacked = λ k e. own.carried_unacked k (was k e);
      lost_has = own.lost_has;
    }
frees-sane h n (Some now) own has =
    let was : (k : ℕ) → is_carried k (without n h.carried) ≡ true → is_carried k h.carried ≡ true = λ k e. (and_parts (is_carried k h.carried) (not (k == n)) (sym (is_carried-without n k h.carried) ∙ e)).0 in
    record {
      rising = own.rising;
      opened_has = own.opened_has;
      opened_last = own.opened_last;
      opened_unacked = own.opened_unacked;
      opened_uncarried = λ k e. is_carried-without n k h.carried ∙ ap (λ b. b && not (k == n)) (own.opened_uncarried k e);
      one_tag = own.one_tag;
      acked_has = own.acked_has;
      carried_has = λ k e. own.carried_has k (was k e);
      carried_unacked = λ k e. own.carried_unacked k (was k e);
      lost_has = λ k e. losses-elsewhere n k (max h.moment now) h.losses (not_from (n == k) (λ f. true_false (has_cell n h.cells) (own.carried_has n has) (ap (λ x. has_cell x h.cells) (eqb-true n k f) ∙ e))) ∙ own.lost_has k e;
    }

-- ---- runs

pub next-sane : (h : BufferHistory) (event : BufferEvent) → IsSane h
    → IsSane (history_next h event)
next-sane h (Enter origin r now) own = by (refusal h origin r now)
  where
    by : (o : Option AdmitError) → IsSane (unless_refused o (enters h origin r now) h)
    by None = enters-sane h origin r now own
    by (Some fault) = own
next-sane h (Flush now kind) own = flushes-sane h now kind own
next-sane h (Take worker wanted now) own = takes-sane h worker wanted now own
next-sane h (Settle number) own = by (is_carried number h.carried) refl
  where
    by : (b : Bool) → is_carried number h.carried ≡ b → IsSane (cond b (settles h number) h)
    by true e = settles-sane h number own e
    by false e = own
next-sane h (Free number loss) own = by (is_carried number h.carried) refl
  where
    by : (b : Bool) → is_carried number h.carried ≡ b → IsSane (cond b (frees h number loss) h)
    by true e = frees-sane h number loss own e
    by false e = own

pub after-sane : (events : List BufferEvent) (h : BufferHistory) → IsSane h
    → IsSane (history_after h events)
after-sane [] h own = own
after-sane (event ∷ events) h own = after-sane events (history_next h event) (next-sane h event own)

pub reached-sane : (setting : BufferSetting) (h : BufferHistory) → IsReached setting h
    → IsSane h
reached-sane setting h r = subst IsSane r.leads (after-sane r.events (opening setting) (opening-sane setting))
