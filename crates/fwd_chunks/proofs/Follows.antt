-- The live part follows the history, event by event.
use Rattle.std.proofs.Common.{◌≡◌, ◌≢◌, ℕ, ◌+◌, ◌<◌, ◌^◌, Bool, true, false, cond, eqb, List, [], ◌∷◌, ◌++◌, length, drop, Option, Some, None, refl, sym, ap, ◌∙◌, max, inl, inr, arith, append_assoc, length-append}
use Rattle.std.specs.Prelude.{◌⊎◌, map, filter, find, not, ◌&&◌, ◌||◌, ◌==◌, nat_le, nat_lt, option_map, is_some}
use Rattle.std.specs.Str.{bytes_eq}
use Rattle.std.proofs.lemmas.Bool.Decides.{nat_tests}
use Rattle.std.proofs.lemmas.Bool.{and_parts, and_from}
use Rattle.std.proofs.lemmas.List.{length-map, map-append, drop_at, append-nil}
use Rattle.std.proofs.lemmas.Slice.Eq.{bytes_eq-Decides}
use Rattle.fwd_modes.specs.declared.origin.Origin.{Origin}
use Rattle.fwd_modes.specs.Requests.{Request}
use Rattle.fwd_chunks.specs.declared.limits.BufferLimits.{BufferLimits}
use Rattle.fwd_chunks.specs.declared.flush.FlushKind.{FlushKind}
use Rattle.fwd_chunks.specs.declared.flush.FlushKind.TheVariants.{Due, All}
use Rattle.fwd_chunks.specs.declared.fault.AdmitError.TheVariants.{Full, NumbersSpent}
use Rattle.fwd_chunks.specs.declared.chunk_state.ChunkState.TheVariants.{Closed, Taken}
use Rattle.fwd_chunks.specs.Cells.{Cell, Carry, size_of, entries_of, cells_at, contents, first_tag, first_moment, has_number, numbers_of, has_entry, greatest, is_carried, without, losses_of}
use Rattle.fwd_chunks.specs.declared.wanted.Wanted.{Wanted}
use Rattle.fwd_chunks.specs.History.{BufferHistory, next_number, has_room, joins, adds, adds_all, looks, enters, unsettled, is_full, is_spent, refusal, before_runs, runs_after, spans_of, is_old, closes, closing, flushes, is_over, is_free, given, asked_for, given_for, carry_more, takes, carried_chunk_of, settles, frees, counts}
use Rattle.fwd_chunks.specs.Live.{stage_by, stage_of, live_chunk, live_buffer, is_open, is_closed, is_taken, staged, changed, is_at, held_in, bytes_in, is_open_of, may_take, first_chunk, live_adds_to, live_adds, live_adds_all, live_looks, live_enters, live_is_full, live_is_spent, live_refusal, live_place, live_runs, live_spans, live_closes, live_closing, live_flushes, live_is_free, live_given, live_asked_for, live_given_for, live_carries_more, live_takes, live_carried_chunk, live_carried, live_settles, live_frees, live_counts}
use Rattle.fwd_base.specs.Tallies.{tally_of, live_is_over, tally_more}
use Rattle.fwd_base.proofs.Doublings.{wait_settles}
use Rattle.fwd_chunks.proofs.Numbers.{true_false, not_from, eq_same, filter-within, filter-map, filter-same, find-map, find-same, find_only, find_no, map-map, map-same, has_number-push, has_number-filter, AreDistinct, least_first, sum_over, sum_over-same}
use Rattle.fwd_chunks.proofs.CellLemmas.{filter-push_in, filter-push_out, any-false, any-find, last_number-entry, has_cell, numbers-has, numbers-distinct, numbers-push, numbers-filter, cells_at-here, cells_at-elsewhere, cells_at-none, cells_at-some, cells_at-unsettled, first_tag-push, first_moment-push, entries_of-push, first_tag-entry, greatest-push, greatest-same, greatest-next, weigh, weigh_numbers, weigh-length, weigh-size, carry_at, carry_at-without_same, carry_at-without_other, carry_at-push_other, carry_at-push_same, losses-here, losses-elsewhere}
use Rattle.fwd_chunks.proofs.Sane.{IsSane, Joins, Begins, joins_or_begins, cell_at, adds_at, adds-at, IsFor, joins-for, next-for, next-fresh, adds-sane, looks-sane, asked-sane, Loose, free_parts, given_for-loose}
use Rattle.std.proofs.lemmas.Bool.{eqb-true}

-- ---- the numbers of the live part

abbrev pub live_numbers : BufferHistory → List ℕ
live_numbers h = numbers_of (unsettled h)

live_numbers-is : (h : BufferHistory)
    → live_numbers h ≡ filter (λ k. not (has_number k h.acknowledged)) (numbers_of h.cells)
live_numbers-is h = numbers-filter (λ k. not (has_number k h.acknowledged)) h.cells

live_numbers-has : (h : BufferHistory) (k : ℕ)
    → has_number k (live_numbers h) ≡ (has_cell k h.cells && not (has_number k h.acknowledged))
live_numbers-has h k =
    ap (has_number k) (live_numbers-is h) ∙ has_number-filter k (λ j. not (has_number j h.acknowledged)) (numbers_of h.cells) ∙ ap (λ b. b && not (has_number k h.acknowledged)) (numbers-has k h.cells)

-- what is known of a live number
pub record InLive (h : BufferHistory) (k : ℕ) : Type 0 where
  pub has : has_cell k h.cells ≡ true
  pub unacked : has_number k h.acknowledged ≡ false

pub in_live : (h : BufferHistory) (k : ℕ) → has_number k (live_numbers h) ≡ true → InLive h k
in_live h k e = by (has_cell k h.cells) refl (has_number k h.acknowledged) refl (sym (live_numbers-has h k) ∙ e)
  where
    by : (a : Bool) → has_cell k h.cells ≡ a → (b : Bool) → has_number k h.acknowledged ≡ b
        → (a && not b) ≡ true → InLive h k
    by true f false g e = record { has = f; unacked = g }
    by true f true g e = absurd cc
    by false f b g e = absurd cc

is_live : (h : BufferHistory) (k : ℕ) → has_cell k h.cells ≡ true
    → has_number k h.acknowledged ≡ false → has_number k (live_numbers h) ≡ true
is_live h k e f = live_numbers-has h k ∙ and_from (has_cell k h.cells) (not (has_number k h.acknowledged)) e (ap not f)

-- ---- stages and tags

open-stage : (b : Bool) (c : Option Carry) → is_open (stage_by b c) ≡ b
open-stage true c = refl
open-stage false None = refl
open-stage false (Some c) = refl

tag-entry : (h : BufferHistory) (tag : List ℕ) (k : ℕ) → IsSane h
    → has_cell k h.cells ≡ true
    → bytes_eq (first_tag (cells_at k h.cells)) tag ≡ has_entry tag k h.cells
tag-entry h tag k own has = by (has_entry tag k h.cells) refl
  where
    by : (b : Bool) → has_entry tag k h.cells ≡ b
        → bytes_eq (first_tag (cells_at k h.cells)) tag ≡ b
    by true e = (bytes_eq-Decides (first_tag (cells_at k h.cells)) tag).1 (own.one_tag k tag e)
    by false e = not_from (bytes_eq (first_tag (cells_at k h.cells)) tag) (λ f. true_false (has_entry tag k h.cells)
        (ap (λ t. has_entry t k h.cells) (sym ((bytes_eq-Decides (first_tag (cells_at k h.cells)) tag).0 f)) ∙ first_tag-entry k h.cells has) e)

open_of-is : (h : BufferHistory) (tag : List ℕ) (k : ℕ) → IsSane h
    → has_cell k h.cells ≡ true
    → is_open_of tag (live_chunk h k) ≡ (has_number k h.opened && has_entry tag k h.cells)
open_of-is h tag k own has =
    λ i. open-stage (has_number k h.opened) (carry_at k h.carried) i && tag-entry h tag k own has i

uncarried-none : (k : ℕ) (cs : List Carry) → is_carried k cs ≡ false
    → carry_at k cs ≡ None
uncarried-none k cs e = by (carry_at k cs) refl
  where
    by : (o : Option Carry) → carry_at k cs ≡ o → o ≡ None
    by None f = refl
    by (Some c) f = absurd (true_false (is_carried k cs) (any-find (λ c. c.number == k) cs ∙ ap is_some f) e)

-- ---- an entry is added

module _ (h : BufferHistory) (tag : List ℕ) (origin : Origin) (entry : List ℕ) (n : ℕ) (own : IsSane h) (fit : IsFor h tag n) where
  unsettled-more : unsettled
      (adds_at h tag origin entry n) ≡ unsettled h ++ cell_at h tag origin entry n ∷ []
  unsettled-more = filter-push_in (λ c. not (has_number c.number h.acknowledged)) h.cells (cell_at h tag origin entry n) (ap not fit.unacked)

  has_unsettled : has_cell n (unsettled h) ≡ has_cell n h.cells
  has_unsettled = sym (numbers-has n (unsettled h)) ∙ live_numbers-has h n ∙ ap (λ b. has_cell n h.cells && not b) fit.unacked ∙ and_true (has_cell n h.cells)
    where
      and_true : (b : Bool) → (b && true) ≡ b
      and_true true = refl
      and_true false = refl

  numbers-more : live_numbers (adds_at h tag origin entry n) ≡ cond (has_cell n h.cells)
      (live_numbers h) (live_numbers h ++ n ∷ [])
  numbers-more = ap numbers_of unsettled-more ∙ numbers-push (unsettled h) (cell_at h tag origin entry n) ∙ ap (λ b. cond b (live_numbers h) (live_numbers h ++ n ∷ [])) has_unsettled

  settled-more : filter (λ c. has_number c.number h.acknowledged)
      (h.cells ++ cell_at h tag origin entry n ∷ []) ≡ filter
      (λ c. has_number c.number h.acknowledged) h.cells
  settled-more = filter-push_out (λ c. has_number c.number h.acknowledged) h.cells (cell_at h tag origin entry n) fit.unacked

  length-more : length (h.cells ++ cell_at h tag origin entry n ∷ []) ≡ length h.cells + 1
  length-more = length-append h.cells (cell_at h tag origin entry n ∷ [])

  -- another number than the entry's
  chunk-elsewhere : (k : ℕ) → (n == k) ≡ false
      → live_chunk (adds_at h tag origin entry n) k ≡ staged
      (stage_by (has_number k h.opened && not (has_entry tag k h.cells)) (carry_at k h.carried))
      (live_chunk h k)
  chunk-elsewhere k e =
      let cells = cells_at-elsewhere k h.cells (cell_at h tag origin entry n) e in
      let stands : has_number k (n ∷ filter (λ j. not (has_entry tag j h.cells)) h.opened) ≡ (has_number k h.opened && not (has_entry tag k h.cells)) =
      ap (λ b. b || has_number k (filter (λ j. not (has_entry tag j h.cells)) h.opened)) e ∙ has_number-filter k (λ j. not (has_entry tag j h.cells)) h.opened in
      λ i. record {
        number = k;
        tag = first_tag (cells i);
        entries = entries_of (cells i);
        since = first_moment (cells i);
        stage = stage_by (stands i) (carry_at k h.carried);
        losses = tally_of (losses_of k h.losses);
      }

  open_here : (k : ℕ) → n ≡ k
      → has_number k (n ∷ filter (λ j. not (has_entry tag j h.cells)) h.opened) ≡ true
  open_here k same = ap (λ b. b || has_number k (filter (λ j. not (has_entry tag j h.cells)) h.opened)) (ap (λ x. eqb x k) same ∙ eq_same k)

module _ (h : BufferHistory) (tag : List ℕ) (origin : Origin) (entry : List ℕ) (own : IsSane h) (j : Joins h tag entry) where
  joined_has : has_cell j.number h.cells ≡ true
  joined_has = own.opened_has j.number j.opened

  joined_entry : has_entry tag j.number h.cells ≡ true
  joined_entry = by ((joins-for h tag entry own j).there) (has_entry tag j.number h.cells) refl
    where
      by : (has_cell j.number h.cells ≡ true) ⊎ (j.number ≡ next_number h) → (b : Bool)
          → has_entry tag j.number h.cells ≡ b → b ≡ true
      by w true e = refl
      by w false e = absurd (true_false (has_entry tag j.number h.cells) (last_entry) e)
        where
          last_entry : has_entry tag j.number h.cells ≡ true
          last_entry = last_number-entry tag j.number h.cells j.last

  -- the chunk that may take the entry is the one that it joins
  joined_found : find (may_take (live_buffer h) tag entry) (live_buffer h).chunks ≡ Some
      (live_chunk h j.number)
  unfolding live_buffer
  joined_found =
      find-map (may_take (live_buffer h) tag entry) (live_chunk h) (live_numbers h)
      ∙ ap (option_map (live_chunk h)) (find_only (λ k. may_take (live_buffer h) tag entry (live_chunk h k)) j.number (live_numbers h)
      (is_live h j.number joined_has (own.opened_unacked j.number j.opened))
      (and_from (is_open_of tag (live_chunk h j.number)) (nat_le (size_of (contents j.number h.cells) + length entry) h.setting.limits.chunk)
      (open_of-is h tag j.number own joined_has ∙ and_from (has_number j.number h.opened) (has_entry tag j.number h.cells) j.opened joined_entry) j.fits)
      only)
    where
      only : (k : ℕ) → has_number k (live_numbers h) ≡ true
          → may_take (live_buffer h) tag entry (live_chunk h k) ≡ true → k ≡ j.number
      only k e f =
          let in_it = in_live h k e in
          let here = and_parts (has_number k h.opened) (has_entry tag k h.cells) (sym (open_of-is h tag k own in_it.has) ∙ (and_parts (is_open_of tag (live_chunk h k)) (nat_le (size_of (contents k h.cells) + length entry) h.setting.limits.chunk) f).0) in
          same (sym (own.opened_last k tag here.0 here.1) ∙ j.last)
        where
          same : Some k ≡ Some j.number → k ≡ j.number
          same g = cc

  joined_chunk : (k : ℕ) → has_number k (live_numbers h) ≡ true
      → cond (is_at j.number (live_chunk h k))
      (record (live_chunk h k) { entries = contents k h.cells ++ entry ∷ [] })
      (live_chunk h k) ≡ live_chunk (adds_at h tag origin entry j.number) k
  joined_chunk k e = by (k == j.number) refl
    where
      own_stage : (k == j.number) ≡ false
          → stage_by (has_number k h.opened) (carry_at k h.carried) ≡ stage_by
          (has_number k h.opened && not (has_entry tag k h.cells)) (carry_at k h.carried)
      own_stage f = ap (λ b. stage_by b (carry_at k h.carried)) (at (has_number k h.opened) refl (has_entry tag k h.cells) refl)
        where
          at : (a : Bool) → has_number k h.opened ≡ a → (b : Bool) → has_entry tag k h.cells ≡ b
              → a ≡ (a && not b)
          at false g b i = refl
          at true g false i = refl
          at true g true i = absurd (true_false (k == j.number) (ap (λ x. eqb k x) (sym (same (sym (own.opened_last k tag g i) ∙ j.last))) ∙ eq_same k) f)
            where
              same : Some k ≡ Some j.number → k ≡ j.number
              same i = cc

      by : (b : Bool) → (k == j.number) ≡ b
          → cond b (record (live_chunk h k) { entries = contents k h.cells ++ entry ∷ [] })
          (live_chunk h k) ≡ live_chunk (adds_at h tag origin entry j.number) k
      by true f =
          let same : j.number ≡ k = sym (eqb-true k j.number f) in
          let here : (j.number == k) ≡ true = ap (λ x. eqb x k) same ∙ eq_same k in
          let cells = cells_at-here k h.cells (cell_at h tag origin entry j.number) here in
          let some : 0 < length (cells_at k h.cells) = cells_at-some k h.cells (in_live h k e).has in
          let was_open : has_number k h.opened ≡ true = ap (λ x. has_number x h.opened) (sym same) ∙ j.opened in
          λ i. record {
            number = k;
            tag = (sym (first_tag-push (cells_at k h.cells) (cell_at h tag origin entry j.number) some) ∙ ap first_tag (sym cells)) i;
            entries = (sym (entries_of-push (cells_at k h.cells) (cell_at h tag origin entry j.number)) ∙ ap entries_of (sym cells)) i;
            since = (sym (first_moment-push (cells_at k h.cells) (cell_at h tag origin entry j.number) some) ∙ ap first_moment (sym cells)) i;
            stage = (ap (λ b. stage_by b (carry_at k h.carried)) (was_open ∙ sym (open_here h tag origin entry j.number own (joins-for h tag entry own j) k same))) i;
            losses = tally_of (losses_of k h.losses);
          }
      by false f =
          let differ : (j.number == k) ≡ false = not_from (j.number == k) (λ g. true_false (k == j.number) (ap (λ x. eqb k x) (eqb-true j.number k g) ∙ eq_same k) f) in
          ap (λ s. staged s (live_chunk h k)) (own_stage f) ∙ sym (chunk-elsewhere h tag origin entry j.number own (joins-for h tag entry own j) k differ)

  joins-live : live_buffer (adds_at h tag origin entry j.number) ≡ live_adds_to
      (live_buffer h) tag entry (Some (live_chunk h j.number))
  unfolding live_buffer
  joins-live =
      let fit = joins-for h tag entry own j in
      let numbers : live_numbers (adds_at h tag origin entry j.number) ≡ live_numbers h = numbers-more h tag origin entry j.number own fit ∙ ap (λ b. cond b (live_numbers h) (live_numbers h ++ j.number ∷ [])) joined_has in
      let chunks : map (live_chunk (adds_at h tag origin entry j.number)) (live_numbers (adds_at h tag origin entry j.number)) ≡ changed (is_at j.number) (λ d. record d { entries = d.entries ++ entry ∷ [] }) (map (live_chunk h) (live_numbers h)) =
      ap (map (live_chunk (adds_at h tag origin entry j.number))) numbers
      ∙ sym (map-same (λ k. cond (is_at j.number (live_chunk h k)) (record (live_chunk h k) { entries = contents k h.cells ++ entry ∷ [] }) (live_chunk h k)) (live_chunk (adds_at h tag origin entry j.number)) (live_numbers h) joined_chunk)
      ∙ sym (map-map (λ c. cond (is_at j.number c) (record c { entries = c.entries ++ entry ∷ [] }) c) (live_chunk h) (live_numbers h)) in
      λ i. record {
        setting = h.setting;
        chunks = chunks i;
        greatest = (greatest-push h.cells (cell_at h tag origin entry j.number) ∙ greatest-same j.number h.cells joined_has) i;
        accepted = length-more h tag origin entry j.number own fit i;
        settled = length (settled-more h tag origin entry j.number own fit i);
        moment = h.moment;
      }

module _ (h : BufferHistory) (tag : List ℕ) (origin : Origin) (entry : List ℕ) (own : IsSane h) (b : Begins h tag entry) where
  -- no chunk may take the entry
  begun_found : find (may_take (live_buffer h) tag entry) (live_buffer h).chunks ≡ None
  unfolding live_buffer
  begun_found =
      find-map (may_take (live_buffer h) tag entry) (live_chunk h) (live_numbers h)
      ∙ ap (option_map (live_chunk h)) (find_no (λ k. may_take (live_buffer h) tag entry (live_chunk h k)) (live_numbers h) none)
    where
      none : (k : ℕ) → has_number k (live_numbers h) ≡ true
          → may_take (live_buffer h) tag entry (live_chunk h k) ≡ true → ⊥
      none k e f =
          let in_it = in_live h k e in
          let parts = and_parts (is_open_of tag (live_chunk h k)) (nat_le (size_of (contents k h.cells) + length entry) h.setting.limits.chunk) f in
          let here = and_parts (has_number k h.opened) (has_entry tag k h.cells) (sym (open_of-is h tag k own in_it.has) ∙ parts.0) in
          true_false (has_room h entry k) (and_from (has_number k h.opened) (nat_le (size_of (contents k h.cells) + length entry) h.setting.limits.chunk) here.0 parts.1) (b.none k (own.opened_last k tag here.0 here.1))

  begun_chunk : (k : ℕ) → has_number k (live_numbers h) ≡ true
      → cond (is_open_of tag (live_chunk h k)) (staged Closed (live_chunk h k))
      (live_chunk h k) ≡ live_chunk (adds_at h tag origin entry (next_number h)) k
  begun_chunk k e =
      ap (λ t. cond t (staged Closed (live_chunk h k)) (live_chunk h k)) (open_of-is h tag k own (in_live h k e).has)
      ∙ by (has_number k h.opened) refl (has_entry tag k h.cells)
      ∙ sym (chunk-elsewhere h tag origin entry (next_number h) own (next-for h tag own) k differ)
    where
      differ : (next_number h == k) ≡ false
      differ = not_from (next_number h == k) (λ f. true_false (has_cell k h.cells) (in_live h k e).has (ap (λ x. has_cell x h.cells) (sym (eqb-true (next_number h) k f)) ∙ next-fresh h))

      by : (a : Bool) → has_number k h.opened ≡ a → (t : Bool)
          → cond (a && t) (staged Closed (live_chunk h k))
          (staged (stage_by a (carry_at k h.carried)) (live_chunk h k)) ≡ staged
          (stage_by (a && not t) (carry_at k h.carried)) (live_chunk h k)
      by true f true = ap (λ c. staged (stage_by false c) (live_chunk h k)) (sym (uncarried-none k h.carried (own.opened_uncarried k f)))
      by true f false = refl
      by false f t = refl

  begun_first : live_chunk (adds_at h tag origin entry (next_number h))
      (next_number h) ≡ first_chunk (live_buffer h) tag entry
  unfolding live_buffer
  begun_first =
      let n = next_number h in
      let d = cell_at h tag origin entry n in
      let cells : cells_at n (h.cells ++ d ∷ []) ≡ d ∷ [] = cells_at-here n h.cells d (eq_same n) ∙ ap (λ cs. cs ++ d ∷ []) (cells_at-none n h.cells (next-fresh h)) in
      λ i. record {
        number = n;
        tag = first_tag (cells i);
        entries = entries_of (cells i);
        since = first_moment (cells i);
        stage = stage_by (open_here h tag origin entry n own (next-for h tag own) n refl i) (carry_at n h.carried);
        losses = tally_of (own.lost_has n (next-fresh h) i);
      }

  begins-live : live_buffer (adds_at h tag origin entry (next_number h)) ≡ live_adds_to
      (live_buffer h) tag entry None
  unfolding live_buffer
  begins-live =
      let n = next_number h in
      let fit = next-for h tag own in
      let after = adds_at h tag origin entry n in
      let numbers : live_numbers (adds_at h tag origin entry (next_number h)) ≡ live_numbers h ++ next_number h ∷ [] = numbers-more h tag origin entry n own fit ∙ ap (λ t. cond t (live_numbers h) (live_numbers h ++ next_number h ∷ [])) (next-fresh h) in
      let chunks : map (live_chunk (adds_at h tag origin entry (next_number h))) (live_numbers (adds_at h tag origin entry (next_number h))) ≡ changed (is_open_of tag) (staged Closed) (map (live_chunk h) (live_numbers h)) ++ first_chunk (live_buffer h) tag entry ∷ [] =
      ap (map (live_chunk after)) numbers
      ∙ map-append (live_chunk after) (live_numbers h) (n ∷ [])
      ∙ (λ i. (sym (map-same (λ k. cond (is_open_of tag (live_chunk h k)) (staged Closed (live_chunk h k)) (live_chunk h k)) (live_chunk after) (live_numbers h) begun_chunk)
      ∙ sym (map-map (λ c. cond (is_open_of tag c) (staged Closed c) c) (live_chunk h) (live_numbers h))) i ++ begun_first i ∷ []) in
      λ i. record {
        setting = h.setting;
        chunks = chunks i;
        greatest = (greatest-push h.cells (cell_at h tag origin entry n) ∙ ap Some (greatest-next h.setting.limits.first (greatest h.cells))) i;
        accepted = length-more h tag origin entry n own fit i;
        settled = length (settled-more h tag origin entry n own fit i);
        moment = h.moment;
      }

pub adds-live : (h : BufferHistory) (tag : List ℕ) (origin : Origin) (entry : List ℕ)
    → IsSane h → live_buffer (adds h tag origin entry) ≡ live_adds (live_buffer h) tag entry
unfolding live_adds
adds-live h tag origin entry own = elim (joins_or_begins h tag entry) [
  | inl j ↦ ap live_buffer (adds-at h tag origin entry j.number j.is) ∙ joins-live h tag origin entry own j ∙ ap (live_adds_to (live_buffer h) tag entry) (sym (joined_found h tag origin entry own j))
  | inr b ↦ ap live_buffer (adds-at h tag origin entry (next_number h) b.is) ∙ begins-live h tag origin entry own b ∙ ap (live_adds_to (live_buffer h) tag entry) (sym (begun_found h tag origin entry own b))
]

pub adds_all-live : (entries : List (List ℕ)) (h : BufferHistory) (tag : List ℕ)
    (origin : Origin) → IsSane h
    → live_buffer (adds_all h tag origin entries) ≡ live_adds_all (live_buffer h) tag entries
adds_all-live [] h tag origin own = refl
adds_all-live (entry ∷ entries) h tag origin own =
    adds_all-live entries (adds h tag origin entry) tag origin (adds-sane h tag origin entry own) ∙ ap (λ b. live_adds_all b tag entries) (adds-live h tag origin entry own)

pub looks-live : (h : BufferHistory) (now : ℕ)
    → live_buffer (looks h now) ≡ live_looks (live_buffer h) now
unfolding live_buffer
looks-live h now = refl

pub enters-live : (h : BufferHistory) (origin : Origin) (r : Request) (now : ℕ) → IsSane h
    → live_buffer (enters h origin r now) ≡ live_enters (live_buffer h) r now
enters-live h origin r now own = adds_all-live r.entries (looks h now) r.tag origin (looks-sane h now own) ∙ ap (λ b. live_adds_all b r.tag r.entries) (looks-live h now)

-- ---- counts

held-over : (h : BufferHistory) (ns : List ℕ)
    → held_in (map (live_chunk h) ns) ≡ sum_over (λ k. length (contents k h.cells)) ns
held-over h [] = refl
held-over h (n ∷ ns) = ap (λ m. length (contents n h.cells) + m) (held-over h ns)

bytes-over : (h : BufferHistory) (ns : List ℕ)
    → bytes_in (map (live_chunk h) ns) ≡ sum_over (λ k. size_of (contents k h.cells)) ns
bytes-over h [] = refl
bytes-over h (n ∷ ns) = ap (λ m. size_of (contents n h.cells) + m) (bytes-over h ns)

pub held-live : (h : BufferHistory) → held_in (live_buffer h).chunks ≡ length (unsettled h)
unfolding live_buffer
held-live h =
    held-over h (live_numbers h)
    ∙ sum_over-same (λ k. length (contents k h.cells)) (λ k. weigh (λ c. 1) (cells_at k (unsettled h))) (live_numbers h)
    (λ k e. weigh-length (cells_at k h.cells) ∙ ap (weigh (λ c. 1)) (sym (cells_at-unsettled k h.acknowledged h.cells (in_live h k e).unacked)))
    ∙ weigh_numbers (λ c. 1) (unsettled h) ∙ sym (weigh-length (unsettled h)) ∙ length-map (unsettled h) (λ c. c.entry)

pub bytes-live : (h : BufferHistory)
    → bytes_in (live_buffer h).chunks ≡ size_of (entries_of (unsettled h))
unfolding live_buffer
bytes-live h =
    bytes-over h (live_numbers h)
    ∙ sum_over-same (λ k. size_of (contents k h.cells)) (λ k. weigh (λ c. length c.entry) (cells_at k (unsettled h))) (live_numbers h)
    (λ k e. weigh-size (cells_at k h.cells) ∙ ap (weigh (λ c. length c.entry)) (sym (cells_at-unsettled k h.acknowledged h.cells (in_live h k e).unacked)))
    ∙ weigh_numbers (λ c. length c.entry) (unsettled h) ∙ sym (weigh-size (unsettled h))

pub counts-live : (h : BufferHistory) → counts h ≡ live_counts (live_buffer h)
unfolding live_buffer
counts-live h = λ i. record {
  accepted = length h.cells;
  settled = length (filter (λ c. has_number c.number h.acknowledged) h.cells);
  held = sym (held-live h) i;
  bytes = sym (bytes-live h) i;
  chunks = sym (length-map (live_numbers h) (live_chunk h)) i;
}

-- ---- what a request is answered

spent-live : (h : BufferHistory) → is_spent h ≡ live_is_spent (live_buffer h)
unfolding live_buffer
spent-live h = refl

full-live : (h : BufferHistory) (r : Request) → is_full h r ≡ live_is_full (live_buffer h) r
unfolding live_buffer
full-live h r = ap (λ n. nat_lt h.setting.limits.total (n + size_of r.entries)) (sym (bytes-live h))

pub refusal-live : (h : BufferHistory) (origin : Origin) (r : Request) (now : ℕ) → IsSane h
    → refusal h origin r now ≡ live_refusal (live_buffer h) r now
refusal-live h origin r now own =
    let spent : is_spent (enters h origin r now) ≡ live_is_spent (live_enters (live_buffer h) r now) = spent-live (enters h origin r now) ∙ ap live_is_spent (enters-live h origin r now own) in
    λ i. cond (full-live h r i) (Some Full) (cond (spent i) (Some NumbersSpent) None)

-- the cells of the entries
added : List (List ℕ) → BufferHistory → List ℕ → Origin → List Cell
added [] h tag origin = []
added (entry ∷ entries) h tag origin = cell_at h tag origin entry (joins h tag entry) ∷ added entries (adds h tag origin entry) tag origin

added-cells : (entries : List (List ℕ)) (h : BufferHistory) (tag : List ℕ) (origin : Origin)
    → (adds_all h tag origin entries).cells ≡ h.cells ++ added entries h tag origin
unfolding adds added
added-cells [] h tag origin = sym (append-nil h.cells)
added-cells (entry ∷ entries) h tag origin =
    added-cells entries (adds h tag origin entry) tag origin ∙ append_assoc h.cells (cell_at h tag origin entry (joins h tag entry) ∷ []) (added entries (adds h tag origin entry) tag origin)

place-live : (h : BufferHistory) (tag : List ℕ) (origin : Origin) (entry : List ℕ) → IsSane h
    → record
    { number = joins h tag entry; from = length (cells_at (joins h tag entry) h.cells); count = 1 }
    ≡ live_place
    (live_buffer h) (find (may_take (live_buffer h) tag entry) (live_buffer h).chunks)
unfolding live_buffer
place-live h tag origin entry own = elim (joins_or_begins h tag entry) [
  | inl j ↦ ap (λ n. record { number = n; from = length (cells_at n h.cells); count = 1 }) j.is
      ∙ (λ i. record { number = j.number; from = sym (length-map (cells_at j.number h.cells) (λ c. c.entry)) i; count = 1 })
      ∙ ap (live_place (live_buffer h)) (sym (joined_found h tag origin entry own j))
  | inr b ↦ ap (λ n. record { number = n; from = length (cells_at n h.cells); count = 1 }) b.is
      ∙ (λ i. record { number = next_number h; from = length (cells_at-none (next_number h) h.cells (next-fresh h) i); count = 1 })
      ∙ ap (live_place (live_buffer h)) (sym (begun_found h tag origin entry own b))
]

runs-live : (entries : List (List ℕ)) (h : BufferHistory) (tag : List ℕ) (origin : Origin)
    → IsSane h
    → runs_after h.cells (added entries h tag origin) ≡ live_runs (live_buffer h) tag entries
unfolding added adds
runs-live [] h tag origin own = refl
runs-live (entry ∷ entries) h tag origin own =
    let rest : runs_after (adds h tag origin entry).cells (added entries (adds h tag origin entry) tag origin) ≡ live_runs (live_adds (live_buffer h) tag entry) tag entries =
    runs-live entries (adds h tag origin entry) tag origin (adds-sane h tag origin entry own) ∙ ap (λ b. live_runs b tag entries) (adds-live h tag origin entry own) in
    λ i. before_runs (place-live h tag origin entry own i) (rest i)

pub spans-live : (h : BufferHistory) (origin : Origin) (r : Request) (now : ℕ) → IsSane h
    → spans_of h origin r now ≡ live_spans (live_buffer h) r now
spans-live h origin r now own =
    ap (λ cs. runs_after h.cells (drop (length h.cells) cs)) (added-cells r.entries (looks h now) r.tag origin)
    ∙ ap (runs_after h.cells) (drop_at h.cells (added r.entries (looks h now) r.tag origin) (length h.cells) refl)
    ∙ runs-live r.entries (looks h now) r.tag origin (looks-sane h now own)
    ∙ ap (λ b. live_runs b r.tag r.entries) (looks-live h now)

-- ---- flushing

old-live : (interval moment k : ℕ) (cells : List Cell) → has_cell k cells ≡ true
    → is_old interval moment (find (λ c. c.number == k) cells)
    ≡ nat_le (first_moment (cells_at k cells) + interval) moment
old-live interval moment k [] e = absurd cc
old-live interval moment k (c ∷ cells) e = by (old-live interval moment k cells) (c.number == k) e
  where
    by :
        (has_cell k cells ≡ true → is_old interval moment (find (λ d. d.number == k) cells)
        ≡ nat_le (first_moment (cells_at k cells) + interval) moment)
        → (b : Bool) → (b || has_cell k cells) ≡ true
        → is_old interval moment (cond b (Some c) (find (λ d. d.number == k) cells)) ≡ nat_le
        (first_moment (cond b (c ∷ cells_at k cells) (cells_at k cells)) + interval) moment
    by rest true f = refl
    by rest false f = rest f

closes-live : (h : BufferHistory) (kind : FlushKind) (k : ℕ) → has_cell k h.cells ≡ true
    → live_closes (live_buffer h) kind (live_chunk h k)
    ≡ (has_number k h.opened && closes h kind k)
unfolding live_buffer
closes-live h All k e = open-stage (has_number k h.opened) (carry_at k h.carried) ∙ by (has_number k h.opened)
  where
    by : (b : Bool) → b ≡ (b && true)
    by true = refl
    by false = refl
closes-live h Due k e = λ i. open-stage (has_number k h.opened) (carry_at k h.carried) i && sym (old-live h.setting.limits.interval h.moment k h.cells e) i

pub closing-live : (h : BufferHistory) (now : ℕ) (kind : FlushKind) → IsSane h
    → length (closing h now kind) ≡ length (live_closing (live_buffer h) now kind)
unfolding live_buffer
closing-live h now kind own =
    ap length (sym (filter-within (λ k. has_number k h.opened && closes (looks h now) kind k) (λ k. not (has_number k h.acknowledged)) unacked (numbers_of h.cells)) ∙ ap (filter (λ k. has_number k h.opened && closes (looks h now) kind k)) (sym (live_numbers-is h)))
    ∙ ap length (sym (filter-same (λ k. live_closes (live_buffer (looks h now)) kind (live_chunk (looks h now) k)) (λ k. has_number k h.opened && closes (looks h now) kind k) (live_numbers h) (λ k e. closes-live (looks h now) kind k (in_live h k e).has)))
    ∙ sym (length-map (filter (λ k. live_closes (live_buffer (looks h now)) kind (live_chunk (looks h now) k)) (live_numbers h)) (live_chunk h))
    ∙ ap length (sym (filter-map (live_closes (live_buffer (looks h now)) kind) (live_chunk h) (live_numbers h)))
    ∙ last
  where
    unacked : (k : ℕ) → (has_number k h.opened && closes (looks h now) kind k) ≡ true
        → not (has_number k h.acknowledged) ≡ true
    unacked k e = ap not (own.opened_unacked k (and_parts (has_number k h.opened) (closes (looks h now) kind k) e).0)

    last : length
        (filter (live_closes (live_buffer (looks h now)) kind)
        (map (live_chunk h) (live_numbers h))) ≡ length
        (live_closing (live_buffer h) now kind)
    last = refl

flushed-chunk : (h : BufferHistory) (kind : FlushKind) (moment k : ℕ) → IsSane h
    → has_cell k h.cells ≡ true
    → cond (live_closes (live_buffer h) kind (live_chunk h k)) (staged Closed (live_chunk h k))
    (live_chunk h k) ≡ live_chunk
    (record h { opened = filter (λ j. not (closes h kind j)) h.opened; moment = moment }) k
flushed-chunk h kind moment k own has =
    ap (λ t. cond t (staged Closed (live_chunk h k)) (live_chunk h k)) (closes-live h kind k has)
    ∙ by (has_number k h.opened) refl (closes h kind k)
    ∙ ap (λ b. staged (stage_by b (carry_at k h.carried)) (live_chunk h k)) (sym (has_number-filter k (λ j. not (closes h kind j)) h.opened))
  where
    by : (a : Bool) → has_number k h.opened ≡ a → (t : Bool)
        → cond (a && t) (staged Closed (live_chunk h k))
        (staged (stage_by a (carry_at k h.carried)) (live_chunk h k)) ≡ staged
        (stage_by (a && not t) (carry_at k h.carried)) (live_chunk h k)
    by true f true = ap (λ c. staged (stage_by false c) (live_chunk h k)) (sym (uncarried-none k h.carried (own.opened_uncarried k f)))
    by true f false = refl
    by false f t = refl

pub flushes-live : (h : BufferHistory) (now : ℕ) (kind : FlushKind) → IsSane h
    → live_buffer (flushes h now kind) ≡ live_flushes (live_buffer h) now kind
unfolding live_buffer
flushes-live h now kind own =
    let l = looks h now in
    let chunks : map (live_chunk (flushes h now kind)) (live_numbers h) ≡ changed (live_closes (live_looks (live_buffer h) now) kind) (staged Closed) (map (live_chunk h) (live_numbers h)) =
    sym (map-same (λ k. cond (live_closes (live_buffer l) kind (live_chunk l k)) (staged Closed (live_chunk l k)) (live_chunk l k)) (live_chunk (flushes h now kind)) (live_numbers h)
    (λ k e. flushed-chunk l kind (max h.moment now) k (looks-sane h now own) (in_live h k e).has))
    ∙ sym (map-map (λ c. cond (live_closes (live_buffer l) kind c) (staged Closed c) c) (live_chunk h) (live_numbers h)) in
    λ i. record {
      setting = h.setting;
      chunks = chunks i;
      greatest = greatest h.cells;
      accepted = length h.cells;
      settled = length (filter (λ c. has_number c.number h.acknowledged) h.cells);
      moment = max h.moment now;
    }

-- ---- taking

over-live : (limits : BufferLimits) (moments : List ℕ) (moment : ℕ)
    → limits.retry_max < 2 ^ 64
    → is_over limits moments moment
    ≡ live_is_over limits.retry_wait limits.retry_max (tally_of moments) moment
over-live limits [] moment fits = refl
over-live limits (newest ∷ older) moment fits = ap (λ n. nat_le (newest + n) moment) (sym (wait_settles limits.retry_wait limits.retry_max (length (newest ∷ older)) fits))

free-live : (h : BufferHistory) (k : ℕ) → h.setting.limits.retry_max < 2 ^ 64 → IsSane h
    → has_number k (live_numbers h) ≡ true
    → live_is_free (live_buffer h) (live_chunk h k) ≡ is_free h k
unfolding live_buffer
free-live h k fits own e =
    let in_it = in_live h k e in
    let over : live_is_over h.setting.limits.retry_wait h.setting.limits.retry_max (tally_of (losses_of k h.losses)) h.moment ≡ is_over h.setting.limits (losses_of k h.losses) h.moment = sym (over-live h.setting.limits (losses_of k h.losses) h.moment fits) in
    ap (λ t. is_closed (stage_of h k) && t) over
    ∙ by (has_number k h.opened) (carry_at k h.carried) refl (is_over h.setting.limits (losses_of k h.losses) h.moment)
    ∙ (λ i. sym (numbers-has k h.cells ∙ in_it.has) i && (not (has_number k h.opened) && (not (sym in_it.unacked i) && (not (is_carried k h.carried) && is_over h.setting.limits (losses_of k h.losses) h.moment))))
  where
    by : (a : Bool) (o : Option Carry) → carry_at k h.carried ≡ o → (t : Bool)
        → (is_closed (stage_by a o) && t) ≡
        (true && (not a && (not false && (not (is_carried k h.carried) && t))))
    by true o f t = refl
    by false None f t = ap (λ b. not b && t) (sym (any-find (λ c. c.number == k) h.carried ∙ ap is_some f))
    by false (Some c) f t = ap (λ b. not b && t) (sym (any-find (λ c. c.number == k) h.carried ∙ ap is_some f))

find-within : (p q : ℕ → Bool) → ((k : ℕ) → p k ≡ true → q k ≡ true)
    → (ns : List ℕ) → find p (filter q ns) ≡ find p ns
find-within p q h [] = refl
find-within p q h (n ∷ ns) = by (find-within p q h ns) (p n) refl (q n) refl
  where
    by : find p (filter q ns) ≡ find p ns → (a : Bool) → p n ≡ a → (b : Bool) → q n ≡ b
        → find p (cond b (n ∷ filter q ns) (filter q ns)) ≡ cond a (Some n) (find p ns)
    by rest true e true f = ap (λ t. cond t (Some n) (find p (filter q ns))) e
    by rest true e false f = absurd (true_false (q n) (h n e) f)
    by rest false e true f = ap (λ t. cond t (Some n) (find p (filter q ns))) e ∙ rest
    by rest false e false f = rest

pub given-live : (h : BufferHistory) → h.setting.limits.retry_max < 2 ^ 64 → IsSane h
    → live_given (live_buffer h) ≡ option_map (live_chunk h) (given h)
unfolding live_buffer
given-live h fits own =
    by_chunks
    ∙ ap (option_map (live_chunk h)) (
    find-same (λ k. live_is_free (live_buffer h) (live_chunk h k)) (is_free h) (live_numbers h) (λ k e. free-live h k fits own e)
    ∙ ap (find (is_free h)) (live_numbers-is h)
    ∙ find-within (is_free h) (λ k. not (has_number k h.acknowledged)) (λ k e. ap not (free_parts h k e).unacked) (numbers_of h.cells)
    ∙ sym (least_first (is_free h) (numbers_of h.cells) own.rising))
  where
    by_chunks : live_given (live_buffer h) ≡ option_map (live_chunk h)
        (find (λ k. live_is_free (live_buffer h) (live_chunk h k)) (live_numbers h))
    by_chunks = find-map (live_is_free (live_buffer h)) (live_chunk h) (live_numbers h)

asked-live : (h : BufferHistory) (wanted : Wanted)
    → live_buffer (asked_for h wanted) ≡ live_asked_for (live_buffer h) wanted
unfolding live_buffer
asked-live h wanted = refl

pub given_for-live : (h : BufferHistory) (wanted : Wanted) → h.setting.limits.retry_max < 2 ^ 64
    → IsSane h
    → live_given_for (live_buffer h) wanted ≡ option_map (live_chunk h) (given_for h wanted)
given_for-live h wanted fits own =
    ap live_given (sym (asked-live h wanted)) ∙ given-live (asked_for h wanted) fits (asked-sane h wanted own)

carries_more-live : (h : BufferHistory) (worker : ℕ) (o : Option ℕ)
    → ((k : ℕ) → o ≡ Some k → Loose h k)
    → live_buffer (record h { carried = carry_more worker o h.carried }) ≡ live_carries_more worker
    (option_map (live_chunk h) o) (live_buffer h)
unfolding live_buffer
carries_more-live h worker None free = refl
carries_more-live h worker (Some n) free =
    let after = record h { carried = h.carried ++ record { worker = worker; number = n } ∷ [] } in
    let chunks : map (live_chunk after) (live_numbers h) ≡ changed (is_at n) (staged (Taken worker)) (map (live_chunk h) (live_numbers h)) =
    sym (map-same (λ k. cond (is_at n (live_chunk h k)) (staged (Taken worker) (live_chunk h k)) (live_chunk h k)) (live_chunk after) (live_numbers h) (λ k e. at k (k == n) refl))
    ∙ sym (map-map (λ c. cond (is_at n c) (staged (Taken worker) c) c) (live_chunk h) (live_numbers h)) in
    λ i. record {
      setting = h.setting;
      chunks = chunks i;
      greatest = greatest h.cells;
      accepted = length h.cells;
      settled = length (filter (λ c. has_number c.number h.acknowledged) h.cells);
      moment = h.moment;
    }
  where
    is : Loose h n
    is = free n refl

    at : (k : ℕ) (b : Bool) → (k == n) ≡ b
        → cond b (staged (Taken worker) (live_chunk h k)) (live_chunk h k) ≡ live_chunk
        (record h { carried = h.carried ++ record { worker = worker; number = n } ∷ [] }) k
    at k true e =
        let same : n ≡ k = sym (eqb-true k n e) in
        let open_ : has_number k h.opened ≡ false = ap (λ x. has_number x h.opened) (sym same) ∙ is.closed in
        let carry : carry_at k (h.carried ++ record { worker = worker; number = n } ∷ []) ≡ Some (record { worker = worker; number = n }) =
        ap (λ x. carry_at x (h.carried ++ record { worker = worker; number = n } ∷ [])) (sym same) ∙ carry_at-push_same worker n h.carried is.uncarried in
        λ i. staged (stage_by (sym open_ i) (sym carry i)) (live_chunk h k)
    at k false e =
        let differ : n ≢ k = λ f. true_false (k == n) (ap (λ x. eqb k x) f ∙ eq_same k) e in
        ap (λ c. staged (stage_by (has_number k h.opened) c) (live_chunk h k)) (sym (carry_at-push_other worker n k h.carried differ))

pub takes-live : (h : BufferHistory) (worker : ℕ) (wanted : Wanted) (now : ℕ)
    → h.setting.limits.retry_max < 2 ^ 64 → IsSane h
    → live_buffer (takes h worker wanted now) ≡ live_takes (live_buffer h) worker wanted now
takes-live h worker wanted now fits own =
    let l = looks h now in
    let is = looks-sane h now own in
    carries_more-live l worker (given_for l wanted) (λ k e. given_for-loose l wanted k is e)
    ∙ ap (λ o. live_carries_more worker o (live_buffer l)) (sym (given_for-live l wanted fits is))
    ∙ ap (λ b. live_carries_more worker (live_given_for b wanted) b) (looks-live h now)

-- ---- giving back

pub carried-live : (h : BufferHistory) (k : ℕ) → IsSane h
    → live_carried (live_buffer h) k ≡ cond (is_carried k h.carried) (Some (carried_chunk_of h k)) None
unfolding live_buffer
carried-live h k own = by_chunks ∙ by (is_carried k h.carried) refl
  where
    by_chunks : live_carried (live_buffer h) k ≡ option_map (carried_chunk_of h)
        (find (λ j. (j == k) && is_taken (stage_of h j)) (live_numbers h))
    by_chunks = ap (option_map (live_carried_chunk (live_buffer h))) (find-map (λ c. is_at k c && is_taken c.stage) (live_chunk h) (live_numbers h)) ∙ joined (find (λ j. (j == k) && is_taken (stage_of h j)) (live_numbers h))
      where
        joined : (o : Option ℕ)
            → option_map (live_carried_chunk (live_buffer h)) (option_map (live_chunk h) o) ≡ option_map
            (carried_chunk_of h) o
        joined None = refl
        joined (Some j) = refl

    taken : (a b : Bool) (o : Option Carry) → is_some o ≡ b → a ≡ false
        → is_taken (stage_by a o) ≡ b
    taken true b o e f = absurd cc
    taken false b None e f = e
    taken false b (Some c) e f = e

    untaken : (a : Bool) (o : Option Carry) → is_some o ≡ false → is_taken (stage_by a o) ≡ false
    untaken true o e = refl
    untaken false None e = refl
    untaken false (Some c) e = absurd cc

    by : (b : Bool) → is_carried k h.carried ≡ b
        → option_map (carried_chunk_of h)
        (find (λ j. (j == k) && is_taken (stage_of h j)) (live_numbers h)) ≡ cond b
        (Some (carried_chunk_of h k)) None
    by true e =
        let shut : has_number k h.opened ≡ false = not_from (has_number k h.opened) (λ f. true_false (is_carried k h.carried) e (own.opened_uncarried k f)) in
        ap (option_map (carried_chunk_of h)) (find_only (λ j. (j == k) && is_taken (stage_of h j)) k (live_numbers h) (is_live h k (own.carried_has k e) (own.carried_unacked k e))
        (and_from (k == k) (is_taken (stage_of h k)) (eq_same k) (taken (has_number k h.opened) true (carry_at k h.carried) (sym (any-find (λ c. c.number == k) h.carried) ∙ e) shut))
        (λ j f g. eqb-true j k (and_parts (j == k) (is_taken (stage_of h j)) g).0))
    by false e =
        ap (option_map (carried_chunk_of h)) (find_no (λ j. (j == k) && is_taken (stage_of h j)) (live_numbers h) (λ j f g.
        let parts = and_parts (j == k) (is_taken (stage_of h j)) g in
        let same : j ≡ k = eqb-true j k parts.0 in
        true_false (is_taken (stage_of h j)) parts.1 (ap (λ x. is_taken (stage_of h x)) same ∙ untaken (has_number k h.opened) (carry_at k h.carried) (sym (any-find (λ c. c.number == k) h.carried) ∙ e))))

only_one : (k : ℕ) (ns : List ℕ) → AreDistinct ns → has_number k ns ≡ true
    → filter (λ j. j == k) ns ≡ k ∷ []
only_one k [] d e = absurd cc
only_one k (n ∷ ns) d e = by (only_one k ns d.1) (n == k) refl e
  where
    by : (has_number k ns ≡ true → filter (λ j. j == k) ns ≡ k ∷ []) → (b : Bool) → (n == k) ≡ b
        → (b || has_number k ns) ≡ true
        → cond b (n ∷ filter (λ j. j == k) ns) (filter (λ j. j == k) ns) ≡ k ∷ []
    by rest true f g =
        let same : n ≡ k = eqb-true n k f in
        λ i. same i ∷ none ns (ap (λ x. has_number x ns) (sym same) ∙ d.0) i
      where
        none : (ms : List ℕ) → has_number k ms ≡ false → filter (λ j. j == k) ms ≡ []
        none ms g = any-false (λ j. j == k) ms g
    by rest false f g = rest g

-- what a worker has holds as many entries as its number has
pub count-live : (h : BufferHistory) (n : ℕ) → IsSane h → is_carried n h.carried ≡ true
    → held_in (filter (is_at n) (live_buffer h).chunks) ≡ length (contents n h.cells)
unfolding live_buffer
count-live h n own has =
    let there : has_number n (live_numbers h) ≡ true = is_live h n (own.carried_has n has) (own.carried_unacked n has) in
    ap held_in (filter-map (is_at n) (live_chunk h) (live_numbers h) ∙ ap (map (live_chunk h)) (only_one n (live_numbers h) (numbers-distinct (unsettled h)) there))
    ∙ plus_zero (length (contents n h.cells))
  where
    plus_zero : (m : ℕ) → m + 0 ≡ m
    plus_zero m = omega arith

settled-push : (n : ℕ) (acked : List ℕ) (cells : List Cell) → has_number n acked ≡ false
    → length (filter (λ c. has_number c.number (acked ++ n ∷ [])) cells) ≡ length
    (filter (λ c. has_number c.number acked) cells) + length (cells_at n cells)
settled-push n acked [] e = refl
settled-push n acked (c ∷ cells) e = grind (arith, nat_tests, settled-push n acked cells e, has_number-push c.number n acked, e)

pub settles-live : (h : BufferHistory) (n : ℕ) → IsSane h → is_carried n h.carried ≡ true
    → live_buffer (settles h n) ≡ live_settles (live_buffer h) n
unfolding live_buffer
settles-live h n own has =
    let after = settles h n in
    let unacked = own.carried_unacked n has in
    let numbers : live_numbers (settles h n) ≡ filter (λ k. not (k == n)) (live_numbers h) =
    live_numbers-is (settles h n)
    ∙ filter-same (λ k. not (has_number k (h.acknowledged ++ n ∷ []))) (λ k. not (has_number k h.acknowledged) && not (k == n)) (numbers_of h.cells) (λ k e. one_more k)
    ∙ both (numbers_of h.cells)
    ∙ ap (filter (λ k. not (k == n))) (sym (live_numbers-is h)) in
    let chunks : map (live_chunk (settles h n)) (live_numbers (settles h n)) ≡ filter (λ c. not (is_at n c)) (map (live_chunk h) (live_numbers h)) =
    ap (map (live_chunk after)) numbers
    ∙ map-same (live_chunk after) (live_chunk h) (filter (λ k. not (k == n)) (live_numbers h)) (λ k e. other k (and_parts (has_number k (live_numbers h)) (not (k == n)) (sym (has_number-filter k (λ j. not (j == n)) (live_numbers h)) ∙ e)).1)
    ∙ sym (filter-map (λ c. not (is_at n c)) (live_chunk h) (live_numbers h)) in
    let left : held_in (filter (is_at n) (map (live_chunk h) (live_numbers h))) ≡ length (cells_at n h.cells) =
    count-live h n own has ∙ length-map (cells_at n h.cells) (λ c. c.entry) in
    λ i. record {
      setting = h.setting;
      chunks = chunks i;
      greatest = greatest h.cells;
      accepted = length h.cells;
      settled = (settled-push n h.acknowledged h.cells unacked ∙ ap (λ m. length (filter (λ c. has_number c.number h.acknowledged) h.cells) + m) (sym left)) i;
      moment = h.moment;
    }
  where
    one_more : (k : ℕ)
        → not (has_number k (h.acknowledged ++ n ∷ [])) ≡
        (not (has_number k h.acknowledged) && not (k == n))
    one_more k = ap not (has_number-push k n h.acknowledged) ∙ at (has_number k h.acknowledged) (n == k) refl
      where
        at : (a b : Bool) → (n == k) ≡ b → not (a || b) ≡ (not a && not (k == n))
        at true b e = refl
        at false true e = ap not (sym (ap (λ x. eqb k x) (eqb-true n k e) ∙ eq_same k))
        at false false e = ap not (sym (not_from (k == n) (λ f. true_false (n == k) (ap (λ x. eqb x k) (sym (eqb-true k n f)) ∙ eq_same k) e)))

    both : (ns : List ℕ)
        → filter (λ k. not (has_number k h.acknowledged) && not (k == n)) ns ≡ filter
        (λ k. not (k == n)) (filter (λ k. not (has_number k h.acknowledged)) ns)
    both [] = refl
    both (m ∷ ns) = at (both ns) (not (has_number m h.acknowledged)) (not (m == n)) refl
      where
        at : filter (λ k. not (has_number k h.acknowledged) && not (k == n)) ns ≡ filter
            (λ k. not (k == n)) (filter (λ k. not (has_number k h.acknowledged)) ns)
            → (a b : Bool) → not (m == n) ≡ b
            → cond (a && b) (m ∷ filter (λ k. not (has_number k h.acknowledged) && not (k == n)) ns)
            (filter (λ k. not (has_number k h.acknowledged) && not (k == n)) ns)
            ≡ filter (λ k. not (k == n))
            (cond a (m ∷ filter (λ k. not (has_number k h.acknowledged)) ns)
            (filter (λ k. not (has_number k h.acknowledged)) ns))
        at rest true b e = ap (λ l. cond b (m ∷ l) l) rest
            ∙ ap (λ t. cond t (m ∷ filter (λ k. not (k == n)) (filter (λ k. not (has_number k h.acknowledged)) ns)) (filter (λ k. not (k == n)) (filter (λ k. not (has_number k h.acknowledged)) ns))) (sym e)
        at rest false b e = rest

    other : (k : ℕ) → not (k == n) ≡ true → live_chunk (settles h n) k ≡ live_chunk h k
    other k e = ap (λ c. staged (stage_by (has_number k h.opened) c) (live_chunk h k)) (carry_at-without_other n k h.carried (λ f. true_false (not (k == n)) e (ap not (ap (λ x. eqb k x) f ∙ eq_same k))))

tally-more : (m : ℕ) (moments : List ℕ)
    → tally_of (m ∷ moments) ≡ Some (tally_more (tally_of moments) m)
tally-more m [] = ap (λ n. Some (record { count = n; last = m })) (omega arith)
tally-more m (newest ∷ older) = ap (λ n. Some (record { count = n; last = m })) (omega arith)

pub frees-live : (h : BufferHistory) (n : ℕ) (loss : Option ℕ) → IsSane h
    → is_carried n h.carried ≡ true
    → live_buffer (frees h n loss) ≡ live_frees (live_buffer h) n loss
unfolding live_buffer
frees-live h n None own has =
    let after = frees h n None in
    let chunks : map (live_chunk (frees h n None)) (live_numbers h) ≡ changed (is_at n) (staged Closed) (map (live_chunk h) (live_numbers h)) =
    sym (map-same (λ k. cond (is_at n (live_chunk h k)) (staged Closed (live_chunk h k)) (live_chunk h k)) (live_chunk after) (live_numbers h) (λ k e. at k (k == n) refl))
    ∙ sym (map-map (λ c. cond (is_at n c) (staged Closed c) c) (live_chunk h) (live_numbers h)) in
    λ i. record {
      setting = h.setting;
      chunks = chunks i;
      greatest = greatest h.cells;
      accepted = length h.cells;
      settled = length (filter (λ c. has_number c.number h.acknowledged) h.cells);
      moment = h.moment;
    }
  where
    at : (k : ℕ) (b : Bool) → (k == n) ≡ b
        → cond b (staged Closed (live_chunk h k)) (live_chunk h k) ≡ live_chunk (frees h n None) k
    at k true e =
        let same : n ≡ k = sym (eqb-true k n e) in
        let shut : has_number k h.opened ≡ false = not_from (has_number k h.opened) (λ f. true_false (is_carried k h.carried) (ap (λ x. is_carried x h.carried) (sym same) ∙ has) (own.opened_uncarried k f)) in
        let carry : carry_at k (without n h.carried) ≡ None = ap (λ x. carry_at k (without x h.carried)) same ∙ carry_at-without_same k h.carried in
        λ i. staged (stage_by (sym shut i) (sym carry i)) (live_chunk h k)
    at k false e =
        ap (λ c. staged (stage_by (has_number k h.opened) c) (live_chunk h k)) (sym (carry_at-without_other n k h.carried (λ f. true_false (k == n) (ap (λ x. eqb k x) f ∙ eq_same k) e)))
frees-live h n (Some now) own has =
    let m = max h.moment now in
    let after = frees h n (Some now) in
    let chunks : map (live_chunk (frees h n (Some now))) (live_numbers h) ≡ changed (is_at n) (λ c. record c { stage = Closed; losses = Some (tally_more c.losses (max h.moment now)) }) (map (live_chunk h) (live_numbers h)) =
    sym (map-same (λ k. cond (is_at n (live_chunk h k)) (record (live_chunk h k) { stage = Closed; losses = Some (tally_more (live_chunk h k).losses m) }) (live_chunk h k)) (live_chunk after) (live_numbers h) (λ k e. at k (k == n) refl))
    ∙ sym (map-map (λ c. cond (is_at n c) (record c { stage = Closed; losses = Some (tally_more c.losses m) }) c) (live_chunk h) (live_numbers h)) in
    λ i. record {
      setting = h.setting;
      chunks = chunks i;
      greatest = greatest h.cells;
      accepted = length h.cells;
      settled = length (filter (λ c. has_number c.number h.acknowledged) h.cells);
      moment = m;
    }
  where
    at : (k : ℕ) (b : Bool) → (k == n) ≡ b
        → cond b
        (record (live_chunk h k) {
          stage = Closed;
          losses = Some
              (tally_more (tally_of (losses_of k h.losses)) (max h.moment now));
        })
        (live_chunk h k) ≡ live_chunk (frees h n (Some now)) k
    at k true e =
        let same : n ≡ k = sym (eqb-true k n e) in
        let shut : has_number k h.opened ≡ false = not_from (has_number k h.opened) (λ f. true_false (is_carried k h.carried) (ap (λ x. is_carried x h.carried) (sym same) ∙ has) (own.opened_uncarried k f)) in
        let carry : carry_at k (without n h.carried) ≡ None = ap (λ x. carry_at k (without x h.carried)) same ∙ carry_at-without_same k h.carried in
        let lost : Some (tally_more (tally_of (losses_of k h.losses)) (max h.moment now)) ≡ tally_of (losses_of k (record { number = n; moment = max h.moment now } ∷ h.losses)) =
        sym (tally-more (max h.moment now) (losses_of k h.losses)) ∙ ap tally_of (sym (ap (λ x. losses_of k (record { number = x; moment = max h.moment now } ∷ h.losses)) same ∙ losses-here k (max h.moment now) h.losses)) in
        λ i. record (live_chunk h k) { stage = stage_by (sym shut i) (sym carry i); losses = lost i }
    at k false e =
        let differ : n ≢ k = λ f. true_false (k == n) (ap (λ x. eqb k x) f ∙ eq_same k) e in
        let apart : (n == k) ≡ false = not_from (n == k) (λ f. differ (eqb-true n k f)) in
        λ i. record (live_chunk h k) {
          stage = stage_by (has_number k h.opened) (sym (carry_at-without_other n k h.carried differ) i);
          losses = tally_of (sym (losses-elsewhere n k (max h.moment now) h.losses apart) i);
        }
