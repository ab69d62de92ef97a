-- A request that is marked as told was told by a collect.
use Rattle.std.proofs.Common.{◌≡◌, ◌≢◌, ℕ, zero, suc, ◌+◌, Bool, true, false, List, [], ◌∷◌, ◌++◌, Option, Some, None, refl, sym, ap, subst, ◌∙◌, inl, inr, arith}
use Rattle.std.specs.Prelude.{◌⊎◌, not, is_some, ◌&&◌, ◌||◌, ◌==◌, option_map, slice_get}
use Rattle.std.proofs.lemmas.Bool.Decides.{nat_tests}
use Rattle.std.proofs.lemmas.List.{append_assoc}
use Rattle.std.proofs.lemmas.Option.{slice_get-map}
use Rattle.fwd_modes.specs.Requests.{Request}
use Rattle.fwd_model.specs.declared.config.Config.{Config}
use Rattle.fwd_model.specs.declared.config.OutputConfig.{OutputConfig}
use Rattle.fwd_model.specs.declared.event.Event.{Event}
use Rattle.fwd_model.specs.declared.event.Event.TheVariants as event
use Rattle.fwd_chunks.specs.declared.fault.AdmitError.{AdmitError}
use Rattle.fwd_chunks.specs.declared.fault.AdmitError.TheVariants.{Full, NumbersSpent, Memory}
use Rattle.fwd_chunks.specs.declared.flush.FlushKind.{FlushKind}
use Rattle.fwd_chunks.specs.declared.wanted.Wanted.{Wanted}
use Rattle.fwd_chunks.specs.History.{spans_of}
use Rattle.fwd_model.specs.declared.answer.Answer.{Answer}
use Rattle.fwd_model.specs.declared.answer.Answer.TheVariants as answer
use Rattle.fwd_match.specs.Patterns.{route}
use Rattle.fwd_source.specs.History as source
use Rattle.fwd_source.specs.History.{SourceHistory}
use Rattle.fwd_model.specs.declared.fault.Refusal.TheVariants.{NoSuch, NotNow}
use Rattle.fwd_modes.specs.declared.origin.Origin.{Origin}
use Rattle.fwd_model.specs.Outcome.{Outcome, Stays, Goes, state_of, chunk_answer}
use Rattle.fwd_model.specs.Layers.{Worker}
use Rattle.fwd_model.specs.Step as steps
use Rattle.fwd_model.specs.Step.{step}
use Rattle.fwd_model.specs.Setups.{setup_of}
use Rattle.fwd_book.specs.History.{Untold, Told, Forgotten, Admission, entered_as, is_untold, is_of, is_owed_to, is_settled, is_due, becomes, leaves as moves, tells_due, forgets_of}
use Rattle.fwd_model.specs.Outputs.{numbers_back, output_history_enters}
use Rattle.fwd_session.specs.History.{SessionHistory}
use Rattle.fwd_model.specs.declared.event.EndKind.{EndKind}
use Rattle.fwd_model.specs.History.{source_at, Lane, History, opening, new_lane, new_lanes, with_connection, with_lane, with_output, with_book, histories}
use Rattle.fwd_model.specs.Delivered.{reached, IsTold}
use Rattle.fwd_model.proofs.Onward.{Onward, to, past, past_found, at_next, source_on, lane_on, both_on, worker_on}
use Rattle.fwd_model.proofs.Reached.{slice_get-set}
use Rattle.fwd_model.proofs.Chronicle.{by_last, after-push}
use Rattle.fwd_model.proofs.WayBack.{told_as, listed}
use Rattle.std.proofs.lemmas.Option.{same_Some}

-- each request of an output that is marked was told
abbrev AllMarked : Config → List Event → ℕ → List Admission → Type 0
AllMarked config es o admissions = (i : ℕ) (a : Admission) → slice_get admissions i ≡ Some a → a.fate ≡ Told → IsTold config es a.request.origin.conn a.request.origin.request o

abbrev Marked : Config → List Event → History → Type 0
Marked config es h = (o : ℕ) (l : Lane) → slice_get h.lanes o ≡ Some l → AllMarked config es o l.output.book.admissions

told_still : (config : Config) (es : List Event) (e : Event) (id r o : ℕ)
    → IsTold config es id r o → IsTold config (es ++ e ∷ []) id r o
told_still config es e id r o t = record {
  before = t.before;
  numbers = t.numbers;
  out = t.out;
  later = t.later ++ e ∷ [];
  split = ap (λ es. es ++ e ∷ []) t.split ∙ append_assoc t.before (event.Collect id o ∷ t.later) (e ∷ []);
  told = t.told;
  among = t.among;
}

pushed : {X : Type 0} (xs : List X) (x y : X) (i : ℕ) → slice_get (xs ++ x ∷ []) i ≡ Some y
    → (slice_get xs i ≡ Some y) ⊎ (x ≡ y)
pushed [] x y zero h = inr (same_Some _ _ h)
pushed [] x y (suc i) h = absurd cc
pushed (a ∷ xs) x y zero h = inl h
pushed (a ∷ xs) x y (suc i) h = pushed xs x y i h

mapped : {X Y : Type 0} (f : X → Y) (o : Option X) (y : Y) → option_map f o ≡ Some y
    → (x : X) × (o ≡ Some x) × (f x ≡ y)
mapped f None y h = absurd cc
mapped f (Some x) y h = (x, refl, same_Some _ _ h)

and_parts : (a b : Bool) → (a && b) ≡ true → (a ≡ true) × (b ≡ true)
and_parts true b h = (refl, h)
and_parts false b h = absurd cc

either : (a b : Bool) → (a || b) ≡ true → (a ≡ true) ⊎ (b ≡ true)
either true b h = inl refl
either false b h = inr h

module _ (config : Config) (es : List Event) (e : Event) (m : Marked config es (reached config es)) where
  abbrev h : History
  h = reached config es

  abbrev On : History → Type 0
  On k = Marked config (es ++ e ∷ []) k

  nothing : (k : History) → k.lanes ≡ h.lanes → On k
  nothing k same o l here i a at told = told_still config es e a.request.origin.conn a.request.origin.request o (m o l (subst (λ ls. slice_get ls o ≡ Some l) same here) i a at told)

  put : (o : ℕ) (l : Lane) (k : History) → k.lanes ≡ h.lanes
      → AllMarked config (es ++ e ∷ []) o l.output.book.admissions → On (with_lane o l k)
  put o l k same all j x here i a at told = by (slice_get-set k.lanes o j l x here)
    where
      by : ((o ≡ j) × (l ≡ x)) ⊎ ((o ≢ j) × (slice_get k.lanes j ≡ Some x))
          → IsTold config (es ++ e ∷ []) a.request.origin.conn a.request.origin.request j
      by (inl s) =
          subst (λ n. IsTold config (es ++ e ∷ []) a.request.origin.conn a.request.origin.request n) s.0
          (all i a (subst (λ y. slice_get y.output.book.admissions i ≡ Some a) (sym s.1) at) told)
      by (inr d) = nothing k same j x d.1 i a at told

  still : (o : ℕ) (l : Lane) (book : List Admission) → slice_get h.lanes o ≡ Some l
      → book ≡ l.output.book.admissions → AllMarked config (es ++ e ∷ []) o book
  still o l book here same i a at told = told_still config es e a.request.origin.conn a.request.origin.request o (m o l here i a (subst (λ as'. slice_get as' i ≡ Some a) same at) told)

  -- an output whose requests stay
  keeps : (o : ℕ) (l x : Lane) (k : History) → k.lanes ≡ h.lanes → slice_get h.lanes o ≡ Some l
      → x.output.book.admissions ≡ l.output.book.admissions → On (with_lane o x k)
  keeps o l x k lanes here same = put o x k lanes (still o l x.output.book.admissions here same)

  enters_marks : (o : ℕ) (origin : Origin) (now : ℕ) (q : Request) (l : Lane)
      → slice_get h.lanes o ≡ Some l
      → AllMarked config (es ++ e ∷ []) o
      (output_history_enters l.output origin q now).book.admissions
  enters_marks o origin now q l here i a at told = by (pushed l.output.book.admissions (record { request = entered_as q origin (spans_of l.output.buffer origin q now); fate = Untold }) a i at)
    where
      by : (slice_get l.output.book.admissions i ≡ Some a) ⊎
          (record {
            request = entered_as q origin
                (spans_of l.output.buffer origin q now);
            fate = Untold;
          } ≡ a)
          → IsTold config (es ++ e ∷ []) a.request.origin.conn a.request.origin.request o
      by (inl old) = still o l l.output.book.admissions here refl i a old told
      by (inr new) = let f : Untold ≡ Told = ap (λ (x : Admission). x.fate) new ∙ told in absurd cc

  -- ---- where it happens

  at_source_on : (id : ℕ) (p : SourceHistory → Outcome SourceHistory)
      → Onward (λ a k. On k) (steps.at_source histories h id p)
  at_source_on id p = source_on histories h id _ p (λ s here. each (p s))
    where
      each : (x : Outcome SourceHistory) → Onward (λ a u. On (with_connection id u h)) x
      each (Stays a) = record { holds = tt }
      each (Goes a u) = to (nothing (with_connection id u h) refl)

  at_lane_on : (o : ℕ) (p : Lane → Outcome Lane)
      → ((l : Lane) → Onward (λ a x. x.output.book.admissions ≡ l.output.book.admissions) (p l))
      → Onward (λ a k. On k) (steps.at_lane histories h o p)
  at_lane_on o p holds = lane_on histories h o _ p (λ l here. each l here (p l) (holds l))
    where
      each : (l : Lane) → slice_get h.lanes o ≡ Some l → (x : Outcome Lane)
          → Onward (λ a y. y.output.book.admissions ≡ l.output.book.admissions) x
          → Onward (λ a y. On (with_lane o y h)) x
      each l here (Stays a) same = record { holds = tt }
      each l here (Goes a y) same = to (keeps o l y h refl here same.holds)

  -- at an output that it leaves as it is
  same_at : (o : ℕ) (a : Answer) → Onward (λ a k. On k) (steps.at_lane histories h o (λ l. Goes a l))
  same_at o a = at_lane_on o (λ l. Goes a l) (λ l. to refl)

  at_worker_on : (l : Lane) (w : ℕ) (p : Worker SessionHistory → Outcome (Worker SessionHistory))
      → Onward (λ a x. x.output.book.admissions ≡ l.output.book.admissions)
      (steps.at_worker histories l w p)
  at_worker_on l w p = worker_on histories l w (λ a x. x.output.book.admissions ≡ l.output.book.admissions) p (λ x at. each (p x))
    where
      each : (x : Outcome (Worker SessionHistory))
          → Onward
          (λ a y. (histories.puts_worker l w y).output.book.admissions ≡ l.output.book.admissions) x
      each (Stays a) = record { holds = tt }
      each (Goes a y) = to refl

  -- ---- the events of an output

  flushed_same : (l : Lane) (now : ℕ) (kind : FlushKind)
      → Onward (λ a x. x.output.book.admissions ≡ l.output.book.admissions)
      (steps.flush histories l now kind)
  flushed_same l now kind = to refl

  taken_same : (l : Lane) (w : ℕ) (wanted : Wanted) (now : ℕ)
      → Onward (λ a x. x.output.book.admissions ≡ l.output.book.admissions)
      (steps.take histories l w wanted now)
  taken_same l w wanted now = past_found NoSuch {x = histories.worker_at l w} (λ x at. past NotNow {b = is_some x.taken || steps.is_full histories x.session} (λ none. to {a = chunk_answer (histories.given l wanted now)} refl))

  settled_same : (l : Lane) (w : ℕ)
      → Onward (λ a x. x.output.book.admissions ≡ l.output.book.admissions)
      (steps.settle histories l w)
  settled_same l w = past_found NoSuch {x = histories.worker_at l w} (λ x at. past_found NotNow {x = x.session} (λ s f. past_found NotNow {x = histories.acked s} (λ a acked. to {a = answer.Settled (histories.entries_at l a.chunk.number)} refl)))

  chosen_same : (l : Lane) (w now : ℕ)
      → Onward (λ a x. x.output.book.admissions ≡ l.output.book.admissions)
      (steps.choose histories l w now)
  chosen_same l w now = past_found NoSuch {x = histories.worker_at l w} (λ x at. to {a = answer.Chose (histories.chosen l w now)} refl)

  ended_same : (l : Lane) (w : ℕ) (kind : EndKind) (now : ℕ)
      → Onward (λ a x. x.output.book.admissions ≡ l.output.book.admissions)
      (steps.end histories l w kind now)
  ended_same l w kind now = past_found NoSuch {x = histories.worker_at l w} (λ x at. past NotNow {b = steps.is_idle histories x} (λ some. past NotNow {b = steps.has_acked histories x.session} (λ none. to {a = answer.Ended (numbers_back (steps.gives_back histories x))} refl)))

  -- ---- a connection and an output

  admit_on : (id o now : ℕ)
      → Onward (λ a k. On k)
      (steps.at_both histories h id o (steps.admit histories h.routes id o now))
  admit_on id o now =
      both_on histories h id o _ (steps.admit histories h.routes id o now) (λ s l here lane. past_found _ (λ q first. by s q l lane (route h.routes q.tag)))
    where
      unless : (s : SourceHistory) (q : Request) (l : Lane) → slice_get h.lanes o ≡ Some l
          → (fault : Option AdmitError)
          → Onward (λ a two. On (with_lane o two.1 (with_connection id two.0 h)))
          (steps.enter_unless histories fault s q
          (record { conn = id; request = s.admitted + 1 }) l now)
      unless s q l lane None = to (put o (with_output l (output_history_enters l.output (record { conn = id; request = s.admitted + 1 }) q now)) (with_connection id (source.gives s) h) refl (enters_marks o (record { conn = id; request = s.admitted + 1 }) now q l lane))
      unless s q l lane (Some Full) = to (keeps o l l (with_connection id (source.shuts s) h) refl lane refl)
      unless s q l lane (Some NumbersSpent) = to (keeps o l l (with_connection id (source.shuts s) h) refl lane refl)
      unless s q l lane (Some Memory) = record { holds = tt }

      by : (s : SourceHistory) (q : Request) (l : Lane) → slice_get h.lanes o ≡ Some l
          → (first : Option ℕ)
          → Onward (λ a two. On (with_lane o two.1 (with_connection id two.0 h)))
          (steps.routed histories first s q id o l now)
      by s q l lane None = to (keeps o l l (with_connection id (source.shuts s) h) refl lane refl)
      by s q l lane (Some first) =
          past NotNow {b = not (first == o)} (λ this. unless s q l lane (histories.refusal l (record { conn = id; request = s.admitted + 1 }) q now))

-- what a collect marks it tells
module _ (config : Config) (es : List Event) (id o : ℕ) (m : Marked config es (reached config es)) where
  abbrev asked : Event
  asked = event.Collect id o

  -- the test of those that a collect tells
  abbrev goes : Lane → Admission → Bool
  goes l a = is_untold a.fate && is_due id l.output.book.settled a

  told_marks : (s : SourceHistory) (l : Lane)
      → source_at id (reached config es).connections ≡ Some s → s.shut ≡ false
      → slice_get (reached config es).lanes o ≡ Some l
      → AllMarked config (es ++ asked ∷ []) o (tells_due l.output.book id).admissions
  unfolding moves
  told_marks s l stands open_still here i b at told = by_source (mapped (λ a. becomes Told (goes l a) a) (slice_get l.output.book.admissions i) b (sym (slice_get-map (λ a. becomes Told (goes l a) a) l.output.book.admissions i) ∙ at))
    where
      by_due : (a : Admission) → slice_get l.output.book.admissions i ≡ Some a → (t : Bool)
          → goes l a ≡ t → (becomes Told t a).fate ≡ Told
          → IsTold config (es ++ asked ∷ []) (becomes Told t a).request.origin.conn
          (becomes Told t a).request.origin.request o
      by_due a old false e marked = still config es asked m o l l.output.book.admissions here refl i a old marked
      by_due a old true e marked =
          let due_is = (and_parts (is_untold a.fate) (is_due id l.output.book.settled a) e).1 in
          let parts = and_parts (is_owed_to id a) (is_settled l.output.book.settled a.request) due_is in
          let its = and_parts (is_untold a.fate) (is_of id a.request) parts.0 in
          let conn : id ≡ a.request.origin.conn = grind (arith, nat_tests, its.1) in
          subst (λ n. IsTold config (es ++ asked ∷ []) n a.request.origin.request o) conn (record {
            before = es;
            numbers = (histories.due l id).numbers;
            out = (histories.due l id).acks;
            later = [];
            split = refl;
            told = told_as (reached config es) o id s l stands here open_still;
            among = listed id l.output.book.settled l.output.book.admissions i a old due_is;
          })

      by_source : (a : Admission) × (slice_get l.output.book.admissions i ≡ Some a)
          × (becomes Told (goes l a) a ≡ b)
          → IsTold config (es ++ asked ∷ []) b.request.origin.conn b.request.origin.request o
      by_source x =
          let marked : (becomes Told (goes l x.0) x.0).fate ≡ Told = ap (λ (y : Admission). y.fate) x.2 ∙ told in
          subst (λ (y : Admission). IsTold config (es ++ asked ∷ []) y.request.origin.conn y.request.origin.request o) x.2
          (by_due x.0 x.1 (goes l x.0) refl marked)

  collect_on : Onward (λ a k. Marked config (es ++ asked ∷ []) k)
      (steps.at_both histories (reached config es) id o (steps.collect histories id))
  collect_on =
      both_on histories (reached config es) id o _ (steps.collect histories id) (λ s l stands here. past _ (λ still_open. to (
      put config es asked m o (with_book l (tells_due l.output.book id)) (with_connection id (source.appends s (histories.due l id).acks) (reached config es)) refl (told_marks s l stands still_open here))))

-- what is forgotten is not marked as told
forget_on : (config : Config) (es : List Event) (e : Event) (id o : ℕ)
    → Marked config es (reached config es)
    → Onward (λ a k. Marked config (es ++ e ∷ []) k)
    (steps.at_lane histories (reached config es) o (λ l. steps.forget histories l id))
unfolding moves
forget_on config es e id o m = lane_on histories (reached config es) o _ (λ l. steps.forget histories l id) (λ l here. to (put config es e m o (with_book l (forgets_of l.output.book id)) (reached config es) refl (forgotten l here)))
  where
    forgotten : (l : Lane) → slice_get (reached config es).lanes o ≡ Some l
        → AllMarked config (es ++ e ∷ []) o (forgets_of l.output.book id).admissions
    forgotten l here i b at told = by_source (mapped (λ a. becomes Forgotten (is_untold a.fate && is_owed_to id a) a) (slice_get l.output.book.admissions i) b (sym (slice_get-map (λ a. becomes Forgotten (is_untold a.fate && is_owed_to id a) a) l.output.book.admissions i) ∙ at))
      where
        by_owed : (a : Admission) → slice_get l.output.book.admissions i ≡ Some a → (t : Bool)
            → (becomes Forgotten t a).fate ≡ Told
            → IsTold config (es ++ e ∷ []) (becomes Forgotten t a).request.origin.conn
            (becomes Forgotten t a).request.origin.request o
        by_owed a old false marked = still config es e m o l l.output.book.admissions here refl i a old marked
        by_owed a old true marked = absurd cc

        by_source : (a : Admission) × (slice_get l.output.book.admissions i ≡ Some a)
            × (becomes Forgotten (is_untold a.fate && is_owed_to id a) a ≡ b)
            → IsTold config (es ++ e ∷ []) b.request.origin.conn b.request.origin.request o
        by_source x =
            subst (λ (y : Admission). IsTold config (es ++ e ∷ []) y.request.origin.conn y.request.origin.request o) x.2
            (by_owed x.0 x.1 (is_untold x.0.fate && is_owed_to id x.0) (ap (λ (y : Admission). y.fate) x.2 ∙ told))

event_on : (config : Config) (es : List Event) (e : Event) → Marked config es (reached config es)
    → Onward (λ a k. Marked config (es ++ e ∷ []) k) (step histories (reached config es) e)
event_on config es (event.Accept id nonce auth) m = past _ (λ fresh. to (nothing config es (event.Accept id nonce auth) m (histories.accepts (reached config es) (setup_of (reached config es).security (reached config es).limits id nonce auth)) refl))
event_on config es (event.Piece id bytes) m = at_source_on config es (event.Piece id bytes) m id (λ s. steps.piece histories s bytes)
event_on config es (event.Admit id o now) m = admit_on config es (event.Admit id o now) m id o now
event_on config es (event.Flush o now kind) m = at_lane_on config es (event.Flush o now kind) m o (λ l. steps.flush histories l now kind) (λ l. flushed_same config es (event.Flush o now kind) m l now kind)
event_on config es (event.Up o w server salt now) m = at_lane_on config es (event.Up o w server salt now) m o _ (λ l. at_worker_on config es (event.Up o w server salt now) m l w (steps.up histories l.config server salt now))
event_on config es (event.Choose o w now) m = at_lane_on config es (event.Choose o w now) m o (λ l. steps.choose histories l w now) (λ l. chosen_same config es (event.Choose o w now) m l w now)
event_on config es (event.Take o w now wanted) m = at_lane_on config es (event.Take o w now wanted) m o (λ l. steps.take histories l w wanted now) (λ l. taken_same config es (event.Take o w now wanted) m l w wanted now)
event_on config es (event.Load o w now) m = at_lane_on config es (event.Load o w now) m o _ (λ l. at_worker_on config es (event.Load o w now) m l w (steps.load histories now))
event_on config es (event.Wrote o w count) m = at_lane_on config es (event.Wrote o w count) m o _ (λ l. at_worker_on config es (event.Wrote o w count) m l w (λ x. steps.at_session histories x (steps.wrote histories count)))
event_on config es (event.Heard o w bytes) m = at_lane_on config es (event.Heard o w bytes) m o _ (λ l. at_worker_on config es (event.Heard o w bytes) m l w (λ x. steps.at_session histories x (steps.heard histories bytes)))
event_on config es (event.Late o w now) m = at_lane_on config es (event.Late o w now) m o _ (λ l. at_worker_on config es (event.Late o w now) m l w (λ x. steps.at_session histories x (steps.late histories now)))
event_on config es (event.End o w kind now) m = at_lane_on config es (event.End o w kind now) m o (λ l. steps.end histories l w kind now) (λ l. ended_same config es (event.End o w kind now) m l w kind now)
event_on config es (event.Settle o w) m = at_lane_on config es (event.Settle o w) m o (λ l. steps.settle histories l w) (λ l. settled_same config es (event.Settle o w) m l w)
event_on config es (event.Collect id o) m = collect_on config es id o m
event_on config es (event.Forget id o) m = forget_on config es (event.Forget id o) id o m
event_on config es (event.Drained id count) m = at_source_on config es (event.Drained id count) m id (λ s. steps.drained histories s count)
-- a connection is shut, or nothing changes
event_on config es e m = Prim.first_of (search (past_found, told_still), search (same_at config es e m))

marks_on : (config : Config) (es : List Event) (e : Event)
    (m : Marked config es (reached config es))
    → Marked config (es ++ e
    ∷ []) (state_of (reached config es) (step histories (reached config es) e))
marks_on config es e m =
    at_next (reached config es) (step histories (reached config es) e) (λ k. Marked config (es ++ e ∷ []) k) (λ a is. nothing config es e m (reached config es) refl) (event_on config es e m) (λ a k is next. next)

new_lanes_unmarked : (run : List ℕ) (base : ℕ) (configs : List OutputConfig) (o : ℕ)
    (l : Lane) → slice_get (new_lanes run base configs) o ≡ Some l
    → l.output.book.admissions ≡ []
new_lanes_unmarked run base [] o l h = absurd cc
new_lanes_unmarked run base (c ∷ configs) zero l h = let same : new_lane run base c ≡ l = same_Some _ _ h in ap (λ (x : Lane). x.output.book.admissions) (sym same)
new_lanes_unmarked run base (c ∷ configs) (suc o) l h = new_lanes_unmarked run (suc base) configs o l h

opening_marked : (config : Config) → Marked config [] (reached config [])
unfolding opening
opening_marked config o l here i a at told = let none : slice_get [] i ≡ Some a = subst (λ xs. slice_get xs i ≡ Some a) (new_lanes_unmarked config.run 0 config.outputs o l here) at in absurd cc

pub marked-told : (config : Config) (es : List Event) (o i : ℕ) (l : Lane) (a : Admission)
    → slice_get (reached config es).lanes o ≡ Some l → slice_get l.output.book.admissions i ≡ Some a
    → a.fate ≡ Told
    → IsTold config es a.request.origin.conn a.request.origin.request o
marked-told config es o i l a here at told =
    by_last (λ es. Marked config es (reached config es)) (opening_marked config)
    (λ es e m. subst (λ h. Marked config (es ++ e ∷ []) h) (sym (after-push (opening config) es e)) (marks_on config es e m)) es o l here i a at told
