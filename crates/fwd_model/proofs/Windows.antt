-- A worker keeps its window, and at its session's end it gives back all that it has.
use Rattle.std.proofs.Common.{◌≡◌, ℕ, ◌<◌, ◌≤◌, Bool, true, false, cond, List, [], ◌∷◌, length, Option, Some, None, refl, sym, ap, subst, ◌∙◌, arith}
use Rattle.std.specs.Prelude.{map, filter, not, ◌||◌, ◌==◌, nat_le, option_map, slice_get}
use Rattle.std.specs.List.{AllByRecursion}
use Rattle.std.proofs.lemmas.List.{length-append}
use Rattle.std.proofs.lemmas.Bool.Decides.{nat_tests}
use Rattle.std.proofs.lemmas.Option.{same_Some}
use Rattle.fwd_chunks.specs.Cells.{has_number}
use Rattle.fwd_chunks.specs.History.{BufferHistory, CarriedChunk}
use Rattle.fwd_chunks.specs.Spans.{AreRising}
use Rattle.fwd_session.specs.ServerAcks.{Accepted}
use Rattle.fwd_session.specs.History.{Loaded, SessionHistory, chunks_of, room}
use Rattle.fwd_session.specs.Live.{LiveSession, live_room, live_session}
use Rattle.fwd_session.proofs.Following.{room-live}
use Rattle.fwd_session.proofs.Lists.{length_map}
use Rattle.fwd_model.specs.declared.config.Config.{Config}
use Rattle.fwd_model.specs.declared.event.EndKind.{EndKind}
use Rattle.fwd_model.specs.declared.event.Event.TheVariants as event
use Rattle.fwd_model.specs.declared.answer.Answer.{Answer}
use Rattle.fwd_model.specs.declared.answer.Answer.TheVariants as answer
use Rattle.fwd_model.specs.declared.fault.Refusal.TheVariants.{NoSuch, NotNow}
use Rattle.fwd_model.specs.Layers.{Worker}
use Rattle.fwd_model.specs.Outcome.{Outcome, Stays, Goes, answer_of, is_refusal}
use Rattle.fwd_model.specs.Outputs.{carried_by, has_chunk, in_order, not_loaded, numbers_back, rising}
use Rattle.fwd_model.specs.Step as steps
use Rattle.fwd_model.specs.Step.{step}
use Rattle.fwd_model.specs.History.{Lane, History, histories, loaded_in, taken_by, IsReached}
use Rattle.fwd_model.specs.Live.{LiveLane, live, live_lane, lives}
use Rattle.fwd_model.proofs.Chunks.{AreOnce, some_pass, others_all-filter}
use Rattle.fwd_model.proofs.Onward.{Onward, to, past, past_found, Resting, rests, rest_past, rest_found, rest_within, lane_on}
use Rattle.fwd_model.proofs.Reached.{IsSaneLane, IsSaneWorker, AllSane-at}
use Rattle.fwd_model.proofs.Follows.{reached_sane, worker_here}
use Rattle.fwd_model.proofs.Follows.Ends.{Backs, gives_all, numbers_of}
use Rattle.fwd_model.proofs.Follows.Outputs.{lane_at-live}
use Rattle.fwd_model.proofs.Follows.Workers.{worker_is, taken_is, worker_map}
use Rattle.fwd_model.proofs.Telling.{AllAbove, rising-none, rising-cons}

-- ---- the window

own_lane : (config : Config) (h : History) (o : ℕ) (l : Lane) → IsReached config h
    → slice_get h.lanes o ≡ Some l → IsSaneLane l
own_lane config h o l is here = AllSane-at h.lanes o l (reached_sane config h is).lanes here

pub few_chunks : (config : Config) (h : History) (o w : ℕ) (l : Lane) (x : Worker SessionHistory)
    → IsReached config h → slice_get h.lanes o ≡ Some l → histories.worker_at l w ≡ Some x
    → length (carried_by l.output.buffer w) ≤ l.config.acks.window
few_chunks config h o w l x is here at =
    ((own_lane config h o l is here).workers w x.session (worker_is l w x at).here).few

-- a session has room for the chunk that its worker took and did not load
room_left : (n : ℕ) (cs : List CarriedChunk) (s : SessionHistory) (c : CarriedChunk) → IsSaneWorker n cs (Some s)
    → not_loaded (loaded_in (Some s)) cs ≡ Some c → 0 < room s
room_left n cs s c fits found =
    let front = chunks_of s.carried in
    let back = map (λ (a : Accepted). a.chunk) s.accepted in
    let one = some_pass (λ (d : CarriedChunk). not (has_chunk d.number (loaded_in (Some s)))) cs c found in
    omega (arith, one, fits.whole, fits.few, fits.window s refl, length-append front back, length_map (λ (l : Loaded). l.chunk) s.carried, length_map (λ (a : Accepted). a.chunk) s.accepted)

pub has_room : (config : Config) (h : History) (o w : ℕ) (l : Lane) (x : Worker SessionHistory)
    (s : SessionHistory) (c : CarriedChunk)
    → IsReached config h → slice_get h.lanes o ≡ Some l → histories.worker_at l w ≡ Some x
    → x.session ≡ Some s → x.taken ≡ Some c → 0 < room s
has_room config h o w l x s c is here at session taken =
    let place = worker_is l w x at in
    let fits = (own_lane config h o l is here).workers w x.session place.here in
    let cs = carried_by l.output.buffer w in
    room_left l.config.acks.window cs s c (subst (λ y. IsSaneWorker l.config.acks.window cs y) session fits)
    (ap (λ y. taken_by l.output.buffer w y) (sym session) ∙ taken_is l w x place ∙ taken)

mapped : {X Y : Type 0} (f : X → Y) (o : Option X) (y : Y) → option_map f o ≡ Some y
    → (x : X) × (o ≡ Some x) × (f x ≡ y)
mapped f None y h = absurd cc
mapped f (Some x) y h = (x, refl, same_Some _ _ h)

room_shown : (s : SessionHistory) (u : LiveSession) → live_session s ≡ u → 0 < room s
    → 0 < live_room u
room_shown s u same more = omega (arith, more, room-live s, ap live_room same)

-- the worker that a live one shows
shown_worker : (l : Lane) (k : LiveLane) (w : ℕ) (x : Worker LiveSession) → live_lane l ≡ k
    → lives.worker_at k w ≡ Some x
    → (y : Worker SessionHistory) × (histories.worker_at l w ≡ Some y)
    × (worker_map live_session y ≡ x)
shown_worker l k w x same at =
    mapped (worker_map live_session) (histories.worker_at l w) x (sym (worker_here w l) ∙ ap (λ (m : LiveLane). slice_get m.workers w) same ∙ at)

-- and so does its live part
pub has_room-live : (config : Config) (h : History) (o w : ℕ) (l : LiveLane)
    (x : Worker LiveSession) (s : LiveSession) (c : CarriedChunk)
    → IsReached config h → slice_get (live h).lanes o ≡ Some l → lives.worker_at l w ≡ Some x
    → x.session ≡ Some s → x.taken ≡ Some c → 0 < live_room s
has_room-live config h o w l x s c is here at session taken =
    let m = mapped live_lane (slice_get h.lanes o) l (sym (lane_at-live o h) ∙ here) in
    let y = shown_worker m.0 l w x m.2 at in
    let t = mapped live_session y.0.session s (ap (λ (z : Worker LiveSession). z.session) y.2 ∙ session) in
    room_shown t.0 s t.2 (has_room config h o w m.0 y.0 t.0 c is m.1 y.1 t.1 (ap (λ (z : Worker LiveSession). z.taken) y.2 ∙ taken))

-- ---- numbers in their order

has-in_order : (k n : ℕ) (ks : List ℕ) → has_number k (in_order n ks) ≡ ((n == k) || has_number k ks)
has-in_order k n [] = refl
has-in_order k n (j ∷ ks) = by (nat_le n j) (has-in_order k n ks)
  where
    turn : (a b c : Bool) → (a || (b || c)) ≡ (b || (a || c))
    turn true true c = refl
    turn true false c = refl
    turn false b c = refl

    by : (b : Bool) → has_number k (in_order n ks) ≡ ((n == k) || has_number k ks)
        → has_number k (cond b (n ∷ j ∷ ks) (j ∷ in_order n ks)) ≡ ((n == k) || has_number k (j ∷ ks))
    by true rest = refl
    by false rest = ap (λ b. (j == k) || b) rest ∙ turn (j == k) (n == k) (has_number k ks)

has-rising : (k : ℕ) (ks : List ℕ) → has_number k (rising ks) ≡ has_number k ks
has-rising k [] = refl
has-rising k (n ∷ ks) = has-in_order k n (rising ks) ∙ ap (λ b. (n == k) || b) (has-rising k ks)

-- each is below all behind it
abbrev AllRise : List ℕ → Type 0
AllRise [] = Unit {0}
AllRise (n ∷ ns) = AllAbove n ns × AllRise ns

above-more : (j n : ℕ) (ks : List ℕ) → j < n → AllAbove n ks → AllAbove j ks
above-more j n [] lt all = tt
above-more j n (k ∷ ks) lt all = (omega (arith, lt, all.0), above-more j n ks lt all.1)

above-in_order : (j n : ℕ) (ks : List ℕ) → j < n → AllAbove j ks → AllAbove j (in_order n ks)
above-in_order j n [] lt all = (lt, tt)
above-in_order j n (k ∷ ks) lt all = by (nat_le n k) (above-in_order j n ks lt all.1)
  where
    by : (b : Bool) → AllAbove j (in_order n ks)
        → AllAbove j (cond b (n ∷ k ∷ ks) (k ∷ in_order n ks))
    by true rest = (lt, all)
    by false rest = (all.0, rest)

rise-in_order : (n : ℕ) (ks : List ℕ) → has_number n ks ≡ false → AllRise ks
    → AllRise (in_order n ks)
rise-in_order n [] none all = (tt, tt)
rise-in_order n (k ∷ ks) none all = by (nat_le n k) refl (rise-in_order n ks rest all.1)
  where
    rest : has_number n ks ≡ false
    rest = grind (arith, nat_tests, none)

    by : (b : Bool) → nat_le n k ≡ b → AllRise (in_order n ks)
        → AllRise (cond b (n ∷ k ∷ ks) (k ∷ in_order n ks))
    by true e later =
        let lt : n < k = grind (arith, nat_tests, none, e) in
        ((lt, above-more n k ks lt all.0), all)
    by false e later =
        let lt : k < n = grind (arith, nat_tests, e) in
        (above-in_order k n ks lt all.0, later)

rise-rising : (ks : List ℕ) → AreOnce ks → AllRise (rising ks)
rise-rising [] once = tt
rise-rising (n ∷ ks) once = rise-in_order n (rising ks) (has-rising n ks ∙ once.0) (rise-rising ks once.1)

all-rise : (ks : List ℕ) → AllRise ks → AreRising ks
all-rise [] all = rising-none
all-rise (n ∷ ks) all = rising-cons n ks all.0 (all-rise ks all.1)

-- ---- what an end gives back

-- the numbers rise, and are those of the worker's chunks
pub record GivesBack (b : BufferHistory) (w : ℕ) (numbers : List ℕ) : Type 0 where
  pub rise : AreRising numbers
  pub all : (k : ℕ) → has_number k numbers ≡ has_chunk k (carried_by b w)

-- a number that is given back is one of the worker's chunk's
has_his : (k : ℕ) (cs : List CarriedChunk) (ks : List ℕ)
    → AllByRecursion (λ j. has_chunk j cs ≡ true) ks → has_number k ks ≡ true
    → has_chunk k cs ≡ true
has_his k cs [] all h = absurd cc
has_his k cs (j ∷ ks) all h = by (j == k) refl h (λ g. has_his k cs ks all.1 g)
  where
    by : (b : Bool) → (j == k) ≡ b → (b || has_number k ks) ≡ true
        → (has_number k ks ≡ true → has_chunk k cs ≡ true) → has_chunk k cs ≡ true
    by true e h rest = let same : j ≡ k = grind (arith, nat_tests, e) in ap (λ n. has_chunk n cs) (sym same) ∙ all.0
    by false e h rest = rest h

-- and the other way round, where no chunk is left
has_given : (k : ℕ) (ks : List ℕ) (cs : List CarriedChunk)
    → filter (λ c. not (has_number c.number ks)) cs ≡ [] → has_chunk k cs ≡ true
    → has_number k ks ≡ true
has_given k ks [] none h = absurd cc
has_given k ks (c ∷ cs) none h = by (has_number c.number ks) refl (c.number == k) refl none h (λ f g. has_given k ks cs f g)
  where
    by : (t : Bool) → has_number c.number ks ≡ t → (b : Bool) → (c.number == k) ≡ b
        → cond (not t) (c ∷ filter (λ d. not (has_number d.number ks)) cs) (filter (λ d. not (has_number d.number ks)) cs) ≡ []
        → (b || has_chunk k cs) ≡ true
        → (filter (λ d. not (has_number d.number ks)) cs ≡ [] → has_chunk k cs ≡ true → has_number k ks ≡ true)
        → has_number k ks ≡ true
    by true e true f none h rest = let same : c.number ≡ k = grind (arith, nat_tests, f) in ap (λ n. has_number n ks) (sym same) ∙ e
    by true e false f none h rest = rest none h
    by false e b f none h rest = absurd cc

either_way : (a b : Bool) → (a ≡ true → b ≡ true) → (b ≡ true → a ≡ true) → a ≡ b
either_way true b f g = sym (f refl)
either_way false true f g = g refl
either_way false false f g = refl

back_is : (l : Lane) (w : ℕ) (x : Worker SessionHistory)
    → Backs l.output.buffer w (steps.gives_back histories x)
    → GivesBack l.output.buffer w (numbers_back (steps.gives_back histories x))
back_is l w x is =
    let ks = numbers_of (steps.gives_back histories x) in
    let cs = carried_by l.output.buffer w in
    record {
      rise = all-rise (rising ks) (rise-rising ks is.once);
      all = λ k. has-rising k ks ∙ either_way (has_number k ks) (has_chunk k cs) (has_his k cs ks is.his) (has_given k ks cs (sym (others_all-filter ks cs) ∙ is.all));
    }

module _ (h : History) (o w : ℕ) (kind : EndKind) (now : ℕ) (l : Lane) (here : slice_get h.lanes o ≡ Some l) (own : IsSaneLane l) where
  abbrev Tells : Answer → Type 0
  Tells a = (numbers : List ℕ) → a ≡ answer.Ended numbers → GivesBack l.output.buffer w numbers

  end_on : Onward (λ a k. Tells a) (step histories h (event.End o w kind now))
  end_on =
      lane_on histories h o (λ a k. Tells a) (λ l. steps.end histories l w kind now) (λ m lane.
      past_found NoSuch {x = histories.worker_at m w} (λ x at.
      past NotNow {b = steps.is_idle histories x} (λ some.
      past NotNow {b = steps.has_acked histories x.session} (λ none. to {a = answer.Ended (numbers_back (steps.gives_back histories x))} (
      let same : l ≡ m = same_Some _ _ (sym here ∙ lane) in
      let back = subst (λ (k : Lane). GivesBack k.output.buffer w (numbers_back (steps.gives_back histories x))) (sym same) (back_is m w x (gives_all m w x (subst IsSaneLane same own) at none)) in
      λ numbers e. let is : numbers_back (steps.gives_back histories x) ≡ numbers = cc in subst (GivesBack l.output.buffer w) is back)))))

  end_rests : Resting (step histories h (event.End o w kind now))
  end_rests =
      rest_found (slice_get h.lanes o) NoSuch (λ l. rest_within _ (
      rest_found (histories.worker_at l w) NoSuch (λ x. rest_past (steps.is_idle histories x) NotNow (rest_past (steps.has_acked histories x.session) NotNow rests))))

  pub end_gives : (numbers : List ℕ)
      → answer_of (step histories h (event.End o w kind now)) ≡ answer.Ended numbers
      → GivesBack l.output.buffer w numbers
  end_gives numbers ended = by (step histories h (event.End o w kind now)) end_rests end_on ended
    where
      no : true ≡ false → ⊥
      no e = cc

      by : (x : Outcome History) → Resting x → Onward (λ a k. Tells a) x
          → answer_of x ≡ answer.Ended numbers → GivesBack l.output.buffer w numbers
      by (Stays a) r on e = absurd (no (sym r.stays ∙ ap is_refusal e))
      by (Goes a k) r on e = on.holds numbers e

pub ended_back : (config : Config) (h : History) (o w : ℕ) (kind : EndKind) (now : ℕ)
    (numbers : List ℕ) (l : Lane) → IsReached config h → slice_get h.lanes o ≡ Some l
    → answer_of (step histories h (event.End o w kind now)) ≡ answer.Ended numbers
    → GivesBack l.output.buffer w numbers
ended_back config h o w kind now numbers l is here ended =
    end_gives h o w kind now l here (own_lane config h o l is here) numbers ended
