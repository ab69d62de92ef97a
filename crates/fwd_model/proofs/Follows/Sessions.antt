-- The live part follows the history at the events of sessions.
use Rattle.std.proofs.Common.{◌≡◌, ℕ, ◌+◌, ◌≤◌, Bool, true, false, cond, eqb, List, [], ◌∷◌, ◌++◌, Option, Some, None, refl, sym, ap, subst, ◌∙◌, zero-add, inl, inr, arith, suc, length, max}
use Rattle.std.proofs.Math.ListN.{set}
use Rattle.std.specs.Prelude.{find, map, option_map, is_some, slice_get, not}
use Rattle.std.specs.List.{AllByRecursion}
use Rattle.std.proofs.lemmas.Option.{same_Some}
use Rattle.std.proofs.lemmas.List.{length-append, map-append}
use Rattle.fwd_chunks.specs.History.{CarriedChunk}
use Rattle.fwd_session.specs.ServerAcks.{Accepted, frame_of}
use Rattle.fwd_session.specs.Said.{names, without_first, left_by, accepted_for, accepted_by}
use Rattle.fwd_session.specs.History.{Loaded, SessionHistory, IsSane as IsSaneHistory, chunks_of, says, listens, hears, loads}
use Rattle.fwd_session.proofs.Following.{loads-sane}
use Rattle.fwd_session.proofs.Lists.{all_append, all_find, all_left, all_without, left_map, left_length, length_map}
use Rattle.fwd_model.specs.Outputs.{carried_by, has_chunk, not_loaded, live_output}
use Rattle.fwd_model.specs.History.{Lane, loaded_in, with_place}
use Rattle.fwd_model.specs.Live.{live_worker, live_workers, live_lane, with_live_worker}
use Rattle.fwd_model.proofs.Lists.{all_front, all_back}
use Rattle.fwd_model.proofs.Chunks.{IsAmong, among-found, times, times-append, same_missing, same_not_loaded, loads_one, loads_once, some_pass}
use Rattle.fwd_model.proofs.Places.{live_workers-set}
use Rattle.fwd_model.proofs.Reached.{IsSaneLane, IsSaneWorker, slice_get-set}

-- ---- a worker's place gets another session

pub with_place-live : (w : ℕ) (x : Option SessionHistory) (l : Lane)
    → live_lane (with_place w x l) ≡ with_live_worker (live_lane l) w (live_worker l.output w x)
unfolding live_lane
with_place-live w x l = λ i. record {
  config = l.config;
  output = live_output l.output;
  workers = (live_workers-set l.output 0 w l.sessions x ∙ ap (λ k. set (live_workers l.output 0 l.sessions) w (live_worker l.output k x)) (zero-add w)) i;
}

put_sane : (w j : ℕ) (x y : Option SessionHistory) (l : Lane) → IsSaneLane l
    → IsSaneWorker l.config.acks.window (carried_by l.output.buffer w) x
    → slice_get (set l.sessions w x) j ≡ Some y
    → IsSaneWorker l.config.acks.window (carried_by l.output.buffer j) y
put_sane w j x y l own fits h =
    elim (slice_get-set l.sessions w j x y h) [
      | inl e ↦ subst (λ k. IsSaneWorker l.config.acks.window (carried_by l.output.buffer k) y) e.0 (subst (λ z. IsSaneWorker l.config.acks.window (carried_by l.output.buffer w) z) e.1 fits)
      | inr e ↦ own.workers j y e.1
    ]

pub with_place-sane : (w : ℕ) (x : Option SessionHistory) (l : Lane) → IsSaneLane l
    → IsSaneWorker l.config.acks.window (carried_by l.output.buffer w) x → IsSaneLane (with_place w x l)
with_place-sane w x l own fits = record {
  buffer = own.buffer;
  apart = own.apart;
  marks = own.marks;
  waits = own.waits;
  workers = λ j y h. put_sane w j x y l own fits h;
}

pub is_some-option_map : {A B : Type 0} (f : A → B) (o : Option A)
    → is_some (option_map f o) ≡ is_some o
is_some-option_map f None = refl
is_some-option_map f (Some x) = refl

-- ---- a session that has the same chunks

-- a worker stays sane with another session, and what it took and did not load stays
pub record StaysSane (n : ℕ) (cs : List CarriedChunk) (x y : Option SessionHistory) : Type 0 where
  pub sane : IsSaneWorker n cs y
  pub taken : not_loaded (loaded_in y) cs ≡ not_loaded (loaded_in x) cs

pub same_chunks : (n : ℕ) (cs : List CarriedChunk) (x : Option SessionHistory) (t : SessionHistory)
    → IsSaneWorker n cs x → IsSaneHistory t → t.setup.window ≡ n
    → AllByRecursion (λ c. IsAmong c cs) (loaded_in (Some t))
    → ((k : ℕ) → times k (loaded_in (Some t)) ≡ times k (loaded_in x))
    → length (loaded_in (Some t)) ≡ length (loaded_in x)
    → StaysSane n cs x (Some t)
same_chunks n cs x t fits own window his same lengths =
    let left = same_missing (loaded_in x) (loaded_in (Some t)) cs same in record {
      sane = record {
        own = λ s e. subst IsSaneHistory (same_Some _ _ e) own;
        window = λ s e. ap (λ (y : SessionHistory). y.setup.window) (sym (same_Some _ _ e)) ∙ window;
        his = his;
        once = λ k. omega (arith, same k, fits.once k);
        rest = subst (λ ds. length ds ≤ 1) (sym left) fits.rest;
        whole = fits.whole ∙ (λ i. sym lengths i + length (sym left i));
        few = fits.few;
      };
      taken = same_not_loaded (loaded_in x) (loaded_in (Some t)) cs same;
    }

-- ---- what is heard leaves the chunks, in another order

first_times : (k : ℕ) (v : List ℕ) (cs : List CarriedChunk)
    → times k (map (λ a. a.chunk) (accepted_for v (find (λ c. names v c.name) cs)))
    + times k (without_first (λ c. names v c.name) cs)
    ≡ times k cs
first_times k v [] = omega arith
first_times k v (c ∷ cs) = by (names v c.name) (eqb c.number k) (first_times k v cs)
  where
    by : (b t : Bool)
        → times k (map (λ a. a.chunk) (accepted_for v (find (λ c. names v c.name) cs)))
        + times k (without_first (λ c. names v c.name) cs) ≡ times k cs
        → times k (map (λ (a : Accepted). a.chunk) (accepted_for v (cond b (Some c) (find (λ c. names v c.name) cs))))
        + times k (cond b cs (c ∷ without_first (λ c. names v c.name) cs)) ≡ times k (c ∷ cs)
    by true t rest = at (eqb c.number k)
      where
        at : (t : Bool) → cond t 1 0 + times k cs ≡ cond t (suc (times k cs)) (times k cs)
        at true = omega arith
        at false = omega arith
    by false t rest = at (eqb c.number k)
      where
        at : (t : Bool)
            → times k (map (λ a. a.chunk) (accepted_for v (find (λ c. names v c.name) cs)))
            + cond t (suc (times k (without_first (λ c. names v c.name) cs))) (times k (without_first (λ c. names v c.name) cs))
            ≡ cond t (suc (times k cs)) (times k cs)
        at true = omega (arith, rest)
        at false = omega (arith, rest)

left_times : (k : ℕ) (vs : List (List ℕ)) (cs : List CarriedChunk)
    → times k (left_by (λ c. c.name) vs cs) + times k (map (λ a. a.chunk) (accepted_by vs cs))
    ≡ times k cs
left_times k [] cs = omega arith
left_times k (v ∷ vs) cs =
    let left = without_first (λ (c : CarriedChunk). names v c.name) cs in
    let one = map (λ (a : Accepted). a.chunk) (accepted_for v (find (λ c. names v c.name) cs)) in
    let later = map (λ (a : Accepted). a.chunk) (accepted_by vs left) in
    let parts : times k (map (λ (a : Accepted). a.chunk) (accepted_by (v ∷ vs) cs)) ≡ times k one + times k later =
    ap (times k) (map-append (λ (a : Accepted). a.chunk) (accepted_for v (find (λ c. names v c.name) cs)) (accepted_by vs left)) ∙ times-append k one later in
    omega (arith, parts, left_times k vs left, first_times k v cs)

all_for : (P : CarriedChunk → Type 0) (v : List ℕ) (o : Option CarriedChunk) → ((c : CarriedChunk) → o ≡ Some c → P c)
    → AllByRecursion P (map (λ a. a.chunk) (accepted_for v o))
all_for P v None all = tt
all_for P v (Some c) all = (all c refl, tt)

all_accepted : (P : CarriedChunk → Type 0) (vs : List (List ℕ)) (cs : List CarriedChunk) → AllByRecursion P cs
    → AllByRecursion P (map (λ a. a.chunk) (accepted_by vs cs))
all_accepted P [] cs all = tt
all_accepted P (v ∷ vs) cs all =
    let left = without_first (λ (c : CarriedChunk). names v c.name) cs in
    subst (AllByRecursion P) (sym (map-append (λ (a : Accepted). a.chunk) (accepted_for v (find (λ c. names v c.name) cs)) (accepted_by vs left)))
    (all_append P _ _ (all_for P v (find (λ c. names v c.name) cs) (λ c e. all_find P (λ c. names v c.name) cs c all e)) (all_accepted P vs left (all_without P (λ c. names v c.name) cs all)))

module _ (s : SessionHistory) (bytes : List ℕ) where
  left_chunks : chunks_of (listens s bytes (says s bytes)).carried
      ≡ left_by (λ c. c.name) (says s bytes).replies (chunks_of s.carried)
  left_chunks = sym (left_map (λ (c : CarriedChunk). c.name) (λ (l : Loaded). l.chunk) (says s bytes).replies s.carried)

  listens-times : (k : ℕ)
      → times k (loaded_in (Some (listens s bytes (says s bytes)))) ≡ times k (loaded_in (Some s))
  listens-times k =
      let vs = (says s bytes).replies in
      let cs = chunks_of s.carried in
      let before = map (λ (a : Accepted). a.chunk) s.accepted in
      let now = map (λ (a : Accepted). a.chunk) (accepted_by vs cs) in
      let left = left_by (λ (c : CarriedChunk). c.name) vs cs in
      let shown : loaded_in (Some (listens s bytes (says s bytes))) ≡ left ++ (before ++ now) =
      (λ i. left_chunks i ++ map-append (λ (a : Accepted). a.chunk) s.accepted (accepted_by vs cs) i) in
      let all : times k (loaded_in (Some (listens s bytes (says s bytes)))) ≡ times k left + (times k before + times k now) =
      ap (times k) shown ∙ times-append k left (before ++ now) ∙ ap (λ n. times k left + n) (times-append k before now) in
      omega (arith, all, left_times k vs cs, times-append k cs before)

  listens-all : (P : CarriedChunk → Type 0) → AllByRecursion P (loaded_in (Some s))
      → AllByRecursion P (loaded_in (Some (listens s bytes (says s bytes))))
  listens-all P all =
      let vs = (says s bytes).replies in
      let cs = chunks_of s.carried in
      let before = map (λ (a : Accepted). a.chunk) s.accepted in
      let now = map (λ (a : Accepted). a.chunk) (accepted_by vs cs) in
      let left = left_by (λ (c : CarriedChunk). c.name) vs cs in
      let shown : loaded_in (Some (listens s bytes (says s bytes))) ≡ left ++ (before ++ now) =
      (λ i. left_chunks i ++ map-append (λ (a : Accepted). a.chunk) s.accepted (accepted_by vs cs) i) in
      let front = all_front P cs before all in
      subst (AllByRecursion P) (sym shown) (all_append P left (before ++ now) (all_left P (λ c. c.name) vs cs front) (all_append P before now (all_back P cs before all) (all_accepted P vs cs front)))

  listens-length : length (loaded_in (Some (listens s bytes (says s bytes)))) ≡ length (loaded_in (Some s))
  listens-length =
      let vs = (says s bytes).replies in
      let cs = chunks_of s.carried in
      let before = map (λ (a : Accepted). a.chunk) s.accepted in
      let now = map (λ (a : Accepted). a.chunk) (accepted_by vs cs) in
      let left = left_by (λ (c : CarriedChunk). c.name) vs cs in
      let shown : loaded_in (Some (listens s bytes (says s bytes))) ≡ left ++ (before ++ now) =
      (λ i. left_chunks i ++ map-append (λ (a : Accepted). a.chunk) s.accepted (accepted_by vs cs) i) in
      omega (arith, ap length shown, length-append left (before ++ now), length-append before now, length_map (λ (a : Accepted). a.chunk) (accepted_by vs cs), left_length vs cs, length-append cs before)

  pub hears-length : length (loaded_in (Some (hears s bytes))) ≡ length (loaded_in (Some s))
  hears-length = by s.down
    where
      by : (b : Bool)
          → length (loaded_in (Some (cond b s (listens s bytes (says s bytes))))) ≡ length (loaded_in (Some s))
      by true = refl
      by false = listens-length

  pub hears-window : (hears s bytes).setup.window ≡ s.setup.window
  hears-window = by s.down
    where
      by : (b : Bool) → (cond b s (listens s bytes (says s bytes))).setup.window ≡ s.setup.window
      by true = refl
      by false = refl

  pub hears-times : (k : ℕ)
      → times k (loaded_in (Some (hears s bytes))) ≡ times k (loaded_in (Some s))
  hears-times k = by s.down
    where
      by : (b : Bool)
          → times k (loaded_in (Some (cond b s (listens s bytes (says s bytes))))) ≡ times k (loaded_in (Some s))
      by true = refl
      by false = listens-times k

  pub hears-all : (P : CarriedChunk → Type 0) → AllByRecursion P (loaded_in (Some s))
      → AllByRecursion P (loaded_in (Some (hears s bytes)))
  hears-all P all = by s.down
    where
      by : (b : Bool) → AllByRecursion P (loaded_in (Some (cond b s (listens s bytes (says s bytes)))))
      by true = all
      by false = listens-all P all

-- ---- one chunk more

module _ (s : SessionHistory) (c : CarriedChunk) (now : ℕ) where
  one_more : loaded_in (Some (loads s c now))
      ≡ (chunks_of s.carried ++ c ∷ []) ++ map (λ a. a.chunk) s.accepted
  one_more = ap (λ cs. cs ++ map (λ (a : Accepted). a.chunk) s.accepted) (map-append (λ (l : Loaded). l.chunk) s.carried (record { chunk = c; through = length (s.appended ++ frame_of c); moment = max s.moment now } ∷ []))

  more_times : (k : ℕ) → times k (loaded_in (Some (loads s c now))) ≡ times k (c ∷ loaded_in (Some s))
  more_times k =
      let front = chunks_of s.carried in
      let back = map (λ (a : Accepted). a.chunk) s.accepted in
      let all : times k (loaded_in (Some (loads s c now))) ≡ (times k front + times k (c ∷ [])) + times k back =
      ap (times k) one_more ∙ times-append k (front ++ c ∷ []) back ∙ ap (λ n. n + times k back) (times-append k front (c ∷ [])) in
      all ∙ by (eqb c.number k) (times-append k front back)
    where
      by : (b : Bool)
          → times k (loaded_in (Some s))
          ≡ times k (chunks_of s.carried) + times k (map (λ (a : Accepted). a.chunk) s.accepted)
          → (times k (chunks_of s.carried) + cond b 1 0)
          + times k (map (λ (a : Accepted). a.chunk) s.accepted)
          ≡ cond b (suc (times k (loaded_in (Some s)))) (times k (loaded_in (Some s)))
      by true e = omega (arith, e)
      by false e = omega (arith, e)

  -- it is the one that the worker took and did not load, and then none is
  pub loads_taken : (n : ℕ) (cs : List CarriedChunk) → IsSaneWorker n cs (Some s)
      → not_loaded (loaded_in (Some s)) cs ≡ Some c
      → IsSaneWorker n cs (Some (loads s c now))
      × (not_loaded (loaded_in (Some (loads s c now))) cs ≡ None)
  loads_taken n cs fits found =
      let hs = loaded_in (Some s) in
      let gs = loaded_in (Some (loads s c now)) in
      let one = loads_one hs gs cs c more_times found fits.rest in
      let P : CarriedChunk → Type 0 = λ d. IsAmong d cs in
      let front = chunks_of s.carried in
      let back = map (λ (a : Accepted). a.chunk) s.accepted in
      let more : length gs ≡ suc (length hs) = omega (arith, ap length one_more, length-append (front ++ c ∷ []) back, length-append front (c ∷ []), length-append front back) in
      let was = some_pass (λ (d : CarriedChunk). not (has_chunk d.number hs)) cs c found in (
        record {
          own = λ t e. subst IsSaneHistory (same_Some _ _ e) (loads-sane s c now (fits.own s refl));
          window = λ t e. ap (λ (y : SessionHistory). y.setup.window) (sym (same_Some _ _ e)) ∙ fits.window s refl;
          his = subst (AllByRecursion P) (sym one_more) (all_append P (front ++ c ∷ []) back (all_append P front (c ∷ []) (all_front P front back fits.his) (among-found (λ d. not (has_chunk d.number hs)) cs c found, tt)) (all_back P front back fits.his));
          once = loads_once hs gs cs c more_times found fits.once;
          rest = subst (λ ds. length ds ≤ 1) (sym one.0) (omega arith);
          whole = omega (arith, fits.whole, fits.rest, was, more, ap length one.0);
          few = fits.few;
        },
        one.1,
      )
