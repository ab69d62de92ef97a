-- The live part follows the history where a worker's session ends.
use Rattle.std.proofs.Common.{◌≡◌, ◌≢◌, ℕ, ◌+◌, ◌^◌, ◌<◌, ◌≤◌, Bool, true, false, cond, eqb, List, [], ◌∷◌, ◌++◌, length, Option, Some, None, refl, sym, ap, subst, ◌∙◌, zero-add, max, inl, inr, arith}
use Rattle.std.proofs.lemmas.List.{append-nil, map-append}
use Rattle.std.specs.Prelude.{◌⊎◌, is_some, map, not, ◌==◌, option_to_list, slice_get}
use Rattle.std.specs.List.{AllByRecursion}
use Rattle.std.proofs.lemmas.Bool.Decides.{nat_tests}
use Rattle.fwd_chunks.specs.Cells.{has_number, is_carried, without}
use Rattle.fwd_chunks.specs.History.{BufferHistory, CarriedChunk, looks, frees}
use Rattle.fwd_chunks.specs.Live.{live_buffer}
use Rattle.fwd_chunks.proofs.Follows as buffer
use Rattle.fwd_chunks.proofs.Sane as sane
use Rattle.fwd_failover.specs.History.{ServersSetting, ServersHistory}
use Rattle.fwd_failover.specs.Live.{live_servers}
use Rattle.fwd_failover.proofs.Kept.{live-lost}
use Rattle.fwd_session.specs.ServerAcks.{Accepted}
use Rattle.fwd_session.specs.History.{SessionHistory, chunks_of, first_in}
use Rattle.fwd_session.proofs.Lists.{all_append, all_same, find_passes}
use Rattle.fwd_book.specs.Live.{live_book}
use Rattle.fwd_model.specs.Outputs.{carried_by, has_chunk, not_loaded, Return, return_of, returned, moment_if, gets_back, loses, output_history_ends, live_output, live_gets_back, live_loses}
use Rattle.fwd_model.specs.Layers.{Worker}
use Rattle.fwd_model.specs.Step as steps
use Rattle.fwd_model.specs.History.{Lane, histories, loaded_in, with_output, with_place}
use Rattle.fwd_model.specs.Live.{live_lane, lane_ends}
use Rattle.fwd_model.proofs.Chunks.{IsAmong, among-found, among-has, times, missing, has-times, others, others_all, AreOnce, numbers_in, once_in, all_gone}
use Rattle.fwd_model.proofs.Settling.{AreApart, mine-carried, apart-without, mine-without, others-keep, stays-without}
use Rattle.fwd_model.proofs.Places.{one_changes}
use Rattle.fwd_model.proofs.Follows.Workers.{worker_is, taken_is}
use Rattle.fwd_model.proofs.Reached.{IsSaneLane, IsSaneWorker, slice_get-set}

-- ---- one chunk is given back

-- what stays where chunks are given back
pub record Keeps (b c : BufferHistory) : Type 0 where
  pub setting : c.setting ≡ b.setting
  pub cells : c.cells ≡ b.cells
  pub acknowledged : c.acknowledged ≡ b.acknowledged

frees-keeps : (b : BufferHistory) (k : ℕ) (loss : Option ℕ) → Keeps b (frees b k loss)
frees-keeps b k None = record { setting = refl; cells = refl; acknowledged = refl }
frees-keeps b k (Some now) = record { setting = refl; cells = refl; acknowledged = refl }

frees-carried : (b : BufferHistory) (k : ℕ) (loss : Option ℕ)
    → (frees b k loss).carried ≡ without k b.carried
frees-carried b k None = refl
frees-carried b k (Some now) = refl

frees-by : (b : BufferHistory) (k v : ℕ) (loss : Option ℕ)
    → carried_by (frees b k loss) v ≡ others k (carried_by b v)
frees-by b k v None = mine-without b v k b.carried
frees-by b k v (Some now) = mine-without b v k b.carried

-- ---- chunks are given back

-- the numbers of what is given back
abbrev pub numbers_of : List Return → List ℕ
numbers_of back = map (λ r. r.number) back

pub gives-keeps : (now : ℕ) (back : List Return) (b : BufferHistory)
    → Keeps b (gets_back b back now)
gives-keeps now [] b = record { setting = refl; cells = refl; acknowledged = refl }
gives-keeps now (r ∷ back) b =
    let one = frees-keeps b r.number (moment_if r.lost now) in
    let rest = gives-keeps now back (frees b r.number (moment_if r.lost now)) in
    record { setting = rest.setting ∙ one.setting; cells = rest.cells ∙ one.cells; acknowledged = rest.acknowledged ∙ one.acknowledged }

pub gives-by : (now v : ℕ) (back : List Return) (b : BufferHistory)
    → carried_by (gets_back b back now) v ≡ others_all (numbers_of back) (carried_by b v)
gives-by now v [] b = refl
gives-by now v (r ∷ back) b =
    gives-by now v back (frees b r.number (moment_if r.lost now))
    ∙ ap (others_all (numbers_of back)) (frees-by b r.number v (moment_if r.lost now))

pub gives-apart : (now : ℕ) (back : List Return) (b : BufferHistory) → AreApart b.carried
    → AreApart (gets_back b back now).carried
gives-apart now [] b apart = apart
gives-apart now (r ∷ back) b apart =
    gives-apart now back (frees b r.number (moment_if r.lost now))
    (subst AreApart (sym (frees-carried b r.number (moment_if r.lost now))) (apart-without r.number b.carried apart))

-- each of the numbers is carried
abbrev pub AreCarried : BufferHistory → List ℕ → Type 0
AreCarried b ks = AllByRecursion (λ k. is_carried k b.carried ≡ true) ks

still_carried : (b : BufferHistory) (k : ℕ) (loss : Option ℕ) (ks : List ℕ)
    → has_number k ks ≡ false → AreCarried b ks → AreCarried (frees b k loss) ks
still_carried b k loss [] none all = tt
still_carried b k loss (j ∷ ks) none all =
    let other : (k == j) ≡ false = grind (arith, nat_tests, none) in
    let rest : has_number k ks ≡ false = grind (arith, nat_tests, none) in
    (ap (is_carried j) (frees-carried b k loss) ∙ stays-without j k b.carried other ∙ all.0, still_carried b k loss ks rest all.1)

-- the live part follows, and the buffer stays sane
pub record Given (b : BufferHistory) (back : List Return) (now : ℕ) : Type 0 where
  pub live : live_buffer (gets_back b back now) ≡ live_gets_back (live_buffer b) back now
  pub sane : sane.IsSane (gets_back b back now)

pub gives : (now : ℕ) (back : List Return) (b : BufferHistory) → sane.IsSane b
    → AreOnce (numbers_of back) → AreCarried b (numbers_of back) → Given b back now
gives now [] b own once carried = record { live = refl; sane = own }
gives now (r ∷ back) b own once carried =
    let loss = moment_if r.lost now in
    let rest = gives now back (frees b r.number loss) (sane.frees-sane b r.number loss own carried.0) once.1 (still_carried b r.number loss (numbers_of back) once.0 carried.1) in
    record {
      live = rest.live ∙ ap (λ x. live_gets_back x back now) (buffer.frees-live b r.number loss own carried.0);
      sane = rest.sane;
    }

-- ---- what a worker gives back

-- what is given back is all that the worker has, each once
pub record Backs (b : BufferHistory) (w : ℕ) (back : List Return) : Type 0 where
  pub once : AreOnce (numbers_of back)
  pub his : AllByRecursion (λ k. has_chunk k (carried_by b w) ≡ true) (numbers_of back)
  pub all : others_all (numbers_of back) (carried_by b w) ≡ []

numbers_given : (lost : Bool) (cs : List CarriedChunk) → numbers_of (map (return_of lost) cs) ≡ numbers_in cs
numbers_given lost [] = refl
numbers_given lost (c ∷ cs) = ap (λ ks. c.number ∷ ks) (numbers_given lost cs)

numbers_returned : (taken : Option CarriedChunk) (hs : List CarriedChunk)
    → numbers_of (returned taken hs) ≡ numbers_in (option_to_list taken ++ hs)
numbers_returned taken hs =
    map-append (λ (r : Return). r.number) (map (return_of false) (option_to_list taken)) (map (return_of true) hs)
    ∙ (λ i. numbers_given false (option_to_list taken) i ++ numbers_given true hs i)
    ∙ sym (map-append (λ (c : CarriedChunk). c.number) (option_to_list taken) hs)

-- a chunk that is missing and the chunks of a session stand once
both_once : (hs cs : List CarriedChunk) (o : Option CarriedChunk) → not_loaded hs cs ≡ o
    → ((k : ℕ) → times k hs ≤ 1) → (k : ℕ) → times k (option_to_list o ++ hs) ≤ 1
both_once hs cs None e once k = once k
both_once hs cs (Some c) e once k = by (eqb c.number k) refl
  where
    fresh : not (has_chunk c.number hs) ≡ true
    fresh = find_passes (λ d. not (has_chunk d.number hs)) cs c e

    by : (b : Bool) → eqb c.number k ≡ b → cond b (Rattle.std.proofs.Common.suc (times k hs)) (times k hs) ≤ 1
    by true f =
        let same : c.number ≡ k = grind (arith, nat_tests, f) in
        let none : times k hs ≡ 0 = ap (λ j. times j hs) (sym same) ∙ grind (arith, nat_tests, has-times c.number hs, fresh) in
        omega (arith, none)
    by false f = once k

all_numbers : (P : ℕ → Type 0) (cs : List CarriedChunk) → AllByRecursion (λ c. P c.number) cs
    → AllByRecursion P (numbers_in cs)
all_numbers P [] all = tt
all_numbers P (c ∷ cs) all = (all.0, all_numbers P cs all.1)

all_taken : (P : CarriedChunk → Type 0) (o : Option CarriedChunk) → ((c : CarriedChunk) → o ≡ Some c → P c)
    → AllByRecursion P (option_to_list o)
all_taken P None all = tt
all_taken P (Some c) all = (all c refl, tt)

pub backs : (b : BufferHistory) (w : ℕ) (hs : List CarriedChunk)
    → AllByRecursion (λ c. IsAmong c (carried_by b w)) hs → ((k : ℕ) → times k hs ≤ 1)
    → length (missing hs (carried_by b w)) ≤ 1
    → Backs b w (returned (not_loaded hs (carried_by b w)) hs)
backs b w hs his once few =
    let cs = carried_by b w in
    let taken = not_loaded hs cs in
    let same = sym (numbers_returned taken hs) in
    let mine : CarriedChunk → Type 0 = λ c. has_chunk c.number cs ≡ true in
    record {
      once = subst AreOnce same (once_in (option_to_list taken ++ hs) (both_once hs cs taken refl once));
      his = subst (AllByRecursion (λ k. has_chunk k cs ≡ true)) same (all_numbers (λ k. has_chunk k cs ≡ true) (option_to_list taken ++ hs)
          (all_append mine (option_to_list taken) hs
          (all_taken mine taken (λ c e. among-has c cs (among-found (λ d. not (has_chunk d.number hs)) cs c e)))
          (all_same (λ c. IsAmong c cs) mine hs (λ c one. among-has c cs one) his)));
      all = ap (λ ks. others_all ks cs) (sym same) ∙ all_gone hs cs few;
    }

-- where none of its chunks is acknowledged, a session has those that are not
unacked_all : (x : Option SessionHistory) → steps.has_acked histories x ≡ false
    → loaded_in x ≡ steps.unacknowledged_of histories x
unacked_all None e = refl
unacked_all (Some s) e = by s.accepted e
  where
    by : (list : List Accepted) → is_some (first_in list) ≡ false
        → chunks_of s.carried ++ map (λ (a : Accepted). a.chunk) list ≡ chunks_of s.carried
    by [] f = append-nil (chunks_of s.carried)
    by (a ∷ list) f = absurd cc

pub gives_all : (l : Lane) (w : ℕ) (x : Worker SessionHistory) → IsSaneLane l
    → histories.worker_at l w ≡ Some x → steps.has_acked histories x.session ≡ false
    → Backs l.output.buffer w (steps.gives_back histories x)
gives_all l w x own at none =
    let is = worker_is l w x at in
    let fits = own.workers w x.session is.here in
    subst (Backs l.output.buffer w) (λ i. returned (taken_is l w x is i) (unacked_all x.session none i))
    (backs l.output.buffer w (loaded_in x.session) fits.his fits.once fits.rest)

-- the others keep what they have
others_kept : (b : BufferHistory) (w v : ℕ) (ks : List ℕ) → AreApart b.carried → w ≢ v
    → AllByRecursion (λ k. has_chunk k (carried_by b w) ≡ true) ks
    → others_all ks (carried_by b v) ≡ carried_by b v
others_kept b w v [] apart differ all = refl
others_kept b w v (k ∷ ks) apart differ all =
    ap (others_all ks) (others-keep b w v k apart all.0 differ) ∙ others_kept b w v ks apart differ all.1

-- ---- the servers

loses-live : (setting : ServersSetting) (s : ServersHistory) (server : Option ℕ) (moment : ℕ)
    → setting.retry_max < 2 ^ 64
    → live_servers setting (loses setting s server moment)
    ≡ live_loses (live_servers setting s) server moment
loses-live setting s None moment fits = refl
loses-live setting s (Some server) moment fits = live-lost setting s server moment fits

-- ---- the output

pub back-keeps : (b : BufferHistory) (now : ℕ) (back : List Return)
    → Keeps b (gets_back (looks b now) back now)
back-keeps b now back = let k = gives-keeps now back (looks b now) in record { setting = k.setting; cells = k.cells; acknowledged = k.acknowledged }

module _ (l : Lane) (w : ℕ) (back : List Return) (now : ℕ) (own : IsSaneLane l) (is : Backs l.output.buffer w back) where
  abbrev after : BufferHistory
  after = gets_back (looks l.output.buffer now) back now

  given : Given (looks l.output.buffer now) back now
  given =
      gives now back (looks l.output.buffer now) (sane.looks-sane l.output.buffer now own.buffer) is.once
      (all_same (λ k. has_chunk k (carried_by l.output.buffer w) ≡ true) (λ k. is_carried k l.output.buffer.carried ≡ true) (numbers_of back) (λ k h. mine-carried l.output.buffer w k h) is.his)

  pub others_have : (v : ℕ) → w ≢ v → carried_by after v ≡ carried_by l.output.buffer v
  others_have v differ = gives-by now v back (looks l.output.buffer now) ∙ others_kept l.output.buffer w v (numbers_of back) own.apart differ is.his

  it_has : carried_by after w ≡ []
  it_has = gives-by now w back (looks l.output.buffer now) ∙ is.all

  pub ends-live : (x : Option SessionHistory) (server : Option ℕ)
      → slice_get l.sessions w ≡ Some x
      → live_lane (with_place w None (with_output l (output_history_ends l.output back server now)))
      ≡ lane_ends (live_lane l) w back server now
  unfolding live_lane live_output live_buffer
  ends-live x server here = λ i. record {
    config = l.config;
    output = record {
      buffer = (given.live ∙ ap (λ b. live_gets_back b back now) (buffer.looks-live l.output.buffer now)) i;
      book = live_book l.output.book;
      servers = loses-live l.output.setting l.output.servers server (max l.output.buffer.moment now) own.waits i;
    };
    workers = one_changes l.output (output_history_ends l.output back server now) w 0 w l.sessions None x None others_have (ap (not_loaded []) it_has) (sym (zero-add w)) here i;
  }

  still : (j : ℕ) (x : Option SessionHistory)
      → ((w ≡ j) × (None ≡ x)) ⊎ ((w ≢ j) × (slice_get l.sessions j ≡ Some x))
      → IsSaneWorker l.config.acks.window (carried_by after j) x
  still j x (inl e) =
      subst (λ k. IsSaneWorker l.config.acks.window (carried_by after k) x) e.0 (subst (λ y. IsSaneWorker l.config.acks.window (carried_by after w) y) e.1 (subst (λ cs. IsSaneWorker l.config.acks.window cs None) (sym it_has) (record {
        own = λ s f. absurd cc;
        window = λ s f. absurd cc;
        his = tt;
        once = λ k. omega arith;
        rest = omega arith;
        whole = refl;
        few = omega arith;
      })))
  still j x (inr e) = subst (λ cs. IsSaneWorker l.config.acks.window cs x) (sym (others_have j e.0)) (own.workers j x e.1)

  pub ends-sane : (server : Option ℕ)
      → IsSaneLane (with_place w None (with_output l (output_history_ends l.output back server now)))
  ends-sane server = record {
    buffer = given.sane;
    apart = gives-apart now back (looks l.output.buffer now) own.apart;
    marks = own.marks ∙ sym (back-keeps l.output.buffer now back).acknowledged;
    waits = own.waits;
    workers = λ j x h. still j x (slice_get-set l.sessions w j None x h);
  }
