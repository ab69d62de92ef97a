-- A worker's chunks and its session's room, at each thing that happens to it.
use Rattle.std.proofs.Common.{◌≡◌, ℕ, ◌+◌, ◌-◌, ◌<◌, ◌≤◌, Bool, true, false, cond, List, [], ◌∷◌, ◌++◌, length, drop, Option, Some, None, refl, sym, ap, subst, ◌∙◌, arith}
use Rattle.std.specs.Prelude.{◌==◌, map, find, is_some, nat_lt, option_map, option_to_list, IfSome}
use Rattle.std.specs.List.{AllByRecursion}
use Rattle.std.proofs.lemmas.List.{map-append}
use Rattle.std.proofs.lemmas.Option.{same_Some}
use Rattle.fwd_chunks.specs.History.{CarriedChunk}
use Rattle.fwd_chunks.specs.Live.{IsCarried}
use Rattle.fwd_session.specs.declared.limits.TheConstants.{WINDOW_LIMIT}
use Rattle.fwd_session.specs.ServerAcks.{Accepted, ServerAck, IsBacked, evidence_of, reply_in}
use Rattle.fwd_session.specs.Said.{Said, names, without_first, left_by, accepted_for, accepted_by}
use Rattle.fwd_session.specs.History.{first_in}
use Rattle.fwd_session.specs.Live.{LiveSession, LiveLoaded, live_acked, live_chunks, live_has_chunk, live_is_late, live_room, live_says, falls_with, sends_through, session_begins, session_hears, session_listens, session_loads, session_looks, session_sends, session_takes, session_unloads}
use Rattle.fwd_session.proofs.Lists.{all_append, all_find, all_left, all_without, left_map, length_map, map_map}
use Rattle.fwd_model.specs.declared.config.OutputConfig.{OutputConfig}
use Rattle.fwd_model.specs.Layers.{Worker}
use Rattle.fwd_model.specs.Setups.{session_setup}
use Rattle.fwd_core.specs.Lanes.{IsRoomy, IsSameWork, chunks_at}
use Rattle.fwd_run.specs.Pages.{times}
use Rattle.fwd_output.proofs.ChunkLemmas.{all_front, all_back, times-append}

abbrev chunk_in : LiveLoaded → CarriedChunk
chunk_in l = l.chunk

abbrev acked_chunk : Accepted → CarriedChunk
acked_chunk a = a.chunk

-- ---- the same chunks in the same order

pub same_chunks : (x y : Worker LiveSession) → chunks_at y ≡ chunks_at x → IsSameWork x y
same_chunks x y e = record {
  each = λ b all. subst (AllByRecursion (IsCarried b)) (sym e) all;
  times = λ n. ap (times n) e;
}

pub same_session : (x y : Worker LiveSession) → y ≡ x → IsSameWork x y
same_session x y e = same_chunks x y (ap chunks_at e)

-- a session whose chunks changed in no more than how far they are sent
sent-same : (taken : Option CarriedChunk) (s t : LiveSession) (f : LiveLoaded → LiveLoaded)
    → t.carried ≡ map f s.carried → t.accepted ≡ s.accepted → ((l : LiveLoaded) → (f l).chunk ≡ l.chunk)
    → IsSameWork (record { taken = taken; session = Some s }) (record { taken = taken; session = Some t })
sent-same taken s t f carried accepted same =
    same_chunks (record { taken = taken; session = Some s }) (record { taken = taken; session = Some t })
    (λ i. option_to_list taken ++ ((ap live_chunks carried ∙ mapped s.carried) i ++ map acked_chunk (accepted i)))
  where
    mapped : (ls : List LiveLoaded) → live_chunks (map f ls) ≡ live_chunks ls
    mapped [] = refl
    mapped (l ∷ ls) = λ i. same l i ∷ mapped ls i

sent-roomy : (taken : Option CarriedChunk) (s t : LiveSession) (f : LiveLoaded → LiveLoaded)
    → t.setup ≡ s.setup → t.carried ≡ map f s.carried → t.accepted ≡ s.accepted
    → IsRoomy taken s → IsRoomy taken t
sent-roomy taken s t f setup carried accepted own = record {
  window = subst (λ n. n ≤ WINDOW_LIMIT) (sym (ap (λ k. k.window) setup)) own.window;
  room = λ is. subst (λ n. 0 < n) (sym (λ i. (setup i).window - ((ap length carried ∙ length_map f s.carried) i + length (accepted i)))) (own.room is);
}

-- as the methods meet it
pub same_work : (x : Worker LiveSession) (taken : Option CarriedChunk) (o : Option LiveSession)
    (s t u : LiveSession) → record { taken = taken; session = o } ≡ x → o ≡ Some s → t ≡ u
    → IsSameWork (record { taken = taken; session = Some s }) (record { taken = taken; session = Some u })
    → IsSameWork x (record { taken = taken; session = Some t })
same_work x taken o s t u view is now same =
    subst (λ k. IsSameWork k (record { taken = taken; session = Some t })) (sym (ap (λ p. record { taken = taken; session = p }) is) ∙ view)
    (subst (λ k. IsSameWork (record { taken = taken; session = Some s }) (record { taken = taken; session = Some k })) (sym now) same)

pub roomy-none : (taken o : Option CarriedChunk) (s : LiveSession) → o ≡ None → IsRoomy taken s → IsRoomy o s
roomy-none taken o s none own =
    subst (λ p. IsRoomy p s) (sym none) (record { window = own.window; room = λ is. absurd cc })

-- ---- a session begins

pub begins-roomy : (c : OutputConfig) (taken : Option CarriedChunk) (server : ℕ) (salt : List ℕ) (now : ℕ)
    → IsRoomy taken (session_begins (session_setup c server salt now))
begins-roomy c taken server salt now = record {
  window = c.acks.few;
  room = λ is. omega (arith, c.acks.some);
}

pub begins-same : (c : OutputConfig) (taken : Option CarriedChunk) (server : ℕ) (salt : List ℕ) (now : ℕ)
    → IsSameWork (record { taken = taken; session = None })
    (record { taken = taken; session = Some (session_begins (session_setup c server salt now)) })
begins-same c taken server salt now =
    same_chunks (record { taken = taken; session = None }) (record { taken = taken; session = Some (session_begins (session_setup c server salt now)) }) refl

-- ---- a chunk is loaded

pub loads-same : (c : CarriedChunk) (s : LiveSession) (now : ℕ)
    → IsSameWork (record { taken = Some c; session = Some s })
    (record { taken = None; session = Some (session_loads s c now) })
loads-same c s now = record {
  each = λ b all. subst (AllByRecursion (IsCarried b)) (sym has) (all_append (IsCarried b) (carried ++ c ∷ []) accepted (all_append (IsCarried b) carried (c ∷ []) (all_front (IsCarried b) carried accepted all.1) (all.0, tt)) (all_back (IsCarried b) carried accepted all.1));
  times = λ n.
      let after = ap (times n) has ∙ times-append n (carried ++ c ∷ []) accepted in
      let before = times-append n (c ∷ []) (carried ++ accepted) in
      omega (arith, after, before, times-append n carried (c ∷ []), times-append n carried accepted);
}
  where
    carried : List CarriedChunk
    carried = live_chunks s.carried

    accepted : List CarriedChunk
    accepted = map acked_chunk s.accepted

    has : chunks_at (record { taken = None; session = Some (session_loads s c now) })
        ≡ (carried ++ c ∷ []) ++ accepted
    has = ap (λ ds. ds ++ accepted) (map-append chunk_in s.carried _)

pub loads-roomy : (taken : Option CarriedChunk) (c : CarriedChunk) (s : LiveSession) (now : ℕ) → IsRoomy taken s
    → IsRoomy None (session_loads s c now)
loads-roomy taken c s now own = record { window = own.window; room = λ is. absurd cc }

pub loads_work : (x : Worker LiveSession) (taken o : Option CarriedChunk) (p : Option LiveSession)
    (s t : LiveSession) (c : CarriedChunk) (now : ℕ)
    → record { taken = taken; session = p } ≡ x → taken ≡ Some c → p ≡ Some s → o ≡ None
    → t ≡ session_loads s c now
    → IsSameWork x (record { taken = o; session = Some t })
loads_work x taken o p s t c now view has is none next =
    subst (λ k. IsSameWork k (record { taken = o; session = Some t })) (sym (λ i. record { taken = has i; session = is i }) ∙ view)
    (subst (λ k. IsSameWork (record { taken = Some c; session = Some s }) k) (sym (λ i. record { taken = none i; session = Some (next i) })) (loads-same c s now))

-- ---- its link takes bytes

pub sends-same : (taken : Option CarriedChunk) (s : LiveSession) (count : ℕ)
    → IsSameWork (record { taken = taken; session = Some s })
    (record { taken = taken; session = Some (session_sends s count) })
sends-same taken s count = sent-same taken s (session_sends s count) (sends_through count) refl refl (λ l. refl)

pub sends-roomy : (taken : Option CarriedChunk) (s : LiveSession) (count : ℕ) → IsRoomy taken s
    → IsRoomy taken (session_sends s count)
sends-roomy taken s count own = sent-roomy taken s (session_sends s count) (sends_through count) refl refl refl own

-- ---- it is asked whether it is late

pub looks-same : (taken : Option CarriedChunk) (s : LiveSession) (now : ℕ)
    → IsSameWork (record { taken = taken; session = Some s })
    (record { taken = taken; session = Some (session_looks s now) })
unfolding session_looks
looks-same taken s now = sent-same taken s (session_looks s now) (falls_with (live_is_late s now)) refl refl (λ l. refl)

pub looks-roomy : (taken : Option CarriedChunk) (s : LiveSession) (now : ℕ) → IsRoomy taken s
    → IsRoomy taken (session_looks s now)
unfolding session_looks
looks-roomy taken s now own = sent-roomy taken s (session_looks s now) (falls_with (live_is_late s now)) refl refl refl own

pub late-same : (taken : Option CarriedChunk) (s t : LiveSession) (now : ℕ)
    → (s.down ≡ true → t ≡ s) → (s.down ≡ false → t ≡ session_looks s now)
    → IsSameWork (record { taken = taken; session = Some s }) (record { taken = taken; session = Some t })
late-same taken s t now stays goes = by s.down refl
  where
    with_session : LiveSession → Worker LiveSession
    with_session k = record { taken = taken; session = Some k }

    by : (b : Bool) → s.down ≡ b
        → IsSameWork (record { taken = taken; session = Some s }) (record { taken = taken; session = Some t })
    by true e = same_chunks (record { taken = taken; session = Some s }) (record { taken = taken; session = Some t }) (ap (λ k. chunks_at (with_session k)) (stays e))
    by false e = subst (λ k. IsSameWork (record { taken = taken; session = Some s }) (record { taken = taken; session = Some k })) (sym (goes e)) (looks-same taken s now)

-- ---- what is heard

first_times : (n : ℕ) (v : List ℕ) (cs : List CarriedChunk)
    → times n (map acked_chunk (accepted_for v (find (λ c. names v c.name) cs)))
    + times n (without_first (λ c. names v c.name) cs)
    ≡ times n cs
first_times n v [] = omega arith
first_times n v (c ∷ cs) = by (names v c.name) (c.number == n) (first_times n v cs)
  where
    by : (b t : Bool)
        → times n (map acked_chunk (accepted_for v (find (λ c. names v c.name) cs)))
        + times n (without_first (λ c. names v c.name) cs) ≡ times n cs
        → times n (map acked_chunk (accepted_for v (cond b (Some c) (find (λ c. names v c.name) cs))))
        + times n (cond b cs (c ∷ without_first (λ c. names v c.name) cs)) ≡ times n (c ∷ cs)
    by true t rest = omega (arith, times-append n (c ∷ []) cs)
    by false t rest = omega (arith, rest, times-append n (c ∷ []) cs, times-append n (c ∷ []) (without_first (λ c. names v c.name) cs))

left_times : (n : ℕ) (vs : List (List ℕ)) (cs : List CarriedChunk)
    → times n (left_by (λ c. c.name) vs cs) + times n (map acked_chunk (accepted_by vs cs))
    ≡ times n cs
left_times n [] cs = omega arith
left_times n (v ∷ vs) cs =
    let left = without_first (λ (c : CarriedChunk). names v c.name) cs in
    let one = map acked_chunk (accepted_for v (find (λ c. names v c.name) cs)) in
    let later = map acked_chunk (accepted_by vs left) in
    let parts : times n (map acked_chunk (accepted_by (v ∷ vs) cs)) ≡ times n one + times n later =
    ap (times n) (map-append acked_chunk (accepted_for v (find (λ c. names v c.name) cs)) (accepted_by vs left)) ∙ times-append n one later in
    omega (arith, parts, left_times n vs left, first_times n v cs)

all_for : (P : CarriedChunk → Type 0) (v : List ℕ) (o : Option CarriedChunk) → ((c : CarriedChunk) → o ≡ Some c → P c)
    → AllByRecursion P (map acked_chunk (accepted_for v o))
all_for P v None all = tt
all_for P v (Some c) all = (all c refl, tt)

all_accepted : (P : CarriedChunk → Type 0) (vs : List (List ℕ)) (cs : List CarriedChunk) → AllByRecursion P cs
    → AllByRecursion P (map acked_chunk (accepted_by vs cs))
all_accepted P [] cs all = tt
all_accepted P (v ∷ vs) cs all =
    let left = without_first (λ (c : CarriedChunk). names v c.name) cs in
    subst (AllByRecursion P) (sym (map-append acked_chunk (accepted_for v (find (λ c. names v c.name) cs)) (accepted_by vs left)))
    (all_append P _ _ (all_for P v (find (λ c. names v c.name) cs) (λ c e. all_find P (λ c. names v c.name) cs c all e)) (all_accepted P vs left (all_without P (λ c. names v c.name) cs all)))

module _ (taken : Option CarriedChunk) (s : LiveSession) (said : Said) (rest : List ℕ) where
  abbrev vs : List (List ℕ)
  vs = said.replies

  abbrev cs : List CarriedChunk
  cs = live_chunks s.carried

  abbrev before : List CarriedChunk
  before = map acked_chunk s.accepted

  abbrev newly : List CarriedChunk
  newly = map acked_chunk (accepted_by vs cs)

  abbrev left : List CarriedChunk
  left = left_by (λ (c : CarriedChunk). c.name) vs cs

  abbrev was : Worker LiveSession
  was = record { taken = taken; session = Some s }

  abbrev is : Worker LiveSession
  is = record { taken = taken; session = Some (session_takes s said rest) }

  shown : chunks_at is ≡ option_to_list taken ++ (left ++ (before ++ newly))
  unfolding session_takes
  shown =
      let stay = map_map chunk_in (falls_with (is_some said.fault)) (left_by (λ (l : LiveLoaded). l.chunk.name) vs s.carried) in
      let chunks = sym (left_map (λ (c : CarriedChunk). c.name) chunk_in vs s.carried) in
      λ i. option_to_list taken ++ ((stay ∙ chunks) i ++ map-append acked_chunk s.accepted (accepted_by vs cs) i)

  pub takes-same : IsSameWork was is
  takes-same = record {
    each = λ b all.
        let P = IsCarried b in
        let mine = all_back P (option_to_list taken) (cs ++ before) all in
        let front = all_front P cs before mine in
        subst (AllByRecursion P) (sym shown) (all_append P (option_to_list taken) (left ++ (before ++ newly)) (all_front P (option_to_list taken) (cs ++ before) all) (all_append P left (before ++ newly) (all_left P (λ c. c.name) vs cs front) (all_append P before newly (all_back P cs before mine) (all_accepted P vs cs front))));
    times = λ n.
        let after = ap (times n) shown ∙ times-append n (option_to_list taken) (left ++ (before ++ newly)) in
        omega (arith, after, times-append n left (before ++ newly), times-append n before newly, left_times n vs cs, times-append n (option_to_list taken) (cs ++ before), times-append n cs before);
  }

pub hears-same : (taken : Option CarriedChunk) (s : LiveSession) (bytes : List ℕ)
    → IsSameWork (record { taken = taken; session = Some s })
    (record { taken = taken; session = Some (session_hears s bytes) })
hears-same taken s bytes = by s.down
  where
    by : (b : Bool) → IsSameWork (record { taken = taken; session = Some s })
        (record { taken = taken; session = Some (cond b s (session_listens s bytes)) })
    by true = same_session (record { taken = taken; session = Some s }) (record { taken = taken; session = Some s }) refl
    by false = takes-same taken s (live_says s bytes) _

hears-setup : (s : LiveSession) (bytes : List ℕ) → (session_hears s bytes).setup ≡ s.setup
unfolding session_takes
hears-setup s bytes = by s.down
  where
    by : (b : Bool) → (cond b s (session_listens s bytes)).setup ≡ s.setup
    by true = refl
    by false = refl

pub hears-roomy : (taken : Option CarriedChunk) (s t : LiveSession) (bytes : List ℕ)
    → t ≡ session_hears s bytes → live_room t ≡ live_room s → IsRoomy taken s → IsRoomy taken t
hears-roomy taken s t bytes hears room own = record {
  window = subst (λ n. n ≤ WINDOW_LIMIT) (sym (ap (λ (k : LiveSession). k.setup.window) hears ∙ ap (λ k. k.window) (hears-setup s bytes))) own.window;
  room = λ is. subst (λ n. 0 < n) (sym room) (own.room is);
}

-- ---- a chunk is taken out, and the end

-- what is kept is of the chunk that was accepted first
pub kept-first : {A : Type 0} (value : A → ServerAck) (s : LiveSession) (o : Option (A × CarriedChunk))
    → option_map (λ p. p.1) o ≡ live_acked s
    → reply_in (option_map (λ p. value p.0) o) ≡ option_map (λ a. a.reply) (first_in s.accepted)
    → IfSome o (λ p. IsBacked s.setup.server (value p.0) p.1)
    → option_map (λ p. value p.0) o ≡ option_map (evidence_of s.setup.server) (first_in s.accepted)
kept-first {A} value s o chunk reply backed = by o (first_in s.accepted) chunk reply backed
  where
    by : (o : Option (A × CarriedChunk)) (first : Option Accepted)
        → option_map (λ p. p.1) o ≡ option_map (λ a. a.chunk) first
        → reply_in (option_map (λ p. value p.0) o) ≡ option_map (λ a. a.reply) first
        → IfSome o (λ p. IsBacked s.setup.server (value p.0) p.1)
        → option_map (λ p. value p.0) o ≡ option_map (evidence_of s.setup.server) first
    by None None e f b = refl
    by None (Some a) e f b = absurd cc
    by (Some p) None e f b = absurd cc
    by (Some p) (Some a) e f b =
        let same : p.1 ≡ a.chunk = same_Some _ _ e in
        λ i. Some (record {
          number = (b.0.number ∙ ap (λ (c : CarriedChunk). c.number) same) i;
          tag = (b.0.tag ∙ ap (λ (c : CarriedChunk). c.tag) same) i;
          entries = (b.0.entries ∙ ap (λ (c : CarriedChunk). c.entries) same) i;
          server = b.1 i;
          reply = same_Some _ _ f i;
        })

pub unloads-roomy : (taken : Option CarriedChunk) (s : LiveSession) → IsRoomy taken s
    → IsRoomy taken (session_unloads s)
unloads-roomy taken s own = record {
  window = own.window;
  room = λ is. omega (arith, own.room is, fewer s.accepted);
}
  where
    fewer : (acked : List Accepted) → length (drop 1 acked) ≤ length acked
    fewer [] = omega arith
    fewer (a ∷ others) = omega arith

-- where none is taken out, none is accepted; and where one is, one fewer is
pub none-acked : (s : LiveSession) → None ≡ live_acked s → s.accepted ≡ []
none-acked s e = by s.accepted e
  where
    by : (acked : List Accepted) → None ≡ option_map (λ (a : Accepted). a.chunk) (first_in acked) → acked ≡ []
    by [] e = refl
    by (a ∷ others) e = absurd cc

pub fewer-acked : (s : LiveSession) (c : CarriedChunk) → Some c ≡ live_acked s
    → length (drop 1 s.accepted) < length s.accepted
fewer-acked s c e = by s.accepted e
  where
    by : (acked : List Accepted) → Some c ≡ option_map (λ (a : Accepted). a.chunk) (first_in acked)
        → length (drop 1 acked) < length acked
    by [] e = absurd cc
    by (a ∷ others) e = omega arith

-- where none is accepted, it has a chunk where one is not acknowledged
pub has-unacknowledged : (s : LiveSession) → s.accepted ≡ []
    → live_has_chunk s ≡ nat_lt 0 (length (live_chunks s.carried))
has-unacknowledged s none =
    ap (λ n. nat_lt 0 n) (omega (arith, ap length none, length_map chunk_in s.carried))

-- a worker that ends gives back no more than fit into its window
pub ends-few : (taken : Option CarriedChunk) (s : LiveSession) (loaded : List CarriedChunk) → IsRoomy taken s
    → loaded ≡ live_chunks s.carried → length loaded ≤ WINDOW_LIMIT
    → length (option_to_list taken ++ loaded) ≤ WINDOW_LIMIT
ends-few None s loaded own is few = few
ends-few (Some c) s loaded own is few =
    let carried : length loaded ≡ length s.carried = ap length is ∙ length_map chunk_in s.carried in
    omega (arith, carried, own.window, own.room refl)
