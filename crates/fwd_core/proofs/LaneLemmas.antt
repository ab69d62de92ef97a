-- What a take, a settle and an end come to at a worker that is there.
use Rattle.std.proofs.Common.{◌≡◌, ◌<◌, ℕ, ◌+◌, Bool, true, false, Option, Some, None, List, [], ◌∷◌, ◌++◌, length, drop, refl, sym, ap, subst, ◌∙◌, arith, append-nil}
use Rattle.std.proofs.lemmas.Option.{slice_get-get_or, same_Some}
use Rattle.std.specs.Prelude.{◌||◌, is_some, map, option_map, option_to_list, slice_get}
use Rattle.std.specs.List.{AllByRecursion}
use Rattle.fwd_chunks.specs.History.{CarriedChunk}
use Rattle.fwd_chunks.specs.Live.{LiveBuffer, IsCarried}
use Rattle.fwd_chunks.specs.declared.wanted.Wanted.{Wanted}
use Rattle.fwd_model.specs.declared.answer.Answer.TheVariants as answer
use Rattle.fwd_model.specs.declared.fault.Refusal.TheVariants.{NoSuch, NotNow}
use Rattle.fwd_model.specs.Outcome.{Outcome, Stays, Goes, found, refuse_if, chunk_answer, ◌>>=◌, ◌>>◌}
use Rattle.fwd_model.specs.Layers.{Worker}
use Rattle.fwd_model.specs.Outputs.{live_count_at, numbers_back, output_choice, output_looks}
use Rattle.fwd_session.specs.ServerAcks.{Accepted, ServerAck, evidence_of}
use Rattle.fwd_session.specs.History.{first_in}
use Rattle.fwd_session.specs.Live.{LiveSession, live_chunks, session_unloads}
use Rattle.fwd_session.proofs.Lists.{all_append}
use Rattle.fwd_model.specs.declared.event.EndKind.{EndKind}
use Rattle.fwd_model.specs.Step.{choose, take, settle, end, with_session, is_full, is_idle, has_acked, unacknowledged_of, gives_back, lost_server}
use Rattle.fwd_model.specs.Live.{LiveLane, lives, with_live_output, lane_gives, lane_takes, lane_settles, lane_ends}
use Rattle.fwd_core.specs.Lanes.{acked_in, chunks_at, chunks_in, evidence_in, worker_settled}
use Rattle.fwd_run.specs.Pages.{times}
use Rattle.fwd_output.proofs.ChunkLemmas.{all_front, all_back, times-append}
use Rattle.fwd_core.proofs.HeldLemmas.{Leaves}

-- what is read at one place is one
pub read_same : {X : Type 0} (xs : List X) (i : ℕ) (x y : X) → slice_get xs i ≡ Some x
    → slice_get xs i ≡ Some y → x ≡ y
read_same xs i x y e f = same_Some _ _ (sym e ∙ f)

-- a worker that may take takes
pub take_is : (l : LiveLane) (w : ℕ) (wanted : Wanted) (now : ℕ) (x : Worker LiveSession)
    → slice_get l.workers w ≡ Some x → (is_some x.taken || is_full lives x.session) ≡ false
    → take lives l w wanted now
    ≡ Goes (chunk_answer (lane_gives l wanted now)) (lane_takes l w x wanted now)
take_is l w wanted now x here free =
    ap (λ y. found y NoSuch >>= λ z. refuse_if (is_some z.taken || is_full lives z.session) NotNow >> Goes (chunk_answer (lane_gives l wanted now)) (lane_takes l w z wanted now)) here
    ∙ ap (λ b. refuse_if b NotNow >> Goes (chunk_answer (lane_gives l wanted now)) (lane_takes l w x wanted now)) free

-- a worker that may take has no chunk that it did not load, and its session has room
pub may_take : (taken : Option CarriedChunk) (full : Bool) → (is_some taken || full) ≡ false
    → (taken ≡ None) × (full ≡ false)
may_take None false e = (refl, refl)
may_take None true e = absurd cc
may_take (Some c) full e = absurd cc

-- what comes of the worker's session whose first acknowledgement is settled
abbrev settled_by : LiveLane → ℕ → Worker LiveSession → LiveSession → Accepted → Outcome LiveLane
settled_by l w x s a = Goes (answer.Settled (live_count_at a.chunk.number l.output))
    (lane_settles l w (with_session x (session_unloads s)) (evidence_of s.setup.server a))

-- a worker of which a chunk was acknowledged settles the one that was accepted first
pub settle_is : (l : LiveLane) (w : ℕ) (x : Worker LiveSession) (s : LiveSession) (a : Accepted)
    → slice_get l.workers w ≡ Some x → x.session ≡ Some s → first_in s.accepted ≡ Some a
    → settle lives l w
    ≡ Goes (answer.Settled (live_count_at a.chunk.number l.output))
    (lane_settles l w (with_session x (session_unloads s)) (evidence_of s.setup.server a))
settle_is l w x s a here session is =
    ap (λ y. found y NoSuch >>= λ z. found z.session NotNow >>= λ t. found (first_in t.accepted) NotNow >>= λ c. settled_by l w z t c) here
    ∙ ap (λ y. found y NotNow >>= λ t. found (first_in t.accepted) NotNow >>= λ c. settled_by l w x t c) session
    ∙ ap (λ y. found y NotNow >>= λ c. settled_by l w x s c) is

-- the session of which a chunk is acknowledged, with the one that was accepted first
pub record IsAckedBy (x : Worker LiveSession) (c : CarriedChunk) : Type 0 where
  pub session : LiveSession
  pub accepted : Accepted
  pub rest : List Accepted
  pub is : x.session ≡ Some session
  pub acks : session.accepted ≡ accepted ∷ rest
  pub chunk : accepted.chunk ≡ c

pub acked_by : (x : Worker LiveSession) (c : CarriedChunk) → acked_in x.session ≡ Some c → IsAckedBy x c
acked_by x c e = by x.session refl e
  where
    at : (s : LiveSession) → x.session ≡ Some s → (acked : List Accepted) → s.accepted ≡ acked
        → option_map (λ (a : Accepted). a.chunk) (first_in acked) ≡ Some c → IsAckedBy x c
    at s is [] acks e = absurd cc
    at s is (a ∷ others) acks e = record {
      session = s;
      accepted = a;
      rest = others;
      is = is;
      acks = acks;
      chunk = same_Some _ _ e;
    }

    by : (o : Option LiveSession) → x.session ≡ o → acked_in o ≡ Some c → IsAckedBy x c
    by None is e = absurd cc
    by (Some s) is e = at s is s.accepted refl e

-- what is kept of it
pub evidence_of_it : (x : Worker LiveSession) (c : CarriedChunk) (k : ServerAck) (by : IsAckedBy x c)
    → evidence_in x.session ≡ Some k → evidence_of by.session.setup.server by.accepted ≡ k
evidence_of_it x c k by e =
    same_Some _ _ (sym (ap evidence_in by.is ∙ ap (λ acked. option_map (evidence_of by.session.setup.server) (first_in acked)) by.acks) ∙ e)

-- the worker once it is settled
pub settled_worker : (x : Worker LiveSession) (c : CarriedChunk) (by : IsAckedBy x c)
    → worker_settled x ≡ with_session x (session_unloads by.session)
settled_worker x c by =
    ap (λ o. record { taken = x.taken; session = option_map session_unloads o }) by.is

-- it has all its chunks but that one
pub settled_leaves : (x : Worker LiveSession) (c : CarriedChunk) → IsAckedBy x c
    → Leaves x (worker_settled x) c
settled_leaves x c by = record {
  each = λ b all. parts b (subst (AllByRecursion (IsCarried b)) had all);
  times = λ n. counts n;
}
  where
    s : LiveSession
    s = by.session

    taken : List CarriedChunk
    taken = option_to_list x.taken

    carried : List CarriedChunk
    carried = live_chunks s.carried

    rest : List CarriedChunk
    rest = map (λ (a : Accepted). a.chunk) by.rest

    had : chunks_at x ≡ taken ++ (carried ++ (c ∷ rest))
    had = ap (λ o. taken ++ chunks_in o) by.is
        ∙ ap (λ acked. taken ++ (carried ++ map (λ (a : Accepted). a.chunk) acked)) by.acks
        ∙ ap (λ a. taken ++ (carried ++ (a ∷ rest))) by.chunk

    has : chunks_at (worker_settled x) ≡ taken ++ (carried ++ rest)
    has = ap (λ o. taken ++ chunks_in (option_map session_unloads o)) by.is
        ∙ ap (λ acked. taken ++ (carried ++ map (λ (a : Accepted). a.chunk) (drop 1 acked))) by.acks

    parts : (b : LiveBuffer) → AllByRecursion (IsCarried b) (taken ++ (carried ++ (c ∷ rest)))
        → IsCarried b c × AllByRecursion (IsCarried b) (chunks_at (worker_settled x))
    parts b all =
        let P = IsCarried b in
        let more = all_back P taken (carried ++ (c ∷ rest)) all in
        let last = all_back P carried (c ∷ rest) more in
        (last.0, subst (AllByRecursion P) (sym has) (all_append P taken (carried ++ rest) (all_front P taken (carried ++ (c ∷ rest)) all) (all_append P carried rest (all_front P carried (c ∷ rest) more) last.1)))

    counts : (n : ℕ) → times n (chunks_at x) ≡ times n (c ∷ chunks_at (worker_settled x))
    counts n =
        let before : times n (chunks_at x) ≡ times n taken + (times n carried + times n (c ∷ rest)) = ap (times n) had ∙ times-append n taken (carried ++ (c ∷ rest)) ∙ ap (λ k. times n taken + k) (times-append n carried (c ∷ rest)) in
        let after : times n (chunks_at (worker_settled x)) ≡ times n taken + (times n carried + times n rest) = ap (times n) has ∙ times-append n taken (carried ++ rest) ∙ ap (λ k. times n taken + k) (times-append n carried rest) in
        let one : times n (c ∷ rest) ≡ times n (c ∷ []) + times n rest = times-append n (c ∷ []) rest in
        let two : times n (c ∷ chunks_at (worker_settled x)) ≡ times n (c ∷ []) + times n (chunks_at (worker_settled x)) = times-append n (c ∷ []) (chunks_at (worker_settled x)) in
        omega (arith, before, after, one, two)

-- a worker that is not idle, and has nothing to settle, ends
pub end_is : (l : LiveLane) (w : ℕ) (kind : EndKind) (now : ℕ) (x : Worker LiveSession)
    → slice_get l.workers w ≡ Some x → is_idle lives x ≡ false
    → has_acked lives x.session ≡ false
    → end lives l w kind now
    ≡ Goes (answer.Ended (numbers_back (gives_back lives x)))
    (lane_ends l w (gives_back lives x) (lost_server lives kind x.session) now)
end_is l w kind now x here busy none =
    ap (λ y. found y NoSuch >>= λ z. refuse_if (is_idle lives z) NotNow >> (refuse_if (has_acked lives z.session) NotNow >> ended z)) here
    ∙ ap (λ b. refuse_if b NotNow >> (refuse_if (has_acked lives x.session) NotNow >> ended x)) busy
    ∙ ap (λ b. refuse_if b NotNow >> ended x) none
  where
    ended : Worker LiveSession → Outcome LiveLane
    ended z = Goes (answer.Ended (numbers_back (gives_back lives z)))
        (lane_ends l w (gives_back lives z) (lost_server lives kind z.session) now)

-- a worker that has nothing to settle has just what it gives back
pub all_given : (x : Worker LiveSession) → has_acked lives x.session ≡ false
    → chunks_at x ≡ option_to_list x.taken ++ unacknowledged_of lives x.session
all_given x none = by x.session none
  where
    at : (carried : List CarriedChunk) (acked : List Accepted) → is_some (first_in acked) ≡ false
        → carried ++ map (λ (a : Accepted). a.chunk) acked ≡ carried
    at carried [] e = append-nil carried
    at carried (a ∷ others) e = absurd cc

    by : (o : Option LiveSession) → has_acked lives o ≡ false
        → option_to_list x.taken ++ chunks_in o
        ≡ option_to_list x.taken ++ unacknowledged_of lives o
    by None e = refl
    by (Some s) e = ap (λ cs. option_to_list x.taken ++ cs) (at (live_chunks s.carried) s.accepted e)

-- a worker that has nothing to settle settles nothing
pub settle_not : (l : LiveLane) (w : ℕ) (x : Worker LiveSession)
    → slice_get l.workers w ≡ Some x → acked_in x.session ≡ None
    → settle lives l w ≡ Stays (answer.Refused NotNow)
settle_not l w x here none =
    ap (λ y. found y NoSuch >>= λ z. found z.session NotNow >>= λ t. found (first_in t.accepted) NotNow >>= λ c. settled_by l w z t c) here
    ∙ by x.session none
  where
    at : (s : LiveSession) (acked : List Accepted)
        → option_map (λ (a : Accepted). a.chunk) (first_in acked) ≡ None
        → (found (first_in acked) NotNow >>= λ c. settled_by l w x s c) ≡ Stays (answer.Refused NotNow)
    at s [] e = refl
    at s (a ∷ others) e = absurd cc

    by : (o : Option LiveSession) → acked_in o ≡ None
        → (found o NotNow >>= λ t. found (first_in t.accepted) NotNow >>= λ c. settled_by l w x t c)
        ≡ Stays (answer.Refused NotNow)
    by None e = refl
    by (Some s) e = at s s.accepted e

-- a worker that is there is told a server
pub choose_is : (l : LiveLane) (w now : ℕ) → w < length l.workers
    → choose lives l w now
    ≡ Goes (answer.Chose (output_choice l.output w now))
    (with_live_output l (output_looks l.output now))
choose_is l w now below =
    ap (λ y. found y NoSuch >>= λ x. Goes (answer.Chose (output_choice l.output w now)) (with_live_output l (output_looks l.output now)))
    (slice_get-get_or l.workers w nobody below)
  where
    nobody : Worker LiveSession
    nobody = record { taken = None; session = None }
