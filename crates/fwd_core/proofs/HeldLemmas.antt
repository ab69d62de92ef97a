-- Workers' chunks stay those of the buffer, at each change of the buffer and of a worker.
use Rattle.std.proofs.Common.{◌≡◌, ◌≢◌, ℕ, Bool, true, false, cond, zero, suc, ◌+◌, ◌≤◌, replicate, Option, Some, None, List, [], ◌∷◌, ◌++◌, refl, sym, ap, subst, ◌∙◌, arith}
use Rattle.std.proofs.Math.ListN.{set}
use Rattle.std.specs.Prelude.{◌==◌, option_map, option_to_list, slice_get}
use Rattle.std.specs.List.{AllByRecursion}
use Rattle.std.proofs.lemmas.Bool.Decides.{nat_tests}
use Rattle.fwd_modes.specs.Requests.{Request}
use Rattle.fwd_chunks.specs.declared.chunk.Chunk.{Chunk}
use Rattle.fwd_chunks.specs.declared.flush.FlushKind.{FlushKind}
use Rattle.fwd_chunks.specs.History.{CarriedChunk}
use Rattle.fwd_chunks.specs.declared.wanted.Wanted.{Wanted}
use Rattle.fwd_chunks.specs.Live.{LiveBuffer, IsCarried, live_looks, live_enters, live_flushes, live_given_for, live_takes, live_carried_chunk, live_carried, live_settles, live_frees}
use Rattle.fwd_chunks.specs.Soundness.{IsSound}
use Rattle.fwd_chunks.proofs.Taken.{carried-enters, carried-flushes, given-free, carried-takes, given-carried, carried-settles, carried-frees}
use Rattle.fwd_model.specs.Layers.{Worker}
use Rattle.fwd_model.specs.Outputs.{Return, return_of, live_gets_back, returned, moment_if}
use Rattle.fwd_session.specs.Live.{LiveSession}
use Rattle.fwd_session.proofs.Lists.{all_same}
use Rattle.fwd_core.specs.Lanes.{no_work, chunks_in, chunks_at, chunks_of, AreHeld, IsSameWork}
use Rattle.fwd_run.specs.Pages.{times, AreCarried}
use Rattle.fwd_core.proofs.ChunkLemmas.{all-at, all-set, times-at, times-set}
use Rattle.fwd_output.proofs.ChunkLemmas.{all_both, all_map, times-each, times-first, times-more, times-none, times-others}

none_some : {X : Type 0} {x : X} → None ≡ Some x → ⊥
none_some e = cc

-- ---- no worker has a chunk

idle-none : (n : ℕ) → chunks_of (replicate n no_work) ≡ []
idle-none zero = refl
idle-none (suc n) = idle-none n

nothing-here : (b : LiveBuffer) → AreCarried b []
nothing-here b = record { carried = tt; apart = λ n. omega arith }

pub held-idle : (b : LiveBuffer) (n : ℕ) → AreHeld b (replicate n no_work)
held-idle b n = subst (AreCarried b) (sym (idle-none n)) (nothing-here b)

-- ---- another buffer

pub held_in : (b d : LiveBuffer) (ws : List (Worker LiveSession)) → AreHeld b ws
    → ((n : ℕ) (c : CarriedChunk) → live_carried b n ≡ Some c → live_carried d n ≡ Some c)
    → AreHeld d ws
held_in b d ws own stays = record {
  carried = all_same (IsCarried b) (IsCarried d) (chunks_of ws) (λ c e. stays c.number c e) own.carried;
  apart = own.apart;
}

pub held-enters : (b : LiveBuffer) (r : Request) (now : ℕ) (ws : List (Worker LiveSession))
    → IsSound b → AreHeld b ws → AreHeld (live_enters b r now) ws
held-enters b r now ws sound own = held_in b (live_enters b r now) ws own (λ n c e. carried-enters b r now n c sound e)

pub held-flushes : (b : LiveBuffer) (now : ℕ) (kind : FlushKind)
    (ws : List (Worker LiveSession)) → AreHeld b ws → AreHeld (live_flushes b now kind) ws
held-flushes b now kind ws own = held_in b (live_flushes b now kind) ws own (λ n c e. carried-flushes b now kind n ∙ e)

-- ---- another worker with the same chunks

pub held-put : (b : LiveBuffer) (ws : List (Worker LiveSession)) (place : ℕ)
    (x y : Worker LiveSession) → AreHeld b ws → slice_get ws place ≡ Some x
    → IsSameWork x y → AreHeld b (set ws place y)
held-put b ws place x y own here same = record {
  carried = all-set (IsCarried b) place ws y own.carried (same.each b (all-at (IsCarried b) place ws x here own.carried));
  apart = λ n. omega (arith, own.apart n, times-set n place ws x y here, same.times n);
}

-- ---- a worker takes a chunk

-- no worker has the chunk that is given
not-yet : (b : LiveBuffer) (wanted : Wanted) (now : ℕ) (chunk : Chunk)
    (ws : List (Worker LiveSession)) → IsSound b
    → AreHeld b ws → live_given_for (live_looks b now) wanted ≡ Some chunk
    → times chunk.number (chunks_of ws) ≡ 0
not-yet b wanted now chunk ws sound own given =
    times-none chunk.number (chunks_of ws)
    (all_same (IsCarried b) (λ c. c.number ≢ chunk.number) (chunks_of ws)
    (λ c e same. none_some (sym (given-free b wanted now chunk sound given) ∙ ap (live_carried b) (sym same) ∙ e))
    own.carried)

pub held-takes : (b : LiveBuffer) (ws : List (Worker LiveSession)) (place worker : ℕ)
    (wanted : Wanted) (now : ℕ) (x y : Worker LiveSession) → IsSound b → AreHeld b ws → slice_get ws place ≡ Some x
    → x.taken ≡ None
    → y ≡ record { taken = option_map (live_carried_chunk b) (live_given_for (live_looks b now) wanted); session = x.session }
    → AreHeld (live_takes b worker wanted now) (set ws place y)
held-takes b ws place worker wanted now x y sound own here none takes =
    subst (λ k. AreHeld d (set ws place k)) (sym takes) (by (live_given_for (live_looks b now) wanted) refl)
  where
    d : LiveBuffer
    d = live_takes b worker wanted now

    with_taken : Option CarriedChunk → Worker LiveSession
    with_taken o = record { taken = o; session = x.session }

    had : chunks_at x ≡ chunks_in x.session
    had = ap (λ o. option_to_list o ++ chunks_in x.session) none

    stays : AllByRecursion (IsCarried d) (chunks_of ws)
    stays = all_same (IsCarried b) (IsCarried d) (chunks_of ws) (λ c e. carried-takes b worker wanted now c.number c sound e) own.carried

    his : AllByRecursion (IsCarried d) (chunks_in x.session)
    his = subst (AllByRecursion (IsCarried d)) had (all-at (IsCarried d) place ws x here stays)

    had-times : (n : ℕ) → times n (chunks_at x) ≡ times n (chunks_in x.session)
    had-times n = ap (times n) had

    by : (o : Option Chunk) → live_given_for (live_looks b now) wanted ≡ o
        → AreHeld d (set ws place (with_taken (option_map (live_carried_chunk b) o)))
    by None e = record {
      carried = all-set (IsCarried d) place ws (with_taken None) stays his;
      apart = λ n. omega (arith, own.apart n, times-set n place ws x (with_taken None) here, had-times n);
    }
    by (Some chunk) e = record {
      carried = all-set (IsCarried d) place ws (with_taken (Some c)) stays (given-carried b worker wanted now chunk sound e, his);
      apart = λ n. at n (chunk.number == n) refl;
    }
      where
        c : CarriedChunk
        c = live_carried_chunk b chunk

        cs : List CarriedChunk
        cs = chunks_in x.session

        at : (n : ℕ) (t : Bool) → (chunk.number == n) ≡ t
            → times n (chunks_of (set ws place (with_taken (Some c)))) ≤ 1
        at n true f =
            let same : chunk.number ≡ n = grind (arith, nat_tests, f) in
            let before : times n (chunks_of ws) ≡ 0 = subst (λ k. times k (chunks_of ws) ≡ 0) same (not-yet b wanted now chunk ws sound own e) in
            let more : times n (c ∷ cs) ≡ suc (times n cs) = ap (λ t. cond t (suc (times n cs)) (times n cs)) f in
            omega (arith, before, more, times-set n place ws x (with_taken (Some c)) here, had-times n)
        at n false f =
            let more : times n (c ∷ cs) ≡ times n cs = ap (λ t. cond t (suc (times n cs)) (times n cs)) f in
            omega (arith, own.apart n, more, times-set n place ws x (with_taken (Some c)) here, had-times n)

-- ---- a worker's chunk is settled

-- a worker has its chunks but this one
pub record Leaves (x y : Worker LiveSession) (a : CarriedChunk) : Type 0 where
  pub each : (b : LiveBuffer) → AllByRecursion (IsCarried b) (chunks_at x)
      → IsCarried b a × AllByRecursion (IsCarried b) (chunks_at y)
  pub times : (n : ℕ) → times n (chunks_at x) ≡ times n (a ∷ chunks_at y)

pub held-carries : (b : LiveBuffer) (ws : List (Worker LiveSession)) (place : ℕ)
    (x y : Worker LiveSession) (a : CarriedChunk) → AreHeld b ws → slice_get ws place ≡ Some x
    → Leaves x y a → IsCarried b a
held-carries b ws place x y a own here leaves =
    (leaves.each b (all-at (IsCarried b) place ws x here own.carried)).0

pub held-settles : (b : LiveBuffer) (ws : List (Worker LiveSession)) (place : ℕ)
    (x y : Worker LiveSession) (a : CarriedChunk) → AreHeld b ws → slice_get ws place ≡ Some x
    → Leaves x y a
    → AreHeld (live_settles b a.number) (set ws place y)
held-settles b ws place x y a own here leaves = record {
  carried = all_both (IsCarried b) (λ c. a.number ≢ c.number) (IsCarried (live_settles b a.number)) (chunks_of (set ws place y)) (λ c e differ. carried-settles b a.number c.number differ ∙ e) stays (times-others a.number (chunks_of (set ws place y)) gone);
  apart = λ n. omega (arith, own.apart n, leaves.times n, times-more n a (chunks_at y), times-set n place ws x y here);
}
  where
    stays : AllByRecursion (IsCarried b) (chunks_of (set ws place y))
    stays = all-set (IsCarried b) place ws y own.carried (leaves.each b (all-at (IsCarried b) place ws x here own.carried)).1

    gone : times a.number (chunks_of (set ws place y)) ≡ 0
    gone = omega (arith, own.apart a.number, leaves.times a.number, times-first a (chunks_at y), times-set a.number place ws x y here)

-- ---- a worker's chunks go back

-- of chunks that are given back, none stands among these
pub back-stays : (b : LiveBuffer) (back : List Return) (now : ℕ) (ds : List CarriedChunk)
    → AllByRecursion (IsCarried b) ds → AllByRecursion (λ r. times r.number ds ≡ 0) back
    → AllByRecursion (IsCarried (live_gets_back b back now)) ds
back-stays b [] now ds carried none = carried
back-stays b (r ∷ back) now ds carried none =
    let d = live_frees b r.number (moment_if r.lost now) in
    back-stays d back now ds
    (all_both (IsCarried b) (λ c. r.number ≢ c.number) (IsCarried d) ds (λ c e differ. carried-frees b r.number c.number (moment_if r.lost now) differ ∙ e) carried (times-others r.number ds none.0))
    none.1

-- what is given back is of these chunks
pub returned-all : (P : ℕ → Type 0) (taken : Option CarriedChunk) (loaded : List CarriedChunk)
    → AllByRecursion (λ c. P c.number) (option_to_list taken ++ loaded)
    → AllByRecursion (λ r. P r.number) (returned taken loaded)
returned-all P None loaded all = all_map (λ r. P r.number) (return_of true) loaded all
returned-all P (Some c) loaded all = (all.0, all_map (λ r. P r.number) (return_of true) loaded all.1)

-- a worker's chunks are here
pub held-here : (b : LiveBuffer) (ws : List (Worker LiveSession)) (place : ℕ)
    (x : Worker LiveSession) → AreHeld b ws → slice_get ws place ≡ Some x
    → AreCarried b (chunks_at x)
held-here b ws place x own here = record {
  carried = all-at (IsCarried b) place ws x here own.carried;
  apart = λ n. omega (arith, own.apart n, times-at n place ws x here);
}

pub held-ends : (b : LiveBuffer) (ws : List (Worker LiveSession)) (place now : ℕ)
    (x : Worker LiveSession) (loaded : List CarriedChunk) → AreHeld b ws → slice_get ws place ≡ Some x
    → chunks_at x ≡ option_to_list x.taken ++ loaded
    → AreHeld (live_gets_back (live_looks b now) (returned x.taken loaded) now) (set ws place no_work)
held-ends b ws place now x loaded own here has = record {
  carried = back-stays (live_looks b now) (returned x.taken loaded) now others stays (returned-all (λ n. times n others ≡ 0) x.taken loaded (subst (AllByRecursion (λ c. times c.number others ≡ 0)) has gone));
  apart = λ n. omega (arith, own.apart n, left n);
}
  where
    others : List CarriedChunk
    others = chunks_of (set ws place no_work)

    left : (n : ℕ) → times n others + times n (chunks_at x) ≡ times n (chunks_of ws)
    left n = omega (arith, times-set n place ws x no_work here)

    stays : AllByRecursion (IsCarried (live_looks b now)) others
    stays = all-set (IsCarried b) place ws no_work own.carried tt

    gone : AllByRecursion (λ c. times c.number others ≡ 0) (chunks_at x)
    gone = all_same (λ c. 1 ≤ times c.number (chunks_at x)) (λ c. times c.number others ≡ 0) (chunks_at x) (λ c e. omega (arith, e, own.apart c.number, left c.number)) (times-each (chunks_at x))
