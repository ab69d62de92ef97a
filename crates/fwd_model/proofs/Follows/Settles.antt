-- The live part follows the history where a worker's chunk is settled.
use Rattle.std.proofs.Common.{◌≡◌, ◌≢◌, ℕ, suc, ◌+◌, ◌≤◌, Bool, true, false, cond, eqb, List, [], ◌∷◌, ◌++◌, length, drop, Option, Some, refl, sym, ap, subst, ◌∙◌, zero-add, inl, inr, arith, ◌<◌}
use Rattle.std.proofs.lemmas.List.{length-append}
use Rattle.std.proofs.lemmas.Bool.Decides.{nat_tests}
use Rattle.std.specs.Prelude.{◌⊎◌, map, slice_get}
use Rattle.std.specs.List.{AllByRecursion}
use Rattle.std.proofs.lemmas.Option.{same_Some}
use Rattle.fwd_chunks.specs.History.{BufferHistory, CarriedChunk}
use Rattle.fwd_chunks.proofs.Follows as buffer
use Rattle.fwd_chunks.proofs.Sane as sane
use Rattle.fwd_failover.proofs.Kept.{live-settled}
use Rattle.fwd_session.specs.ServerAcks.{Accepted, evidence_of}
use Rattle.fwd_session.specs.History.{SessionHistory, chunks_of, first_in, unloads}
use Rattle.fwd_session.specs.Live.{live_session}
use Rattle.fwd_session.proofs.Following.{unloads-sane}
use Rattle.fwd_session.proofs.Lists.{all_append}
use Rattle.fwd_model.specs.Outputs.{OutputHistory, carried_by, not_loaded, output_history_settles, live_output, count_at, live_count_at}
use Rattle.fwd_model.specs.History.{Lane, loaded_in, taken_by, with_place, with_output}
use Rattle.fwd_model.specs.Live.{live_lane, lane_settles}
use Rattle.fwd_model.proofs.Chunks.{IsAmong, times, times-append, others, settles_once, settles_rest, settles_his, has-times, length-others}
use Rattle.fwd_model.proofs.Settling.{IsHis, his, apart-without, mine-without, others-keep, once-carried}
use Rattle.fwd_book.proofs.Following.{follows-settles}
use Rattle.fwd_model.proofs.Settled.{numbers_in-push}
use Rattle.fwd_model.proofs.Places.{one_changes}
use Rattle.fwd_model.proofs.Reached.{IsSaneLane, IsSaneWorker, slice_get-set}
use Rattle.fwd_model.proofs.Lists.{all_front, all_back}

-- ---- the chunk that was accepted first

-- the accepted chunks are that and the rest
pub first_and_rest : (list : List Accepted) (a : Accepted) → first_in list ≡ Some a
    → list ≡ a ∷ drop 1 list
first_and_rest [] a e = absurd cc
first_and_rest (b ∷ list) a e = ap (λ x. x ∷ list) (same_Some _ _ e)

module _ (s : SessionHistory) (a : Accepted) (first : first_in s.accepted ≡ Some a) where
  abbrev rest_of : List CarriedChunk
  rest_of = map (λ (x : Accepted). x.chunk) (drop 1 s.accepted)

  shown : loaded_in (Some s) ≡ chunks_of s.carried ++ (a.chunk ∷ rest_of)
  shown = ap (λ list. chunks_of s.carried ++ map (λ (x : Accepted). x.chunk) list) (first_and_rest s.accepted a first)

  pub less_one : (k : ℕ) → times k (loaded_in (Some s)) ≡ times k (a.chunk ∷ loaded_in (Some (unloads s)))
  less_one k =
      let front = chunks_of s.carried in
      let all : times k (loaded_in (Some s)) ≡ times k front + times k (a.chunk ∷ rest_of) = ap (times k) shown ∙ times-append k front (a.chunk ∷ rest_of) in
      all ∙ by (eqb a.chunk.number k) (times-append k front rest_of)
    where
      by : (b : Bool)
          → times k (chunks_of s.carried ++ rest_of) ≡ times k (chunks_of s.carried) + times k rest_of
          → times k (chunks_of s.carried) + cond b (suc (times k rest_of)) (times k rest_of)
          ≡ cond b (suc (times k (chunks_of s.carried ++ rest_of))) (times k (chunks_of s.carried ++ rest_of))
      by true e = omega (arith, e)
      by false e = omega (arith, e)

  pub its_first : (P : CarriedChunk → Type 0) → AllByRecursion P (loaded_in (Some s)) → P a.chunk
  its_first P all = (all_back P (chunks_of s.carried) (a.chunk ∷ rest_of) (subst (AllByRecursion P) shown all)).0

  pub its_rest : (P : CarriedChunk → Type 0) → AllByRecursion P (loaded_in (Some s))
      → AllByRecursion P (loaded_in (Some (unloads s)))
  its_rest P all =
      let whole = subst (AllByRecursion P) shown all in
      all_append P (chunks_of s.carried) rest_of (all_front P (chunks_of s.carried) (a.chunk ∷ rest_of) whole) (all_back P (chunks_of s.carried) (a.chunk ∷ rest_of) whole).1

-- the chunk of an accepted acknowledgement is one that the worker has
pub acked_is : {n : ℕ} (b : BufferHistory) (w : ℕ) (s : SessionHistory) (a : Accepted)
    → IsSaneWorker n (carried_by b w) (Some s) → first_in s.accepted ≡ Some a → IsHis b w a.chunk
acked_is b w s a fits e = his b w a.chunk (its_first s a e (λ c. IsAmong c (carried_by b w)) fits.his)

-- as many entries are settled
pub count-same : (l : Lane) (w : ℕ) (c : CarriedChunk) → IsSaneLane l → IsHis l.output.buffer w c
    → count_at c.number l.output ≡ live_count_at c.number (live_lane l).output
unfolding live_lane live_output
count-same l w c own is = sym (buffer.count-live l.output.buffer c.number own.buffer is.carried)

-- ---- settle

module _ (l : Lane) (w : ℕ) (s : SessionHistory) (a : Accepted) (server : ℕ) (here : slice_get l.sessions w ≡ Some (Some s)) (own : IsSaneLane l) (first : first_in s.accepted ≡ Some a) where
  abbrev settled : OutputHistory
  settled = output_history_settles l.output (evidence_of server a)

  is : IsHis l.output.buffer w a.chunk
  is = acked_is l.output.buffer w s a (own.workers w (Some s) here) first

  fits : IsSaneWorker l.config.acks.window (carried_by l.output.buffer w) (Some s)
  fits = own.workers w (Some s) here

  -- a worker's chunks without that of the number
  left : (v : ℕ) → carried_by settled.buffer v ≡ others a.chunk.number (carried_by l.output.buffer v)
  left v = mine-without l.output.buffer v a.chunk.number l.output.buffer.carried

  pub others_have : (v : ℕ) → w ≢ v → carried_by settled.buffer v ≡ carried_by l.output.buffer v
  others_have v differ = left v ∙ others-keep l.output.buffer w v a.chunk.number own.apart is.mine differ

  taken_stays : taken_by settled.buffer w (Some (unloads s)) ≡ taken_by l.output.buffer w (Some s)
  taken_stays =
      ap (not_loaded (loaded_in (Some (unloads s)))) (left w)
      ∙ (settles_rest (loaded_in (Some s)) (loaded_in (Some (unloads s))) (carried_by l.output.buffer w) a.chunk (less_one s a first) fits.once).1

  pub settles-live : live_lane (with_place w (Some (unloads s)) (with_output l settled))
      ≡ lane_settles (live_lane l) w
      (record { taken = taken_by l.output.buffer w (Some s); session = Some (live_session (unloads s)) })
      (evidence_of server a)
  unfolding live_lane live_output
  settles-live = λ i. record {
    config = l.config;
    output = record {
      buffer = buffer.settles-live l.output.buffer a.chunk.number own.buffer is.carried i;
      book = follows-settles l.output.book (evidence_of server a) i;
      servers = live-settled l.output.setting l.output.servers server i;
    };
    workers = one_changes l.output settled w 0 w l.sessions (Some (unloads s)) (Some s) (taken_by l.output.buffer w (Some s)) others_have taken_stays (sym (zero-add w)) here i;
  }

  -- ---- an output stays sane

  its : IsSaneWorker l.config.acks.window (carried_by settled.buffer w) (Some (unloads s))
  its =
      let hs = loaded_in (Some s) in
      let gs = loaded_in (Some (unloads s)) in
      let cs = carried_by l.output.buffer w in
      let k = a.chunk.number in
      let less = less_one s a first in
      let same = (settles_rest hs gs cs a.chunk less fits.once).0 in
      let here : 0 < times k cs = grind (arith, nat_tests, has-times k cs, is.mine) in
      let once = once-carried l.output.buffer w k l.output.buffer.carried own.apart in
      let fewer : suc (length (others k cs)) ≡ length cs = omega (arith, length-others k cs, here, once) in
      let shorter : length hs ≡ suc (length gs) = omega (arith, ap length (shown s a first), length-append (chunks_of s.carried) (a.chunk ∷ rest_of s a first), length-append (chunks_of s.carried) (rest_of s a first)) in
      subst (λ ds. IsSaneWorker l.config.acks.window ds (Some (unloads s))) (sym (left w)) (record {
        own = λ t e. subst Rattle.fwd_session.specs.History.IsSane (same_Some _ _ e) (unloads-sane s (fits.own s refl));
        window = λ t e. ap (λ (y : SessionHistory). y.setup.window) (sym (same_Some _ _ e)) ∙ fits.window s refl;
        his = settles_his hs gs cs a.chunk less fits.once (its_rest s a first (λ c. IsAmong c cs) fits.his);
        once = settles_once hs gs cs a.chunk less fits.once;
        rest = subst (λ ds. length ds ≤ 1) (sym same) fits.rest;
        whole = omega (arith, fewer, shorter, fits.whole, ap length same);
        few = omega (arith, fewer, fits.few);
      })

  still : (j : ℕ) (x : Option SessionHistory)
      → ((w ≡ j) × (Some (unloads s) ≡ x)) ⊎ ((w ≢ j) × (slice_get l.sessions j ≡ Some x))
      → IsSaneWorker l.config.acks.window (carried_by settled.buffer j) x
  still j x (inl e) = subst (λ k. IsSaneWorker l.config.acks.window (carried_by settled.buffer k) x) e.0 (subst (λ y. IsSaneWorker l.config.acks.window (carried_by settled.buffer w) y) e.1 its)
  still j x (inr e) = subst (λ cs. IsSaneWorker l.config.acks.window cs x) (sym (others_have j e.0)) (own.workers j x e.1)

  pub settles-sane : IsSaneLane (with_place w (Some (unloads s)) (with_output l settled))
  settles-sane = record {
    buffer = sane.settles-sane l.output.buffer a.chunk.number own.buffer is.carried;
    apart = apart-without a.chunk.number l.output.buffer.carried own.apart;
    marks = numbers_in-push l.output.book.settled (evidence_of server a) ∙ ap (λ ns. ns ++ a.chunk.number ∷ []) own.marks;
    waits = own.waits;
    workers = λ j x h. still j x (slice_get-set l.sessions w j (Some (unloads s)) x h);
  }
