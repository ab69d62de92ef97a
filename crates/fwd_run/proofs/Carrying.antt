-- The chunks that a worker has are in its output's buffer, where it has them.
use Rattle.std.proofs.Common.{◌≡◌, ℕ, zero, suc, ◌+◌, ◌≤◌, arith, Bool, true, false, cond, eqb, List, [], ◌∷◌, ◌++◌, Option, Some, None, refl, sym, ap, subst, ◌∙◌}
use Rattle.std.proofs.lemmas.Bool.Decides.{nat_tests}
use Rattle.std.specs.Prelude.{map, filter, find, not, option_map, option_to_list, slice_get, nat_lt, ◌==◌, ◌||◌}
use Rattle.std.specs.List.{AllByRecursion}
use Rattle.fwd_chunks.specs.Cells.{Carry, is_carried}
use Rattle.fwd_chunks.specs.History.{BufferHistory, CarriedChunk, carried_chunk_of}
use Rattle.fwd_chunks.specs.Live.{LiveBuffer, IsCarried, live_buffer}
use Rattle.fwd_chunks.proofs.Follows as buffer
use Rattle.fwd_chunks.proofs.Sane as sane
use Rattle.fwd_session.specs.History.{Loaded, SessionHistory, chunks_of}
use Rattle.fwd_session.specs.Live.{LiveSession, live_chunks, live_loaded, live_session}
use Rattle.fwd_model.specs.Layers.{Worker}
use Rattle.fwd_model.specs.Outputs.{LiveOutput, live_output, carried_by, has_chunk, not_loaded}
use Rattle.fwd_model.specs.History.{Lane, History, loaded_in, taken_by}
use Rattle.fwd_model.specs.Live.{LiveLane, LiveRelay, live, live_lane, live_worker}
use Rattle.fwd_model.proofs.Chunks.{IsAmong, among-found, has-times, times}
use Rattle.fwd_model.proofs.Reached.{IsSane, IsSaneLane, IsSaneWorker, AllSane-at}
use Rattle.fwd_model.proofs.Follows.Outputs.{lane_at-live, worker_at-live}
use Rattle.fwd_run.specs.Pages.{chunks_in, AreCarried}
use Rattle.fwd_run.specs.Runs.{RunEvent, run_after, output_in, worker_in, worker_of}
use Rattle.fwd_run.proofs.Histories.{run_history, Agrees, run_follows}

-- ---- in a history

none_some : {X : Type 0} {x : X} → None ≡ Some x → ⊥
none_some e = cc

or_true : (b : Bool) → (b || true) ≡ true
or_true true = refl
or_true false = refl

module _ (b : BufferHistory) (own : sane.IsSane b) where
  abbrev Of : CarriedChunk → List Carry → Type 0
  Of c cs = (k : ℕ) × (is_carried k cs ≡ true) × (carried_chunk_of b k ≡ c)

  later : (d : Carry) (cs : List Carry) (c : CarriedChunk) → Of c cs → Of c (d ∷ cs)
  later d cs c rest = (rest.0, ap (λ t. (d.number == rest.0) || t) rest.1 ∙ or_true (d.number == rest.0), rest.2)

  found : (w : ℕ) (cs : List Carry) (place : ℕ) (c : CarriedChunk) → slice_get (map (λ d. carried_chunk_of b d.number) (filter (λ d. d.worker == w) cs)) place ≡ Some c → Of c cs
  found w [] place c e = absurd (none_some e)
  found w (d ∷ cs) place c e = by (d.worker == w) refl place e (λ place e. found w cs place c e)
    where
      first : (place : ℕ) → slice_get (carried_chunk_of b d.number ∷ map (λ d. carried_chunk_of b d.number) (filter (λ d. d.worker == w) cs)) place ≡ Some c
          → ((place : ℕ) → slice_get (map (λ d. carried_chunk_of b d.number) (filter (λ d. d.worker == w) cs)) place ≡ Some c → Of c cs) → Of c (d ∷ cs)
      first zero e rest = let same : carried_chunk_of b d.number ≡ c = cc in (d.number, grind (arith, nat_tests), same)
      first (suc place) e rest = later d cs c (rest place e)

      by : (t : Bool) → (d.worker == w) ≡ t → (place : ℕ) → slice_get (map (λ d. carried_chunk_of b d.number) (filter (λ d. d.worker == w) (d ∷ cs))) place ≡ Some c
          → ((place : ℕ) → slice_get (map (λ d. carried_chunk_of b d.number) (filter (λ d. d.worker == w) cs)) place ≡ Some c → Of c cs) → Of c (d ∷ cs)
      by true is place e rest =
          first place (sym (ap (λ t. slice_get (map (λ d. carried_chunk_of b d.number) (cond t (d ∷ filter (λ d. d.worker == w) cs) (filter (λ d. d.worker == w) cs))) place) is) ∙ e) rest
      by false is place e rest =
          later d cs c (rest place (sym (ap (λ t. slice_get (map (λ d. carried_chunk_of b d.number) (cond t (d ∷ filter (λ d. d.worker == w) cs) (filter (λ d. d.worker == w) cs))) place) is) ∙ e))

  pub carried_of : (w : ℕ) (c : CarriedChunk) → IsAmong c (carried_by b w) → IsCarried (live_buffer b) c
  carried_of w c among =
      let its = found w b.carried among.place c among.here in
      let number : its.0 ≡ c.number = ap (λ (x : CarriedChunk). x.number) its.2 in
      buffer.carried-live b c.number own
      ∙ (ap (λ t. cond t (Some (carried_chunk_of b c.number)) None) (ap (λ k. is_carried k b.carried) (sym number) ∙ its.1)
      ∙ ap Some (ap (carried_chunk_of b) (sym number) ∙ its.2))

  all_of : (w : ℕ) (cs : List CarriedChunk) → AllByRecursion (λ c. IsAmong c (carried_by b w)) cs → AllByRecursion (IsCarried (live_buffer b)) cs
  all_of w [] all = tt
  all_of w (c ∷ cs) all = (carried_of w c all.0, all_of w cs all.1)

  not_there : (loaded cs : List CarriedChunk) (c : CarriedChunk) → not_loaded loaded cs ≡ Some c → has_chunk c.number loaded ≡ false
  not_there loaded [] c e = absurd (none_some e)
  not_there loaded (d ∷ cs) c e = by (has_chunk d.number loaded) refl (λ e. not_there loaded cs c e)
    where
      by : (t : Bool) → has_chunk d.number loaded ≡ t → (not_loaded loaded cs ≡ Some c → has_chunk c.number loaded ≡ false) → has_chunk c.number loaded ≡ false
      by true is rest = rest (sym (ap (λ t. cond (not t) (Some d) (not_loaded loaded cs)) is) ∙ e)
      by false is rest =
          let same : d ≡ c = one (sym (ap (λ t. cond (not t) (Some d) (not_loaded loaded cs)) is) ∙ e) in
          ap (λ (x : CarriedChunk). has_chunk x.number loaded) (sym same) ∙ is
        where
          one : {x y : CarriedChunk} → Some x ≡ Some y → x ≡ y
          one e = cc

  none_times : (k : ℕ) (cs : List CarriedChunk) → has_chunk k cs ≡ false → times k cs ≡ 0
  none_times k cs off = let e = sym (has-times k cs) ∙ off in grind (arith, nat_tests, e)

  whole : (n w : ℕ) (s : Option SessionHistory) (taken : Option CarriedChunk) → IsSaneWorker n (carried_by b w) s → taken_by b w s ≡ taken
      → AreCarried (live_buffer b) (option_to_list taken ++ loaded_in s)
  whole n w s None own is = record { carried = all_of w (loaded_in s) own.his; apart = own.once }
  whole n w s (Some c) own is = record {
    carried = (carried_of w c (among-found (λ c. not (has_chunk c.number (loaded_in s))) (carried_by b w) c is), all_of w (loaded_in s) own.his);
    apart = λ k. by k (c.number == k) refl;
  }
    where
      by : (k : ℕ) (t : Bool) → (c.number == k) ≡ t → times k (c ∷ loaded_in s) ≤ 1
      by k true e =
          let none : times k (loaded_in s) ≡ 0 = ap (λ m. times m (loaded_in s)) (sym (number e)) ∙ none_times c.number (loaded_in s) (not_there (loaded_in s) (carried_by b w) c is) in
          let more : times k (c ∷ loaded_in s) ≡ suc (times k (loaded_in s)) = ap (λ t. cond t (suc (times k (loaded_in s))) (times k (loaded_in s))) e in
          omega (arith, none, more)
        where
          number : (c.number == k) ≡ true → c.number ≡ k
          number e = grind (arith, nat_tests, e)
      by k false e =
          let same : times k (c ∷ loaded_in s) ≡ times k (loaded_in s) = ap (λ t. cond t (suc (times k (loaded_in s))) (times k (loaded_in s))) e in
          let once = own.once k in
          omega (arith, once, same)

-- ---- in what is shown of it

chunks_same : (s : SessionHistory) (ls : List Loaded) → live_chunks (map (live_loaded s) ls) ≡ chunks_of ls
chunks_same s [] = refl
chunks_same s (l ∷ ls) = ap (λ cs. l.chunk ∷ cs) (chunks_same s ls)

shown_loaded : (s : Option SessionHistory) → chunks_in (option_map live_session s) ≡ loaded_in s
unfolding live_session
shown_loaded None = refl
shown_loaded (Some s) = ap (λ cs. cs ++ map (λ a. a.chunk) s.accepted) (chunks_same s s.carried)

lane_carries : (l : Lane) (w : ℕ) (x : Worker LiveSession) → IsSaneLane l → slice_get (live_lane l).workers w ≡ Some x
    → AreCarried (live_lane l).output.buffer (option_to_list x.taken ++ chunks_in x.session)
unfolding live_lane live_output
lane_carries l w x own at = by (slice_get l.sessions w) refl (sym (worker_at-live w l) ∙ at)
  where
    by : (s : Option (Option SessionHistory)) → slice_get l.sessions w ≡ s → option_map (λ s. live_worker l.output w s) s ≡ Some x
        → AreCarried (live_buffer l.output.buffer) (option_to_list x.taken ++ chunks_in x.session)
    by None here e = absurd (none_some e)
    by (Some s) here e =
        let same : live_worker l.output w s ≡ x = cc in
        subst (λ (y : Worker LiveSession). AreCarried (live_buffer l.output.buffer) (option_to_list y.taken ++ chunks_in y.session)) same
        (subst (λ cs. AreCarried (live_buffer l.output.buffer) (option_to_list (taken_by l.output.buffer w s) ++ cs)) (sym (shown_loaded s))
        (whole l.output.buffer own.buffer l.config.acks.window w s (taken_by l.output.buffer w s) (own.workers w s here) refl))

pub run_carries : (past : List RunEvent) (r : LiveRelay) (o w : ℕ) (p : LiveOutput) (x : Worker LiveSession) → run_after past ≡ Some r
    → output_in r o ≡ Some p → worker_in r o w ≡ Some x → AreCarried p.buffer (option_to_list x.taken ++ chunks_in x.session)
run_carries past r o w p x after out his = by (run_history past) refl
  where
    there : (h : History) → IsSane h → live h ≡ r → AreCarried p.buffer (option_to_list x.taken ++ chunks_in x.session)
    there h good is = at (slice_get h.lanes o) refl
      where
        at : (y : Option Lane) → slice_get h.lanes o ≡ y → AreCarried p.buffer (option_to_list x.taken ++ chunks_in x.session)
        at None none = absurd (none_some (sym (ap (worker_of w) (lane_at-live o h ∙ ap (option_map live_lane) none)) ∙ (ap (λ k. worker_in k o w) is ∙ his)))
        at (Some l) here =
            let lane : slice_get (live h).lanes o ≡ Some (live_lane l) = lane_at-live o h ∙ ap (option_map live_lane) here in
            let same : (live_lane l).output ≡ p = one (sym (ap (option_map (λ (k : LiveLane). k.output)) lane) ∙ (ap (λ k. output_in k o) is ∙ out)) in
            subst (λ (q : LiveOutput). AreCarried q.buffer (option_to_list x.taken ++ chunks_in x.session)) same
            (lane_carries l w x (AllSane-at h.lanes o l good.lanes here) (sym (ap (worker_of w) lane) ∙ (ap (λ k. worker_in k o w) is ∙ his)))
          where
            one : {x y : LiveOutput} → Some x ≡ Some y → x ≡ y
            one e = cc

    by : (y : Option History) → run_history past ≡ y → AreCarried p.buffer (option_to_list x.taken ++ chunks_in x.session)
    by None none = absurd (subst (Agrees None) after (subst (λ y. Agrees y (run_after past)) none (run_follows past)))
    by (Some h) is =
        let agrees : Agrees (Some h) (Some r) = subst (Agrees (Some h)) after (subst (λ y. Agrees y (run_after past)) is (run_follows past)) in
        there h agrees.0 agrees.1
