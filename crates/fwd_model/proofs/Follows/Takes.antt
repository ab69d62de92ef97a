-- The live part follows the history where a worker takes a chunk.
use Rattle.std.proofs.Common.{◌≡◌, ◌≢◌, ℕ, ◌≤◌, Bool, true, false, eqb, List, [], ◌∷◌, ◌++◌, length, Option, Some, None, refl, sym, ap, subst, ◌∙◌, zero-add, inl, inr, arith, suc, ◌+◌, ◌-◌, ◌<◌}
use Rattle.std.proofs.Math.ListN.{set}
use Rattle.std.specs.Prelude.{map, ◌⊎◌, not, ◌==◌, option_map, slice_get}
use Rattle.std.specs.List.{AllByRecursion}
use Rattle.std.proofs.lemmas.Bool.Decides.{nat_tests}
use Rattle.std.proofs.lemmas.Option.{same_Some}
use Rattle.std.proofs.lemmas.List.{length-append, map-append}
use Rattle.fwd_chunks.specs.declared.wanted.Wanted.{Wanted}
use Rattle.fwd_chunks.specs.Cells.{Carry, is_carried}
use Rattle.fwd_chunks.specs.History.{BufferHistory, CarriedChunk, carried_chunk_of, looks, given_for, carry_more, takes}
use Rattle.fwd_chunks.specs.Live.{live_carried_chunk, live_given_for}
use Rattle.fwd_chunks.proofs.Follows as buffer
use Rattle.fwd_chunks.proofs.Runs.{load-live}
use Rattle.fwd_chunks.proofs.Sane as sane
use Rattle.fwd_failover.specs.Live.{live_servers}
use Rattle.fwd_session.proofs.Lists.{all_same, length_map}
use Rattle.fwd_model.specs.Outputs.{carries_of, carried_by, has_chunk, not_loaded, live_output}
use Rattle.fwd_book.specs.Live.{live_book}
use Rattle.fwd_session.specs.ServerAcks.{Accepted}
use Rattle.fwd_session.specs.History.{Loaded, SessionHistory, chunks_of}
use Rattle.fwd_model.specs.Step as steps
use Rattle.fwd_session.specs.Live.{live_session}
use Rattle.fwd_model.specs.History.{Lane, loaded_in, taken_by, with_buffer, histories}
use Rattle.fwd_model.specs.Live.{live_worker, live_workers, live_lane, lane_gives, lane_takes}
use Rattle.fwd_model.proofs.Chunks.{IsAmong, among-append, among-has, missing, none_found, found_last}
use Rattle.fwd_model.proofs.Places.{set-same, one_changes}
use Rattle.fwd_model.proofs.Settling.{AreApart, loads_of, mine-carried, apart-push, carries-push_other, carries-push_same}
use Rattle.fwd_model.proofs.Reached.{IsSaneLane, IsSaneWorker}

-- ---- one more carry

same_or : (a b : ℕ) → (a ≡ b) ⊎ (a ≢ b)
same_or a b = by_test (eqb a b) refl
  where
    by_test : (t : Bool) → eqb a b ≡ t → (a ≡ b) ⊎ (a ≢ b)
    by_test true e = inl (grind (arith, nat_tests, e))
    by_test false e = inr (λ same. grind (arith, nat_tests, e, same))

-- a number that is not carried is of no chunk of a session
fresh_in : (k : ℕ) (hs cs : List CarriedChunk) → AllByRecursion (λ c. IsAmong c cs) hs
    → has_chunk k cs ≡ false → has_chunk k hs ≡ false
fresh_in k [] cs all free = refl
fresh_in k (c ∷ hs) cs all free = by (c.number == k) refl (fresh_in k hs cs all.1 free)
  where
    no : true ≡ false → ⊥
    no e = cc

    by : (b : Bool) → (c.number == k) ≡ b → has_chunk k hs ≡ false → has_chunk k (c ∷ hs) ≡ false
    by true e rest =
        let same : c.number ≡ k = grind (arith, nat_tests, e) in
        absurd (no (sym (ap (λ j. has_chunk j cs) (sym same) ∙ among-has c cs all.0) ∙ free))
    by false e rest = grind (arith, nat_tests, e, rest)

free_of : (b : BufferHistory) (w k : ℕ) → is_carried k b.carried ≡ false
    → has_chunk k (carried_by b w) ≡ false
free_of b w k free = by (has_chunk k (carried_by b w)) refl
  where
    no : false ≡ true → ⊥
    no e = cc

    by : (t : Bool) → has_chunk k (carried_by b w) ≡ t → t ≡ false
    by true e = absurd (no (sym free ∙ mine-carried b w k e))
    by false e = refl

-- the chunks that the worker has then
takes_more : (b : BufferHistory) (w : ℕ) (cs : List Carry) (k : ℕ)
    → loads_of b (carries_of w (carry_more w (Some k) cs))
    ≡ loads_of b (carries_of w cs) ++ carried_chunk_of b k ∷ []
takes_more b w cs k =
    ap (loads_of b) (carries-push_same w k cs)
    ∙ map-append (λ (c : Carry). carried_chunk_of b c.number) (carries_of w cs) (record { worker = w; number = k } ∷ [])

-- what a worker has that took, where all that it had was loaded and there was room
record Took (n : ℕ) (hs : List CarriedChunk) (cs : List CarriedChunk) (taken : Option CarriedChunk) : Type 0 where
  pub is : not_loaded hs cs ≡ taken
  pub his : AllByRecursion (λ c. IsAmong c cs) hs
  pub rest : length (missing hs cs) ≤ 1
  pub whole : length cs ≡ length hs + length (missing hs cs)
  pub few : length cs ≤ n

took : (n : ℕ) (b : BufferHistory) (w : ℕ) (hs : List CarriedChunk) (found : Option ℕ)
    → AllByRecursion (λ c. IsAmong c (carried_by b w)) hs
    → not_loaded hs (carried_by b w) ≡ None
    → length (carried_by b w) ≡ length hs + length (missing hs (carried_by b w))
    → length hs < n
    → ((k : ℕ) → found ≡ Some k → is_carried k b.carried ≡ false)
    → Took n hs (loads_of b (carries_of w (carry_more w found b.carried))) (option_map (carried_chunk_of b) found)
took n b w hs None his none whole room free =
    let left : length (missing hs (carried_by b w)) ≡ 0 = ap length (none_found (λ c. not (has_chunk c.number hs)) (carried_by b w) none) in
    record { is = none; his = his; rest = omega (arith, left); whole = whole; few = omega (arith, whole, left, room) }
took n b w hs (Some k) his none whole room free =
    let cs = carried_by b w in
    let fresh : has_chunk k hs ≡ false = fresh_in k hs cs his (free_of b w k (free k refl)) in
    let last = found_last (λ c. not (has_chunk c.number hs)) cs (carried_chunk_of b k) none (ap not fresh) in
    let left : length (missing hs cs) ≡ 0 = ap length (none_found (λ c. not (has_chunk c.number hs)) cs none) in
    let one : length (missing hs (cs ++ carried_chunk_of b k ∷ [])) ≡ 1 = ap length last.1 in
    let more : length (cs ++ carried_chunk_of b k ∷ []) ≡ suc (length cs) = omega (arith, length-append cs (carried_chunk_of b k ∷ [])) in
    subst (λ ds. Took n hs ds (Some (carried_chunk_of b k))) (sym (takes_more b w b.carried k)) (record {
      is = last.0;
      his = all_same (λ c. IsAmong c cs) (λ c. IsAmong c (cs ++ carried_chunk_of b k ∷ [])) hs (λ c one. among-append c cs (carried_chunk_of b k ∷ []) one) his;
      rest = omega (arith, one);
      whole = omega (arith, more, whole, left, one);
      few = omega (arith, more, whole, left, room);
    })

-- where a session is not full, it has fewer chunks than its window
has_room : (n : ℕ) (cs : List CarriedChunk) (x : Option SessionHistory) → IsSaneWorker n cs x → 0 < n
    → steps.is_full histories x ≡ false → length (loaded_in x) < n
has_room n cs None fits some e = some
has_room n cs (Some s) fits some e =
    let front = chunks_of s.carried in
    let back = map (λ (a : Accepted). a.chunk) s.accepted in
    let left : (n - (length s.carried + length s.accepted) == 0) ≡ false = ap (λ k. k - (length s.carried + length s.accepted) == 0) (sym (fits.window s refl)) ∙ e in
    let below : length s.carried + length s.accepted < n = less n (length s.carried + length s.accepted) left in
    omega (arith, length-append front back, length_map (λ (l : Loaded). l.chunk) s.carried, length_map (λ (a : Accepted). a.chunk) s.accepted, below)
  where
    less : (n k : ℕ) → (n - k == 0) ≡ false → k < n
    less n k e = grind (arith, nat_tests, e)

pub others_carry : (w j : ℕ) (found : Option ℕ) (cs : List Carry) → w ≢ j
    → carries_of j (carry_more w found cs) ≡ carries_of j cs
others_carry w j None cs differ = refl
others_carry w j (Some k) cs differ = carries-push_other w j k cs differ

-- ---- take

-- what is given is not carried
given_free : (l : Lane) (wanted : Wanted) (now : ℕ) → IsSaneLane l → (k : ℕ)
    → given_for (looks l.output.buffer now) wanted ≡ Some k
    → is_carried k l.output.buffer.carried ≡ false
given_free l wanted now own k e =
    (sane.given_for-loose (looks l.output.buffer now) wanted k (sane.looks-sane l.output.buffer now own.buffer) e).uncarried

-- the same chunk is given
pub given-same : (l : Lane) (wanted : Wanted) (now : ℕ) → IsSaneLane l
    → histories.given l wanted now ≡ lane_gives (live_lane l) wanted now
unfolding live_lane live_output
given-same l wanted now own =
    load-live (looks l.output.buffer now) wanted l.output.buffer.setting.limits.bounded (sane.looks-sane l.output.buffer now own.buffer)
    ∙ ap (λ b. option_map (live_carried_chunk b) (live_given_for b wanted)) (buffer.looks-live l.output.buffer now)

module _ (l : Lane) (w : ℕ) (wanted : Wanted) (now : ℕ) (s : Option SessionHistory) (here : slice_get l.sessions w ≡ Some s) (none : taken_by l.output.buffer w s ≡ None) (free : steps.is_full histories s ≡ false) (own : IsSaneLane l) where
  abbrev its : Took l.config.acks.window
      (loaded_in s) (carried_by (takes l.output.buffer w wanted now) w) (histories.given l wanted now)
  its =
      let fits = own.workers w s here in
      took l.config.acks.window l.output.buffer w (loaded_in s) (given_for (looks l.output.buffer now) wanted) fits.his none fits.whole (has_room l.config.acks.window (carried_by l.output.buffer w) s fits l.config.acks.some free) (given_free l wanted now own)

  others_have : (v : ℕ) → w ≢ v → carried_by (takes l.output.buffer w wanted now) v ≡ carried_by l.output.buffer v
  others_have v differ = ap (loads_of l.output.buffer) (others_carry w v (given_for (looks l.output.buffer now) wanted) l.output.buffer.carried differ)

  workers_taken : live_workers (record (l.output) { buffer = takes l.output.buffer w wanted now }) 0 l.sessions
      ≡ set (live_workers l.output 0 l.sessions) w
      (record { taken = histories.given l wanted now; session = option_map live_session s })
  workers_taken =
      ap (live_workers (record (l.output) { buffer = takes l.output.buffer w wanted now }) 0) (sym (set-same l.sessions w s here))
      ∙ one_changes l.output (record (l.output) { buffer = takes l.output.buffer w wanted now }) w 0 w l.sessions s s (histories.given l wanted now) others_have its.is (sym (zero-add w)) here

  pub takes-live : live_lane (with_buffer l (takes l.output.buffer w wanted now)) ≡ lane_takes (live_lane l) w
      (live_worker l.output w s) wanted now
  unfolding live_lane live_output
  takes-live = λ i. record {
    config = l.config;
    output = record { buffer = buffer.takes-live l.output.buffer w wanted now l.output.buffer.setting.limits.bounded own.buffer i; book = live_book l.output.book; servers = live_servers l.output.setting l.output.servers };
    workers = (workers_taken ∙ ap (λ c. set (live_workers l.output 0 l.sessions) w (record { taken = c; session = option_map live_session s })) (given-same l wanted now own)) i;
  }

  -- ---- an output stays sane

  carry_more-apart : (found : Option ℕ) (cs : List Carry) → AreApart cs
      → ((k : ℕ) → found ≡ Some k → is_carried k cs ≡ false)
      → AreApart (carry_more w found cs)
  carry_more-apart None cs apart free = apart
  carry_more-apart (Some k) cs apart free = apart-push w k cs apart (free k refl)

  still : (j : ℕ) (x : Option SessionHistory) → slice_get l.sessions j ≡ Some x → (w ≡ j) ⊎ (w ≢ j)
      → IsSaneWorker l.config.acks.window (carried_by (takes l.output.buffer w wanted now) j) x
  still j x h (inl same) =
      let is : s ≡ x = same_Some _ _ (sym here ∙ ap (slice_get l.sessions) same ∙ h) in
      let fits = own.workers w s here in
      subst (λ k. IsSaneWorker l.config.acks.window (carried_by (takes l.output.buffer w wanted now) k) x) same
      (subst (λ y. IsSaneWorker l.config.acks.window (carried_by (takes l.output.buffer w wanted now) w) y) is (record { own = fits.own; window = fits.window; his = its.his; once = fits.once; rest = its.rest; whole = its.whole; few = its.few }))
  still j x h (inr differ) = subst (λ cs. IsSaneWorker l.config.acks.window cs x) (sym (others_have j differ)) (own.workers j x h)

  pub takes-sane : IsSaneLane (with_buffer l (takes l.output.buffer w wanted now))
  takes-sane = record {
    buffer = sane.takes-sane l.output.buffer w wanted now own.buffer;
    apart = carry_more-apart (given_for (looks l.output.buffer now) wanted) l.output.buffer.carried own.apart (given_free l wanted now own);
    marks = own.marks;
    waits = own.waits;
    workers = λ j x h. still j x h (same_or w j);
  }
