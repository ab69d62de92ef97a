-- An event leaves each part of the relay as it is that it does not name.
use Rattle.std.proofs.Common.{◌≡◌, ℕ, zero, suc, ◌+◌, Bool, true, false, cond, eqb, List, [], ◌∷◌, ◌++◌, Option, Some, None, refl, sym, ap, ◌∙◌, arith}
use Rattle.std.proofs.Math.ListN.{set}
use Rattle.std.proofs.lemmas.Bool.Decides.{nat_tests}
use Rattle.std.specs.Prelude.{option_map, slice_get, ◌&&◌, ◌||◌, not, filter}
use Rattle.fwd_modes.specs.Requests.{Request}
use Rattle.fwd_modes.specs.declared.origin.Origin.{Origin}
use Rattle.fwd_match.specs.Patterns.{route}
use Rattle.fwd_source.specs.Live.{LiveSource}
use Rattle.fwd_chunks.specs.declared.wanted.Wanted.{Wanted}
use Rattle.fwd_chunks.specs.declared.fault.AdmitError.{AdmitError}
use Rattle.fwd_chunks.specs.declared.fault.AdmitError.TheVariants.{Full, NumbersSpent, Memory}
use Rattle.fwd_session.specs.ServerAcks.{Accepted, evidence_of}
use Rattle.fwd_session.specs.Live.{LiveSession}
use Rattle.fwd_model.specs.declared.answer.Answer.{Answer}
use Rattle.fwd_model.specs.declared.event.EndKind.{EndKind}
use Rattle.fwd_model.specs.declared.event.Event.{Event}
use Rattle.fwd_model.specs.declared.event.Event.TheVariants as event
use Rattle.fwd_model.specs.Layers.{Worker}
use Rattle.fwd_model.specs.declared.answer.Answer.TheVariants as answer
use Rattle.fwd_model.specs.declared.fault.Refusal.TheVariants.{NoSuch, NotNow}
use Rattle.fwd_model.specs.Outcome.{Outcome, Stays, Goes, state_of, chunk_answer}
use Rattle.fwd_model.specs.Step as steps
use Rattle.fwd_model.specs.Step.{step}
use Rattle.fwd_model.specs.Outputs.{LiveOutput, numbers_back}
use Rattle.fwd_model.specs.Live.{LiveConnection, LiveLane, LiveRelay, lives, live_source_at, with_live_source, without, with_live_lane, with_live_worker}
use Rattle.fwd_model.specs.Names as part
use Rattle.fwd_model.specs.Names.{Named, does_name, is_accept}
use Rattle.fwd_model.proofs.Onward.{Onward, to, past, past_found, past_within, at_next, source_on, lane_on, both_on, worker_on, session_on}
use Rattle.fwd_run.specs.Runs.{output_in, worker_of, worker_in, source_in}

-- ---- whatever an outcome goes on to

pub always : {S : Type 0} {P : Answer → S → Type 0} (x : Outcome S) → ((a : Answer) (s : S) → P a s) → Onward P x
always (Stays a) f = record { holds = tt }
always (Goes a s) f = to (f a s)

-- what is seen of the relay is the same after the event where it is so of each state that the event
-- leads to
pub kept : {X : Type 0} (see : LiveRelay → X) (r : LiveRelay) (x : Outcome LiveRelay)
    → Onward (λ a s. see s ≡ see r) x → see (state_of r x) ≡ see r
kept see r x on = at_next r x (λ s. see s ≡ see r) (λ a e. refl) on (λ a s e same. same)

-- ---- a lane in place of another

module _ {X : Type 0} (see : LiveLane → X) where
  pub put_seen : (o p : ℕ) (l m : LiveLane) (ls : List LiveLane) → slice_get ls o ≡ Some l → (eqb o p ≡ true → see m ≡ see l)
      → option_map see (slice_get (set ls o m) p) ≡ option_map see (slice_get ls p)
  put_seen o p l m [] here same = refl
  put_seen zero zero l m (k ∷ ls) here same = let e : k ≡ l = cc in ap Some (same refl ∙ ap see (sym e))
  put_seen zero (suc p) l m (k ∷ ls) here same = refl
  put_seen (suc o) zero l m (k ∷ ls) here same = refl
  put_seen (suc o) (suc p) l m (k ∷ ls) here same = put_seen o p l m ls here (λ e. same (grind (arith, nat_tests, e)))

-- a worker of another place stays
pub other_worker : (ws : List (Worker LiveSession)) (w v : ℕ) (x : Worker LiveSession) → eqb w v ≡ false → slice_get (set ws w x) v ≡ slice_get ws v
other_worker [] w v x e = refl
other_worker (y ∷ ws) zero zero x e = absurd (grind (arith, nat_tests, e))
other_worker (y ∷ ws) zero (suc v) x e = refl
other_worker (y ∷ ws) (suc w) zero x e = refl
other_worker (y ∷ ws) (suc w) (suc v) x e = other_worker ws w v x (grind (arith, nat_tests, e))

abbrev joined : {X : Type 0} → Option (Option X) → Option X
joined None = None
joined (Some x) = x

worker_is : (w : ℕ) (x : Option LiveLane) → worker_of w x ≡ joined (option_map (λ (l : LiveLane). slice_get l.workers w) x)
worker_is w None = refl
worker_is w (Some l) = refl

-- ---- connections

module _ (a b : ℕ) (differ : eqb a b ≡ false) where
  other_source : (s : LiveSource) (cs : List LiveConnection) → live_source_at b (with_live_source a s cs) ≡ live_source_at b cs
  other_source s [] = refl
  other_source s (c ∷ cs) = grind (arith, nat_tests, differ, other_source s cs)

  other_gone : (cs : List LiveConnection) → live_source_at b (without a cs) ≡ live_source_at b cs
  other_gone [] = refl
  other_gone (c ∷ cs) = grind (arith, nat_tests, differ, other_gone cs)

  other_comes : (s : LiveSource) (cs : List LiveConnection) → live_source_at b (cs ++ record { id = a; source = s } ∷ []) ≡ live_source_at b cs
  other_comes s [] = grind (arith, nat_tests, differ)
  other_comes s (c ∷ cs) = grind (arith, nat_tests, differ, other_comes s cs)

-- ---- bools

pub left_off : (a b : Bool) → (a || b) ≡ false → a ≡ false
left_off true b h = absurd cc
left_off false b h = refl

pub right_off : (a b : Bool) → (a || b) ≡ false → b ≡ false
right_off true b h = absurd cc
right_off false b h = h

pub impossible : {X : Type 0} (b : Bool) → b ≡ true → b ≡ false → X
impossible true on off = absurd cc
impossible false on off = absurd cc

second_off : (a b : Bool) → a ≡ true → (a && b) ≡ false → b ≡ false
second_off true b on off = off
second_off false b on off = absurd cc

-- what holds of all that an outcome goes on to, in other words
pub told_as : {S : Type 0} {P Q : Answer → S → Type 0} (x : Outcome S) → Onward P x → ((a : Answer) (s : S) → P a s → Q a s) → Onward Q x
told_as (Stays a) on f = record { holds = tt }
told_as (Goes a s) on f = to (f a s on.holds)

-- ---- a worker in a lane that is put in place of another

pub put_worker : (o p v : ℕ) (l m : LiveLane) (ls : List LiveLane) → slice_get ls o ≡ Some l → (eqb o p ≡ true → slice_get m.workers v ≡ slice_get l.workers v)
    → worker_of v (slice_get (set ls o m) p) ≡ worker_of v (slice_get ls p)
put_worker o p v l m ls here same =
    worker_is v (slice_get (set ls o m) p)
    ∙ (ap joined (put_seen (λ (l : LiveLane). slice_get l.workers v) o p l m ls here same) ∙ sym (worker_is v (slice_get ls p)))

-- ---- where an event happens

module _ {X : Type 0} (see : LiveRelay → X) (r : LiveRelay) where
  pub source_keeps : (id : ℕ) (f : LiveSource → Outcome LiveSource) → ((u : LiveSource) → see (lives.puts_source r id u) ≡ see r)
      → see (state_of r (steps.at_source lives r id f)) ≡ see r
  source_keeps id f same =
      kept see r (steps.at_source lives r id f) (source_on lives r id (λ a s. see s ≡ see r) f (λ s here. always (f s) (λ a u. same u)))

  pub lane_keeps : (o : ℕ) (f : LiveLane → Outcome LiveLane)
      → ((l : LiveLane) → slice_get r.lanes o ≡ Some l → Onward (λ a m. see (with_live_lane o m r) ≡ see r) (f l))
      → see (state_of r (steps.at_lane lives r o f)) ≡ see r
  lane_keeps o f same = kept see r (steps.at_lane lives r o f) (lane_on lives r o (λ a s. see s ≡ see r) f same)

  pub both_keeps : (id o : ℕ) (f : LiveSource → LiveLane → Outcome (LiveSource × LiveLane))
      → ((s : LiveSource) (l : LiveLane) → slice_get r.lanes o ≡ Some l → Onward (λ a two. see (with_live_lane o two.1 (lives.puts_source r id two.0)) ≡ see r) (f s l))
      → see (state_of r (steps.at_both lives r id o f)) ≡ see r
  both_keeps id o f same =
      kept see r (steps.at_both lives r id o f) (both_on lives r id o (λ a s. see s ≡ see r) f (λ s l known here. same s l here))

  -- at a worker, and at its session
  pub worker_keeps : (o w : ℕ) (f : LiveLane → Worker LiveSession → Outcome (Worker LiveSession))
      → ((l : LiveLane) (y : Worker LiveSession) → slice_get r.lanes o ≡ Some l → see (with_live_lane o (with_live_worker l w y) r) ≡ see r)
      → see (state_of r (steps.at_lane lives r o (λ l. steps.at_worker lives l w (f l)))) ≡ see r
  worker_keeps o w f same =
      lane_keeps o (λ l. steps.at_worker lives l w (f l)) (λ l here. worker_on lives l w (λ a m. see (with_live_lane o m r) ≡ see r) (f l) (λ x at. always (f l x) (λ a y. same l y here)))

-- ---- outputs

module _ (p : ℕ) (r : LiveRelay) where
  abbrev out : LiveRelay → Option LiveOutput
  out s = output_in s p

  apart : (o : ℕ) (l m : LiveLane) → slice_get r.lanes o ≡ Some l → eqb o p ≡ false → out (with_live_lane o m r) ≡ out r
  apart o l m here off = put_seen (λ (k : LiveLane). k.output) o p l m r.lanes here (λ on. impossible (eqb o p) on off)

  lane_apart : (o : ℕ) (f : LiveLane → Outcome LiveLane) → eqb o p ≡ false → out (state_of r (steps.at_lane lives r o f)) ≡ out r
  lane_apart o f off = lane_keeps out r o f (λ l here. always (f l) (λ a m. apart o l m here off))

  both_apart : (id o : ℕ) (f : LiveSource → LiveLane → Outcome (LiveSource × LiveLane)) → eqb o p ≡ false → out (state_of r (steps.at_both lives r id o f)) ≡ out r
  both_apart id o f off = both_keeps out r id o f (λ s l here. always (f s l) (λ a two. apart o l two.1 here off))

  seat : (o w : ℕ) (f : LiveLane → Worker LiveSession → Outcome (Worker LiveSession))
      → out (state_of r (steps.at_lane lives r o (λ l. steps.at_worker lives l w (f l)))) ≡ out r
  seat o w f = worker_keeps out r o w f (λ l y here. put_seen (λ (k : LiveLane). k.output) o p l (with_live_worker l w y) r.lanes here (λ on. refl))

  pub output_stays : (e : Event) → does_name e (part.Output p) ≡ false → out (state_of r (step lives r e)) ≡ out r
  output_stays (event.Accept id nonce auth) off = kept out r (step lives r (event.Accept id nonce auth)) (past _ (λ fresh. to refl))
  output_stays (event.Piece id bytes) off = source_keeps out r id (λ s. steps.piece lives s bytes) (λ u. refl)
  output_stays (event.Admit id o now) off = both_apart id o (steps.admit lives r.routes id o now) (left_off (eqb o p) false off)
  output_stays (event.Flush o now kind) off = lane_apart o (λ l. steps.flush lives l now kind) (left_off (eqb o p) false off)
  output_stays (event.Choose o w now) off = lane_apart o (λ l. steps.choose lives l w now) (left_off (eqb o p) false off)
  output_stays (event.Up o w server salt now) off = seat o w (λ l. steps.up lives l.config server salt now)
  output_stays (event.Take o w now wanted) off = lane_apart o (λ l. steps.take lives l w wanted now) (left_off (eqb o p) false off)
  output_stays (event.Load o w now) off = seat o w (λ l. steps.load lives now)
  output_stays (event.Wrote o w count) off = seat o w (λ l x. steps.at_session lives x (steps.wrote lives count))
  output_stays (event.Heard o w bytes) off = seat o w (λ l x. steps.at_session lives x (steps.heard lives bytes))
  output_stays (event.Settle o w) off = lane_apart o (λ l. steps.settle lives l w) (left_off (eqb o p) false off)
  output_stays (event.Late o w now) off = seat o w (λ l x. steps.at_session lives x (steps.late lives now))
  output_stays (event.End o w kind now) off = lane_apart o (λ l. steps.end lives l w kind now) (left_off (eqb o p) false off)
  output_stays (event.Collect id o) off = both_apart id o (steps.collect lives id) (left_off (eqb o p) false off)
  output_stays (event.Forget id o) off = lane_apart o (λ l. steps.forget lives l id) (left_off (eqb o p) false (right_off false (eqb o p || false) off))
  output_stays (event.Drained id count) off = source_keeps out r id (λ s. steps.drained lives s count) (λ u. refl)
  output_stays (event.Shut id) off = kept out r (step lives r (event.Shut id)) (past_found _ (λ s known. to refl))

-- ---- workers

-- an admission leaves an output's workers
admit_keeps : (patterns : List (List (List ℕ))) (id o now : ℕ) (s : LiveSource) (l : LiveLane)
    → Onward (λ a two. two.1.workers ≡ l.workers) (steps.admit lives patterns id o now s l)
admit_keeps patterns id o now s l = past_found _ (λ q first. routed q (route patterns q.tag))
  where
    unless : (q : Request) (origin : Origin) (fault : Option AdmitError)
        → Onward (λ a two. two.1.workers ≡ l.workers) (steps.enter_unless lives fault s q origin l now)
    unless q origin None = to refl
    unless q origin (Some Full) = to refl
    unless q origin (Some NumbersSpent) = to refl
    unless q origin (Some Memory) = record { holds = tt }

    routed : (q : Request) (first : Option ℕ) → Onward (λ a two. two.1.workers ≡ l.workers) (steps.routed lives first s q id o l now)
    routed q None = to refl
    routed q (Some first) = past _ (λ here. unless q (record { conn = id; request = s.admitted + 1 }) (lives.refusal l (record { conn = id; request = s.admitted + 1 }) q now))

-- a lane has another worker in a place
abbrev Seats : LiveLane → ℕ → LiveLane → Type 0
Seats l w m = (y : Worker LiveSession) × (m.workers ≡ set l.workers w y)

take_seats : (l : LiveLane) (w : ℕ) (wanted : Wanted) (now : ℕ) → Onward (λ a m. Seats l w m) (steps.take lives l w wanted now)
take_seats l w wanted now = past_found NoSuch {x = lives.worker_at l w} (λ (x : Worker LiveSession) at. past NotNow (λ may. takes x))
  where
    takes : (x : Worker LiveSession) → Onward (λ a m. Seats l w m) (Goes (chunk_answer (lives.given l wanted now)) (lives.takes l w x wanted now))
    takes x = to (record { taken = lives.given l wanted now; session = x.session }, refl)

settle_seats : (l : LiveLane) (w : ℕ) → Onward (λ a m. Seats l w m) (steps.settle lives l w)
settle_seats l w = past_found NoSuch {x = lives.worker_at l w} (λ x at. past_found NotNow {x = x.session} (λ s has. past_found NotNow {x = lives.acked s} (λ a first. settles x s a)))
  where
    settles : (x : Worker LiveSession) (s : LiveSession) (a : Accepted)
        → Onward (λ a m. Seats l w m) (Goes (answer.Settled (lives.entries_at l a.chunk.number)) (lives.settles l w (steps.with_session x (lives.unloads s)) (evidence_of (lives.server s) a)))
    settles x s a = to (steps.with_session x (lives.unloads s), refl)

end_seats : (l : LiveLane) (w : ℕ) (kind : EndKind) (now : ℕ) → Onward (λ a m. Seats l w m) (steps.end lives l w kind now)
end_seats l w kind now = past_found NoSuch {x = lives.worker_at l w} (λ x at. past NotNow {b = steps.is_idle lives x} (λ some. past NotNow {b = steps.has_acked lives x.session} (λ none. ends x)))
  where
    ends : (x : Worker LiveSession)
        → Onward (λ a m. Seats l w m) (Goes (answer.Ended (numbers_back (steps.gives_back lives x))) (lives.ends l w (steps.gives_back lives x) (steps.lost_server lives kind x.session) now))
    ends x = to (record { taken = None; session = None }, refl)

module _ (p v : ℕ) (r : LiveRelay) where
  abbrev his : LiveRelay → Option (Worker LiveSession)
  his s = worker_in s p v

  same_lane : (o : ℕ) (l m : LiveLane) → slice_get r.lanes o ≡ Some l → m.workers ≡ l.workers → his (with_live_lane o m r) ≡ his r
  same_lane o l m here same = put_worker o p v l m r.lanes here (λ on. ap (λ ws. slice_get ws v) same)

  other_seat : (o w : ℕ) (l m : LiveLane) (y : Worker LiveSession) → slice_get r.lanes o ≡ Some l → (eqb o p && eqb w v) ≡ false
      → m.workers ≡ set l.workers w y → his (with_live_lane o m r) ≡ his r
  other_seat o w l m y here off is =
      put_worker o p v l m r.lanes here (λ on. ap (λ ws. slice_get ws v) is ∙ other_worker l.workers w v y (second_off (eqb o p) (eqb w v) on off))

  calm : (o : ℕ) (f : LiveLane → Outcome LiveLane) → ((l : LiveLane) → Onward (λ a m. m.workers ≡ l.workers) (f l)) → his (state_of r (steps.at_lane lives r o f)) ≡ his r
  calm o f same = lane_keeps his r o f (λ l here. told_as (f l) (same l) (λ a m e. same_lane o l m here e))

  calm_both : (id o : ℕ) (f : LiveSource → LiveLane → Outcome (LiveSource × LiveLane)) → ((s : LiveSource) (l : LiveLane) → Onward (λ a two. two.1.workers ≡ l.workers) (f s l))
      → his (state_of r (steps.at_both lives r id o f)) ≡ his r
  calm_both id o f same = both_keeps his r id o f (λ s l here. told_as (f s l) (same s l) (λ a two e. same_lane o l two.1 here e))

  others : (o w : ℕ) (f : LiveLane → Worker LiveSession → Outcome (Worker LiveSession)) → (eqb o p && eqb w v) ≡ false
      → his (state_of r (steps.at_lane lives r o (λ l. steps.at_worker lives l w (f l)))) ≡ his r
  others o w f off = worker_keeps his r o w f (λ l y here. other_seat o w l (with_live_worker l w y) y here off refl)

  seated : (o w : ℕ) (f : LiveLane → Outcome LiveLane) → ((l : LiveLane) → Onward (λ a m. Seats l w m) (f l)) → (eqb o p && eqb w v) ≡ false → his (state_of r (steps.at_lane lives r o f)) ≡ his r
  seated o w f seats off = lane_keeps his r o f (λ l here. told_as (f l) (seats l) (λ a m e. other_seat o w l m e.0 here off e.1))

  pub worker_stays : (e : Event) → does_name e (part.Session p v) ≡ false → his (state_of r (step lives r e)) ≡ his r
  worker_stays (event.Accept id nonce auth) off = kept his r (step lives r (event.Accept id nonce auth)) (past _ (λ fresh. to refl))
  worker_stays (event.Piece id bytes) off = source_keeps his r id (λ s. steps.piece lives s bytes) (λ u. refl)
  worker_stays (event.Admit id o now) off = calm_both id o (steps.admit lives r.routes id o now) (λ s l. admit_keeps r.routes id o now s l)
  worker_stays (event.Flush o now kind) off = calm o (λ l. steps.flush lives l now kind) (λ l. to refl)
  worker_stays (event.Choose o w now) off = calm o (λ l. steps.choose lives l w now) (λ l. past_found _ (λ x at. to refl))
  worker_stays (event.Up o w server salt now) off = others o w (λ l. steps.up lives l.config server salt now) (left_off (eqb o p && eqb w v) false off)
  worker_stays (event.Take o w now wanted) off = seated o w (λ l. steps.take lives l w wanted now) (λ l. take_seats l w wanted now) (left_off (eqb o p && eqb w v) false off)
  worker_stays (event.Load o w now) off = others o w (λ l. steps.load lives now) (left_off (eqb o p && eqb w v) false off)
  worker_stays (event.Wrote o w count) off = others o w (λ l x. steps.at_session lives x (steps.wrote lives count)) (left_off (eqb o p && eqb w v) false off)
  worker_stays (event.Heard o w bytes) off = others o w (λ l x. steps.at_session lives x (steps.heard lives bytes)) (left_off (eqb o p && eqb w v) false off)
  worker_stays (event.Settle o w) off = seated o w (λ l. steps.settle lives l w) (λ l. settle_seats l w) (left_off (eqb o p && eqb w v) false off)
  worker_stays (event.Late o w now) off = others o w (λ l x. steps.at_session lives x (steps.late lives now)) (left_off (eqb o p && eqb w v) false off)
  worker_stays (event.End o w kind now) off = seated o w (λ l. steps.end lives l w kind now) (λ l. end_seats l w kind now) (left_off (eqb o p && eqb w v) false off)
  worker_stays (event.Collect id o) off = calm_both id o (steps.collect lives id) (λ s l. past _ (λ stands. to refl))
  worker_stays (event.Forget id o) off = calm o (λ l. steps.forget lives l id) (λ l. to refl)
  worker_stays (event.Drained id count) off = source_keeps his r id (λ s. steps.drained lives s count) (λ u. refl)
  worker_stays (event.Shut id) off = kept his r (step lives r (event.Shut id)) (past_found _ (λ s known. to refl))

-- ---- connections

module _ (c : ℕ) (r : LiveRelay) where
  abbrev src : LiveRelay → Option LiveSource
  src s = source_in s c

  lane_far : (o : ℕ) (f : LiveLane → Outcome LiveLane) → src (state_of r (steps.at_lane lives r o f)) ≡ src r
  lane_far o f = lane_keeps src r o f (λ l here. always (f l) (λ a m. refl))

  source_apart : (id : ℕ) (f : LiveSource → Outcome LiveSource) → eqb id c ≡ false → src (state_of r (steps.at_source lives r id f)) ≡ src r
  source_apart id f off = source_keeps src r id f (λ u. other_source id c off u r.connections)

  both_far : (id o : ℕ) (f : LiveSource → LiveLane → Outcome (LiveSource × LiveLane)) → eqb id c ≡ false → src (state_of r (steps.at_both lives r id o f)) ≡ src r
  both_far id o f off = both_keeps src r id o f (λ s l here. always (f s l) (λ a two. other_source id c off two.0 r.connections))

  pub source_stays : (e : Event) → does_name e (part.Connection c) ≡ false → src (state_of r (step lives r e)) ≡ src r
  source_stays (event.Accept id nonce auth) off =
      kept src r (step lives r (event.Accept id nonce auth)) (past _ (λ fresh. to (other_comes id c (left_off (eqb id c) false off) _ r.connections)))
  source_stays (event.Piece id bytes) off = source_apart id (λ s. steps.piece lives s bytes) (left_off (eqb id c) false off)
  source_stays (event.Admit id o now) off = both_far id o (steps.admit lives r.routes id o now) (left_off (eqb id c) false off)
  source_stays (event.Flush o now kind) off = lane_far o (λ l. steps.flush lives l now kind)
  source_stays (event.Choose o w now) off = lane_far o (λ l. steps.choose lives l w now)
  source_stays (event.Up o w server salt now) off = lane_far o (λ l. steps.at_worker lives l w (steps.up lives l.config server salt now))
  source_stays (event.Take o w now wanted) off = lane_far o (λ l. steps.take lives l w wanted now)
  source_stays (event.Load o w now) off = lane_far o (λ l. steps.at_worker lives l w (steps.load lives now))
  source_stays (event.Wrote o w count) off = lane_far o (λ l. steps.at_worker lives l w (λ x. steps.at_session lives x (steps.wrote lives count)))
  source_stays (event.Heard o w bytes) off = lane_far o (λ l. steps.at_worker lives l w (λ x. steps.at_session lives x (steps.heard lives bytes)))
  source_stays (event.Settle o w) off = lane_far o (λ l. steps.settle lives l w)
  source_stays (event.Late o w now) off = lane_far o (λ l. steps.at_worker lives l w (λ x. steps.at_session lives x (steps.late lives now)))
  source_stays (event.End o w kind now) off = lane_far o (λ l. steps.end lives l w kind now)
  source_stays (event.Collect id o) off = both_far id o (steps.collect lives id) (left_off (eqb id c) false off)
  source_stays (event.Forget id o) off = lane_far o (λ l. steps.forget lives l id)
  source_stays (event.Drained id count) off = source_apart id (λ s. steps.drained lives s count) (left_off (eqb id c) false off)
  source_stays (event.Shut id) off =
      kept src r (step lives r (event.Shut id)) (past_found _ (λ s known. to (other_gone id c (left_off (eqb id c) false off) r.connections)))

-- ---- the last id

module _ (r : LiveRelay) where
  abbrev ids : LiveRelay → Option ℕ
  ids s = s.last

  far : (o : ℕ) (f : LiveLane → Outcome LiveLane) → ids (state_of r (steps.at_lane lives r o f)) ≡ ids r
  far o f = lane_keeps ids r o f (λ l here. always (f l) (λ a m. refl))

  far_both : (id o : ℕ) (f : LiveSource → LiveLane → Outcome (LiveSource × LiveLane)) → ids (state_of r (steps.at_both lives r id o f)) ≡ ids r
  far_both id o f = both_keeps ids r id o f (λ s l here. always (f s l) (λ a two. refl))

  pub last_stays : (e : Event) → is_accept e ≡ false → ids (state_of r (step lives r e)) ≡ ids r
  last_stays (event.Accept id nonce auth) off = absurd (cc off)
  last_stays (event.Piece id bytes) off = source_keeps ids r id (λ s. steps.piece lives s bytes) (λ u. refl)
  last_stays (event.Admit id o now) off = far_both id o (steps.admit lives r.routes id o now)
  last_stays (event.Flush o now kind) off = far o (λ l. steps.flush lives l now kind)
  last_stays (event.Choose o w now) off = far o (λ l. steps.choose lives l w now)
  last_stays (event.Up o w server salt now) off = far o (λ l. steps.at_worker lives l w (steps.up lives l.config server salt now))
  last_stays (event.Take o w now wanted) off = far o (λ l. steps.take lives l w wanted now)
  last_stays (event.Load o w now) off = far o (λ l. steps.at_worker lives l w (steps.load lives now))
  last_stays (event.Wrote o w count) off = far o (λ l. steps.at_worker lives l w (λ x. steps.at_session lives x (steps.wrote lives count)))
  last_stays (event.Heard o w bytes) off = far o (λ l. steps.at_worker lives l w (λ x. steps.at_session lives x (steps.heard lives bytes)))
  last_stays (event.Settle o w) off = far o (λ l. steps.settle lives l w)
  last_stays (event.Late o w now) off = far o (λ l. steps.at_worker lives l w (λ x. steps.at_session lives x (steps.late lives now)))
  last_stays (event.End o w kind now) off = far o (λ l. steps.end lives l w kind now)
  last_stays (event.Collect id o) off = far_both id o (steps.collect lives id)
  last_stays (event.Forget id o) off = far o (λ l. steps.forget lives l id)
  last_stays (event.Drained id count) off = source_keeps ids r id (λ s. steps.drained lives s count) (λ u. refl)
  last_stays (event.Shut id) off = kept ids r (step lives r (event.Shut id)) (past_found _ (λ s known. to refl))
