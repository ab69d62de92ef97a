-- No event changes what outputs are set to, and how many workers they have.
use Rattle.std.proofs.Common.{◌≡◌, ℕ, zero, suc, Bool, true, false, eqb, List, [], ◌∷◌, ◌++◌, length, Option, Some, None, refl, sym, ap, subst, ◌∙◌, arith, length-set}
use Rattle.std.proofs.Math.ListN.{set}
use Rattle.std.specs.Prelude.{option_map, slice_get, is_some, map, replicate, ◌+◌, ◌<◌, ◌||◌}
use Rattle.fwd_modes.specs.Requests.{Request}
use Rattle.fwd_modes.specs.declared.origin.Origin.{Origin}
use Rattle.fwd_match.specs.Patterns.{route}
use Rattle.fwd_source.specs.Live.{LiveSource}
use Rattle.fwd_chunks.specs.declared.wanted.Wanted.{Wanted}
use Rattle.fwd_chunks.specs.declared.fault.AdmitError.{AdmitError}
use Rattle.fwd_chunks.specs.declared.fault.AdmitError.TheVariants.{Full, NumbersSpent, Memory}
use Rattle.fwd_session.specs.ServerAcks.{Accepted, evidence_of}
use Rattle.fwd_session.specs.Live.{LiveSession}
use Rattle.fwd_model.specs.declared.answer.Answer.{Answer}
use Rattle.fwd_model.specs.declared.answer.Answer.TheVariants as answer
use Rattle.fwd_model.specs.declared.config.Config.{Config}
use Rattle.fwd_model.specs.declared.config.OutputConfig.{OutputConfig}
use Rattle.fwd_model.specs.declared.event.EndKind.{EndKind}
use Rattle.fwd_model.specs.declared.event.Event.{Event}
use Rattle.fwd_model.specs.declared.event.Event.TheVariants as event
use Rattle.fwd_model.specs.declared.fault.Refusal.TheVariants.{NoSuch, NotNow}
use Rattle.fwd_model.specs.Layers.{Worker}
use Rattle.fwd_model.specs.Outcome.{Outcome, Goes, state_of, chunk_answer}
use Rattle.fwd_model.specs.Outputs.{OutputHistory, numbers_back}
use Rattle.fwd_model.specs.History.{new_lane, new_lanes, opening}
use Rattle.fwd_model.specs.Step as steps
use Rattle.fwd_model.specs.Step.{step}
use Rattle.fwd_model.specs.Live.{LiveLane, LiveRelay, live, live_lane, live_workers, lives, with_live_lane, with_live_worker}
use Rattle.fwd_model.proofs.Onward.{Onward, to, past, past_found, at_next, source_on, lane_on, both_on, worker_on}
use Rattle.fwd_history.specs.Histories.{Comes}
use Rattle.fwd_run.specs.Runs.{RunEvent, Opens, Relay, Leave, lane_left, lane_moved, next, moved, run_after, seen, settings_at, settings_in, worker_in, worker_of}
use Rattle.fwd_run.proofs.Staying.{always, told_as, put_seen, source_keeps, lane_keeps, both_keeps, worker_keeps, kept}

-- how an output is set up: its settings, and how many workers it has
pub record Setup : Type 0 where
  pub config : OutputConfig
  pub workers : ℕ

abbrev pub setup_of : LiveLane → Setup
setup_of l = record { config = l.config; workers = length l.workers }

abbrev pub setup_in : LiveRelay → ℕ → Option Setup
setup_in r o = option_map setup_of (slice_get r.lanes o)

-- ---- one event

seats_same : (l : LiveLane) (w : ℕ) (y : Worker LiveSession) → setup_of (with_live_worker l w y) ≡ setup_of l
seats_same l w y = λ i. record { config = l.config; workers = length-set l.workers w y i }

take_same : (l : LiveLane) (w now : ℕ) (wanted : Wanted) → Onward (λ a m. setup_of m ≡ setup_of l) (steps.take lives l w wanted now)
take_same l w now wanted = past_found NoSuch {x = lives.worker_at l w} (λ x at. past NotNow {b = is_some x.taken || steps.is_full lives x.session} (λ may. takes x))
  where
    takes : (x : Worker LiveSession) → Onward (λ a m. setup_of m ≡ setup_of l) (Goes (chunk_answer (lives.given l wanted now)) (lives.takes l w x wanted now))
    takes x = to (λ i. record { config = l.config; workers = length-set l.workers w (record { taken = lives.given l wanted now; session = x.session }) i })

settle_same : (l : LiveLane) (w : ℕ) → Onward (λ a m. setup_of m ≡ setup_of l) (steps.settle lives l w)
settle_same l w = past_found NoSuch {x = lives.worker_at l w} (λ x at. past_found NotNow {x = x.session} (λ s has. past_found NotNow {x = lives.acked s} (λ a first. settles x s a)))
  where
    settles : (x : Worker LiveSession) (s : LiveSession) (a : Accepted)
        → Onward (λ a m. setup_of m ≡ setup_of l) (Goes (answer.Settled (lives.entries_at l a.chunk.number)) (lives.settles l w (steps.with_session x (lives.unloads s)) (evidence_of (lives.server s) a)))
    settles x s a = to (λ i. record { config = l.config; workers = length-set l.workers w (steps.with_session x (lives.unloads s)) i })

end_same : (l : LiveLane) (w now : ℕ) (kind : EndKind) → Onward (λ a m. setup_of m ≡ setup_of l) (steps.end lives l w kind now)
end_same l w now kind = past_found NoSuch {x = lives.worker_at l w} (λ x at. past NotNow {b = steps.is_idle lives x} (λ some. past NotNow {b = steps.has_acked lives x.session} (λ none. ends x)))
  where
    ends : (x : Worker LiveSession)
        → Onward (λ a m. setup_of m ≡ setup_of l) (Goes (answer.Ended (numbers_back (steps.gives_back lives x))) (lives.ends l w (steps.gives_back lives x) (steps.lost_server lives kind x.session) now))
    ends x = to (λ i. record { config = l.config; workers = length-set l.workers w (record { taken = None; session = None }) i })

admit_same : (patterns : List (List (List ℕ))) (id o now : ℕ) (s : LiveSource) (l : LiveLane)
    → Onward (λ a two. setup_of two.1 ≡ setup_of l) (steps.admit lives patterns id o now s l)
admit_same patterns id o now s l = past_found _ (λ q first. routed q (route patterns q.tag))
  where
    unless : (q : Request) (origin : Origin) (fault : Option AdmitError) → Onward (λ a two. setup_of two.1 ≡ setup_of l) (steps.enter_unless lives fault s q origin l now)
    unless q origin None = to refl
    unless q origin (Some Full) = to refl
    unless q origin (Some NumbersSpent) = to refl
    unless q origin (Some Memory) = record { holds = tt }

    routed : (q : Request) (first : Option ℕ) → Onward (λ a two. setup_of two.1 ≡ setup_of l) (steps.routed lives first s q id o l now)
    routed q None = to refl
    routed q (Some first) = past _ (λ here. unless q (record { conn = id; request = s.admitted + 1 }) (lives.refusal l (record { conn = id; request = s.admitted + 1 }) q now))

module _ (p : ℕ) (r : LiveRelay) where
  abbrev up : LiveRelay → Option Setup
  up s = setup_in s p

  same_there : (o : ℕ) (l m : LiveLane) → slice_get r.lanes o ≡ Some l → setup_of m ≡ setup_of l → up (with_live_lane o m r) ≡ up r
  same_there o l m here same = put_seen setup_of o p l m r.lanes here (λ on. same)

  at_lane : (o : ℕ) (f : LiveLane → Outcome LiveLane) → ((l : LiveLane) → Onward (λ a m. setup_of m ≡ setup_of l) (f l)) → up (state_of r (steps.at_lane lives r o f)) ≡ up r
  at_lane o f same = lane_keeps up r o f (λ l here. told_as (f l) (same l) (λ a m e. same_there o l m here e))

  at_both : (id o : ℕ) (f : LiveSource → LiveLane → Outcome (LiveSource × LiveLane)) → ((s : LiveSource) (l : LiveLane) → Onward (λ a two. setup_of two.1 ≡ setup_of l) (f s l))
      → up (state_of r (steps.at_both lives r id o f)) ≡ up r
  at_both id o f same = both_keeps up r id o f (λ s l here. told_as (f s l) (same s l) (λ a two e. same_there o l two.1 here e))

  at_seat : (o w : ℕ) (f : LiveLane → Worker LiveSession → Outcome (Worker LiveSession))
      → up (state_of r (steps.at_lane lives r o (λ l. steps.at_worker lives l w (f l)))) ≡ up r
  at_seat o w f = worker_keeps up r o w f (λ l y here. same_there o l (with_live_worker l w y) here (seats_same l w y))

  pub event_keeps : (e : Event) → up (state_of r (step lives r e)) ≡ up r
  event_keeps (event.Accept id nonce auth) = kept up r (step lives r (event.Accept id nonce auth)) (past _ (λ fresh. to refl))
  event_keeps (event.Piece id bytes) = source_keeps up r id (λ s. steps.piece lives s bytes) (λ u. refl)
  event_keeps (event.Admit id o now) = at_both id o (steps.admit lives r.routes id o now) (λ s l. admit_same r.routes id o now s l)
  event_keeps (event.Flush o now kind) = at_lane o (λ l. steps.flush lives l now kind) (λ l. to refl)
  event_keeps (event.Choose o w now) = at_lane o (λ l. steps.choose lives l w now) (λ l. past_found _ (λ x at. to refl))
  event_keeps (event.Up o w server salt now) = at_seat o w (λ l. steps.up lives l.config server salt now)
  event_keeps (event.Take o w now wanted) = at_lane o (λ l. steps.take lives l w wanted now) (λ l. take_same l w now wanted)
  event_keeps (event.Load o w now) = at_seat o w (λ l. steps.load lives now)
  event_keeps (event.Wrote o w count) = at_seat o w (λ l x. steps.at_session lives x (steps.wrote lives count))
  event_keeps (event.Heard o w bytes) = at_seat o w (λ l x. steps.at_session lives x (steps.heard lives bytes))
  event_keeps (event.Settle o w) = at_lane o (λ l. steps.settle lives l w) (λ l. settle_same l w)
  event_keeps (event.Late o w now) = at_seat o w (λ l x. steps.at_session lives x (steps.late lives now))
  event_keeps (event.End o w kind now) = at_lane o (λ l. steps.end lives l w kind now) (λ l. end_same l w now kind)
  event_keeps (event.Collect id o) = at_both id o (steps.collect lives id) (λ s l. past _ (λ stands. to refl))
  event_keeps (event.Forget id o) = at_lane o (λ l. steps.forget lives l id) (λ l. to refl)
  event_keeps (event.Drained id count) = source_keeps up r id (λ s. steps.drained lives s count) (λ u. refl)
  event_keeps (event.Shut id) = kept up r (step lives r (event.Shut id)) (past_found _ (λ s known. to refl))

next_keeps : (p : ℕ) (r : LiveRelay) (e : RunEvent) → setup_in (next r e) p ≡ setup_in r p
next_keeps p r (Opens config) = refl
next_keeps p r (Relay e) = event_keeps p r e
next_keeps p r (Leave o origins) = by (slice_get r.lanes o) refl
  where
    by : (x : Option LiveLane) → slice_get r.lanes o ≡ x → setup_in (lane_moved o (lane_left origins) r x) p ≡ setup_in r p
    by None here = refl
    by (Some l) here = put_seen setup_of o p l (lane_left origins l) r.lanes here (λ on. refl)

-- ---- a run that goes on

pub record Keeps (p : ℕ) (r : LiveRelay) (past : List RunEvent) : Type 0 where
  pub relay : LiveRelay
  pub after : run_after past ≡ Some relay
  pub is : setup_in relay p ≡ setup_in r p

pub keeps_on : (p : ℕ) (more old : List RunEvent) (r : LiveRelay) → run_after old ≡ Some r → Keeps p r (more ++ old)
keeps_on p [] old r begun = record { relay = r; after = begun; is = refl }
keeps_on p (e ∷ more) old r begun =
    let rest = keeps_on p more old r begun in
    record { relay = next rest.relay e; after = ap (λ x. moved x e) rest.after; is = next_keeps p rest.relay e ∙ rest.is }

config_seen : (x : Option LiveLane) → option_map (λ (l : LiveLane). l.config) x ≡ option_map (λ (u : Setup). u.config) (option_map setup_of x)
config_seen None = refl
config_seen (Some l) = refl

pub settings_still : (p : ℕ) (old past : List RunEvent) (r : LiveRelay) → run_after old ≡ Some r → Comes old past → settings_at past p ≡ settings_at old p
settings_still p old past r begun comes = subst (λ l. settings_at l p ≡ settings_at old p) comes.1 (by (keeps_on p comes.0 old r begun))
  where
    by : Keeps p r (comes.0 ++ old) → settings_at (comes.0 ++ old) p ≡ settings_at old p
    by k =
        ap (seen (λ s. option_map (λ (l : LiveLane). l.config) (slice_get s.lanes p))) k.after
        ∙ (config_seen (slice_get k.relay.lanes p) ∙ ap (option_map (λ (u : Setup). u.config)) k.is ∙ sym (config_seen (slice_get r.lanes p)))
        ∙ sym (ap (seen (λ s. option_map (λ (l : LiveLane). l.config) (slice_get s.lanes p))) begun)

-- ---- each output has as many workers as it is set to have

abbrev pub IsSeated : Option Setup → Type 0
IsSeated None = Unit {0}
IsSeated (Some u) = u.workers ≡ u.config.workers

places : (p : OutputHistory) (w n : ℕ) → length (live_workers p w (replicate n None)) ≡ n
places p w zero = refl
places p w (suc n) = ap suc (places p (suc w) n)

new_seated : (run : List ℕ) (o : ℕ) (cs : List OutputConfig) (p : ℕ) → IsSeated (option_map setup_of (slice_get (map live_lane (new_lanes run o cs)) p))
unfolding live_lane
new_seated run o [] p = tt
new_seated run o (c ∷ cs) zero = places (new_lane run o c).output 0 c.workers
new_seated run o (c ∷ cs) (suc p) = new_seated run (suc o) cs p

opening_seated : (config : Config) (p : ℕ) → IsSeated (setup_in (live (opening config)) p)
unfolding live opening
opening_seated config p = new_seated config.run 0 config.outputs p

one_relay : {x y : LiveRelay} → Some x ≡ Some y → x ≡ y
one_relay e = cc

no_relay : {x : LiveRelay} → None ≡ Some x → ⊥
no_relay e = cc

pub seated : (past : List RunEvent) (r : LiveRelay) → run_after past ≡ Some r → (p : ℕ) → IsSeated (setup_in r p)
seated [] r begun p = absurd (no_relay begun)
seated (e ∷ past) r begun p = by (run_after past) e begun (λ s is. seated past s is p) refl
  where
    by : (x : Option LiveRelay) (e : RunEvent) → moved x e ≡ Some r → ((s : LiveRelay) → run_after past ≡ Some s → IsSeated (setup_in s p)) → run_after past ≡ x → IsSeated (setup_in r p)
    by None (Opens config) is rest was = subst (λ s. IsSeated (setup_in s p)) (one_relay is) (opening_seated config p)
    by None (Relay e) is rest was = absurd (no_relay is)
    by None (Leave o origins) is rest was = absurd (no_relay is)
    by (Some s) e is rest was = subst IsSeated (sym (next_keeps p s e) ∙ ap (λ s. setup_in s p) (one_relay is)) (rest s was)

-- an output that has workers has a first one
pub first_worker : (past : List RunEvent) (r : LiveRelay) (o : ℕ) (config : OutputConfig) → run_after past ≡ Some r → settings_in r o ≡ Some config → 0 < config.workers
    → (x : Worker LiveSession) × (worker_in r o 0 ≡ Some x)
first_worker past r o config begun set some = by (slice_get r.lanes o) refl set (seated past r begun o)
  where
    first : (ws : List (Worker LiveSession)) → 0 < length ws → (x : Worker LiveSession) × (slice_get ws 0 ≡ Some x)
    first [] none = absurd (omega (arith, none))
    first (x ∷ ws) some = (x, refl)

    by : (l : Option LiveLane) → slice_get r.lanes o ≡ l → option_map (λ (k : LiveLane). k.config) l ≡ Some config → IsSeated (option_map setup_of (slice_get r.lanes o))
        → (x : Worker LiveSession) × (worker_in r o 0 ≡ Some x)
    by None here e good = absurd (none_config e)
      where
        none_config : {c : OutputConfig} → None ≡ Some c → ⊥
        none_config e = cc
    by (Some l) here e good =
        let same : l.config ≡ config = one_config e in
        let count : length l.workers ≡ l.config.workers = subst (λ x. IsSeated (option_map setup_of x)) here good in
        let one = first l.workers (subst (λ n. 0 < n) (sym (count ∙ ap (λ (c : OutputConfig). c.workers) same)) some) in
        (one.0, ap (worker_of 0) here ∙ one.1)
      where
        one_config : {x y : OutputConfig} → Some x ≡ Some y → x ≡ y
        one_config e = cc
