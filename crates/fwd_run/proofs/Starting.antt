-- What the outputs of a run are as it begins.
use Rattle.std.proofs.lemmas.List.{length-map}
use Rattle.std.proofs.Common.{◌≡◌, ℕ, zero, suc, ◌+◌, ◌<◌, ◌≤◌, ◌^◌, List, [], ◌∷◌, length, Option, Some, None, refl, sym, ap, subst, ◌∙◌, arith}
use Rattle.std.specs.Prelude.{map, option_map, slice_get, replicate}
use Rattle.fwd_chunks.specs.Live.{live_buffer}
use Rattle.fwd_session.specs.History.{SessionHistory}
use Rattle.fwd_book.specs.Live.{live_book}
use Rattle.fwd_session.specs.Live.{LiveSession}
use Rattle.fwd_model.specs.declared.config.Config.{Config}
use Rattle.fwd_model.specs.declared.config.OutputConfig.{OutputConfig}
use Rattle.fwd_model.specs.Layers.{Worker}
use Rattle.fwd_model.specs.Outputs.{OutputHistory, no_history, no_requests, live_output}
use Rattle.fwd_model.specs.History.{new_lane, new_lanes, opening}
use Rattle.fwd_model.specs.Setups.{servers_of, setting_of}
use Rattle.fwd_model.specs.Live.{LiveLane, LiveRelay, live, live_lane, live_worker, live_workers}
use Rattle.fwd_run.specs.Pages.{IsNew, IsSeenAs, with_trial}
use Rattle.fwd_run.specs.Runs.{RunEvent, output_at, run_after, seen, settings_at, worker_at, worker_of}

some_same : {x y : OutputConfig} → Some x ≡ Some y → x ≡ y
some_same e = cc

lanes_at : (run : List ℕ) (cs : List OutputConfig) (i o : ℕ) (c : OutputConfig) → slice_get cs o ≡ Some c
    → slice_get (map live_lane (new_lanes run i cs)) o ≡ Some (live_lane (new_lane run (i + o) c))
lanes_at run [] i o c h = absurd cc
lanes_at run (d ∷ cs) i zero c h =
    let same : i ≡ i + 0 = omega arith in
    λ k. Some (live_lane (new_lane run (same k) (some_same h k)))
lanes_at run (d ∷ cs) i (suc o) c h =
    let same : suc i + o ≡ i + suc o = omega arith in
    lanes_at run cs (suc i) o c h ∙ ap (λ n. Some (live_lane (new_lane run n c))) same

places_at : (p : OutputHistory) (v n w : ℕ) → w < n → slice_get (live_workers p v (replicate n None)) w ≡ Some (live_worker p (v + w) None)
places_at p v zero w few = absurd (omega (arith, few))
places_at p v (suc n) zero few =
    let same : v ≡ v + 0 = omega arith in
    λ k. Some (live_worker p (same k) None)
places_at p v (suc n) (suc w) few =
    let same : suc v + w ≡ v + suc w = omega arith in
    places_at p (suc v) n w (omega (arith, few)) ∙ ap (λ u. Some (live_worker p u None)) same

lane_config : (run : List ℕ) (o : ℕ) (c : OutputConfig) → (live_lane (new_lane run o c)).config ≡ c
unfolding live_lane
lane_config run o c = refl

lane_output : (run : List ℕ) (o : ℕ) (c : OutputConfig) → (live_lane (new_lane run o c)).output ≡ no_requests (setting_of run o c) (servers_of c)
unfolding live_lane live_output live_buffer live_book
lane_output run o c = refl

lane_worker : (run : List ℕ) (o : ℕ) (c : OutputConfig) (w : ℕ) → w < c.workers → slice_get (live_lane (new_lane run o c)).workers w ≡ Some (record { taken = None; session = None })
unfolding live_lane
lane_worker run o c w few =
    let p = no_history (setting_of run o c) (servers_of c) in
    let same : 0 + w ≡ w = omega arith in
    subst (λ n. slice_get (live_workers p 0 (replicate c.workers None)) w ≡ Some (live_worker p n None)) same (places_at p 0 c.workers w few)

relay_lane : (config : Config) (o : ℕ) (c : OutputConfig) → slice_get config.outputs o ≡ Some c → slice_get (live (opening config)).lanes o ≡ Some (live_lane (new_lane config.run o c))
unfolding live opening
relay_lane config o c here =
    let same : 0 + o ≡ o = omega arith in
    subst (λ n. slice_get (map live_lane (new_lanes config.run 0 config.outputs)) o ≡ Some (live_lane (new_lane config.run n c))) same (lanes_at config.run config.outputs 0 o c here)

pub is_new : (config : Config) (past : List RunEvent) (o : ℕ) (c : OutputConfig) → run_after past ≡ Some (live (opening config)) → slice_get config.outputs o ≡ Some c → IsNew past config.run o c
is_new config past o c begun here =
    let lane = relay_lane config o c here in
    record {
      settings = ap (seen (λ r. option_map (λ (l : LiveLane). l.config) (slice_get r.lanes o))) begun ∙ (ap (option_map (λ (l : LiveLane). l.config)) lane ∙ ap Some (lane_config config.run o c));
      is = ap (seen (λ r. option_map (λ (l : LiveLane). l.output) (slice_get r.lanes o))) begun ∙ (ap (option_map (λ (l : LiveLane). l.output)) lane ∙ ap Some (lane_output config.run o c));
      workers = λ w few. ap (seen (λ r. worker_of w (slice_get r.lanes o))) begun ∙ (ap (worker_of w) lane ∙ lane_worker config.run o c w few);
    }

pub shows : {X : Type 0} (see : LiveRelay → Option X) (y : X) (config : Config) (past : List RunEvent) → run_after past ≡ Some (live (opening config))
    → see (live (opening config)) ≡ Some y → seen see (run_after past) ≡ Some y
shows see y config past begun is = ap (seen see) begun ∙ is

pub opened_routes : (config : Config) → (live (opening config)).routes ≡ config.routes
unfolding live opening
opened_routes config = refl

pub opened_security : (config : Config) → (live (opening config)).security ≡ config.security
unfolding live opening
opened_security config = refl

pub opened_limits : (config : Config) → (live (opening config)).limits ≡ config.limits
unfolding live opening
opened_limits config = refl

pub opened_last : (config : Config) → (live (opening config)).last ≡ None
unfolding live opening
opened_last config = refl

-- the settings that a run is seen to begin with
pub seen_as : (config : Config) → (seen : Config) × IsSeenAs config seen
seen_as config =
    let count : length (map with_trial config.outputs) ≡ length config.outputs = length-map config.outputs with_trial in
    (record config { outputs = map with_trial config.outputs; few = subst (λ n. n ≤ 2 ^ 16) (sym count) config.few }, record { run = refl; routes = refl; security = refl; limits = refl; outputs = refl })

pub trial_at : (cs : List OutputConfig) (o : ℕ) (c : OutputConfig) → slice_get cs o ≡ Some c → slice_get (map with_trial cs) o ≡ Some (with_trial c)
trial_at [] o c here = absurd cc
trial_at (d ∷ cs) zero c here = λ i. Some (with_trial (some_same here i))
trial_at (d ∷ cs) (suc o) c here = trial_at cs o c here
