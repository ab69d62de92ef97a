-- The live part of the opening state: outputs with no entries, and workers that have nothing.
use Rattle.std.proofs.Common.{◌≡◌, ℕ, zero, suc, List, [], ◌∷◌, ◌++◌, ◌+◌, length, None, refl, ap, replicate, arith}
use Rattle.std.specs.Prelude.{map}
use Rattle.fwd_chunks.specs.History.{BufferSetting}
use Rattle.fwd_chunks.specs.Live.{live_buffer}
use Rattle.fwd_model.specs.declared.config.Config.{Config}
use Rattle.fwd_model.specs.declared.config.OutputConfig.{OutputConfig}
use Rattle.fwd_book.specs.Live.{live_book}
use Rattle.fwd_model.specs.Outputs.{no_history, live_output, no_requests}
use Rattle.fwd_failover.specs.History.{ServersSetting}
use Rattle.fwd_model.specs.Setups.{setting_of, servers_of}
use Rattle.fwd_model.specs.History.{new_lane, new_lanes, opening}
use Rattle.fwd_model.specs.Live.{live, live_lane, live_workers}
use Rattle.fwd_core.specs.Lanes.{no_work, new_live_lane, new_live_lanes}

idle_workers : (setting : BufferSetting) (servers : ServersSetting) (w n : ℕ)
    → live_workers (no_history setting servers) w (replicate n None) ≡ replicate n no_work
idle_workers setting servers w zero = refl
idle_workers setting servers w (suc n) =
    ap (λ xs. no_work ∷ xs) (idle_workers setting servers (suc w) n)

new_lane-live : (run : List ℕ) (o : ℕ) (c : OutputConfig)
    → live_lane (new_lane run o c) ≡ new_live_lane run o c
unfolding live_lane live_output live_buffer live_book
new_lane-live run o c = λ i. record { config = c; output = no_requests (setting_of run o c) (servers_of c); workers = idle_workers (setting_of run o c) (servers_of c) 0 c.workers i }

new_lanes-live : (run : List ℕ) (o : ℕ) (cs : List OutputConfig)
    → map live_lane (new_lanes run o cs) ≡ new_live_lanes run o cs
new_lanes-live run o [] = refl
new_lanes-live run o (c ∷ cs) = λ i. new_lane-live run o c i ∷ new_lanes-live run (suc o) cs i

pub opening-live : (config : Config)
    → live (opening config)
    ≡ record {
      run = config.run;
      routes = config.routes;
      security = config.security;
      limits = config.limits;
      last = None;
      connections = [];
      lanes = new_live_lanes config.run 0 config.outputs;
    }
unfolding live opening
opening-live config = λ i. record { run = config.run; routes = config.routes; security = config.security; limits = config.limits; last = None; connections = []; lanes = new_lanes-live config.run 0 config.outputs i }

-- ---- one output after the other

-- as many outputs as settings
pub new_lanes-length : (run : List ℕ) (o : ℕ) (cs : List OutputConfig)
    → length (new_live_lanes run o cs) ≡ length cs
new_lanes-length run o [] = refl
new_lanes-length run o (c ∷ cs) = ap suc (new_lanes-length run (suc o) cs)

-- one output more, behind the others
pub new_lanes-more : (run : List ℕ) (o n : ℕ) (cs : List OutputConfig) (c : OutputConfig)
    → n ≡ o + length cs
    → new_live_lanes run o (cs ++ c ∷ [])
    ≡ new_live_lanes run o cs ++ new_live_lane run n c ∷ []
new_lanes-more run o n [] c e = ap (λ k. new_live_lane run k c ∷ []) (omega (arith, e))
new_lanes-more run o n (d ∷ cs) c e =
    ap (λ ls. new_live_lane run o d ∷ ls) (new_lanes-more run (suc o) n cs c (omega (arith, e)))
