use Rattle.std.proofs.Common.{◌≡◌, ℕ, Option, Some, None, length, refl, sym, ap, ◌∙◌}
use Rattle.std.specs.Prelude.{option_map}
use Rattle.std.specs.Arc.{arc_value}
use Rattle.fwd_session.specs.Live.{LiveSession}
use Rattle.fwd_model.specs.declared.config.OutputConfig.{OutputConfig}
use Rattle.fwd_model.specs.Layers.{Worker}
use Rattle.fwd_run.specs.Pages.{WorkerKnown}
use Rattle.fwd_workers.specs.declared.worker.SessionTerms.{SessionTerms}
use Rattle.fwd_workers.specs.Placed.{Stands, with}
use Rattle.fwd_workers.proofs.placed_worker.PlacedWorker.run.Goals as goal

-- where the output is set, and to what, from what is known of what it is set to
stands-of : (k : WorkerKnown) (x : Worker LiveSession) (terms : SessionTerms) → k.has ≡ Some x
    → option_map (λ (config : OutputConfig). config.login) k.settings ≡ Some (arc_value terms.login)
    → option_map (λ (config : OutputConfig). config.acks) k.settings ≡ Some terms.acks
    → option_map (λ (config : OutputConfig). length config.standby) k.settings ≡ Some terms.servers
    → Stands k x terms
stands-of k x terms has login acks servers = by k.settings refl login acks servers
  where
    by : (settings : Option OutputConfig) → k.settings ≡ settings
        → option_map (λ (config : OutputConfig). config.login) settings ≡ Some (arc_value terms.login)
        → option_map (λ (config : OutputConfig). config.acks) settings ≡ Some terms.acks
        → option_map (λ (config : OutputConfig). length config.standby) settings ≡ Some terms.servers
        → Stands k x terms
    by None set login acks servers = absurd cc
    by (Some config) set login acks servers = record {
      has = has;
      config = config;
      set = set;
      login = cc;
      acks = cc;
      servers = cc;
    }

pub run-requires : goal.run-requires
run-requires g c =
    let own = c.args.self.now in
    stands-of own.worker.page (with None None) own.worker.terms own.has own.login own.acks own.servers
