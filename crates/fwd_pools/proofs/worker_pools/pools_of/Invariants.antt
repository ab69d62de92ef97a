use Rattle.std.specs.Prelude.{◌≡◌, ◌≤◌, ◌+◌, ◌-◌, ◌*◌, ◌++◌, ℕ, Some, length, map, slice_get}
use Rattle.std.specs.Vec.Iter.{into_iter_items}
use Rattle.fwd_model.specs.declared.config.OutputConfig.{OutputConfig}
use Rattle.fwd_run.specs.Pages.{IsNew, with_trial}
use Rattle.fwd_config.specs.Configs.{parts_known}
use Rattle.fwd_pools.specs.Pools.{all_made_of, shown, threads_of}
use Rattle.fwd_pools.proofs.worker_pools.pools_of.Given as goal

-- what is left has a next hop for each, and makes up for the outputs that are not there yet; the
-- next page is that of the next output, and each that is not there yet begins
abbrev pub invariant-loop-config : goal.invariant-loop-config
invariant-loop-config g l = record {
  each : length (into_iter_items l.hops) ≡ length (into_iter_items l.config-iterator);
  count : length l.pools.outputs.items + length (into_iter_items l.config-iterator) ≡ length l.fn.configs.items;
  made : map shown l.pools.outputs.items
      ++ all_made_of (map parts_known (into_iter_items l.config-iterator)) (into_iter_items l.hops)
      ≡ all_made_of (map parts_known l.fn.configs.items) l.fn.hops.items;
  workers : l.pools.workers.items
      ++ threads_of (length l.pools.outputs.items) (map parts_known (into_iter_items l.config-iterator))
      ≡ threads_of 0 (map parts_known l.fn.configs.items);
  run : l.run ≡ record l.fn.run {
    pages = (l.fn.run.pages.0 + 32 * length l.pools.outputs.items, l.fn.run.pages.1 - 32 * length l.pools.outputs.items);
  };
  begun : (o : ℕ) (config : OutputConfig) → slice_get (into_iter_items l.config-iterator) o ≡ Some config
      → IsNew l.fn.run.reached l.fn.run.id (length l.pools.outputs.items + o) (with_trial config) × (config.workers ≤ 30);
}
