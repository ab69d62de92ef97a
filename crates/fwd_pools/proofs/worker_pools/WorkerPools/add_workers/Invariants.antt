use Rattle.std.specs.Prelude.{◌≡◌, ◌+◌, ◌-◌, ◌++◌, length, replicate}
use Rattle.fwd_pools.proofs.worker_pools.WorkerPools.add_workers.Given as goal

-- the outputs stay, and there is each worker so far, and what wakes it
abbrev pub invariant-loop-number : goal.invariant-loop-number
invariant-loop-number g l = record {
  outputs : l.self.outputs ≡ l.fn.self.outputs;
  intervals : l.self.intervals ≡ l.fn.self.intervals;
  run : l.run ≡ record l.fn.run { pages = (l.fn.run.pages.0 + l.number, l.fn.run.pages.1 - l.number) };
  count : length l.wakers.items ≡ l.number;
  workers : l.self.workers.items ≡ l.fn.self.workers.items ++ replicate l.number l.fn.pool.number;
}
