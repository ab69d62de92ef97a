use Rattle.std.proofs.Common.{◌≡◌, take}
use Rattle.std.specs.Prelude.{map}
use Rattle.fwd_pools.specs.Pools.{hop_of}
use Rattle.fwd_pools.proofs.next_hops.next_hops_of.Given as goal

-- the next hops of the outputs so far
abbrev pub invariant-loop-output : goal.invariant-loop-output
invariant-loop-output l = l.all.items ≡ map hop_of (take l.output-index l.outputs)
