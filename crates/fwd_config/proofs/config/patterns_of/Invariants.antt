use Rattle.std.proofs.Common.{◌≡◌, ◌≤◌, ◌+◌, ◌++◌, map, length, vec_len}
use Rattle.std.specs.Prelude.{vec_capacity}
use Rattle.fwd_config.proofs.config.patterns_of.Given as goal

-- the patterns so far, and then those of the outputs that are left; there is room for all
abbrev pub invariant-loop-outputs : goal.invariant-loop-outputs
invariant-loop-outputs l = record {
  all : l.patterns.items ++ map (λ o. o.pattern) l.outputs.items ≡ map (λ o. o.pattern) l.fn.outputs.items;
  count : vec_len l.patterns + length l.outputs.items ≡ length l.fn.outputs.items;
  fits : length l.fn.outputs.items ≤ vec_capacity l.patterns;
}

abbrev pub decreases-loop-outputs : goal.decreases-loop-outputs
decreases-loop-outputs l = length l.outputs.items
