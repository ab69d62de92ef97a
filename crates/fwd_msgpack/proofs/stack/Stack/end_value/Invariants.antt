use Rattle.std.proofs.Common.{◌≡◌, ◌≤◌, sum}
use Rattle.fwd_msgpack.specs.declared.limits.TheConstants.{MAX_DEPTH}
use Rattle.fwd_msgpack.specs.Scans.{after_value}
use Rattle.fwd_msgpack.specs.Stacks.{from_last}
use Rattle.fwd_msgpack.proofs.stack.Stack.end_value.Given as goal

abbrev pub invariant-loop-self : goal.invariant-loop-self
invariant-loop-self l = record {
  most : l.self-inside.depth ≤ MAX_DEPTH;
  owed : l.self-inside.owed ≡ sum (from_last l.self-inside.depth l.self-inside.lacking);
  same : after_value (from_last l.self-inside.depth l.self-inside.lacking)
      ≡ after_value l.fn.self;
}

abbrev pub decreases-loop-self : goal.decreases-loop-self
decreases-loop-self l = l.self-inside.depth
