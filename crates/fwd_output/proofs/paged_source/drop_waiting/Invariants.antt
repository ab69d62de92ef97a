use Rattle.std.proofs.Common.{◌≡◌}
use Rattle.fwd_output.proofs.paged_source.drop_waiting.Given as goal

-- its setup is what it was
abbrev pub invariant-loop : goal.invariant-loop
invariant-loop l = l.source.live.setup ≡ l.fn.source.live.setup
