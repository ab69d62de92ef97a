use Rattle.std.proofs.Common.{◌≡◌}
use Rattle.fwd_links.proofs.wire.Wire.read_soon.Given as goal

-- nothing was told
abbrev pub invariant-loop : goal.invariant-loop
invariant-loop g l = l.self.calls ≡ l.initial.self.calls
