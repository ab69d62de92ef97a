-- When what was counted is the same.
use Rattle.std.specs.Prelude.{◌≡◌}
use Rattle.fwd_monitor.specs.declared.tally.RelayTally.{RelayTally}

-- the counts of one are those of the other
pub record IsCopyOf (t copy : RelayTally) : Type 0 where
  pub closed : copy.closed ≡ t.closed
  pub over_limit : copy.over_limit ≡ t.over_limit
  pub memory : copy.memory ≡ t.memory
  pub outputs : copy.outputs.items ≡ t.outputs.items
  pub servers : copy.servers.items ≡ t.servers.items
