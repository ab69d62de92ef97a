-- What a request without a fault beside its entries can still come to.
use Rattle.std.proofs.Common.{◌≡◌, List, ℕ, Option, Some, None, Ok}
use Rattle.fwd_modes.specs.Requests.Reading.{Heartbeat as heartbeat, Fails as fails}
use Rattle.fwd_modes.specs.Readings.{judged}
use Rattle.fwd_modes.specs.declared.envelope.Envelope.{Envelope}
use Rattle.fwd_modes.specs.declared.fault.InputFault.{InputFault}
use Rattle.fwd_modes.specs.declared.fault.InputFault.TheVariants.{BadEntry}

-- no other fault than that of an entry
pub only_bad_entry : (entries : Option (List (List ℕ))) (asked : Envelope) (fault : InputFault)
    → judged entries (Ok asked) ≡ fails fault → fault ≡ BadEntry
only_bad_entry None asked fault e = cc
only_bad_entry (Some entries) asked fault e = absurd cc

pub no_heartbeat : (entries : Option (List (List ℕ))) (asked : Envelope)
    → judged entries (Ok asked) ≡ heartbeat → ⊥
no_heartbeat None asked e = cc
no_heartbeat (Some entries) asked e = cc
