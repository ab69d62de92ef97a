use Rattle.std.proofs.Common.{◌≡◌}
use Rattle.fwd_reader.specs.Owing.{owed_at_each}
use Rattle.fwd_reader.proofs.admission.Admission.tend.Given as goal

-- as much is owed as before
abbrev pub invariant-loop-output : goal.invariant-loop-output
invariant-loop-output g l = owed_at_each l.self ≡ owed_at_each l.fn.self
