use Rattle.std.specs.Prelude.{◌≡◌}
use Rattle.fwd_output.specs.Seats.{parts_of, counts_of}
use Rattle.fwd_output.proofs.tally.Ledgered.audit.Given as goal

-- the parts and the amounts of the seats so far are together
abbrev pub invariant-loop-seat : goal.invariant-loop-seat
invariant-loop-seat g l = (l.all.parts ≡ parts_of l.yielded) × (l.all.amount ≡ counts_of l.yielded)
