use Rattle.std.proofs.Common.{◌≡◌, ◌≤◌, ◌+◌, ◌-◌, ◌^◌, drop}
use Rattle.std.specs.Prelude.{sum_by}
use Rattle.fwd_peers.specs.Costs.{bounded, upkeep}
use Rattle.fwd_reader.specs.Owing.{upkeep_of}
use Rattle.fwd_reader.proofs.output_route.upkeep_of.Given as goal

-- what was added so far, and what is still to be added
abbrev pub invariant-loop-receipt : goal.invariant-loop-receipt
invariant-loop-receipt l =
    (l.bytes ≤ 2 ^ 64 - 1)
    × (bounded (l.bytes + sum_by (λ r. upkeep r.tag r.chunk) (drop l.receipt-index l.receipts))
    ≡ upkeep_of l.receipts)
