use Rattle.std.proofs.Common.{arith, ◌≡◌, ◌+◌, [], drop, sym, ap, ◌∙◌}
use Rattle.std.specs.Prelude.{sum_by}
use Rattle.std.proofs.lemmas.List.{drop_all}
use Rattle.fwd_peers.specs.Costs.{bounded, upkeep}
use Rattle.fwd_reader.proofs.output_route.upkeep_of.Goals as goal

pub returns : goal.returns
returns c =
    let l = c.loop-receipt in
    let none : drop l.receipt-index c.args.receipts.now ≡ [] =
    drop_all l.receipt-index c.args.receipts.now (omega (arith, l.auto.receipt-index-end)) in
    let whole : bounded (l.bytes + 0) ≡ l.bytes = omega (arith, l.invariant.0) in
    sym (ap (λ rest. bounded (l.bytes + sum_by (λ r. upkeep r.tag r.chunk) rest)) none ∙ whole) ∙ l.invariant.1
