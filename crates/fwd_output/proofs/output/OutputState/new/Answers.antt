use Rattle.std.proofs.Common.{sym, subst, arith}
use Rattle.fwd_chunks.specs.History.{BufferSetting}
use Rattle.fwd_failover.specs.History.{ServersSetting}
use Rattle.fwd_model.specs.Outputs.{LiveOutput}
use Rattle.fwd_output.proofs.CouplingLemmas.{opening-coupled}
use Rattle.fwd_output.proofs.OutputLemmas.{Holds, begins}
use Rattle.fwd_output.proofs.output.OutputState.new.Goals as goal

pub invariant_of-result : goal.invariant_of-result
invariant_of-result c =
    let limits = c.args.limits in
    let setting : BufferSetting = record { limits = limits; run = c.args.run; output = c.args.output } in
    let servers : ServersSetting = record { standby = c.args.standby.now; retry_wait = limits.retry_wait; retry_max = limits.retry_max } in
    subst (λ (x : LiveOutput). Holds x.buffer x.book x.servers)
    (sym (λ i. record { buffer = c.new-2.ensures i; book = (c.new-3.ensures i).live; servers = c.in_ok-servers.ensures i }))
    (opening-coupled setting, begins setting servers (omega arith))
