use Rattle.std.proofs.Common.{inl, inr}
use Rattle.fwd_output.proofs.CarriedLemmas.{carried-or}
use Rattle.fwd_output.proofs.output.put_back.Goals as goal

pub returns-clause-either : goal.returns-clause-either
returns-clause-either c =
    elim (carried-or c.args.buffer.now c.args.carried) [
      | inl is ↦ inl (c.free.ensures.here is)
      | inr not ↦ inr (c.free.ensures.elsewhere not)
    ]
