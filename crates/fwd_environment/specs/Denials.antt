-- Why a server does not let the relay in.
use Rattle.std.specs.Prelude.{Bool, true, false}
use Rattle.fwd_session.specs.declared.fault.SessionFault.TheVariants as session
use Rattle.fwd_environment.specs.declared.link.LossReason.{LossReason}
use Rattle.fwd_environment.specs.declared.link.LossReason.TheVariants as loss

-- a server is lost, since it did not let the relay in
abbrev pub is_denial : LossReason → Bool
is_denial (loss.Fault session.Denied) = true
is_denial why = false
