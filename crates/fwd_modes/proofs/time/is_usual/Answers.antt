use Rattle.std.proofs.Common.{get_or}
use Rattle.std.proofs.lemmas.Bool.{eqb-true}
use Rattle.fwd_modes.proofs.TimeLemmas.{are_seconds, is_event}
use Rattle.fwd_modes.proofs.time.is_usual.Goals as goal

pub returns-in-5 : goal.returns-in-5
returns-in-5 c = λ e. are_seconds c.args.bytes.now c.in-5.is (eqb-true (get_or c.args.bytes.now 0 0) 0xce e)

pub returns-then-bytes : goal.returns-then-bytes
returns-then-bytes c = λ e.
    is_event c.args.bytes.now c.in-10.is c.if-bytes.true (eqb-true (get_or c.args.bytes.now 1 0) 0 e)
