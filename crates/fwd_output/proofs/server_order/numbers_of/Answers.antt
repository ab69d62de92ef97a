use Rattle.std.proofs.Common.{◌∷◌, [], ◌++◌, ap, sym, ◌∙◌}
use Rattle.fwd_failover.proofs.Numbers.{places-taken, places-passed}
use Rattle.fwd_output.proofs.server_order.numbers_of.Goals as goal
use Rattle.fwd_output.proofs.server_order.numbers_of.Goals.{then-flag-kind+in_ok-push, else-flag-kind}

pub loop-number-preserved : goal.loop-number-preserved
loop-number-preserved c =
    elim c.if-flag-kind.branch [
      | then-flag-kind+in_ok-push w ↦
          ap (λ v. v.items) w.numbers-is ∙ w.in_ok-push.ensures.items
          ∙ ap (λ ns. ns ++ c.loop-number.number ∷ []) c.loop-number.invariant
          ∙ sym (places-taken c.args.kind c.args.standby.now c.loop-number.number c.loop-number-test.true w.if-flag-kind.true)
      | else-flag-kind w ↦
          ap (λ v. v.items) w.numbers-is ∙ c.loop-number.invariant
          ∙ sym (places-passed c.args.kind c.args.standby.now c.loop-number.number c.loop-number-test.true w.if-flag-kind.false)
    ]
