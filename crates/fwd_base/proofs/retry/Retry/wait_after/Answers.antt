use Rattle.std.proofs.Common.{◌≡◌, suc, ◌-◌, ◌^◌, ◌<◌, sym, ap, ◌∙◌, arith}
use Rattle.fwd_base.specs.Waits.{wait_after}
use Rattle.fwd_base.proofs.Doublings.{wait_cut_off}
use Rattle.fwd_base.proofs.retry.Retry.wait_after.Goals as goal

pub returns-then-losses-eq0 : goal.returns-then-losses-eq0
unfolding wait_after
returns-then-losses-eq0 c = ap (wait_after c.args.self.wait c.args.self.max) (sym c.if-losses-eq0.true)

pub returns : goal.returns
returns c =
    let fits : c.args.self.max < 2 ^ 64 = omega arith in
    let again : suc (c.args.losses - 1) ≡ c.args.losses = omega arith in
    rw (c.min.ensures, c.saturating_mul.ensures, c.saturating_pow-factor.ensures, c.min-doublings.ensures)
    (wait_cut_off c.args.self.wait c.args.self.max (c.args.losses - 1) fits ∙ ap (wait_after c.args.self.wait c.args.self.max) again)
