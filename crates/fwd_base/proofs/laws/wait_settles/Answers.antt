use Rattle.std.proofs.Common.{◌≡◌, min, sym, ap, ◌∙◌, arith}
use Rattle.fwd_base.specs.Waits.{wait_after}
use Rattle.fwd_base.proofs.Doublings.{wait_settles}
use Rattle.fwd_base.proofs.laws.wait_settles.Goals as goal

pub returns : goal.returns
returns c = λ retry_wait retry_max losses fits past.
    let cut : min 65 losses ≡ 65 = omega arith in
    sym (wait_settles retry_wait retry_max losses fits) ∙ ap (wait_after retry_wait retry_max) cut
