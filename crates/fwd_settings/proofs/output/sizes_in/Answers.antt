use Rattle.std.proofs.Common.{refl}
use Rattle.fwd_settings.proofs.FirstLemmas.{told}
use Rattle.fwd_settings.proofs.output.sizes_in.Goals as goal

pub returns-in_err-chunk_limit : goal.returns-in_err-chunk_limit
returns-in_err-chunk_limit c =
    told _ _ _ c.in_err-chunk_limit.field-0.0 c.from_residual-in_err-chunk_limit.ensures.1 λ m.
    rw (
      c.in_ok-workers.ensures.reads.0,
      c.in_err-chunk_limit.ensures.reads m,
    )

pub returns-in_err-total_limit : goal.returns-in_err-total_limit
returns-in_err-total_limit c =
    told _ _ _ c.in_err-total_limit.field-0.0 c.from_residual-in_err-total_limit.ensures.1 λ m.
    rw (
      c.in_ok-workers.ensures.reads.0,
      c.in_ok-chunk_limit.ensures.reads.0,
      c.in_err-total_limit.ensures.reads m,
    )

pub returns : goal.returns
returns c = (
  rw (
    c.in_ok-workers.ensures.reads.0,
    c.in_ok-chunk_limit.ensures.reads.0,
    c.in_ok-total_limit.ensures.reads.0,
  ) refl,
  rw (
    c.in_ok-workers.ensures.reads.1,
    c.in_ok-chunk_limit.ensures.reads.1,
    c.in_ok-total_limit.ensures.reads.1,
  ) refl,
)
