use Rattle.std.proofs.Common.{refl}
use Rattle.fwd_settings.proofs.FirstLemmas.{told}
use Rattle.fwd_settings.proofs.output.waits_in.Goals as goal

pub returns-in_err-flush_interval : goal.returns-in_err-flush_interval
returns-in_err-flush_interval c =
    told _ _ _ c.in_err-flush_interval.field-0.0 c.from_residual.ensures.1 λ m. rw (c.in_err-flush_interval.ensures.reads m)

pub returns-in_err-retry_wait : goal.returns-in_err-retry_wait
returns-in_err-retry_wait c =
    told _ _ _ c.in_err-retry_wait.field-0.0 c.from_residual-in_err-retry_wait.ensures.1 λ m.
    rw (
      c.in_ok-flush_interval.ensures.reads.0,
      c.in_err-retry_wait.ensures.reads m,
    )

pub returns-in_err-retry_max : goal.returns-in_err-retry_max
returns-in_err-retry_max c =
    told _ _ _ c.in_err-retry_max.field-0.0 c.from_residual-in_err-retry_max.ensures.1 λ m.
    rw (
      c.in_ok-flush_interval.ensures.reads.0,
      c.in_ok-retry_wait.ensures.reads.0,
      c.in_err-retry_max.ensures m,
    )

pub returns-in_err-ack_wait : goal.returns-in_err-ack_wait
returns-in_err-ack_wait c =
    told _ _ _ c.in_err-ack_wait.field-0.0 c.from_residual-in_err-ack_wait.ensures.1 λ m.
    rw (
      c.in_ok-flush_interval.ensures.reads.0,
      c.in_ok-retry_wait.ensures.reads.0,
      c.in_ok-retry_max.ensures.0,
      c.in_err-ack_wait.ensures.reads m,
    )

pub returns-in_err-window : goal.returns-in_err-window
returns-in_err-window c =
    told _ _ _ c.in_err-window.field-0.0 c.from_residual-in_err-window.ensures.1 λ m.
    rw (
      c.in_ok-flush_interval.ensures.reads.0,
      c.in_ok-retry_wait.ensures.reads.0,
      c.in_ok-retry_max.ensures.0,
      c.in_ok-ack_wait.ensures.reads.0,
      c.in_err-window.ensures.reads m,
    )

pub returns : goal.returns
returns c = (
  rw (
    c.in_ok-flush_interval.ensures.reads.0,
    c.in_ok-retry_wait.ensures.reads.0,
    c.in_ok-retry_max.ensures.0,
    c.in_ok-ack_wait.ensures.reads.0,
    c.in_ok-window.ensures.reads.0,
  ) refl,
  rw (
    c.in_ok-flush_interval.ensures.reads.1,
    c.in_ok-retry_wait.ensures.reads.1,
    c.in_ok-retry_max.ensures.1,
    c.in_ok-ack_wait.ensures.reads.1,
    c.in_ok-window.ensures.reads.1,
  ) refl,
)
