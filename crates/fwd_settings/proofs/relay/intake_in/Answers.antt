use Rattle.std.proofs.Common.{refl}
use Rattle.fwd_settings.proofs.FirstLemmas.{told}
use Rattle.fwd_settings.proofs.relay.intake_in.Goals as goal

pub returns-in_err-connections : goal.returns-in_err-connections
returns-in_err-connections c =
    told _ _ _ c.in_err-connections.field-0.0 c.from_residual.ensures.1 λ m. rw (c.in_err-connections.ensures.reads m)

pub returns-in_err-message_limit : goal.returns-in_err-message_limit
returns-in_err-message_limit c =
    told _ _ _ c.in_err-message_limit.field-0.0 c.from_residual-in_err-message_limit.ensures.1 λ m.
    rw (
      c.in_ok-connections.ensures.reads.0,
      c.in_err-message_limit.ensures m,
    )

pub returns-in_err-depth : goal.returns-in_err-depth
returns-in_err-depth c =
    told _ _ _ c.in_err-depth.field-0.0 c.from_residual-in_err-depth.ensures.1 λ m.
    rw (
      c.in_ok-connections.ensures.reads.0,
      c.in_ok-message_limit.ensures.0,
      c.in_err-depth.ensures.reads m,
    )

pub returns-in_err-readers : goal.returns-in_err-readers
returns-in_err-readers c =
    told _ _ _ c.in_err-readers.field-0.0 c.from_residual-in_err-readers.ensures.1 λ m.
    rw (
      c.in_ok-connections.ensures.reads.0,
      c.in_ok-message_limit.ensures.0,
      c.in_ok-depth.ensures.reads.0,
      c.in_err-readers.ensures.reads m,
    )

pub returns : goal.returns
returns c = (
  rw (
    c.in_ok-connections.ensures.reads.0,
    c.in_ok-message_limit.ensures.0,
    c.in_ok-depth.ensures.reads.0,
    c.in_ok-readers.ensures.reads.0,
  ) refl,
  rw (
    c.in_ok-connections.ensures.reads.1,
    c.in_ok-message_limit.ensures.1,
    c.in_ok-depth.ensures.reads.1,
    c.in_ok-readers.ensures.reads.1,
  ) refl,
)
