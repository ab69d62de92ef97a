-- What of losses still matters: how many there were, and when the newest was.
use Rattle.std.specs.Prelude.{
  ℕ,
  ◌+◌,
  ◌^◌,
  Bool,
  true,
  List,
  [],
  ◌∷◌,
  length,
  min,
  nat_le,
  nat_lt,
  Option,
  Some,
  None,
  if◌then◌else◌,
}
use Rattle.fwd_base.specs.declared.losses.Losses.{Losses}
use Rattle.fwd_base.specs.declared.retry.Retry.{Retry}
use Rattle.fwd_base.specs.Waits.{wait_after}

-- the count of losses, where 65 stands for every greater one, and the newest; nothing where there
-- is none
abbrev pub tally_of : List ℕ → Option Losses
tally_of [] = None
tally_of (newest ∷ older) =
    Some (record { count = min 65 (length (newest ∷ older)); last = newest })

-- one loss more
abbrev pub tally_more : Option Losses → ℕ → Losses
tally_more None moment = record { count = 1; last = moment }
tally_more (Some l) moment = record { count = min 65 (l.count + 1); last = moment }

-- the wait after the newest loss is over
abbrev pub live_is_over : ℕ → ℕ → Option Losses → ℕ → Bool
live_is_over retry_wait retry_max None moment = true
live_is_over retry_wait retry_max (Some l) moment =
    nat_le (l.last + wait_after retry_wait retry_max l.count) moment

-- a moment, if 64 bits hold it
abbrev pub within_bits : ℕ → Option ℕ
within_bits moment = if nat_lt moment (2 ^ 64) then Some moment else None

-- the end of the wait after losses
abbrev pub end_of_wait : Retry → Option Losses → Option ℕ
end_of_wait retry None = Some 0
end_of_wait retry (Some l) = within_bits (l.last + wait_after retry.wait retry.max l.count)
