-- What of a history still matters: of each server how often
-- it was lost since it last settled, and when last.
use Rattle.std.specs.Prelude.{ℕ, List, length, map, find, Bool, nat_lt, max, Option, Some, None, slice_index_or, slice_set, if◌then◌else◌}
use Rattle.std.specs.List.{enumerate_from}
use Rattle.fwd_base.specs.declared.losses.Losses.{Losses}
use Rattle.fwd_base.specs.Tallies.{tally_of, tally_more, live_is_over}
use Rattle.fwd_failover.specs.History.{ServersSetting, ServersHistory, losses_of}
use Rattle.fwd_failover.specs.Choices.{primaries, standbys, order_of}

-- the servers as they are now: who is a primary and who a standby, the limits of the waits, each
-- server's losses, and the greatest moment handed in
pub record LiveServers : Type 0 where
  pub primaries : List ℕ
  pub standbys : List ℕ
  pub retry_wait : ℕ
  pub retry_max : ℕ
  pub losses : List (Option Losses)
  pub moment : ℕ

-- what a history of the servers comes to
unfoldable pub live_servers : ServersSetting → ServersHistory → LiveServers
live_servers s h = record {
  primaries = primaries s;
  standbys = standbys s;
  retry_wait = s.retry_wait;
  retry_max = s.retry_max;
  losses = map (λ p. tally_of (losses_of s p.0 h.happened)) (enumerate_from 0 s.standby);
  moment = h.moment;
}

-- ---- the same question, asked of what is kept

-- a server may be tried at a moment; one that is not in the file has no losses
abbrev pub is_live_usable : LiveServers → ℕ → ℕ → Bool
is_live_usable l moment server =
    live_is_over l.retry_wait l.retry_max (slice_index_or l.losses server None) moment

-- the first in the worker's order that is usable, if there is one
abbrev pub live_choice : LiveServers → ℕ → ℕ → Option ℕ
live_choice l worker moment =
    find (is_live_usable l moment) (order_of l.primaries l.standbys worker)

-- ---- the same steps, taken on what is kept

-- at a moment, and with these losses
abbrev pub with_losses : LiveServers → List (Option Losses) → ℕ → LiveServers
with_losses l losses moment = record l { losses = losses; moment = moment }

-- after a look at the servers at a moment
abbrev pub live_looked : LiveServers → ℕ → LiveServers
live_looked l now = with_losses l l.losses (max l.moment now)

-- the losses of a server and one more at a moment, which counts only if the server might be tried
-- then
abbrev pub live_with_loss : (retry_wait retry_max : ℕ) → (losses : Option Losses) → (moment : ℕ)
    → Option Losses
live_with_loss retry_wait retry_max losses moment =
    if live_is_over retry_wait retry_max losses moment
    then Some (tally_more losses moment)
    else losses

-- after a loss of a server at a moment; an unknown server changes nothing
abbrev pub live_lost : LiveServers → ℕ → ℕ → LiveServers
live_lost l server now =
    if nat_lt server (length l.losses)
    then with_losses l
    (slice_set l.losses server
    (live_with_loss l.retry_wait l.retry_max (slice_index_or l.losses server None)
    (max l.moment now)))
    (max l.moment now)
    else l

-- after a server settled a chunk, which ends its losses; an unknown server changes nothing
abbrev pub live_settled : LiveServers → ℕ → LiveServers
live_settled l server =
    if nat_lt server (length l.losses)
    then with_losses l (slice_set l.losses server None) l.moment
    else l
