-- The definitions at work: a primary and a standby, a first
-- wait of 500 ms and a longest of 4,000 ms.
use Rattle.std.proofs.Common.{◌≡◌, [], ◌∷◌, true, false, Some, None, refl}
use Rattle.fwd_base.specs.Waits.{wait_after}
use Rattle.fwd_failover.specs.History.{ServersSetting, ServersHistory, Lost, Settled, opening, looked, lost, settled, losses_of}
use Rattle.fwd_failover.specs.Choices.{primaries, standbys, order_of, choice}
use Rattle.fwd_failover.specs.Live.{live_servers, live_choice}

-- ---- waits

first : wait_after 500 4000 1 ≡ 500
unfolding wait_after
first = refl

third : wait_after 500 4000 3 ≡ 2000
unfolding wait_after
third = refl

longest : wait_after 500 4000 5 ≡ 4000
unfolding wait_after
longest = refl

no_loss : wait_after 500 4000 0 ≡ 0
unfolding wait_after
no_loss = refl

-- in unbounded numbers: the 200th wait is no wrapped one
unbounded : wait_after 1 86400000 200 ≡ 86400000
unfolding wait_after
unbounded = refl

-- ---- the choice

abbrev pair : ServersSetting
pair = record { standby = false ∷ true ∷ []; retry_wait = 500; retry_max = 4000 }

abbrev once : ServersHistory
once = lost pair opening 0 1000

waits : choice pair once.happened 0 1200 ≡ Some 1
unfolding wait_after
waits = refl

still_waits : choice pair once.happened 0 1499 ≡ Some 1
unfolding wait_after
still_waits = refl

is_tried_again : choice pair once.happened 0 1500 ≡ Some 0
unfolding wait_after
is_tried_again = refl

-- a moment before the greatest so far counts as that
abbrev later : ServersHistory
later = looked once 1500

goes_not_back : choice pair later.happened 0 (looked later 1400).moment ≡ Some 0
unfolding wait_after
goes_not_back = refl

-- both are lost: none is left
abbrev both : ServersHistory
both = lost pair once 1 1100

none_is_left : choice pair both.happened 0 1100 ≡ None
unfolding wait_after
none_is_left = refl

-- a settling of the standby ends its wait, and no other server's
settles : choice pair (settled pair both 1).happened 0 1100 ≡ Some 1
unfolding wait_after
settles = refl

-- an unknown server changes nothing
unknown : lost pair once 2 9000 ≡ once
unknown = refl

-- three primaries and two standbys: each worker begins at its own place
abbrev five : ServersSetting
five = record {
  standby = true ∷ false ∷ false ∷ true ∷ false ∷ [];
  retry_wait = 1;
  retry_max = 1;
}

first_worker : order_of (primaries five) (standbys five) 0 ≡ 1 ∷ 2 ∷ 4 ∷ 0 ∷ 3 ∷ []
first_worker = refl

fifth_worker : order_of (primaries five) (standbys five) 4 ≡ 2 ∷ 4 ∷ 1 ∷ 0 ∷ 3 ∷ []
fifth_worker = refl

-- ---- what is kept

-- waits of 1 ms, so that each loss counts
abbrev short : ServersSetting
short = record { standby = false ∷ false ∷ []; retry_wait = 1; retry_max = 1 }

since_it_settled :
    losses_of short 0 (Lost 0 7 ∷ Lost 1 6 ∷ Lost 0 5 ∷ Settled 0 ∷ Lost 0 3 ∷ [])
    ≡ 7 ∷ 5 ∷ []
unfolding wait_after
since_it_settled = refl

-- ---- losses that count

-- eight sessions end in one outage: one loss, and a wait of 500 ms
one_outage :
    losses_of pair 0
    (Lost 0 1009 ∷ Lost 0 1003 ∷ Lost 0 1002 ∷ Lost 0 1001 ∷ Lost 0 1000 ∷ Lost 0 1000 ∷ [])
    ≡ 1000 ∷ []
unfolding wait_after
one_outage = refl

-- it is lost again once it may be tried: 500 ms later, and then 1,000 ms
lost_again :
    losses_of pair 0 (Lost 0 2499 ∷ Lost 0 1500 ∷ Lost 0 1499 ∷ Lost 0 1000 ∷ [])
    ≡ 1500 ∷ 1000 ∷ []
unfolding wait_after
lost_again = refl

-- a settling during the wait ends it: the next loss is a first one
lost_anew :
    losses_of pair 0 (Lost 0 1003 ∷ Settled 0 ∷ Lost 0 1001 ∷ Lost 0 1000 ∷ [])
    ≡ 1003 ∷ []
unfolding wait_after
lost_anew = refl

kept : live_servers pair both
    ≡ record {
      primaries = 0 ∷ [];
      standbys = 1 ∷ [];
      retry_wait = 500;
      retry_max = 4000;
      losses =
          Some (record { count = 1; last = 1000 }) ∷ Some (record { count = 1; last = 1100 })
          ∷ [];
      moment = 1100;
    }
unfolding live_servers
kept = refl

by_what_is_kept : live_choice (live_servers pair both) 0 1500 ≡ Some 0
unfolding live_servers wait_after
by_what_is_kept = refl
