-- The history of an output's servers: every loss and every settling so far, with nothing removed.
use Rattle.std.specs.Prelude.{ℕ, ◌+◌, List, [], ◌∷◌, length, Bool, true, nat_le, nat_lt, ◌==◌, max, if◌then◌else◌}
use Rattle.fwd_base.specs.Waits.{wait_after}

-- what the servers are set to: which are standbys, in file
-- order, and the two limits of the waits in milliseconds
pub record ServersSetting : Type 0 where
  pub standby : List Bool
  pub retry_wait : ℕ
  pub retry_max : ℕ

-- a server was lost at a moment, or it settled a chunk
pub data Happening : Type 0 where
  Lost : (server moment : ℕ) → Happening
  Settled : (server : ℕ) → Happening

-- what happened, the newest first, and the greatest moment handed in, in milliseconds
pub record ServersHistory : Type 0 where
  pub happened : List Happening
  pub moment : ℕ

-- before anything happened
abbrev pub opening : ServersHistory
opening = record { happened = []; moment = 0 }

-- the server is in the file
abbrev pub is_known : ServersSetting → ℕ → Bool
is_known s server = nat_lt server (length s.standby)

-- ---- what comes next

-- after a look at the servers at a moment: a smaller moment counts as the greatest so far
abbrev pub looked : ServersHistory → ℕ → ServersHistory
looked h now = record { happened = h.happened; moment = max h.moment now }

-- after a loss of a server at a moment; an unknown server changes nothing
abbrev pub lost : ServersSetting → ServersHistory → ℕ → ℕ → ServersHistory
lost s h server now =
    if is_known s server
    then record {
      happened = Lost server (max h.moment now) ∷ h.happened;
      moment = max h.moment now;
    }
    else h

-- after a server settled a chunk; an unknown server changes nothing
abbrev pub settled : ServersSetting → ServersHistory → ℕ → ServersHistory
settled s h server =
    if is_known s server
    then record { happened = Settled server ∷ h.happened; moment = h.moment }
    else h

-- ---- what it says of a server

-- a server with these losses, the newest first, may be tried at
-- a moment: it has none, or its wait after the newest is over
abbrev pub is_over : ServersSetting → List ℕ → ℕ → Bool
is_over s [] moment = true
is_over s (newest ∷ older) moment =
    nat_le (newest + wait_after s.retry_wait s.retry_max (length (newest ∷ older))) moment

-- the losses of a server and one more at a moment, which counts only if the server might be tried
-- then: several sessions that end in one outage are one loss
abbrev pub with_loss : ServersSetting → (losses : List ℕ) → (moment : ℕ) → List ℕ
with_loss s losses moment = if is_over s losses moment then moment ∷ losses else losses

-- the moments of the losses of a server that count since it last settled a chunk, the newest first
abbrev pub losses_of : ServersSetting → (server : ℕ) → List Happening → List ℕ
losses_of s server [] = []
losses_of s server (Lost other moment ∷ before) =
    if other == server
    then with_loss s (losses_of s server before) moment
    else losses_of s server before
losses_of s server (Settled other ∷ before) =
    if other == server then [] else losses_of s server before
