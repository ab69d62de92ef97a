-- What a relay shows, at any time: the live part of a history that a run reaches.
use Rattle.std.specs.Prelude.{◌≡◌, ℕ, ◌+◌, Some, None, slice_get}
use Rattle.fwd_source.specs.Live.{LiveSource}
use Rattle.fwd_book.specs.History.{request_at}
use Rattle.fwd_model.specs.declared.config.Config.{Config}
use Rattle.fwd_model.specs.History.{History, IsReached}
use Rattle.fwd_model.specs.Live.{LiveLane, LiveRelay, live, live_source_at}

-- a run from the opening state of some settings reaches a history of which this is the live part
pub record IsStanding (r : LiveRelay) : Type 0 where
  pub config : Config
  pub history : History
  pub reached : IsReached config history
  pub is : r ≡ live history

-- the output owes no answer to the request that is the next one of its connection
abbrev pub IsNew : ℕ → LiveSource → LiveLane → Type 0
IsNew id s l =
    request_at l.output.book.requests (record { conn = id; request = s.admitted + 1 }) ≡ None

-- no output owes an answer to the next request of a connection
abbrev pub AreNew : LiveRelay → Type 0
AreNew r = (id o : ℕ) (s : LiveSource) (l : LiveLane)
    → live_source_at id r.connections ≡ Some s → slice_get r.lanes o ≡ Some l → IsNew id s l
