-- What is known of a source behind a visit, and what becomes of it.
use Rattle.std.specs.Prelude.{◌≡◌, ◌≤◌, ◌||◌, ℕ, Bool, true, false, not, Option, Some, None, if◌then◌else◌}
use Rattle.fwd_peers.specs.declared.peer_state.PeerState.TheVariants as stage
use Rattle.fwd_peers.specs.declared.close_reason.CloseReason.TheVariants as reason
use Rattle.fwd_peers.specs.declared.close_reason.PeerEnd.{PeerEnd}
use Rattle.fwd_peers.specs.declared.close_reason.PeerEnd.TheVariants as ended
use Rattle.fwd_peers.specs.Peers.{PeerShown, Reads, asks, end_by, is_free, is_too_long, stands}
use Rattle.fwd_turns.specs.declared.visiting.Visited.{Visited}
use Rattle.fwd_turns.specs.declared.visiting.After.{After}
use Rattle.fwd_turns.specs.declared.visiting.After.TheVariants.{Again, Waits, Kept, Rests, Goes}

-- its other side is gone, or it is over
abbrev pub is_left : Visited → Bool
is_left v = v.is_closing || not v.stands

-- what becomes of a source of which requests wait: where its other side is gone it is kept, but
-- goes if it sends again
abbrev pub after_waiting : Visited → After
after_waiting v = if is_left v then (if v.asks then Goes else Kept) else Waits

-- what becomes of a source behind a visit
abbrev pub after_of : Visited → After
after_of v =
    if v.waits then after_waiting v else
    if not v.stands then Goes else
    if v.may_have_more || v.is_free then Again else Rests

-- what is known of a source behind a visit: there may be more to be read, requests of it wait
-- longer, and the system told that it closed; the rest is seen of it
abbrev pub visited_of : (may_have_more waits is_closing : Bool) → PeerShown → Visited
visited_of may_have_more waits is_closing s = record {
  may_have_more = may_have_more;
  waits = waits;
  asks = asks s;
  is_closing = is_closing;
  stands = stands s.stage s.live.unsent;
  is_free = is_free s;
}

-- it was ended for want of memory
abbrev pub is_for_memory : Option PeerEnd → Bool
is_for_memory None = false
is_for_memory (Some ended.Memory) = true
is_for_memory (Some (ended.Closed why)) = false

-- a source that has yet to log in and sent more than a PING may have is over
abbrev pub judged : PeerShown → PeerShown
judged s =
    if is_too_long s
    then record s { stage = stage.Over; why = Some (end_by reason.NoLogin) }
    else s

-- a source is read once, at a moment, in a room of so many bytes, and judged by what came; there
-- may be more
pub record IsRead (now : ℕ) (to_end : Bool) (room : ℕ) (s : PeerShown) (more : Bool) (t : PeerShown)
    : Type 0 where
  pub most : ℕ
  pub within : most ≤ room
  pub between : PeerShown
  pub heard : Reads now to_end most s more between
  pub after : t ≡ judged between
