use Rattle.std.proofs.Common.{◌≡◌, ◌≤◌, ◌+◌, [], Some, length}
use Rattle.fwd_workers.specs.Placed.{Becomes, with}
use Rattle.fwd_workers.specs.Working.{entries_in}
use Rattle.fwd_workers.proofs.upstream_end.end_upstream.Given as goal

-- a seat is the same where nothing was accepted at the beginning, and nothing is then; its parts
-- are the same, and its count is no less, nor more than with what was accepted and is no more; the
-- worker has the session as it is, and the chunk that it took
abbrev pub invariant-loop-seat : goal.invariant-loop-seat
invariant-loop-seat g l =
    (l.fn.upstream.session.accepted ≡ []
    → (l.upstream.session.accepted ≡ []) × (l.seat ≡ l.fn.seat))
    × (g.S.Tally.count l.fn.seat ≤ g.S.Tally.count l.seat)
    × (g.S.Tally.parts l.seat ≡ g.S.Tally.parts l.fn.seat)
    × (g.S.Tally.count l.seat + g.S.Tally.kept (entries_in l.upstream.session.accepted)
    ≤ g.S.Tally.count l.fn.seat + g.S.Tally.kept (entries_in l.fn.upstream.session.accepted))
    × (Becomes l.fn.page l.page (with l.fn.taken (Some l.upstream.session)))

-- how many chunks are accepted still
abbrev pub decreases-loop-seat : goal.decreases-loop-seat
decreases-loop-seat g l = length l.upstream.session.accepted
