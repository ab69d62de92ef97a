use Rattle.std.specs.Prelude.{◌≡◌, ◌+◌, vec_len}
use Rattle.relay_threads.proofs.seats.deal.Given as goal

-- as many parts were split off as there are hands, one for each tool that is no more
abbrev pub invariant-loop-tool : goal.invariant-loop-tool
invariant-loop-tool g l =
    (l.all.parts + vec_len l.hands ≡ l.fn.all.parts)
    × (vec_len l.hands + vec_len l.tools ≡ vec_len l.fn.tools)

abbrev pub decreases-loop-tool : goal.decreases-loop-tool
decreases-loop-tool g l = vec_len l.tools
