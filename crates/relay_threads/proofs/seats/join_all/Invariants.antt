use Rattle.std.specs.Prelude.{◌≡◌, ◌+◌, vec_len}
use Rattle.relay_threads.proofs.seats.join_all.Given as goal

-- each hand has a part still to be joined
abbrev pub invariant-loop-hand : goal.invariant-loop-hand
invariant-loop-hand g l =
    l.all.parts + vec_len l.hands ≡ l.fn.all.parts + vec_len l.fn.hands

abbrev pub decreases-loop-hand : goal.decreases-loop-hand
decreases-loop-hand g l = vec_len l.hands
