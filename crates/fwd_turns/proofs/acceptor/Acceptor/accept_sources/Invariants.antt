use Rattle.fwd_turns.specs.Ids.{IsNoLess}
use Rattle.fwd_turns.proofs.acceptor.Acceptor.accept_sources.Given as goal

-- the next id has not fallen
abbrev pub invariant-loop : goal.invariant-loop
invariant-loop g l = IsNoLess l.fn.setup.ids.next l.setup.ids.next
