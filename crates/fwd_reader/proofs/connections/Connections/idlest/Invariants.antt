use Rattle.std.proofs.Common.{◌≡◌, None}
use Rattle.slab.specs.Slab.{entries}
use Rattle.fwd_reader.proofs.Idlest.{idlest_after}
use Rattle.fwd_reader.proofs.connections.Connections.idlest.Given as goal

-- what the entries that are left come to behind what was found is what all come to
abbrev pub invariant-loop-key : goal.invariant-loop-key
invariant-loop-key g l =
    (goal.iterator-loop-key g).can_next l.key-iterator ×
    (goal.iterator-loop-key g).is_finite l.key-iterator ×
    (idlest_after l.idlest l.key-iterator ≡ idlest_after None (entries l.self.opened))
