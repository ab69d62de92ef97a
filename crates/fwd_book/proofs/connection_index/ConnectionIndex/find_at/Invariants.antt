use Rattle.std.proofs.Common.{◌≡◌, ℕ, false, List, take}
use Rattle.std.specs.Prelude.{slice_get}
use Rattle.std.specs.List.{list_any}
use Rattle.fwd_book.specs.Slots.{has_origin, held_at}
use Rattle.fwd_book.specs.Links.{link_at, AreChained}
use Rattle.fwd_book.proofs.connection_index.ConnectionIndex.find_at.Given as goal

-- so many of the connection's requests are others, and the next one's slot is known
abbrev pub invariant-loop : goal.invariant-loop
invariant-loop l = (order : ℕ → List ℕ) → AreChained (link_at l.self.kept) l.self.ends.entries order
    → (list_any (λ k. has_origin l.origin (held_at l.self.kept k)) (take l.counter (order l.origin.conn)) ≡ false)
    × (l.next ≡ slice_get (order l.origin.conn) l.counter)
