use Rattle.std.proofs.Common.{◌≡◌, ℕ, List, take}
use Rattle.std.specs.Prelude.{slice_get, option_copied}
use Rattle.std.specs.List.{flat_map}
use Rattle.fwd_book.specs.ChunkRefs.{is_asked}
use Rattle.fwd_book.specs.Slots.{held_at}
use Rattle.fwd_book.specs.Links.{link_at, passing_at, AreChained}
use Rattle.fwd_book.proofs.connection_index.ConnectionIndex.origins.Given as goal

-- what is due of so many of the connection's requests is found, and the next one's slot is known
abbrev pub invariant-loop : goal.invariant-loop
invariant-loop l = (order : ℕ → List ℕ) → AreChained (link_at l.self.kept) l.self.ends.entries order
    → (l.origins.items ≡ flat_map (passing_at (is_asked (option_copied l.chunk_refs)) (held_at l.self.kept)) (take l.counter (order l.conn)))
    × (l.next ≡ slice_get (order l.conn) l.counter)
