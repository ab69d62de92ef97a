use Rattle.std.proofs.Common.{◌≡◌, take}
use Rattle.std.specs.List.{flat_map}
use Rattle.fwd_book.specs.Receipts.{part_of}
use Rattle.fwd_book.specs.ChunkRefs.{found_at}
use Rattle.fwd_book.proofs.chunk_refs.ChunkRefs.parts_of.Given as goal

-- the runs so far have their parts
abbrev pub invariant-loop-span : goal.invariant-loop-span
invariant-loop-span l = l.parts.items ≡ flat_map (λ s. part_of (found_at l.self.notes s.number) s) (take l.span-index l.spans)
