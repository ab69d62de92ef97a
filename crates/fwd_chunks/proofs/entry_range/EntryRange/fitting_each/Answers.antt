use Rattle.std.proofs.Common.{length, ap, arith}
use Rattle.fwd_chunks.proofs.Packing.{row_length}
use Rattle.fwd_chunks.proofs.Filling.{fitting-over}
use Rattle.fwd_chunks.specs.Parts.{entries_in}
use Rattle.fwd_chunks.proofs.entry_range.EntryRange.fitting_each.Goals as goal

pub returns-in_default : goal.returns-in_default
returns-in_default c = fitting-over c.args.limit c.args.used (entries_in c.args.self) (omega (arith, c.in_default.ensures))

pub overflow_add-count : goal.overflow_add-count
overflow_add-count c =
    let p = c.args.self in
    omega (arith, c.loop-entry.invariant.left, ap length c.in-Some-entry.ensures.steps, row_length p.first p.count p.batch.now.entries p.within, p.bound)
