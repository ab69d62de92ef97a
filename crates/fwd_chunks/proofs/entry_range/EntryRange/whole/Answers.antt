use Rattle.std.proofs.Common.{ap, arith}
use Rattle.std.proofs.lemmas.List.{take_all}
use Rattle.fwd_chunks.specs.Cells.{size_of}
use Rattle.fwd_chunks.proofs.Packing.{size_joined, few}
use Rattle.fwd_chunks.proofs.entry_range.EntryRange.whole.Goals as goal

pub overflow_cast-result : goal.overflow_cast-result
overflow_cast-result c =
    let es = c.args.batch.now.entries in
    omega (arith, c.len.ensures.value, few es c.entries-bytes.ensures.full, size_joined es, c.len.ensures.bound)

pub invariant_of-result : goal.invariant_of-result
invariant_of-result c =
    let es = c.args.batch.now.entries in
    record { within = omega (arith, c.len.ensures.value); bound = omega (arith, c.len.ensures.value, few es c.entries-bytes.ensures.full, size_joined es, c.len.ensures.bound) }

pub returns-clause-bound : goal.returns-clause-bound
returns-clause-bound c =
    let es = c.args.batch.now.entries in
    omega (arith, ap size_of (take_all c.len.result es (omega (arith, c.len.ensures.value))), size_joined es, c.len.ensures.bound)
