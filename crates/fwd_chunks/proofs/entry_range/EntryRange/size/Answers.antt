use Rattle.std.proofs.Common.{arith}
use Rattle.fwd_chunks.proofs.Packing.{row_size, row_few}
use Rattle.fwd_chunks.proofs.entry_range.EntryRange.size.Goals as goal

pub overflow_sub-result : goal.overflow_sub-result
overflow_sub-result c =
    let p = c.args.self in
    omega (arith, c.end_of.ensures, c.end_of-end.ensures, row_size p.first p.count p.batch.now.entries)

pub returns-clause-value : goal.returns-clause-value
returns-clause-value c =
    let p = c.args.self in
    omega (arith, c.end_of.ensures, c.end_of-end.ensures, row_size p.first p.count p.batch.now.entries)

pub returns-clause-each : goal.returns-clause-each
returns-clause-each c =
    let p = c.args.self in
    let es = p.batch.now.entries in
    omega (arith, c.end_of.ensures, c.end_of-end.ensures, row_size p.first p.count es, row_few p.first p.count es c.entries-bytes.ensures.full)
