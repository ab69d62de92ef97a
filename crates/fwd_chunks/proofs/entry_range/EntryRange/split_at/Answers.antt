use Rattle.std.proofs.Common.{arith}
use Rattle.fwd_chunks.proofs.Packing.{row_length, row_back}
use Rattle.fwd_chunks.proofs.entry_range.EntryRange.split_at.Goals as goal

pub returns-clause-back : goal.returns-clause-back
returns-clause-back c =
    let p = c.args.self in
    let es = p.batch.now.entries in
    row_back p.first p.count c.args.count es (omega (arith, c.requires, row_length p.first p.count es p.within))
