use Rattle.std.proofs.Common.{length, take, drop, ap, ◌∙◌, arith, length-drop}
use Rattle.fwd_modes.proofs.EntryLemmas.{length_ends}
use Rattle.fwd_chunks.proofs.Packing.{row_ends}
use Rattle.fwd_chunks.proofs.entry_range.EntryRange.ends.Goals as goal

pub split_at-requires : goal.split_at-requires
split_at-requires c =
    let p = c.args.self in
    omega (arith, ap length c.ends.ensures, length_ends 0 p.batch.now.entries, p.within)

pub split_at-requires-2 : goal.split_at-requires-2
split_at-requires-2 c =
    let p = c.args.self in
    omega (arith, ap length c.split_at.ensures.back, length-drop p.first c.ends.result.now, ap length c.ends.ensures, length_ends 0 p.batch.now.entries, p.within)

pub returns : goal.returns
returns c =
    let p = c.args.self in
    c.split_at-2.ensures.front ∙ ap (take p.count) (c.split_at.ensures.back ∙ ap (drop p.first) c.ends.ensures) ∙ row_ends p.first p.count p.batch.now.entries
