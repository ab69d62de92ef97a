use Rattle.std.proofs.Common.{◌≡◌, suc, ◌-◌, ◌<◌, length, take, slice_index_or, ap, ◌∙◌, arith}
use Rattle.fwd_modes.proofs.EntryLemmas.{length_ends}
use Rattle.fwd_chunks.specs.Cells.{size_of}
use Rattle.fwd_chunks.proofs.Packing.{end_at}
use Rattle.fwd_chunks.proofs.entry_range.end_of.Goals as goal

pub bounds-ends-count : goal.bounds-ends-count
bounds-ends-count c = omega (arith, c.requires, ap length c.ends.ensures, length_ends 0 c.args.batch.now.entries, c.if-count-eq0.false)

pub returns-else-count-eq0 : goal.returns-else-count-eq0
returns-else-count-eq0 c =
    let es = c.args.batch.now.entries in
    let some : 0 < c.args.count = omega (arith, c.if-count-eq0.false) in
    let again : suc (c.args.count - 1) ≡ c.args.count = omega (arith, some) in
    ap (λ ns. slice_index_or ns (c.args.count - 1) 0) c.ends.ensures
    ∙ end_at (c.args.count - 1) 0 es (omega (arith, c.requires, some)) ∙ ap (λ n. size_of (take n es)) again
