use Rattle.std.proofs.Common.{rules, ◌≡◌, ◌<◌, length, drop, ap, arith}
use Rattle.fwd_chunks.specs.Filling.{needed, cut_count}
use Rattle.fwd_chunks.specs.Parts.{entries_in}
use Rattle.fwd_chunks.proofs.Packing.{row_length}
use Rattle.fwd_chunks.proofs.Admission.{count-some, needed-first}
use Rattle.std.proofs.lemmas.List.{length-drop}
use Rattle.fwd_chunks.proofs.entry_range.EntryRange.needed.Goals as goal

pub overflow_add-count : goal.overflow_add-count
overflow_add-count c =
    let p = c.args.self in
    let some : 0 < length (entries_in c.loop-rest.rest) = search rules in
    omega (arith, some, c.loop-rest.invariant.within, row_length p.first p.count p.batch.now.entries p.within, p.bound)

pub loop-rest-preserved : goal.loop-rest-preserved
loop-rest-preserved c =
    let es = entries_in c.loop-rest.rest in
    let some : 0 < length es = search rules in
    let back : entries_in c.cut.result.1 ≡ drop (cut_count c.args.limit es) es = c.cut.ensures.back in
    record {
      value = omega (arith, ap (needed c.args.limit) back, needed-first c.args.limit es some, c.loop-rest.invariant.value);
      within = omega (arith, ap length back, length-drop (cut_count c.args.limit es) es, count-some c.args.limit es some, some, c.loop-rest.invariant.within);
    }
