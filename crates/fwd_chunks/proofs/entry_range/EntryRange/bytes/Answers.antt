use Rattle.std.proofs.Common.{◌≡◌, ◌+◌, ◌-◌, length, take, drop, ap, ◌∙◌, arith, length-drop}
use Rattle.fwd_chunks.specs.Cells.{size_of}
use Rattle.fwd_chunks.specs.Parts.{entries_in}
use Rattle.fwd_chunks.proofs.Packing.{size_joined, size_take, row_size, row_bytes, row_few}
use Rattle.fwd_chunks.proofs.entry_range.EntryRange.bytes.Goals as goal

pub split_at-requires : goal.split_at-requires
split_at-requires c =
    let p = c.args.self in
    let es = p.batch.now.entries in
    omega (arith, c.end_of-start.ensures, size_take p.first es, size_joined es, ap length c.entries.ensures.value)

pub overflow_sub-end : goal.overflow_sub-end
overflow_sub-end c =
    let p = c.args.self in
    omega (arith, c.end_of-start.ensures, c.end_of-end.ensures, row_size p.first p.count p.batch.now.entries)

pub split_at-requires-2 : goal.split_at-requires-2
split_at-requires-2 c =
    let p = c.args.self in
    let es = p.batch.now.entries in
    omega (
      arith,
      c.end_of-end.ensures,
      c.end_of-start.ensures,
      size_take (p.first + p.count) es,
      size_joined es,
      ap length c.entries.ensures.value,
      ap length c.split_at.ensures.back,
      length-drop c.end_of-start.result c.entries.result.now,
    )

pub returns-clause-value : goal.returns-clause-value
returns-clause-value c =
    let p = c.args.self in
    let es = p.batch.now.entries in
    let long : c.end_of-end.result - c.end_of-start.result ≡ size_of (entries_in p) = omega (arith, c.end_of-start.ensures, c.end_of-end.ensures, row_size p.first p.count es) in
    c.split_at-2.ensures.front ∙ (λ i. take (long i) ((c.split_at.ensures.back ∙ (λ j. drop (c.end_of-start.ensures j) (c.entries.ensures.value j))) i)) ∙ row_bytes p.first p.count es

pub returns-clause-some : goal.returns-clause-some
returns-clause-some c some =
    let p = c.args.self in
    let es = p.batch.now.entries in
    omega (arith, some, ap length (returns-clause-value c), size_joined (entries_in p), row_few p.first p.count es c.entries.ensures.full)
