use Rattle.std.proofs.Common.{◌≡◌, take, drop, max, ap, ◌∙◌, arith}
use Rattle.fwd_chunks.specs.Filling.{cut_count}
use Rattle.fwd_chunks.specs.Parts.{entries_in}
use Rattle.fwd_chunks.proofs.Admission.{count-is, count-within}
use Rattle.fwd_chunks.proofs.entry_range.EntryRange.cut.Goals as goal

pub split_at-requires : goal.split_at-requires
split_at-requires c =
    let es = entries_in c.args.self in
    let count : c.max-count.result ≡ cut_count c.args.limit es = c.max-count.ensures ∙ ap (λ n. max n 1) c.fitting.ensures ∙ count-is c.args.limit es c.requires in
    omega (arith, count, count-within c.args.limit es)

pub returns : goal.returns
returns c =
    let es = entries_in c.args.self in
    let count : c.max-count.result ≡ cut_count c.args.limit es = c.max-count.ensures ∙ ap (λ n. max n 1) c.fitting.ensures ∙ count-is c.args.limit es c.requires in
    record { front = c.split_at.ensures.front ∙ ap (λ n. take n es) count; back = c.split_at.ensures.back ∙ ap (λ n. drop n es) count }
