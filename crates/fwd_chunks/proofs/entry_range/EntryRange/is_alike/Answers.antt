use Rattle.std.proofs.Common.{◌≡◌, ℕ, Bool, true, false, not, take, refl, sym, ap, ◌∙◌, arith}
use lib.Pointwise.{bytes_decides}
use Rattle.fwd_modes.specs.Entries.{ends_from}
use Rattle.fwd_chunks.specs.Cells.{size_of}
use Rattle.fwd_chunks.specs.Parts.{entries_in}
use Rattle.fwd_chunks.proofs.Packing.{row_same}
use Rattle.fwd_chunks.proofs.entry_range.EntryRange.is_alike.Goals as goal

is_so : (b : Bool) → false ≡ not b → b ≡ true
is_so true e = refl
is_so false e = absurd cc

pub returns : goal.returns
returns c same =
    let p = c.args.self in
    let q = c.args.other in
    let start : ℕ = size_of (take p.first p.batch.now.entries) in
    let place : start ≡ size_of (take q.first q.batch.now.entries) = omega (arith, c.end_of.ensures, c.end_of-2.ensures, c.if-end_of.false) in
    let ends : c.ends.result.now ≡ c.ends-2.result.now = (bytes_decides c.ends.result.now c.ends-2.result.now).0 (is_so _ (c.if-ne.ensures)) in
    let bytes : c.bytes.result.now ≡ c.bytes-2.result.now = (bytes_decides c.bytes.result.now c.bytes-2.result.now).0 (sym c.eq.ensures ∙ same) in
    row_same start (entries_in p) (entries_in q)
    (sym c.ends.ensures ∙ ends ∙ c.ends-2.ensures ∙ ap (λ s. ends_from s (entries_in q)) (sym place))
    (sym c.bytes.ensures.value ∙ bytes ∙ c.bytes-2.ensures.value)
