use Rattle.std.proofs.Common.{◌≡◌, length, ap, subst, ◌∙◌, arith}
use Rattle.std.specs.List.{concat}
use Rattle.std.specs.Arc.{arc_value}
use Rattle.fwd_chunks.specs.Cells.{size_of}
use Rattle.fwd_chunks.specs.Rows.{joined, AreLong}
use Rattle.fwd_chunks.proofs.Packing.{size_joined}
use Rattle.fwd_chunks.proofs.Sending.{begun_first}
use Rattle.fwd_chunks.proofs.send_cursor.SendCursor.new.Goals as goal

pub invariant_of-result : goal.invariant_of-result
invariant_of-result c =
    let rows = arc_value c.args.slices in
    let long : AreLong rows = subst AreLong c.deref.ensures c.as_slice-slices.ensures.long in
    let size : c.size-left.result ≡ length (concat (joined rows)) = c.size-left.ensures.value ∙ ap (λ rs. size_of (joined rs)) c.deref-2.ensures ∙ size_joined (joined rows) in
    record { long = long; small = omega (arith, size, c.size-left.ensures.bound); within = omega arith; begun = begun_first rows long; left = size }
