use Rattle.std.proofs.Common.{◌∙◌, arith}
use Rattle.fwd_chunks.specs.Listing.{unpacked}
use Rattle.fwd_chunks.proofs.Unpacking.{unpacks-first, unpacks-fit, unpacks-next, unpacks-last}
use Rattle.fwd_chunks.proofs.tag_list.TagList.unpacked.Goals as goal

pub loop-row-init : goal.loop-row-init
loop-row-init c =
    rw (c.in_ok-counts.ensures.items, c.deref-row-items.ensures.value, c.as_slice-names.ensures.value) (unpacks-first c.self.inside.rows.items c.self.inside.names.items c.self.invariant)

pub split_at-requires : goal.split_at-requires
split_at-requires c = unpacks-fit c.deref-row-items.result.now c.as_slice-names.result.now c.loop-row.names.now c.loop-row.counts.items c.loop-row.row-index _ c.loop-row.invariant c.loop-row-test.true

pub loop-row-preserved : goal.loop-row-preserved
loop-row-preserved c =
    rw (c.in_ok-push.ensures.items, c.in_ok-count.ensures, c.split_at.ensures.back, c.split_at.ensures.front)
    (unpacks-next c.deref-row-items.result.now c.as_slice-names.result.now c.loop-row.names.now c.loop-row.counts.items c.loop-row.row-index _ c.loop-row.invariant c.loop-row-test.true)

pub returns : goal.returns
returns c =
    unpacks-last c.deref-row-items.result.now c.as_slice-names.result.now c.loop-row.names.now c.loop-row.counts.items c.loop-row.row-index c.loop-row.invariant (omega (arith, c.loop-row-test.false))
    ∙ (λ i. unpacked (c.deref-row-items.ensures.value i) (c.as_slice-names.ensures.value i))
    ∙ c.self.view_is
