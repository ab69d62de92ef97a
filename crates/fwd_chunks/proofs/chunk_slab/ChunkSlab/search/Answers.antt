use Rattle.std.proofs.Common.{◌∙◌, ◌+◌, ◌-◌, ◌/◌, sym, arith}
use Rattle.fwd_chunks.proofs.Search.{number-place, place-below, place-above, place-nowhere}
use Rattle.fwd_chunks.proofs.Shelving.{number-slot}
use Rattle.fwd_chunks.proofs.chunk_slab.ChunkSlab.search.Goals as goal

pub returns-then-here-number : goal.returns-then-here-number
returns-then-here-number c =
    let it = number-slot c.args.self.now.slots (c.loop-low.low + (c.loop-low.high - c.loop-low.low) / 2) c.number-here.result c.number-here.ensures in
    sym (number-place c.args.self.now.slots c.args.number (c.loop-low.low + (c.loop-low.high - c.loop-low.low) / 2) it.0 c.requires it.1 (it.2 ∙ c.if-here-number.true))

pub loop-low-preserved-then-here-number-2 : goal.loop-low-preserved-then-here-number-2
loop-low-preserved-then-here-number-2 c =
    let it = number-slot c.args.self.now.slots (c.loop-low.low + (c.loop-low.high - c.loop-low.low) / 2) c.number-here.result c.number-here.ensures in
    record {
      within = c.loop-low.invariant.within;
      below = place-below c.args.self.now.slots c.args.number (c.loop-low.low + (c.loop-low.high - c.loop-low.low) / 2) it.0 c.requires it.1 (omega (arith, it.2, c.if-here-number-2.true));
      above = c.loop-low.invariant.above;
    }

pub loop-low-preserved : goal.loop-low-preserved
loop-low-preserved c =
    let it = number-slot c.args.self.now.slots (c.loop-low.low + (c.loop-low.high - c.loop-low.low) / 2) c.number-here.result c.number-here.ensures in
    record {
      within = omega (arith, c.loop-low-test.true, c.loop-low.invariant.within);
      below = c.loop-low.invariant.below;
      above = place-above c.args.self.now.slots c.args.number (c.loop-low.low + (c.loop-low.high - c.loop-low.low) / 2) it.0 c.requires it.1 (omega (arith, it.2, c.if-here-number-2.false, c.if-here-number.false));
    }

pub returns : goal.returns
returns c = sym (place-nowhere c.args.self.now.slots c.args.number c.loop-low.low c.loop-low.high c.loop-low-test.false c.loop-low.invariant.below c.loop-low.invariant.above)
