use Rattle.std.proofs.Common.{◌+◌, ◌-◌, ◌*◌, ◌/◌, ◌<◌, length, get_or, ap, ◌∙◌, arith}
use Rattle.std.proofs.Math.ListN.{set}
use Rattle.std.specs.Vec.{with_item}
use Rattle.std.proofs.lemmas.List.{length-set}
use Rattle.fwd_chunks.specs.Levels.{keys_at, key_at, lesser}
use Rattle.fwd_chunks.proofs.Towers.{IsPut, keys-read, put-step}
use Rattle.fwd_chunks.proofs.min_tree.put.Goals as goal

pub loop-level-preserved : goal.loop-level-preserved
loop-level-preserved c =
    let initial = c.args.levels.now in
    let loop = c.loop-level in
    let levels = loop.levels in
    let up = loop.place / 2 in
    let key = c.lesser_at.result in
    let keys = set (keys_at initial 0) c.args.place c.args.key in
    let there = c.index-levels-level-in-loop-level.result in
    let count = loop.auto.levels ∙ length-set initial 0 _ in
    let inside : c.loop-level.level < length c.loop-level.levels = omega arith in
    let inside-initial : c.loop-level.level < length c.args.levels.now = omega (arith, count) in
    let read = keys-read levels (loop.level - 1) c.index-levels-level.result (omega arith) in
    let below = c.deref.ensures.value ∙ read in
    let before : IsPut c.args.levels.now c.loop-level.levels (set (keys_at c.args.levels.now 0) c.args.place c.args.key) c.loop-level.level c.loop-level.place = record {
      over = loop.invariant.over;
      last = loop.invariant.last;
      rest = loop.invariant.rest;
      first = loop.invariant.first;
    } in
    let step = put-step initial levels keys loop.level loop.place
    (with_item (get_or levels loop.level there) up key) key
    c.requires.tower.over inside-initial (omega arith) inside before
    (c.lesser_at.ensures
    ∙ ap (λ ks. lesser (key_at ks (2 * up)) (key_at ks (2 * up + 1))) below)
    (ap (λ ks. set ks up key) (keys-read levels loop.level there inside)) in
    record { over = step.over; last = step.last; rest = step.rest; first = step.first }
