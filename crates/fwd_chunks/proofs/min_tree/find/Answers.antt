use Rattle.std.proofs.Common.{◌≡◌, ◌-◌, ◌<◌, Some, length, sym, ap, ◌∙◌, subst, arith}
use Rattle.fwd_chunks.specs.MinTrees.{is_within, first_within}
use Rattle.fwd_chunks.specs.Levels.{keys_at}
use Rattle.fwd_chunks.proofs.Towers.{keys-item}
use Rattle.fwd_chunks.proofs.Descent.{tower-none, descent-inside, descent-first, first-is}
use Rattle.fwd_chunks.proofs.min_tree.find.Goals as goal

pub returns-then-not-is_within : goal.returns-then-not-is_within
returns-then-not-is_within c =
    let levels = c.args.levels.now in
    let limit = c.args.limit in
    let item = c.in_ok-top.ensures.item in
    let some : 0 < length c.args.levels.now = item.3.0 in
    let read = keys-item levels (length levels - 1) c.in_ok-top.top.now (omega arith) item.1 in
    let tested = ap (is_within limit) (sym c.key_at.ensures) ∙ sym c.is_within.ensures in
    sym (tower-none limit levels c.deref.result.now c.requires some (c.deref.ensures.value ∙ read)
    (tested ∙ c.if-not-is_within.true))

pub place_below-place-requires : goal.place_below-place-requires
place_below-place-requires c =
    let levels = c.args.levels.now in
    let loop = c.loop-level in
    let item = c.index-levels-level in
    let read = keys-item levels (loop.level - 1) item.result (omega arith) item.is in
    descent-inside c.args.limit levels loop.level loop.place c.deref-in-loop-level.result.now
    c.requires c.loop-level-test.true loop.invariant.inside
    (c.deref-in-loop-level.ensures.value ∙ read) loop.invariant.first

pub loop-level-preserved : goal.loop-level-preserved
loop-level-preserved c =
    let levels = c.args.levels.now in
    let loop = c.loop-level in
    let item = c.index-levels-level in
    let read = keys-item levels (loop.level - 1) item.result (omega arith) item.is in
    record {
      inside = omega arith;
      first = descent-first c.args.limit levels loop.level loop.place c.place_below-place.result
          c.deref-in-loop-level.result.now c.requires c.loop-level-test.true loop.invariant.inside
          (c.deref-in-loop-level.ensures.value ∙ read) loop.invariant.first
          c.place_below-place.ensures;
    }

pub returns : goal.returns
returns c =
    let levels = c.args.levels.now in
    let limit = c.args.limit in
    let loop = c.loop-level in
    let ended : c.loop-level.level ≡ 0 = omega arith in
    sym (subst (λ n. first_within limit (keys_at levels n) ≡ Some loop.place) ended
    (first-is limit (keys_at levels loop.level) loop.place loop.invariant.first))
