use Rattle.std.proofs.Common.{◌≡◌, ◌++◌, [], ◌∷◌, length, sym, ◌∙◌, subst, arith}
use Rattle.std.proofs.lemmas.List.{length-append}
use Rattle.fwd_chunks.specs.Levels.{keys_at, IsOver}
use Rattle.fwd_chunks.proofs.Towers.{AreOver, keys-before, over-pushed}
use Rattle.fwd_chunks.proofs.min_tree.tower.Goals as goal

pub loop-alloc-preserved : goal.loop-alloc-preserved
loop-alloc-preserved c =
    let loop = c.loop-alloc in
    let levels = loop.levels.items in
    let all = levels ++ loop.top ∷ [] in
    let above = c.in_ok-above.above in
    let pushed = sym c.in_ok-push.ensures.items in
    let count = length-append levels (loop.top ∷ []) in
    let read = c.deref.ensures.value in
    let last = subst (λ keys. IsOver keys above.items) read c.in_ok-above.ensures in
    record {
      over = subst (λ ls. AreOver (ls ++ above ∷ []) (length (ls ++ above ∷ []))) pushed
          (over-pushed levels loop.top above loop.invariant.over last);
      first = subst (λ ls. keys_at (ls ++ above ∷ []) 0 ≡ c.args.keys.items) pushed
          (keys-before all above 0 (omega (arith, count)) ∙ loop.invariant.first);
    }
