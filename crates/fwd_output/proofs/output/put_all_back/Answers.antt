use Rattle.std.proofs.Common.{◌≡◌, ◌++◌, ◌∷◌, Some, sym, ap, subst, ◌∙◌}
use Rattle.std.specs.Prelude.{map, option_to_list}
use Rattle.std.specs.Vec.Iter.{into_iter_items}
use Rattle.fwd_output.specs.HandedBack.{IsHandedBack, lost_back}
use Rattle.fwd_output.proofs.CouplingLemmas.{frees-coupled}
use Rattle.fwd_output.proofs.HandingBack.{hand_one}
use Rattle.fwd_output.proofs.output.put_all_back.Goals as goal

pub loop-chunk-preserved : goal.loop-chunk-preserved
loop-chunk-preserved c =
    let b = c.loop-chunk.buffer in
    let rest = into_iter_items c.next.new.self in
    let first : into_iter_items c.loop-chunk.rest ≡ c.in-Some.chunk ∷ rest = c.next.ensures.items ∙ ap (λ o. option_to_list o ++ rest) c.in-Some.is in (
      λ d back. c.loop-chunk.invariant.0 d (subst (λ cs. IsHandedBack b (map lost_back cs) c.args.now d) (sym first) (hand_one b c.put_back.new.buffer d (lost_back c.in-Some.chunk) (map lost_back rest) c.args.now c.put_back.ensures.here c.put_back.ensures.elsewhere back)),
      λ k own. frees-coupled b k c.put_back.new.buffer c.in-Some.chunk.number (Some c.args.now) c.put_back.ensures.either (c.loop-chunk.invariant.1 k own),
    )
