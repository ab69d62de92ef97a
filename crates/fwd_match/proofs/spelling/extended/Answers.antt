use Rattle.std.proofs.Common.{◌≡◌, ◌<◌, length, get_or, arith, sym, ◌∙◌}
use Rattle.fwd_match.specs.Patterns.{alternatives}
use Rattle.fwd_match.proofs.Spellings.{each_more}
use Rattle.fwd_match.proofs.spelling.extended.Goals as goal

pub loop-front-preserved : goal.loop-front-preserved
loop-front-preserved c =
    let texts = c.args.texts.now in
    let behind = alternatives c.args.inside c.args.text.now in
    let index = c.loop-front.front-index in
    let within : index < length texts = omega arith in
    let front : c.as_slice.result.now ≡ get_or texts index c.front-item.result = c.as_slice.ensures ∙ c.front-item.is in
    let more = each_more texts behind index c.front-item.result within in
    c.in_ok-put_each.ensures ∙ rw (c.loop-front.invariant, front) (sym more)
