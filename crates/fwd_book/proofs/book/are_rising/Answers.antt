use Rattle.std.proofs.Common.{◌+◌, ℕ, Some, None, List, drop, get_or, sym, ap, ◌∙◌}
use Rattle.std.specs.Prelude.{◌&&◌}
use Rattle.std.proofs.lemmas.List.{at_drop_more}
use Rattle.fwd_modes.specs.declared.origin.Origin.{Origin}
use Rattle.fwd_book.specs.Gathering.{rise_behind}
use Rattle.fwd_book.proofs.Gathering.{rise-once, none-left}
use Rattle.fwd_book.proofs.book.are_rising.Goals as goal

pub loop-origin-preserved : goal.loop-origin-preserved
loop-origin-preserved c =
    let d : Origin = record { conn = 0; request = 0 } in
    let at : ℕ = c.loop-origin.origin-index in
    let os : List Origin = c.args.origins.now in
    let o : Origin = get_or os at d in
    c.loop-origin.invariant
    ∙ at_drop_more (rise_behind c.loop-origin.before) os at d c.loop-origin-test.true
    ∙ ap (λ b. b && rise_behind (Some o) (drop (at + 1) os)) (sym c.is_behind.ensures ∙ c.if-not-is_behind.false)

pub returns : goal.returns
returns c = λ _.
    rise-once None c.args.origins.now
    (c.loop-origin.invariant ∙ ap (rise_behind c.loop-origin.before) (none-left c.args.origins.now c.loop-origin.origin-index c.loop-origin-test.false))
