use Rattle.std.proofs.Common.{◌++◌, List, ℕ, take, get_or, append-nil, append_assoc, sym, ap, ◌∙◌}
use Rattle.std.specs.Fmt.{decimal}
use Rattle.std.specs.List.{flat_map}
use Rattle.std.specs.String.{string_bytes}
use Rattle.std.proofs.lemmas.List.{take_all}
use Rattle.fwd_script.proofs.ListText.{after_comma, join-after_comma, after_commas-more}
use Rattle.fwd_script.proofs.text.with_commas.Goals as goal

pub loop-number-init : goal.loop-number-init
loop-number-init c = c.in_ok-text.ensures.ok ∙ sym (append-nil _)

pub loop-number-preserved : goal.loop-number-preserved
loop-number-preserved c =
    let first = decimal c.args.first in
    let rest = c.args.rest.now in
    let i = c.loop-number.number-index in
    let so_far = flat_map after_comma (take i rest) in
    let next = after_comma (get_or rest i 0) in
    let piece = c.deref.ensures ∙ c.in_ok-next.ensures.ok in
    c.in_ok-push_str.ensures.bytes
    ∙ ap (λ (t : List ℕ). string_bytes c.loop-number.text ++ t) piece
    ∙ ap (λ (t : List ℕ). t ++ next) c.loop-number.invariant
    ∙ append_assoc first so_far next
    ∙ ap (λ (t : List ℕ). first ++ t) (sym (after_commas-more rest i c.loop-number-test.true))

pub returns : goal.returns
returns c =
    let first = decimal c.args.first in
    let rest = c.args.rest.now in
    let all = take_all c.loop-number.number-index rest c.loop-number-test.false in
    c.loop-number.invariant ∙ ap (λ (ns : List ℕ). first ++ flat_map after_comma ns) all ∙ join-after_comma c.args.first rest
