use Rattle.std.proofs.Common.{◌≡◌, ◌^◌, ◌∙◌, None, Some, sym}
use Rattle.fwd_script.specs.Words.{number_of}
use Rattle.fwd_script.proofs.WordLemmas.{number_of-neither, number_of-converted}
use Rattle.fwd_script.proofs.word.small_number.Goals as goal

pub returns-in_err-number : goal.returns-in_err-number
returns-in_err-number c =
    let wide : number_of (2 ^ 64) c.args.word.now ≡ None = sym (c.in_err-number.ensures {u = tt}) in
    c.from_residual.ensures ∙ sym (number_of-neither c.args.word.now wide)

pub returns : goal.returns
returns c =
    let wide : number_of (2 ^ 64) c.args.word.now ≡ Some c.in_ok-number.field-0 = sym (c.in_ok-number.ensures {u = tt}) in
    c.ok.ensures.value ∙ sym (number_of-converted c.args.word.now c.in_ok-number.field-0 c.try_from.result wide c.try_from.ensures)
