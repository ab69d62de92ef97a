use Rattle.std.proofs.Common.{◌≡◌, sym, ◌∙◌, true, false}
use Rattle.std.specs.Char.{is_ascii_uppercase}
use Rattle.std.specs.List.{list_any}
use Rattle.fwd_script.proofs.HexText.{sixteen_of-upper, sixteen_of-decoded}
use Rattle.fwd_script.proofs.word.sixteen.Goals as goal

pub returns-then-has_upper_case : goal.returns-then-has_upper_case
returns-then-has_upper_case c =
    let up : list_any is_ascii_uppercase c.args.word.now ≡ true = cc in
    sym (sixteen_of-upper c.args.word.now up)

pub returns : goal.returns
returns c =
    let low : list_any is_ascii_uppercase c.args.word.now ≡ false = cc in
    c.ok.ensures.value ∙ sym (sixteen_of-decoded c.args.word.now low c.from_hex.result (sym c.from_hex.ensures))
