use Rattle.std.proofs.Common.{◌≡◌, [], ◌∷◌, Some, map, subst}
use Rattle.std.specs.Prelude.{codes}
use Rattle.std.specs.String.{string_bytes}
use Rattle.fwd_script.specs.Program.{Asks, words_behind}
use Rattle.fwd_script.specs.declared.program.End.TheVariants.{Ran}
use Rattle.fwd_program.proofs.Checked.{performs-check}
use Rattle.fwd_program.proofs.program.do_other.Goals as goal

pub returns-in-Some-Check : goal.returns-in-Some-Check
returns-in-Some-Check g c =
    let path = c.in-Some-Check.path.now in
    let asks = subst (λ command. Asks (words_behind (map string_bytes c.as_slice.result.now))
    (Some command)) c.in-Some-Check.field-0-is c.in-Some-Check.ensures in (
      Ran c.check_said.result,
      c.exit_code.ensures,
      performs-check _ path c.check_said.result c.check_said.ensures.0 _ _ _
          (subst (λ ws. words_behind (map string_bytes ws) ≡ codes "check" ∷ path ∷ [])
          c.as_slice.ensures.value asks)
          c.check_said.ensures.1,
    )
