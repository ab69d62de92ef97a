use Rattle.std.proofs.Common.{map, subst, sym}
use Rattle.std.specs.String.{string_bytes}
use Rattle.fwd_script.specs.Program.{words_behind}
use Rattle.fwd_program.specs.Shows.{AsksToShow}
use Rattle.fwd_program.proofs.program.do_shown.Goals as goal

pub returns-in-Some-clause-other : goal.returns-in-Some-clause-other
returns-in-Some-clause-other g c none =
    let showing = c.in-Some.showing in
    absurd (none showing (subst (λ ws. AsksToShow (words_behind (map string_bytes ws)) showing) c.as_slice.ensures.value c.in-Some.ensures))

pub returns-in-None-clause-shown : goal.returns-in-None-clause-shown
returns-in-None-clause-shown g c showing asks =
    absurd (c.in-None.ensures showing (subst (λ ws. AsksToShow (words_behind (map string_bytes ws)) showing) (sym c.as_slice.ensures.value) asks))
