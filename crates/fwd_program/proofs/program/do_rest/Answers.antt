use Rattle.std.proofs.Common.{map, subst, sym}
use Rattle.std.specs.String.{string_bytes}
use Rattle.fwd_script.specs.Program.{words_behind}
use Rattle.fwd_program.specs.Asked.{AsksStop}
use Rattle.fwd_program.proofs.program.do_rest.Goals as goal

pub returns-in-Some-clause-shown : goal.returns-in-Some-clause-shown
returns-in-Some-clause-shown g c none showing asks =
    let stop = c.in-Some.stop in
    absurd (none stop.path.now stop.seconds (subst (λ ws. AsksStop (words_behind (map string_bytes ws)) stop.path.now stop.seconds) c.as_slice.ensures.value c.in-Some.ensures))

pub returns-in-Some-clause-other : goal.returns-in-Some-clause-other
returns-in-Some-clause-other g c none no_show =
    let stop = c.in-Some.stop in
    absurd (none stop.path.now stop.seconds (subst (λ ws. AsksStop (words_behind (map string_bytes ws)) stop.path.now stop.seconds) c.as_slice.ensures.value c.in-Some.ensures))

pub returns-in-None-clause-stop : goal.returns-in-None-clause-stop
returns-in-None-clause-stop g c path seconds asks =
    absurd (c.in-None.ensures path seconds (subst (λ ws. AsksStop (words_behind (map string_bytes ws)) path seconds) (sym c.as_slice.ensures.value) asks))
