use Rattle.std.proofs.Common.{map, subst, sym}
use Rattle.std.specs.String.{string_bytes}
use Rattle.fwd_script.specs.Program.{words_behind}
use Rattle.fwd_program.specs.Asked.{AsksRun}
use Rattle.fwd_program.proofs.program.run_words.Goals as goal

pub returns-in-Some-clause-other : goal.returns-in-Some-clause-other
returns-in-Some-clause-other g c none no_stop no_show =
    let run = c.in-Some.run' in
    absurd (none run.path.now run.turns (subst (λ ws. AsksRun (words_behind (map string_bytes ws)) run.path.now run.turns) c.as_slice.ensures.value c.in-Some.ensures.asked))

pub returns-in-Some-clause-stop : goal.returns-in-Some-clause-stop
returns-in-Some-clause-stop g c none path seconds asks =
    let run = c.in-Some.run' in
    absurd (none run.path.now run.turns (subst (λ ws. AsksRun (words_behind (map string_bytes ws)) run.path.now run.turns) c.as_slice.ensures.value c.in-Some.ensures.asked))

pub returns-in-Some-clause-shown : goal.returns-in-Some-clause-shown
returns-in-Some-clause-shown g c none no_stop showing asks =
    let run = c.in-Some.run' in
    absurd (none run.path.now run.turns (subst (λ ws. AsksRun (words_behind (map string_bytes ws)) run.path.now run.turns) c.as_slice.ensures.value c.in-Some.ensures.asked))

pub returns-in-None-clause-run : goal.returns-in-None-clause-run
returns-in-None-clause-run g c path turns asks =
    absurd (c.in-None.ensures.asked path turns (subst (λ ws. AsksRun (words_behind (map string_bytes ws)) path turns) (sym c.as_slice.ensures.value) asks))
