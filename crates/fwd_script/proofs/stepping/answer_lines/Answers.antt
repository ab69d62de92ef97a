use Rattle.std.proofs.Common.{arith, ap}
use Rattle.fwd_script.specs.Script.{lines_of}
use Rattle.fwd_script.proofs.ReplayLemmas.{read-spells, IsAnswered-more, IsAnswered-all, IsAnswered-stop, IsAnswered-met}
use Rattle.fwd_script.proofs.stepping.answer_lines.Goals as goal

pub loop-line-preserved : goal.loop-line-preserved
loop-line-preserved g c =
    let found = c.in-Some.ensures {u = tt} in
    let shorter = found.shorter in
    let so_far = rw found.lines at c.loop-line.invariant.0 in
    let done = c.in-Ok.ensures {u = tt} in
    (IsAnswered-more _ _ _ _ _ _ _ _ _ _ _ _ _ _ so_far (read-spells _ _ _ c.read_event.ensures done.1) done.2 done.3, omega arith)

pub returns-in-Err-clause-ends : goal.returns-in-Err-clause-ends
returns-in-Err-clause-ends g c =
    let found = c.in-Some.ensures {u = tt} in
    let so_far = rw found.lines at c.loop-line.invariant.0 in
    rw c.status.ensures (IsAnswered-stop _ _ _ _ _ _ _ _ _ _ _ _ _ c.in-Err.stop c.read_event.result c.read_event.ensures so_far (c.in-Err.ensures {u = tt}))

pub returns-in-Err-clause-memory : goal.returns-in-Err-clause-memory
returns-in-Err-clause-memory g c h =
    let found = c.in-Some.ensures {u = tt} in
    let so_far = rw found.lines at c.loop-line.invariant.0 in
    let met = rw c.status.ensures at h in
    IsAnswered-met _ _ _ _ _ _ _ _ _ _ _ _ _ c.in-Err.stop c.read_event.result c.read_event.ensures so_far (c.in-Err.ensures {u = tt}) met

pub returns-clause-ends : goal.returns-clause-ends
returns-clause-ends g c =
    let none = c.in_default.ensures {u = tt} in
    let so_far = rw (ap lines_of none) at c.loop-line.invariant.0 in
    IsAnswered-all _ _ _ _ _ _ _ _ _ so_far
