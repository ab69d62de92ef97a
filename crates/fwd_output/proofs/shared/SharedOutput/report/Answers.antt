use Rattle.fwd_output.proofs.shared.SharedOutput.report.Goals as goal

pub returns-clause-report : goal.returns-clause-report
returns-clause-report g c =
    let some = c.in_ok-snapshot.ensures in
    (some.0, some.1, c.in_ok-report.ensures.ok some.0 some.2)
