use Rattle.std.proofs.Common.{◌≡◌, ℕ, true, subst, arith}
use Rattle.std.proofs.lemmas.List.{take_all}
use Rattle.fwd_listeners.specs.Endings.{is_nothing}
use Rattle.fwd_listeners.proofs.Leaving.{nothing_held}
use Rattle.fwd_listeners.proofs.left.Left.with_held.Goals as goal

pub returns-clause-held : goal.returns-clause-held
returns-clause-held c none =
    let own = c.args.self in
    let whole = rw (take_all c.loop-report.report-index c.args.reports.now (omega (arith, c.loop-report-test.false))) at c.loop-report.invariant in
    nothing_held own c.args.reports.now
    (subst (λ (entries : ℕ). is_nothing (record { entries = entries; unasked = own.unasked; sources = own.sources }) ≡ true) whole none)
