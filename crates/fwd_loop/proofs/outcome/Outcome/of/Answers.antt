use Rattle.std.proofs.Common.{◌≡◌, List, sym, subst, ◌∙◌}
use Rattle.std.specs.Prelude.{All}
use Rattle.fwd_base.specs.declared.report.Report.{Report}
use Rattle.fwd_loop.specs.Delivered.{AreEmptied}
use Rattle.fwd_loop.proofs.outcome.Outcome.of.Goals as goal

pub returns-clause-emptied : goal.returns-clause-emptied
returns-clause-emptied g c = λ is.
    let none = c.with_held-left.ensures.held (c.ending_of.ensures.delivered.0 is).1 in
    let same = c.deref-2.ensures.value ∙ sym c.deref.ensures.value in
    subst (AreEmptied c.in_ok-reports.reached) c.deref.ensures.value
    (c.have_delivered.ensures
    (subst (λ (rs : List Report). All (λ report. report.counts.held ≡ 0) rs) same none))
