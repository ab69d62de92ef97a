use Rattle.std.proofs.Common.{◌++◌, List, ℕ, arith, ap, refl, ◌∙◌}
use Rattle.std.specs.Prelude.{codes}
use Rattle.fwd_monitor.specs.Metrics.{tag_measure_help, tag_measure_name}
use Rattle.fwd_monitor.specs.Samples.{head_lines_of}
use Rattle.fwd_monitor.proofs.TagLemmas.{at_end, shown_all, tag_samples}
use Rattle.fwd_monitor.proofs.metrics.push_by_tag.Goals as goal

pub returns : goal.returns
returns c =
    let measure = c.args.measure in
    let reports = c.args.reports.now in
    let front = head_lines_of (tag_measure_name measure) (codes "gauge") (tag_measure_help measure) in
    at_end (tag_samples measure c.loop-output.room) c.loop-output.page.items _
    c.loop-output.output reports refl (omega (arith, c.loop-output-test.false, c.loop-output.auto.output-end))
    c.loop-output.invariant
    ∙ ap (λ (l : List ℕ). c.args.page.now.items ++ (front ++ l)) (shown_all measure reports)
