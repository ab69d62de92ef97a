use Rattle.std.proofs.Common.{◌++◌, List, ℕ, arith, ap, refl, ◌∙◌}
use Rattle.std.specs.Prelude.{codes}
use Rattle.std.specs.String.{string_bytes}
use Rattle.fwd_monitor.specs.Metrics.{left_out}
use Rattle.fwd_monitor.specs.Samples.{head_lines_of}
use Rattle.fwd_monitor.proofs.TagLemmas.{at_end, left_all, left_out_samples}
use Rattle.fwd_monitor.proofs.metrics.push_left_out_by.Goals as goal

pub returns : goal.returns
unfolding left_out
returns c =
    let name = c.args.name.now in
    let reports = c.args.reports.now in
    let front = head_lines_of name (codes "gauge") c.args.help.now in
    at_end (left_out_samples name c.loop-output.room) (string_bytes c.loop-output.text) _
    c.loop-output.output reports refl (omega (arith, c.loop-output-test.false, c.loop-output.auto.output-end))
    c.loop-output.invariant
    ∙ ap (λ (l : List ℕ). string_bytes c.args.text.now ++ (front ++ l)) (left_all name reports)
