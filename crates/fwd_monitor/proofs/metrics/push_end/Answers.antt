use Rattle.std.proofs.Common.{◌++◌}
use Rattle.fwd_monitor.proofs.TextLemmas.{added}
use Rattle.fwd_monitor.specs.Metrics.{by_tag, end_text, infos_text}
use Rattle.fwd_monitor.specs.declared.measure.TagMeasure.TheVariants.{Entries, EntryBytes}
use Rattle.fwd_monitor.proofs.metrics.push_end.Goals as goal

pub returns : goal.returns
unfolding end_text
returns c =
    let page = c.args.page.now.items in
    let infos = infos_text c.args.outputs.now in
    let entries = by_tag Entries c.args.reports.now in
    let bytes = by_tag EntryBytes c.args.reports.now in
    added page (infos ++ entries) bytes _ _
    (added page infos entries _ _ c.in_ok-push_infos.ensures c.in_ok-push_by_tag.ensures)
    c.in_ok-push_by_tag-2.ensures
