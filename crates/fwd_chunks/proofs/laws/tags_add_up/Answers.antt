use Rattle.std.proofs.Common.{◌≡◌, ◌<◌, List, [], ◌∷◌, ◌∙◌}
use Rattle.std.specs.List.{AllByRecursion}
use Rattle.fwd_base.specs.declared.tag_count.TagCount.{TagCount}
use Rattle.fwd_chunks.specs.TagCounts.{tagged_in, tag_count, tag_counts}
use Rattle.fwd_chunks.proofs.Sane.{reached-sane}
use Rattle.fwd_chunks.proofs.TagOrder.{tags_rise}
use Rattle.fwd_chunks.proofs.Reports.{counts-are, held-sum, bytes-sum, tagged-length, tagged-size, report-live, counts-some}
use Rattle.fwd_chunks.proofs.laws.tags_add_up.Goals as goal

pub returns-clause-counts : goal.returns-clause-counts
returns-clause-counts c held = counts-are held

pub returns-clause-adds_up : goal.returns-clause-adds_up
returns-clause-adds_up c b sound = record {
  entries = sound.counted;
  held = held-sum (tagged_in b.chunks) ∙ tagged-length b.chunks;
  bytes = bytes-sum (tagged_in b.chunks) ∙ tagged-size b.chunks;
  rising = tags_rise (tagged_in b.chunks);
  some = counts-some (tagged_in b.chunks) (tag_counts (tagged_in b.chunks)) (counts-are (tagged_in b.chunks)).told;
}

pub returns-clause-live : goal.returns-clause-live
returns-clause-live c setting h is = report-live h (reached-sane setting h is)
