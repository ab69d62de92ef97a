use Rattle.std.proofs.Common.{◌≡◌, ◌++◌, drop}
use Rattle.std.specs.List.{flat_map}
use Rattle.fwd_monitor.specs.Metrics.{tag_sample}
use Rattle.fwd_monitor.proofs.metrics.push_tags.Given as goal

-- the samples so far, and those that are still to be added
abbrev pub invariant-loop-tag : goal.invariant-loop-tag
invariant-loop-tag l =
    l.page.items ++ flat_map (tag_sample l.measure l.output) (drop l.tag-index l.tags)
    ≡ l.fn.page.items ++ flat_map (tag_sample l.measure l.output) l.tags
