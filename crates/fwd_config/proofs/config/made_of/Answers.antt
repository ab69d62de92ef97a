use Rattle.std.proofs.Common.{length, ap, ◌∙◌}
use Rattle.std.specs.List.{list_all}
use Rattle.std.specs.Prelude.{◌&&◌}
use Rattle.std.proofs.lemmas.Bool.{and_parts}
use Rattle.fwd_settings.specs.Kinds.{is_within}
use Rattle.fwd_settings.specs.Ranges.{relay_in_range, output_in_range}
use Rattle.fwd_config.proofs.config.made_of.Goals as goal

pub configs_of-requires : goal.configs_of-requires
configs_of-requires c =
    let s = c.args.settings.now in
    let counted = is_within 1 64 (length s.outputs) in
    let parts = and_parts (relay_in_range s.relay) (counted && list_all output_in_range s.outputs) c.requires in
    let each = and_parts counted (list_all output_in_range s.outputs) parts.1 in
    ap (list_all output_in_range) c.as_slice.ensures ∙ each.1
