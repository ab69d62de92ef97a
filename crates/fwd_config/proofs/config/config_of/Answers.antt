use Rattle.std.proofs.Common.{arith, length, ap}
use Rattle.fwd_config.proofs.Ranges.{depth_small, outputs_few}
use Rattle.fwd_config.proofs.config.config_of.Goals as goal

pub new-requires : goal.new-requires
new-requires c =
    let few = outputs_few c.args.settings c.requires in
    omega (arith, few, c.patterns_of-patterns.ensures.len, ap length c.into_vec.ensures)

pub invariant_of-limits : goal.invariant_of-limits
invariant_of-limits c = record { shallow = depth_small c.args.settings c.requires }
