use Rattle.std.proofs.Common.{◌≡◌, length, map, take}
use Rattle.fwd_config.specs.Configs.{parts_known, parts_set}
use Rattle.fwd_config.proofs.config.configs_of.Given as goal

abbrev pub invariant-loop-output : goal.invariant-loop-output
invariant-loop-output l =
    (map parts_known l.configs.items ≡ map parts_set (take l.output-index l.outputs))
    × (length l.configs.items ≡ l.output-index)
