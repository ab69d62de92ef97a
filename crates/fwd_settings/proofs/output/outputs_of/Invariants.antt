use Rattle.std.proofs.Common.{map, ◌≡◌, length, take, drop}
use Rattle.toml.specs.View.{view}
use Rattle.fwd_settings.specs.Kinds.{each}
use Rattle.fwd_settings.specs.Keys.{first, output_fault, output_settings}
use Rattle.fwd_settings.proofs.output.outputs_of.Given as goal

abbrev pub invariant-loop-value : goal.invariant-loop-value
invariant-loop-value l = record {
  kept : l.outputs ≡ map output_settings (map view (take l.value-index l.values));
  count : length l.outputs ≡ l.value-index;
  good : first (each output_fault 0 (map view l.values)) ≡ first (each output_fault l.value-index (map view (drop l.value-index l.values)));
}
