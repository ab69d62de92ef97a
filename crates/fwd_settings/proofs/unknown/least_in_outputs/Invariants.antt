use Rattle.std.proofs.Common.{◌≡◌, map, drop}
use Rattle.std.specs.List.{cons_option}
use Rattle.toml.specs.View.{view}
use Rattle.fwd_settings.specs.Unknown.{least, unknown_in_outputs}
use Rattle.fwd_settings.proofs.unknown.least_in_outputs.Given as goal

abbrev pub invariant-loop-output : goal.invariant-loop-output
invariant-loop-output l =
    least (cons_option l.fn.least (unknown_in_outputs 0 (map view l.values)))
    ≡ least (cons_option l.least (unknown_in_outputs l.output (map view (drop l.output l.values))))
