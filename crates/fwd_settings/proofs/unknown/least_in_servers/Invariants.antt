use Rattle.std.proofs.Common.{◌≡◌, map, drop}
use Rattle.std.specs.List.{cons_option}
use Rattle.toml.specs.View.{view}
use Rattle.fwd_settings.specs.Unknown.{least, unknown_in_servers}
use Rattle.fwd_settings.proofs.unknown.least_in_servers.Given as goal

abbrev pub invariant-loop-server : goal.invariant-loop-server
invariant-loop-server l =
    least (cons_option l.fn.least (unknown_in_servers l.output 0 (map view l.values)))
    ≡ least (cons_option l.least (unknown_in_servers l.output l.server (map view (drop l.server l.values))))
