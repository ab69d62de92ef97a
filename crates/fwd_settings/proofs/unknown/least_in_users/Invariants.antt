use Rattle.std.proofs.Common.{◌≡◌, map, drop}
use Rattle.std.specs.List.{cons_option}
use Rattle.toml.specs.View.{view}
use Rattle.fwd_settings.specs.Unknown.{least, unknown_in_users}
use Rattle.fwd_settings.proofs.unknown.least_in_users.Given as goal

abbrev pub invariant-loop-user : goal.invariant-loop-user
invariant-loop-user l =
    least (cons_option l.fn.least (unknown_in_users 0 (map view l.values)))
    ≡ least (cons_option l.least (unknown_in_users l.user (map view (drop l.user l.values))))
