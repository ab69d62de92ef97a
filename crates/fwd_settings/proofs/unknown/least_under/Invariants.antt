use Rattle.std.proofs.Common.{◌≡◌, map, filter, string_bytes}
use Rattle.std.specs.List.{cons_option}
use Rattle.toml.specs.View.{table_view}
use Rattle.fwd_settings.specs.Faults.{key_under}
use Rattle.fwd_settings.specs.Unknown.{least, unknown_under, is_unknown}
use Rattle.fwd_settings.proofs.unknown.least_under.Given as goal

abbrev pub invariant-loop-name : goal.invariant-loop-name
invariant-loop-name l =
    least (cons_option l.fn.least (unknown_under l.place (map (λ rule. rule.name.now) l.rules) (table_view l.table)))
    ≡ least (cons_option l.least (map (key_under l.place) (filter (is_unknown (map (λ rule. rule.name.now) l.rules)) (map string_bytes l.name-iterator))))
