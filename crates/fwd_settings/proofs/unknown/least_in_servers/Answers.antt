use Rattle.std.proofs.Common.{sym, ap, ◌∙◌, map}
use Rattle.std.proofs.lemmas.List.{drop_all}
use Rattle.std.specs.List.{cons_option}
use Rattle.toml.specs.View.{view}
use Rattle.fwd_settings.specs.Unknown.{least, unknown_in_servers}
use Rattle.fwd_settings.proofs.LeastLemmas.{least_alone}
use Rattle.fwd_settings.proofs.unknown.least_in_servers.Goals as goal

-- no server is left
pub returns : goal.returns
returns c =
    let none = drop_all c.loop-server.server c.args.values.now c.loop-server-test.false in
    sym (
    c.loop-server.invariant
    ∙ ap (λ rest. least (cons_option c.loop-server.least (unknown_in_servers c.args.output c.loop-server.server (map view rest)))) none
    ∙ least_alone c.loop-server.least
    )
