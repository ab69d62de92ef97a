use Rattle.std.proofs.Common.{sym, ap, ◌∙◌, map}
use Rattle.std.proofs.lemmas.List.{drop_all}
use Rattle.std.specs.List.{cons_option}
use Rattle.toml.specs.View.{view}
use Rattle.fwd_settings.specs.Unknown.{least, unknown_in_users}
use Rattle.fwd_settings.proofs.LeastLemmas.{least_alone}
use Rattle.fwd_settings.proofs.unknown.least_in_users.Goals as goal

-- no user is left
pub returns : goal.returns
returns c =
    let none = drop_all c.loop-user.user c.args.values.now c.loop-user-test.false in
    sym (
    c.loop-user.invariant
    ∙ ap (λ rest. least (cons_option c.loop-user.least (unknown_in_users c.loop-user.user (map view rest)))) none
    ∙ least_alone c.loop-user.least
    )
