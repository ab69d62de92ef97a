use Rattle.std.proofs.Common.{sym, ap, ◌∙◌, map}
use Rattle.std.proofs.lemmas.List.{drop_all}
use Rattle.std.specs.List.{cons_option}
use Rattle.toml.specs.View.{view}
use Rattle.fwd_settings.specs.Unknown.{least, unknown_in_outputs}
use Rattle.fwd_settings.proofs.LeastLemmas.{least_alone}
use Rattle.fwd_settings.proofs.unknown.least_in_outputs.Goals as goal

-- no output is left
pub returns : goal.returns
returns c =
    let none = drop_all c.loop-output.output c.args.values.now c.loop-output-test.false in
    sym (
    c.loop-output.invariant
    ∙ ap (λ rest. least (cons_option c.loop-output.least (unknown_in_outputs c.loop-output.output (map view rest)))) none
    ∙ least_alone c.loop-output.least
    )
