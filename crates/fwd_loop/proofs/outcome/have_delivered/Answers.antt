use Rattle.std.proofs.Common.{sym, ap, ◌∙◌}
use Rattle.fwd_base.specs.declared.report.Report.{Report}
use Rattle.fwd_loop.proofs.outcome.have_delivered.Goals as goal

pub returns : goal.returns
returns g c = λ none k d below.
    let is = c.requires k d below in
    let empty = sym (ap (λ (r : Report). r.counts.held) is.1.2) ∙ none k d below in (
      is.0,
      (
        is.1,
        λ config id r begun entered.
            c.empty_output_has_delivered.ensures c.args.reached.now config is.0 is.1.0 id r
            c.is_legal.ensures begun is.1.1 empty entered,
      ),
    )
