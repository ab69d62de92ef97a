use Rattle.std.proofs.Common.{◌≡◌, Some, length, sym, ap, subst, ◌∙◌}
use Rattle.fwd_model.specs.Outputs.{LiveOutput}
use Rattle.fwd_run.specs.Pages.{OutputKnown}
use Rattle.fwd_output.specs.Paged.{IsTrial}
use Rattle.fwd_output.proofs.paged_output.PagedOutput.new.Goals as goal

pub invariant_of-result : goal.invariant_of-result
invariant_of-result g c =
    let made = c.in_ok-state.ensures in
    let page = c.new-page.ensures in (
      record {
        is = ap (λ (k : OutputKnown). k.is) page ∙ c.requires.begun ∙ ap Some (sym made);
        number = ap (λ (k : OutputKnown). k.output) page ∙ ap (λ (x : LiveOutput). x.book.setting.output) (sym made);
        config = c.requires.workers.0;
        set = ap (λ (k : OutputKnown). k.settings) page ∙ c.requires.workers.1;
        some = c.requires.workers.2;
      },
      subst (λ (k : OutputKnown). IsTrial c.args.trial k.output (length c.args.setup.standby.now)) (sym page) c.requires.trial,
    )
