use Rattle.std.proofs.Common.{◌≡◌, [], Some, refl, sym, ap, subst, ◌∙◌}
use Rattle.fwd_book.specs.Receipts.{receipts as given_by}
use Rattle.fwd_run.specs.Pages.{SourceKnown}
use Rattle.fwd_run.specs.Runs.{source_at}
use Rattle.fwd_output.specs.PagedSources.{SourceShown, Stands}
use Rattle.fwd_output.proofs.Knowing.{receipt_at, settings_come, settings_given}
use Rattle.fwd_output.proofs.paged_source.PagedSource.after.Goals as goal

pub invariant_of-self : goal.invariant_of-self
invariant_of-self g c =
    let stands = c.self.invariant.1 in
    let same = c.after.ensures.same stands.source stands.is in (
      ap (λ (k : SourceKnown). k.id) same ∙ c.self.invariant.0,
      subst Stands (sym same) stands,
      λ ok s at. c.self.invariant.2 ok s (ap (λ (k : SourceKnown). k.is) (sym same) ∙ at),
    )

pub returns-clause-delivered : goal.returns-clause-delivered
returns-clause-delivered g c = λ setting receipts receipt given has conn.
    let stands = c.self.invariant.1 in
    let config = settings_given c.args.given.now setting receipts given in
    let own : receipt.origin.conn ≡ c.self.inside.page.id =
    conn ∙ sym (c.self.invariant.0 ∙ ap (λ (s : SourceShown). s.live.setup.conn) c.self.view_is) in
    let known : source_at c.after.result receipt.origin.conn ≡ Some stands.source =
    ap (source_at c.after.result) own ∙ c.after.ensures.known stands.source stands.is in
    record {
      before = c.after.result;
      begins = ([], refl);
      config = config.0;
      set = settings_come c.args.given.now c.after.result config.0 c.after.ensures.onward config.1;
      is = c.run_delivers.ensures c.args.given.now c.after.result config.0 setting.output has.0 given.output stands.source given.origins receipt
          c.after.ensures.legal c.after.ensures.onward config.1 given.at
          (receipt_at (given_by given.output.book.settled given.output.book.requests given.origins) receipts receipt given.is has) known stands.not_shut;
    }
