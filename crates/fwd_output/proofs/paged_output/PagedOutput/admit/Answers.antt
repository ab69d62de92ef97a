use Rattle.std.proofs.Common.{◌≡◌, Some, refl, sym, ap, ◌∙◌}
use Rattle.fwd_modes.specs.declared.origin.Origin.{Origin}
use Rattle.fwd_match.specs.Patterns.{route}
use Rattle.fwd_chunks.specs.Live.{live_refusal}
use Rattle.fwd_model.specs.Outputs.{LiveOutput, output_enters}
use Rattle.fwd_run.specs.Pages.{OutputKnown}
use Rattle.fwd_output.proofs.OutputLemmas.{none_refused}
use Rattle.fwd_output.proofs.Paging.{both-as}
use Rattle.fwd_output.proofs.paged_output.PagedOutput.admit.Goals as goal

pub invariant_of-self-2 : goal.invariant_of-self-2
invariant_of-self-2 g c =
    let o = c.self.inside in
    let own = c.self.invariant.0 in
    let q = c.args.batch.now in
    let a = c.requires.asked in
    let room = none_refused (live_refusal o.state.buffer q c.args.now) refl c.in_ok-admitted.ensures.refused in
    let here : route a.routes q.tag ≡ Some o.page.output = a.here ∙ ap Some (ap (λ (x : LiveOutput). x.book.setting.output) (sym c.self.view_is) ∙ sym own.number) in
    both-as o.page c.admit-2.new.self o.trial o.servers o.state c.admit.new.self _ c.self.invariant
    (c.in_ok-admitted.ensures.ok ∙ ap (λ (n : Origin). output_enters o.state n q c.args.now) a.named) refl
    (c.admit-2.ensures o.state a.source q a.routes own.is a.is a.led a.first here room).0
