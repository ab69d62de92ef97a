use Rattle.std.proofs.Common.{◌≡◌, Some, None, sym, ap, subst, ◌∙◌}
use Rattle.fwd_run.specs.Pages.{WorkerKnown}
use Rattle.fwd_workers.specs.declared.worker.SessionTerms.{SessionTerms}
use Rattle.fwd_workers.specs.Placed.{Stands, with}
use Rattle.fwd_workers.proofs.Placing.{stands-as}
use Rattle.fwd_workers.proofs.worker.Worker.go_over.Goals as goal
use Rattle.fwd_workers.proofs.worker.Worker.go_over.Goals.{then-way, else-way}

pub begins-requires-clause-stands : goal.begins-requires-clause-stands
begins-requires-clause-stands g c =
    let x = with None (Some c.args.free.upstream.session) in
    let page : c.args.self.now.page ≡ c.if-way.self.page =
    elim c.if-way.branch [
      | then-way w ↦ sym (ap (λ s. s.page) w.self-is ∙ ap (λ s. s.page) c.meet.ensures.kept)
      | else-way w ↦ sym (ap (λ s. s.page) w.self-is ∙ ap (λ s. s.page) c.meet.ensures.kept)
    ] in
    let terms : c.args.self.now.terms ≡ c.if-way.self.terms =
    elim c.if-way.branch [
      | then-way w ↦ sym (ap (λ s. s.terms) w.self-is ∙ ap (λ s. s.terms) c.meet.ensures.kept)
      | else-way w ↦ sym (ap (λ s. s.terms) w.self-is ∙ ap (λ s. s.terms) c.meet.ensures.kept)
    ] in
    let own : Stands c.if-way.self.page x c.if-way.self.terms =
    subst (λ (k : WorkerKnown). Stands k x c.if-way.self.terms) page (subst (λ (t : SessionTerms). Stands c.args.self.now.page x t) terms c.requires.stands) in
    (None, stands-as c.if-way.self.page c.end_free.new.page x (with None None) c.if-way.self.terms own c.end_free.ensures.ends)
