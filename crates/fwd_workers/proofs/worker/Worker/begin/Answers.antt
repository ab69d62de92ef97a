use Rattle.std.proofs.Common.{◌≡◌, Some, None, sym, ap, subst, ◌∙◌}
use Rattle.fwd_chunks.specs.History.{CarriedChunk}
use Rattle.fwd_run.specs.Pages.{WorkerKnown}
use Rattle.fwd_output.specs.declared.offer.Found.{Found}
use Rattle.fwd_output.specs.Paged.{taken_of}
use Rattle.fwd_workers.specs.declared.worker.SessionTerms.{SessionTerms}
use Rattle.fwd_workers.specs.Placed.{Becomes, Stands, with}
use Rattle.fwd_workers.proofs.Placing.{stands-as}
use Rattle.fwd_workers.proofs.worker.Worker.begin.Goals as goal

pub lose_unmet-requires-clause-stands : goal.lose_unmet-requires-clause-stands
lose_unmet-requires-clause-stands g c =
    let k = c.args.self.now.page in
    let l = c.look_for-found.new.self.page in
    let x = with (Some c.note-chunk.result) None in
    let took : Becomes k l x = c.look_for-found.ensures.takes (with None None) c.requires.has ∙ (ap (λ (f : Found). record k { has = Some (with (taken_of f) None) }) c.in-Took.is ∙ ap (λ (d : CarriedChunk). record k { has = Some (with (Some d) None) }) (sym c.note-chunk.ensures.chunk)) in
    let page : l ≡ c.meet.new.self.page = sym (ap (λ w. w.page) c.meet.ensures.kept ∙ ap (λ w. w.page) c.note-chunk.ensures.kept) in
    let terms : c.args.self.now.terms ≡ c.meet.new.self.terms = sym (ap (λ w. w.terms) c.meet.ensures.kept ∙ (ap (λ w. w.terms) c.note-chunk.ensures.kept ∙ ap (λ w. w.terms) c.look_for-found.ensures.kept)) in
    subst (λ (n : WorkerKnown). Stands n x c.meet.new.self.terms) page (subst (Stands l x) terms (stands-as k l (with None None) x c.args.self.now.terms c.requires took))

pub begins-requires-clause-stands : goal.begins-requires-clause-stands
begins-requires-clause-stands g c =
    let k = c.args.self.now.page in
    let l = c.look_for-found.new.self.page in
    let x = with (Some c.note-chunk.result) None in
    let took : Becomes k l x = c.look_for-found.ensures.takes (with None None) c.requires.has ∙ (ap (λ (f : Found). record k { has = Some (with (taken_of f) None) }) c.in-Took.is ∙ ap (λ (d : CarriedChunk). record k { has = Some (with (Some d) None) }) (sym c.note-chunk.ensures.chunk)) in
    let page : l ≡ c.meet.new.self.page = sym (ap (λ w. w.page) c.meet.ensures.kept ∙ ap (λ w. w.page) c.note-chunk.ensures.kept) in
    let terms : c.args.self.now.terms ≡ c.meet.new.self.terms = sym (ap (λ w. w.terms) c.meet.ensures.kept ∙ (ap (λ w. w.terms) c.note-chunk.ensures.kept ∙ ap (λ w. w.terms) c.look_for-found.ensures.kept)) in
    (Some c.note-chunk.result, subst (λ (n : WorkerKnown). Stands n x c.meet.new.self.terms) page (subst (Stands l x) terms (stands-as k l (with None None) x c.args.self.now.terms c.requires took)))
