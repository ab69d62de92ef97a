use Rattle.std.proofs.Common.{◌∷◌, refl, sym, subst, ap, ◌∙◌}
use Rattle.fwd_model.specs.declared.event.Event.TheVariants as event
use Rattle.fwd_model.specs.Names.{Connection}
use Rattle.fwd_history.specs.Histories.{Comes, IsLegal, IsOf}
use Rattle.fwd_run.specs.Pages.{SourceKnown}
use Rattle.fwd_run.specs.Runs.{MayHappen, Relay, RunEvent, key_of, source_at, touches}
use Rattle.fwd_run.proofs.Adding.{one_part, routes_onward}
use Rattle.fwd_run.proofs.Beginning.{after_adds}
use Rattle.fwd_run.proofs.source_page.SourcePage.after.Goals as goal

pub add_after-requires : goal.add_after-requires
add_after-requires g c =
    let v = c.self.inside in
    let e : RunEvent = Relay (event.Drained v.id 0) in
    (e, subst (λ k. IsOf touches k e) (sym c.self.invariant) (λ k. one_part k (key_of (Connection v.id))), λ past went comes. (refl, refl))

pub returns-clause-same : goal.returns-clause-same
returns-clause-same g c s at =
    let v = c.self.inside in
    after_adds v.id v.page.0 v.page.1 c.args.reached.now c.add_after.new.self.1 s c.args.self.now c.self.invariant c.self.view_is at c.add_after.ensures.added

pub returns-clause-known : goal.returns-clause-known
returns-clause-known g c s at =
    let v = c.self.inside in
    ap (λ l. source_at l c.args.self.now.id) c.reached.ensures
    ∙ (ap (source_at c.add_after.new.self.1) (sym (ap (λ (k : SourceKnown). k.id) c.self.view_is))
    ∙ (ap (λ (k : SourceKnown). k.is) (after_adds v.id v.page.0 v.page.1 c.args.reached.now c.add_after.new.self.1 s c.args.self.now c.self.invariant c.self.view_is at c.add_after.ensures.added) ∙ at))

pub returns-clause-onward : goal.returns-clause-onward
returns-clause-onward g c =
    let a = c.add_after.ensures.added in
    (a.1 ∷ a.4.0, ap (λ l. a.1 ∷ l) a.4.1 ∙ sym (c.reached.ensures ∙ a.6))

pub returns-clause-routes : goal.returns-clause-routes
returns-clause-routes g c s routes at led =
    let a = c.add_after.ensures.added in
    routes_onward routes c.args.reached.now c.add_after.new.self.1 (a.1 ∷ a.4.0) (ap (λ l. a.1 ∷ l) a.4.1 ∙ sym a.6) led

pub returns-clause-legal : goal.returns-clause-legal
returns-clause-legal g c = subst (λ l. IsLegal MayHappen l) (sym c.reached.ensures) c.add_after.ensures.legal
