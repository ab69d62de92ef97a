use Rattle.std.proofs.Common.{refl, sym, subst, ap, ◌∙◌}
use Rattle.fwd_model.specs.declared.event.Event.TheVariants as event
use Rattle.fwd_model.specs.Names.{Connection}
use Rattle.fwd_history.specs.Histories.{IsOfBoth}
use Rattle.fwd_run.specs.Pages.{IdsKnown}
use Rattle.fwd_run.specs.Runs.{Relay, RunEvent, id_key, key_of, last_id, limits_at, security_at, source_at, touches}
use Rattle.fwd_run.proofs.Beginning.{accept_parts, accept_adds}
use Rattle.fwd_run.proofs.source_page.IdPage.accept.Goals as goal

pub add_with-requires-clause-event : goal.add_with-requires-clause-event
add_with-requires-clause-event g c =
    let e : RunEvent = Relay (event.Accept c.args.id c.args.nonce c.args.auth) in
    (e, subst (λ k. IsOfBoth touches k c.self.inside.page.0 e) (sym c.requires.page.0) (subst (λ k. IsOfBoth touches (key_of (Connection c.args.id)) k e) (sym c.self.invariant) (λ k. accept_parts k (key_of (Connection c.args.id)))), λ past went gone. (refl, refl))

pub returns : goal.returns
returns g c security limits secured limited fresh =
    let both =
    accept_adds c.args.id c.args.page.0 c.self.inside.page.0 c.args.nonce c.args.auth c.args.page.1 c.self.inside.page.1 c.add_with.new.self.1 security limits c.args.self.now c.requires.page.0 c.self.invariant c.requires.page.1 c.self.view_is secured limited fresh c.add_with.ensures.added in
    (refl, both.0, (λ i. let l = c.add_with.ensures.both i in record { last = last_id l; security = security_at l; limits = limits_at l }) ∙ both.1)
