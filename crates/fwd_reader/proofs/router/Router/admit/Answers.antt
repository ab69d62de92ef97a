use Rattle.std.proofs.Common.{◌≡◌, None, Some, sym, ap, subst, ◌∙◌}
use Rattle.fwd_peers.specs.Peers.{Gives, PeerShown, first_route}
use Rattle.fwd_peers.specs.declared.close_reason.CloseReason.TheVariants as close_reason
use Rattle.fwd_reader.specs.Admissions.{IsDeclined, Refuses}
use Rattle.fwd_reader.specs.OpenTickets.{AreAllSame}
use Rattle.fwd_reader.specs.Routers.{RouterShown}
use Rattle.fwd_reader.proofs.Refusing.{declined, no_route, returned}
use Rattle.fwd_reader.proofs.router.Router.admit.Goals as goal

pub returns-in_default-clause-refused : goal.returns-in_default-clause-refused
returns-in_default-clause-refused g c = λ reason e.
    let same : close_reason.NoRoute ≡ reason = cc in
    subst (λ r. Refuses c.args.self.now c.args.source.now r c.args.self.now c.args.source.now) same
    (no_route c.args.self.now c.args.source.now
    (subst (λ (o : RouterShown). None ≡ first_route o.routes c.args.source.now)
    c.self.view_is c.in_default.ensures))

pub returns-in_err-owed-clause-refused : goal.returns-in_err-owed-clause-refused
returns-in_err-owed-clause-refused g c =
    returned c.from_residual.result c.in_err-owed.field-0.0 _ c.from_residual.ensures.1
    (λ reason e.
    declined c.args.self.now c.enter-entered.new.self c.args.source.now c.enter-entered.new.source
    c.in-Some.output reason
    (subst (λ (o : RouterShown). Some c.in-Some.output ≡ first_route o.routes c.args.source.now)
    c.self.view_is c.in-Some.ensures)
    (subst (λ (s : PeerShown). IsDeclined c.args.self.now.stores c.in-Some.output s reason c.enter-entered.new.source) c.may_enter.ensures.source
    (subst (λ (o : RouterShown). IsDeclined o.stores c.in-Some.output c.may_enter.new.source reason c.enter-entered.new.source)
    c.may_enter.ensures.this (c.in_err-owed.ensures.declined reason e)))
    (subst (λ (o : RouterShown). AreAllSame o.stores c.enter-entered.new.self.stores)
    c.may_enter.ensures.this c.in_err-owed.ensures.same)
    (c.enter-entered.ensures.owed ∙ ap (λ (o : RouterShown). o.owed) c.may_enter.ensures.this))
