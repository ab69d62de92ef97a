use Rattle.std.proofs.Common.{None, sym, ap, subst}
use Rattle.fwd_workers.specs.declared.worker.SessionTerms.{SessionTerms}
use Rattle.fwd_workers.specs.Placed.{Stands, with}
use Rattle.fwd_workers.proofs.Placing.{stands-as}
use Rattle.fwd_workers.proofs.worker.Worker.seek.Goals as goal

pub ask-requires : goal.ask-requires
ask-requires g c =
    let n = c.to_ask-asks.new.self in
    subst (Stands n.page (with None None)) (sym (ap (λ w. w.terms) c.to_ask-asks.ensures.kept))
    (stands-as c.args.self.now.page n.page (with None None) (with None None) c.args.self.now.terms c.requires c.to_ask-asks.ensures.has)

pub try_server-requires : goal.try_server-requires
try_server-requires g c =
    let n = c.to_ask-asks.new.self in
    subst (Stands n.page (with None None)) (sym (ap (λ w. w.terms) c.to_ask-asks.ensures.kept))
    (stands-as c.args.self.now.page n.page (with None None) (with None None) c.args.self.now.terms c.requires c.to_ask-asks.ensures.has)
