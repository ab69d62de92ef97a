use Rattle.std.proofs.Common.{arith, ◌≤◌, ◌+◌, Some, ap, subst, sym, ◌∙◌}
use Rattle.fwd_workers.specs.Placed.{Stands, held}
use Rattle.fwd_workers.specs.Working.{accepted_at, entries_in}
use Rattle.fwd_workers.proofs.Earning.{next-most}
use Rattle.fwd_workers.proofs.worker.Worker.step.Goals as goal

pub returns-in-Loaded-clause-most : goal.returns-in-Loaded-clause-most
returns-in-Loaded-clause-most g c =
    subst (λ at. g.S.Tally.count c.settle.new.seat
    ≤ g.S.Tally.count c.args.seat.now + g.S.Tally.kept (entries_in (accepted_at at))) (sym c.in-Loaded.is)
    (omega (arith, c.settle.ensures.most, next-most g.S.Tally.kept g.met.S.Tally.kept_adds c.in-Loaded.upstream.session))

pub begin-requires : goal.begin-requires
begin-requires g c = subst (λ at. Stands c.args.self.now.page (held at) c.args.self.now.terms) c.in-Idle.is c.requires

pub seek-requires : goal.seek-requires
seek-requires g c = subst (λ at. Stands c.args.self.now.page (held at) c.args.self.now.terms) c.in-Seeking.is c.requires

pub take_next-requires : goal.take_next-requires
take_next-requires g c = subst (λ at. Stands c.args.self.now.page (held at) c.args.self.now.terms) c.in-Standing.is c.requires

pub take_first-requires : goal.take_first-requires
take_first-requires g c = c.requires.has ∙ ap (λ at. Some (held at)) c.in-Sought.is

pub load-requires : goal.load-requires
load-requires g c = c.requires.has ∙ ap (λ at. Some (held at)) c.in-Took.is

pub load_more-requires : goal.load_more-requires
load_more-requires g c = c.requires.has ∙ ap (λ at. Some (held at)) c.in-Added.is

pub settle-requires : goal.settle-requires
settle-requires g c = c.requires.has ∙ ap (λ at. Some (held at)) c.in-Loaded.is

pub go_on-requires : goal.go_on-requires
go_on-requires g c = c.requires.has ∙ ap (λ at. Some (held at)) c.in-Settled.is
