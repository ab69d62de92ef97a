use Rattle.std.proofs.Common.{rules, ◌≡◌, ◌⊎◌, inl, inr, ℕ, refl, sym, ap, subst, ◌∙◌}
use Rattle.fwd_book.specs.declared.refusal.AdmitRefusal.{AdmitRefusal}
use Rattle.fwd_peers.specs.Costs.{upkeep}
use Rattle.fwd_reader.specs.Admissions.{IsTurnedAway}
use Rattle.fwd_reader.specs.OpenTickets.{Keeps}
use Rattle.fwd_reader.proofs.Refusing.{returned, turned_away}
use Rattle.fwd_reader.proofs.output_route.OutputRoute.admit.Goals as goal

pub returns-in-Ok-clause-kept : goal.returns-in-Ok-clause-kept
returns-in-Ok-clause-kept g c =
    let same : c.wake_for.new.self.open_tickets ≡ c.args.self.now.open_tickets = c.wake_for.ensures.tickets ∙ c.count.ensures.tickets in
    let owed : c.upkeep-owed.result ≡ upkeep c.in_ok-ticket.ticket.batch.tag c.in_ok-ticket.ticket.batch.chunk = search rules in (
      (c.in_ok-ticket.ticket.origin, c.in_ok-ticket.ticket.batch),
      c.in_ok-ticket.ensures.entered,
      record {
        ticket = c.in_ok-ticket.ticket;
        output = c.in_ok-ticket.ensures.output;
        origin = refl;
        batch = refl;
        kept = subst (λ s. Keeps s c.in_ok-ticket.ticket c.keep.new.self) same c.in-Ok.ensures.kept;
      },
      owed,
    )

pub returns-in-Err-clause-refused : goal.returns-in-Err-clause-refused
returns-in-Err-clause-refused g c = inr ((c.in_ok-ticket.ticket.origin, c.in_ok-ticket.ticket.batch), inr c.in_ok-ticket.ensures.entered)

pub returns-in_err-ticket-clause-refused : goal.returns-in_err-ticket-clause-refused
returns-in_err-ticket-clause-refused g c =
    returned c.from_residual.result c.in_err-ticket.field-0.0 (λ reason. IsTurnedAway c.args.source.now reason c.enter.new.self) c.from_residual.ensures.1
    (turned_away c.args.source.now c.enter.new.self c.in_err-ticket.field-0.0 c.in_err-ticket.ensures.refused)
