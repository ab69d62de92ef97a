use Rattle.std.proofs.Common.{◌∙◌, ap}
use Rattle.std.specs.List.{flat_map}
use Rattle.fwd_reader.proofs.Stores.{kept_due}
use Rattle.fwd_reader.proofs.ticket_store.TicketStore.take_due.Goals as goal

pub returns-then-is_err-clause-kept : goal.returns-then-is_err-clause-kept
returns-then-is_err-clause-kept c =
    kept_due c.args.self.now c.find_due.new.self _ c.find_due.ensures
    (ap (λ s. s.lists) c.self.view_is) (ap (λ s. s.due) c.self.view_is)
    (ap (flat_map (λ block. block.items)) c.reserve.ensures.items
    ∙ ap (λ s. s.late) c.self.view_is)
    (ap (λ s. s.late_due) c.self.view_is) (ap (λ s. s.all_due) c.self.view_is)
