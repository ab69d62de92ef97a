use Rattle.std.proofs.Common.{◌≡◌, refl, subst}
use Rattle.fwd_reader.specs.Stores.{IsKept, Stored}
use Rattle.fwd_reader.proofs.Stores.{kept_at, on_ok}
use Rattle.fwd_reader.proofs.ticket_store.TicketStore.keep_for.Goals as goal

pub returns-clause-kept : goal.returns-clause-kept
returns-clause-kept c =
    on_ok c.keep.result
    (λ waits. of _ _ _ c.self.view_is
    (kept_at _ _ c.args.ticket c.args.chunk c.requires waits refl refl refl refl))
    c.keep.ensures.added
  where
    of : (s now t : Stored) → s ≡ now → IsKept s c.args.ticket t → IsKept now c.args.ticket t
    of s now t e kept = subst (λ it. IsKept it c.args.ticket t) e kept
