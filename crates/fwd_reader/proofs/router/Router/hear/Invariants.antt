use Rattle.std.proofs.Common.{◌≡◌, List, drop}
use Rattle.fwd_reader.specs.declared.open_tickets.OpenTickets.{OpenTickets}
use Rattle.fwd_reader.specs.Settlements.{Hears, HearsAll}
use Rattle.fwd_reader.proofs.router.Router.hear.Given as goal

-- what the notices that are left make of the tickets is what all make of them
abbrev pub invariant-loop-notice : goal.invariant-loop-notice
invariant-loop-notice g l =
    (l.self.routes ≡ l.fn.self.routes)
    × ((t : List OpenTickets) → HearsAll (drop l.notice-index l.fn.notices.all.items) l.self.stores t
    → Hears l.fn.notices l.fn.self.stores t)
    × (l.self.owed ≡ l.fn.self.owed)
