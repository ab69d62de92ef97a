use Rattle.std.proofs.Common.{rules, ◌≡◌, Some, sym, ◌∙◌}
use Rattle.slab.specs.Slab as slots
use Rattle.fwd_reader.proofs.connections.Connections.is_crowding.Goals as goal

pub returns-in-Some : goal.returns-in-Some
returns-in-Some g c crowding =
    let opened = c.in-Some.opened.now in
    let there : slots.get c.args.self.now.opened c.args.key ≡ Some opened = search rules in
    (opened, there, sym c.is_crowding.ensures ∙ crowding)
