use Rattle.std.proofs.Common.{refl, sym}
use Rattle.fwd_reader.proofs.Standing.{all_stay, flags_change}
use Rattle.fwd_reader.proofs.connections.Connections.note_admitted.Goals as goal

pub returns-clause-stand : goal.returns-clause-stand
returns-clause-stand g c =
    all_stay c.args.self.now.opened c.args.key c.in-Some.opened.now _ (sym c.in-Some.ensures.value) refl

pub returns-clause-sources : goal.returns-clause-sources
returns-clause-sources g c =
    flags_change c.args.self.now.sources c.args.self.now.opened c.args.key c.in-Some.opened.now _
    (sym c.in-Some.ensures.value) refl
