use Rattle.std.proofs.Common.{refl, sym}
use Rattle.fwd_reader.proofs.Standing.{all_stay, flags_change}
use Rattle.fwd_reader.proofs.connections.Connections.note_writable.Goals as goal

pub returns-then-not-opened-clause-stand : goal.returns-then-not-opened-clause-stand
returns-then-not-opened-clause-stand g c =
    all_stay c.args.self.now.opened c.args.key c.in-Some.opened.now _ (sym c.in-Some.ensures.value) refl

pub returns-then-not-opened-clause-sources : goal.returns-then-not-opened-clause-sources
returns-then-not-opened-clause-sources g c =
    flags_change c.args.self.now.sources c.args.self.now.opened c.args.key c.in-Some.opened.now _
    (sym c.in-Some.ensures.value) refl
