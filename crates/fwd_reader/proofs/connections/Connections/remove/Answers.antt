use Rattle.std.proofs.Common.{◌≡◌, Some, sym, ap, ◌∙◌}
use Rattle.std.specs.Prelude.{option_and_then}
use Rattle.slab.specs.Slab as slots
use Rattle.fwd_reader.specs.OpenConnections.{connection_in, connections_in, source_at, source_id, source_id_at, without}
use Rattle.fwd_reader.specs.Tellings.{sources_without}
use Rattle.fwd_reader.proofs.Standing.{gone, source_gone}
use Rattle.fwd_reader.proofs.connections.Connections.remove.Goals as goal

pub returns-in-Source-clause-gone : goal.returns-in-Source-clause-gone
returns-in-Source-clause-gone g c =
    gone c.forget.new.self.opened c.try_remove.new.self c.args.key c.in-Some.ensures.updates
    ∙ ap (λ o. without c.args.key (connections_in o)) c.forget.ensures.opened

pub returns-in-Source-clause-sources : goal.returns-in-Source-clause-sources
returns-in-Source-clause-sources g c =
    let there : slots.get c.forget.new.self.opened c.args.key ≡ Some c.in-Some.opened = sym c.in-Some.ensures.value in
    let own : source_id c.in-Some.opened.connection ≡ Some c.id.result = ap source_id c.in-Source.is ∙ ap Some (sym c.id.ensures.value) in
    let id : source_id_at c.args.self.now c.args.key ≡ Some c.id.result =
    ap (λ o. option_and_then source_id (connection_in (slots.get o c.args.key))) (sym c.forget.ensures.opened)
    ∙ ap (λ o. option_and_then source_id (connection_in o)) there ∙ own in
    source_gone c.forget.new.self.sources c.remove.new.self c.forget.new.self.opened c.try_remove.new.self
    c.args.key c.in-Some.opened c.id.result there own c.remove.ensures.updates c.in-Some.ensures.updates
    ∙ (λ i. sources_without (sym id i) (source_at (c.forget.ensures.sources i) (c.forget.ensures.opened i)))
