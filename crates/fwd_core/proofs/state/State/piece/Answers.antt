use Rattle.std.proofs.lemmas.Result.{on_ok_weaker}
use Rattle.std.proofs.lemmas.Option.{slice_get_read}
use Rattle.std.proofs.Common.{◌≡◌, length, sym, ap, ◌∙◌, refl, subst, Some}
use Rattle.std.specs.Prelude.{slice_get}
use Rattle.fwd_model.specs.Step as steps
use Rattle.fwd_model.specs.Live.{lives}
use Rattle.fwd_core.specs.Places.{IsPlace}
use Rattle.fwd_core.proofs.RelayLemmas.{source_done, read_place}
use Rattle.fwd_core.proofs.state.State.piece.Goals as goal

pub returns-clause-next : goal.returns-clause-next
returns-clause-next c =
    let connections = c.self.inside.connections in
    let x = c.index_mut-connection.result.now in
    let at : IsPlace c.args.conn connections.items c.in-Some.place = subst (λ cs. IsPlace c.args.conn cs c.in-Some.place) c.deref.ensures.value c.in-Some.ensures in
    let here : slice_get connections.items c.in-Some.place ≡ Some x = slice_get_read connections.items (length connections.items) c.in-Some.place x refl at.within c.index_mut-connection.ensures.value in
    let own = read_place c.args.conn connections.items c.in-Some.place at x here in
    let shown = c.connection.view_is in
    on_ok_weaker c.hear_piece.result (λ d. source_done _ c.args.self.now c.self.view_is c.args.conn c.in-Some.place at c.connection.inside.source.live c.hear_piece.new.source.live _ (own.0 ∙ sym (ap (λ y. y.source) shown)) (ap (λ n. record { id = n; source = c.hear_piece.new.source.live }) (ap (λ y. y.id) shown ∙ own.1)) (λ s. steps.piece lives s c.args.bytes.now) d) c.hear_piece.ensures.next
