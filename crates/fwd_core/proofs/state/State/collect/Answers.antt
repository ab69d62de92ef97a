use Rattle.std.proofs.lemmas.Result.{on_ok_weaker}
use Rattle.std.proofs.lemmas.Option.{slice_get_read}
use Rattle.std.proofs.Common.{◌≡◌, length, sym, ap, ◌∙◌, refl, subst, Some, Result, Ok, Err}
use Rattle.std.specs.Prelude.{slice_get, OnOk}
use Rattle.fwd_model.specs.Outcome.{state_of}
use Rattle.fwd_model.specs.Step as steps
use Rattle.fwd_model.specs.Live.{lives}
use Rattle.fwd_core.specs.Places.{IsPlace}
use Rattle.fwd_core.proofs.RelayLemmas.{both_done, read_place}
use Rattle.fwd_core.proofs.state.State.collect.Goals as goal

both : {T E : Type 0} (P Q : Type 0) (r : Result T E) → OnOk r P → OnOk r Q → OnOk r (P × Q)
both P Q (Ok x) p q = (p, q)
both P Q (Err e) p q = tt

pub returns-clause-next : goal.returns-clause-next
returns-clause-next c =
    let connections = c.self.inside.connections in
    let lanes = c.self.inside.lanes in
    let x = c.index_mut-connection.result.now in
    let l = c.index_mut-lane.result.now in
    let at : IsPlace c.args.conn connections.items c.in-Some.place = subst (λ cs. IsPlace c.args.conn cs c.in-Some.place) c.deref.ensures.value c.in-Some.ensures in
    let size : c.len.result ≡ length lanes.items = c.len.ensures ∙ lanes.ok.0 in
    let here : slice_get lanes.items c.from-lane_place.result ≡ Some l = slice_get_read lanes.items c.len.result c.from-lane_place.result l size c.if-lane_place-len.false c.index_mut-lane.ensures.value in
    let read : slice_get connections.items c.in-Some.place ≡ Some x = slice_get_read connections.items (length connections.items) c.in-Some.place x refl at.within c.index_mut-connection.ensures.value in
    let own = read_place c.args.conn connections.items c.in-Some.place at x read in
    let shown = c.connection.view_is in
    let s = c.connection.inside.source.live in
    let t = c.tell_from.new.source.live in
    let came = state_of (s, l) (steps.collect lives c.args.conn s l) in
    on_ok_weaker c.tell_from.result
    (λ d. both_done _ c.args.self.now c.self.view_is c.args.output c.from-lane_place.result c.from-lane_place.ensures l c.tell_from.new.lane here c.args.conn c.in-Some.place at s t _
    (own.0 ∙ sym (ap (λ y. y.source) shown)) (ap (λ n. record { id = n; source = t }) (ap (λ y. y.id) shown ∙ own.1)) (λ r x m. steps.collect lives c.args.conn x m) d.0 d.1)
    (both (t ≡ came.0) (c.tell_from.new.lane ≡ came.1) c.tell_from.result c.tell_from.ensures.source c.tell_from.ensures.lane)
