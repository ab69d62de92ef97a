use Rattle.std.proofs.Common.{◌≡◌, ◌<◌, ◌+◌, ◌-◌, [], ◌∷◌, ◌++◌, Some, length, arith, sym, ap, subst, ◌∙◌, length-append}
use Rattle.std.specs.Prelude.{map, remove, slice_get}
use Rattle.std.specs.List.{AllByRecursion}
use Rattle.std.specs.Arc.{arc_value}
use Rattle.std.proofs.lemmas.Option.{same_Some}
use Rattle.fwd_session.specs.ServerAcks.{IsBacked}
use Rattle.fwd_session.specs.Live.{LiveSession, live_chunks}
use Rattle.fwd_session.specs.Flights.{accepted_of, live_pending, loaded_of}
use Rattle.fwd_session.proofs.Carrying.{accepted_push, backed_push, fewer, handed_place, loaded_chunks, loaded_remove, pair_in, pairs_length, pending_chunk}
use Rattle.fwd_session.proofs.session.Session.accept.Goals as goal

pub remove-chunk-requires : goal.remove-chunk-requires
remove-chunk-requires c =
    let s = c.self.inside in
    let one = c.requires.acked.one in
    let there : slice_get (live_pending (loaded_of (length s.greeting) s.frames s.carried)) c.args.ack.place ≡ Some one =
    ap (λ (v : LiveSession). slice_get (live_pending v.carried) c.args.ack.place) c.self.view_is ∙ c.requires.acked.first.there in
    let place = handed_place (length s.greeting) s.frames s.carried c.args.ack.place one c.self.invariant.full c.self.invariant.queued there c.requires.acked.handed_on in
    omega (arith, place)

pub invariant_of-self : goal.invariant_of-self
invariant_of-self c =
    let s = c.self.inside in
    let now = c.args.self.now in
    let one = c.requires.acked.one in
    let at = c.args.ack.place in
    let there : slice_get (live_pending (loaded_of (length s.greeting) s.frames s.carried)) at ≡ Some one =
    ap (λ (v : LiveSession). slice_get (live_pending v.carried) at) c.self.view_is ∙ c.requires.acked.first.there in
    let place : at < length s.carried - length s.frames = handed_place (length s.greeting) s.frames s.carried at one c.self.invariant.full c.self.invariant.queued there c.requires.acked.handed_on in
    let many : length c.remove-chunk.new.self ≡ length s.carried - 1 = ap length c.remove-chunk.ensures.left ∙ fewer s.carried at (omega (arith, place)) in
    let chunk : one.chunk ≡ c.remove-chunk.result = same_Some _ _ (sym (pending_chunk (loaded_of (length s.greeting) s.frames s.carried) at one there)
    ∙ ap (λ cs. slice_get cs at) (loaded_chunks (length s.greeting) s.frames s.carried) ∙ c.remove-chunk.ensures.chunk) in
    let server : now.setup.server ≡ s.server = sym (ap (λ (v : LiveSession). v.setup.server) c.self.view_is) in
    let backed : IsBacked s.server (arc_value c.args.ack.acked) c.remove-chunk.result =
    subst (λ n. IsBacked n (arc_value c.args.ack.acked) c.remove-chunk.result) server (subst (IsBacked now.setup.server (arc_value c.args.ack.acked)) chunk c.requires.backed) in
    let items_more : length c.push_back_reserved.new.self.items ≡ length s.accepted.items + 1 = ap length c.push_back_reserved.ensures.items ∙ length-append s.accepted.items ((c.args.ack.acked, c.remove-chunk.result) ∷ []) in
    record {
      backed = subst (λ items. AllByRecursion (λ q. IsBacked s.server q.0 q.1) (map pair_in items)) (sym c.push_back_reserved.ensures.items) (backed_push s.server pair_in s.accepted.items (c.args.ack.acked, c.remove-chunk.result) c.self.invariant.backed backed);
      greeted = c.self.invariant.greeted;
      full = c.self.invariant.full;
      queued = omega (arith, many, place);
      within = omega (arith, many, place, c.self.invariant.within, pairs_length pair_in s.accepted.items, pairs_length pair_in c.push_back_reserved.new.self.items, items_more);
      few = c.self.invariant.few;
      enough = omega (arith, c.push_back_reserved.ensures.capacity, c.self.invariant.enough);
    }

pub returns : goal.returns
returns c =
    let s = c.self.inside in
    let now = c.args.self.now in
    let one = c.requires.acked.one in
    let at = c.args.ack.place in
    let there : slice_get (live_pending (loaded_of (length s.greeting) s.frames s.carried)) at ≡ Some one =
    ap (λ (v : LiveSession). slice_get (live_pending v.carried) at) c.self.view_is ∙ c.requires.acked.first.there in
    let place : at < length s.carried - length s.frames = handed_place (length s.greeting) s.frames s.carried at one c.self.invariant.full c.self.invariant.queued there c.requires.acked.handed_on in
    let chunk = c.remove-chunk.result in
    let carried : loaded_of (length s.greeting) s.frames c.remove-chunk.new.self ≡ remove now.carried at =
    ap (loaded_of (length s.greeting) s.frames) c.remove-chunk.ensures.left
    ∙ sym (loaded_remove (length s.greeting) s.frames s.carried at place)
    ∙ ap (λ (v : LiveSession). remove v.carried at) c.self.view_is in
    let accepted : accepted_of (map pair_in c.push_back_reserved.new.self.items) ≡ now.accepted ++ record { chunk = chunk; reply = (arc_value c.args.ack.acked).reply } ∷ [] =
    ap (λ items. accepted_of (map pair_in items)) c.push_back_reserved.ensures.items
    ∙ accepted_push pair_in s.accepted.items (c.args.ack.acked, chunk)
    ∙ ap (λ (v : LiveSession). v.accepted ++ record { chunk = chunk; reply = (arc_value c.args.ack.acked).reply } ∷ []) c.self.view_is in (
      chunk,
      ap (λ (v : LiveSession). slice_get (live_chunks v.carried) at) (sym c.self.view_is)
          ∙ ap (λ cs. slice_get cs at) (loaded_chunks (length s.greeting) s.frames s.carried)
          ∙ c.remove-chunk.ensures.chunk,
      λ i. record (c.self.view_is i) { carried = carried i; accepted = accepted i },
    )
