use Rattle.std.proofs.Common.{◌≡◌, ◌&&◌, position, find, option_map, Some, None, sym, ap, ◌∙◌}
use Rattle.fwd_chunks.specs.Live.{is_closed}
use Rattle.fwd_base.specs.Tallies.{live_is_over}
use Rattle.fwd_chunks.specs.MinTrees.{is_within}
use Rattle.fwd_chunks.specs.Slots.{Held, ready_key}
use Rattle.fwd_chunks.proofs.Slotting.{key-none, key-some, ready-agrees}
use Rattle.fwd_chunks.proofs.chunk_index.ChunkIndex.first_free.Goals as goal

pub returns-in_err-place : goal.returns-in_err-place
returns-in_err-place c =
    let xs = c.self.inside.slab.slots in
    let ready_index = c.self.inside.ready_index in
    let m = c.args.moment in
    let none : position (is_within c.args.moment) c.self.inside.ready_index.ready ≡ None = sym c.first_ready.ensures ∙ c.in_err-place.was in
    ap (option_map (λ p. p.0.now)) c.from_residual.ensures
    ∙ sym (key-none (ready_key ready_index.retry) m (λ d. is_closed d.stage && live_is_over ready_index.retry.wait ready_index.retry.max d.losses m) (ready-agrees ready_index.retry m c.ranges.moment.fits) xs ready_index.ready c.self.invariant.ready none)
    ∙ ap (λ (h : Held). find (λ d. is_closed d.stage && live_is_over h.retry.wait h.retry.max d.losses c.args.moment) h.chunks) c.self.view_is

pub returns : goal.returns
returns c =
    let xs = c.self.inside.slab.slots in
    let ready_index = c.self.inside.ready_index in
    let m = c.args.moment in
    let place : position (is_within c.args.moment) c.self.inside.ready_index.ready ≡ Some c.in_ok-place.place = sym c.first_ready.ensures ∙ c.in_ok-place.was in
    c.keyed.ensures
    ∙ sym (key-some (ready_key ready_index.retry) m (λ d. is_closed d.stage && live_is_over ready_index.retry.wait ready_index.retry.max d.losses m) (ready-agrees ready_index.retry m c.ranges.moment.fits) xs ready_index.ready c.self.invariant.ready c.in_ok-place.place place)
    ∙ ap (λ (h : Held). find (λ d. is_closed d.stage && live_is_over h.retry.wait h.retry.max d.losses c.args.moment) h.chunks) c.self.view_is
