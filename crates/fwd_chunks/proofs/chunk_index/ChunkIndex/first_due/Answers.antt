use Rattle.std.proofs.Common.{◌≡◌, position, find, option_map, Some, None, sym, ap, ◌∙◌}
use Rattle.fwd_chunks.specs.declared.chunk.Chunk.{Chunk}
use Rattle.fwd_chunks.specs.MinTrees.{is_within}
use Rattle.fwd_chunks.specs.Slots.{Held, due_key, began_by}
use Rattle.fwd_chunks.proofs.Slotting.{key-none, key-some, due-agrees}
use Rattle.fwd_chunks.proofs.chunk_index.ChunkIndex.first_due.Goals as goal

pub returns-in_err-place : goal.returns-in_err-place
returns-in_err-place c =
    let none : position (is_within c.args.moment) c.self.inside.ready_index.due ≡ None = sym c.first_due.ensures ∙ c.in_err-place.was in
    ap (option_map (λ p. p.0)) c.from_residual.ensures
    ∙ ap (option_map (λ d. d.number)) (sym (key-none due_key c.args.moment (began_by c.args.moment) (due-agrees c.args.moment) c.self.inside.slab.slots c.self.inside.ready_index.due c.self.invariant.due none))
    ∙ ap (λ (h : Held). option_map (λ d. d.number) (find (began_by c.args.moment) h.chunks)) c.self.view_is

pub returns-in_err-chunk : goal.returns-in_err-chunk
returns-in_err-chunk c =
    let place : position (is_within c.args.moment) c.self.inside.ready_index.due ≡ Some c.in_ok-place.place = sym c.first_due.ensures ∙ c.in_ok-place.was in
    ap (option_map (λ p. p.0)) c.from_residual-in_err-chunk.ensures
    ∙ ap (option_map (λ (d : Chunk). d.number)) (ap (option_map (λ p. p.0.now)) (sym c.in_err-chunk.was)
    ∙ c.keyed.ensures
    ∙ sym (key-some due_key c.args.moment (began_by c.args.moment) (due-agrees c.args.moment) c.self.inside.slab.slots c.self.inside.ready_index.due c.self.invariant.due c.in_ok-place.place place))
    ∙ ap (λ (h : Held). option_map (λ d. d.number) (find (began_by c.args.moment) h.chunks)) c.self.view_is

pub returns : goal.returns
returns c =
    let place : position (is_within c.args.moment) c.self.inside.ready_index.due ≡ Some c.in_ok-place.place = sym c.first_due.ensures ∙ c.in_ok-place.was in
    ap (option_map (λ (d : Chunk). d.number)) (ap (option_map (λ p. p.0.now)) (sym c.in_ok-chunk.was)
    ∙ c.keyed.ensures
    ∙ sym (key-some due_key c.args.moment (began_by c.args.moment) (due-agrees c.args.moment) c.self.inside.slab.slots c.self.inside.ready_index.due c.self.invariant.due c.in_ok-place.place place))
    ∙ ap (λ (h : Held). option_map (λ d. d.number) (find (began_by c.args.moment) h.chunks)) c.self.view_is
