use Rattle.std.proofs.Common.{rules, ◌≡◌, ◌++◌, [], length, ap, sym, ◌∙◌}
use Rattle.std.specs.List.{concat}
use Rattle.std.proofs.lemmas.List.{append-nil}
use Rattle.fwd_modes.specs.Frames.{frame_head, frame_option}
use Rattle.fwd_chunks.specs.Cells.{size_of}
use Rattle.fwd_chunks.specs.Pieces.{parts_left}
use Rattle.fwd_chunks.proofs.Packing.{size_joined}
use Rattle.fwd_session.proofs.Gathering.{frame_parts}
use Rattle.fwd_session.proofs.writing.frame_of.Goals as goal

pub returns : goal.returns
returns c =
    let chunk = c.args.chunk.now in
    let size : c.size.result ≡ length (concat chunk.entries) = c.size.ensures.value ∙ ap size_of c.body.ensures ∙ size_joined chunk.entries in
    let none : parts_left c.loop-part.part-iterator ≡ [] = search rules in
    let head : c.in_ok-frame.frame.items ≡ frame_head chunk.tag c.size.result = search rules in
    let parts : concat (parts_left c.parts-part-items.result) ≡ concat chunk.entries = search rules in
    let tail : c.deref.result.now ≡ frame_option (length chunk.entries) chunk.name = search rules in
    let all : c.loop-part.frame.items ≡ c.in_ok-frame.frame.items ++ concat (parts_left c.parts-part-items.result) =
    sym (ap (λ ps. c.loop-part.frame.items ++ concat ps) none ∙ append-nil c.loop-part.frame.items) ∙ c.loop-part.invariant.all ∙ ap (λ it. c.in_ok-frame.frame.items ++ concat (parts_left it)) c.into_iter-part-iterator.ensures.into_iter_gives in
    c.in_ok-extend_from_slice-2.ensures.items ∙ (λ i. (all ∙ (λ j. head j ++ parts j)) i ++ tail i) ∙ frame_parts chunk c.size.result size
