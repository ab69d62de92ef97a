use Rattle.std.proofs.Common.{rules, ◌≡◌, ◌++◌, length, ap, ◌∙◌}
use Rattle.std.specs.List.{concat}
use Rattle.fwd_modes.specs.Frames.{frame_head, frame_option}
use Rattle.fwd_chunks.specs.Cells.{size_of}
use Rattle.fwd_chunks.proofs.Packing.{size_joined}
use Rattle.fwd_session.proofs.Gathering.{frame_parts}
use Rattle.fwd_session.proofs.frame.Frame.of.Goals as goal

pub returns : goal.returns
returns c =
    let chunk = c.args.chunk.now in
    let head : c.of.result ≡ frame_head chunk.tag c.size.result = search rules in
    let entries : c.in_ok-unsent.field-0 ≡ concat chunk.entries = c.in_ok-unsent.ensures ∙ ap concat c.body-body.ensures in
    let tail : c.of-2.result ≡ frame_option (length chunk.entries) chunk.name = search rules in
    let size : c.size.result ≡ length (concat chunk.entries) = c.size.ensures.value ∙ ap size_of c.body-body.ensures ∙ size_joined chunk.entries in
    (λ i. head i ++ entries i ++ tail i) ∙ frame_parts chunk c.size.result size
