use Rattle.std.proofs.Common.{◌≤◌, ◌++◌, [], ap, ◌∙◌, arith, length}
use Rattle.std.proofs.lemmas.List.{length-map}
use Rattle.std.specs.List.{concat}
use Rattle.fwd_links.proofs.Buffering.{bytes_in, first_four}
use Rattle.fwd_links.proofs.wire.buffers.Goals as goal

pub returns : goal.returns
returns c =
    let all = c.as_slice-pieces.result.now in
    let few : length all ≤ 4 =
    omega (arith, length-map all bytes_in, ap length c.as_slice-pieces.ensures, c.is_full.ensures.few)
    in
    (λ i. c.buffer.ensures i ++ (c.buffer-2.ensures i ++ (c.buffer-3.ensures i ++ (c.buffer-4.ensures i ++ []))))
    ∙ first_four all few
    ∙ ap concat c.as_slice-pieces.ensures
