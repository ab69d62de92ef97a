use Rattle.std.proofs.Common.{◌≡◌, List, ℕ, suc, Some, length, take, drop, slice_get, ap, sym, ◌∙◌, arith}
use Rattle.std.proofs.lemmas.List.{take_at}
use Rattle.std.specs.List.{concat}
use Rattle.std.specs.Arc.{arc_value}
use Rattle.fwd_chunks.specs.Rows.{joined}
use Rattle.fwd_chunks.proofs.Sending.{row_here, behind_row, begun_row}
use Rattle.fwd_chunks.proofs.send_cursor.SendCursor.front.Goals as goal

pub returns-in-Some-clause-front : goal.returns-in-Some-clause-front
returns-in-Some-clause-front c =
    let rows : List (List (List ℕ)) = arc_value c.self.inside.slices in
    let row : List (List ℕ) = c.in-Some.slice.now in
    let passed = c.self.inside.passed in
    let sent = c.self.inside.sent in
    let here : slice_get rows passed ≡ Some row = ap (λ rs. slice_get rs passed) (sym (c.as_slice.ensures.value ∙ c.deref.ensures)) ∙ row_here passed c.as_slice.result.now row _ c.in-Some.ensures.lookup.0 c.in-Some.ensures.lookup.1 in
    let front : c.split_at.result.1.now ≡ drop sent (concat row) = c.split_at.ensures.back ∙ ap (drop sent) (c.bytes.ensures.value ∙ ap concat c.part.ensures.value) in
    let all = sym c.self.view_is ∙ behind_row passed sent rows row here (omega (arith, begun_row passed sent rows row here c.self.invariant.begun)) in
    front ∙ sym (ap (take (length c.split_at.result.1.now)) all ∙ take_at (drop sent (concat row)) (concat (joined (drop (suc passed) rows))) (length c.split_at.result.1.now) (sym (ap length front)))
