use Rattle.std.proofs.Common.{◌≡◌, List, ℕ, suc, ◌+◌, ◌-◌, Some, length, drop, slice_get, ap, sym, subst, ◌∙◌, arith}
use Rattle.std.specs.List.{concat}
use Rattle.std.specs.Arc.{arc_value}
use Rattle.fwd_chunks.specs.Rows.{bytes_behind, StandsIn}
use Rattle.fwd_chunks.proofs.Sending.{row_here, behind_next, begun_row, stands_next}
use Rattle.fwd_chunks.proofs.send_cursor.SendCursor.step.Goals as goal

pub invariant_of-self-2 : goal.invariant_of-self-2
invariant_of-self-2 c =
    let rows : List (List (List ℕ)) = arc_value c.self.inside.slices in
    let row : List (List ℕ) = c.in-Some.slice.now in
    let passed = c.self.inside.passed in
    let here : slice_get rows passed ≡ Some row = ap (λ rs. slice_get rs passed) (sym (c.as_slice.ensures.value ∙ c.deref.ensures)) ∙ row_here passed c.as_slice.result.now row _ c.in-Some.ensures.lookup.0 c.in-Some.ensures.lookup.1 in
    let long : length c.bytes.result.now ≡ length (concat row) = ap length (c.bytes.ensures.value ∙ ap concat c.part.ensures.value) in
    let next : suc passed ≡ passed + 1 = omega arith in
    subst (λ p. StandsIn p 0 (c.self.inside.left - (length c.bytes.result.now - c.self.inside.sent)) rows) next
    (subst (λ n. StandsIn (suc passed) 0 (c.self.inside.left - (n - c.self.inside.sent)) rows) (sym long) (stands_next passed c.self.inside.sent c.self.inside.left rows row c.self.invariant here))

pub returns-clause-sent : goal.returns-clause-sent
returns-clause-sent c =
    let rows : List (List (List ℕ)) = arc_value c.self.inside.slices in
    let row : List (List ℕ) = c.in-Some.slice.now in
    let passed = c.self.inside.passed in
    let sent = c.self.inside.sent in
    let here : slice_get rows passed ≡ Some row = ap (λ rs. slice_get rs passed) (sym (c.as_slice.ensures.value ∙ c.deref.ensures)) ∙ row_here passed c.as_slice.result.now row _ c.in-Some.ensures.lookup.0 c.in-Some.ensures.lookup.1 in
    let long : length (concat row) ≡ length c.bytes.result.now = sym (ap length (c.bytes.ensures.value ∙ ap concat c.part.ensures.value)) in
    let next : passed + 1 ≡ suc passed = omega arith in
    ap (λ p. bytes_behind p 0 rows) next
    ∙ behind_next passed sent rows row here (omega (arith, begun_row passed sent rows row here c.self.invariant.begun))
    ∙ (λ i. drop (long i - sent) (c.self.view_is i))
