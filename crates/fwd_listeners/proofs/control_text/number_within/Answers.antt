use Rattle.std.proofs.Common.{ℕ, List, ◌++◌, sym, ap, ◌∙◌}
use Rattle.fwd_listeners.proofs.Reading.{between}
use Rattle.fwd_listeners.proofs.control_text.number_within.Goals as goal

pub returns : goal.returns
returns c =
    let front = c.args.front.now in
    let back = c.args.back.now in
    let first = c.in_ok-strip_prefix.ensures.cases in
    let last = c.in_ok-digits.ensures.cases in
    between c.args.text.now c.in_ok-strip_prefix.field-0.now c.in_ok-digits.digits.now front back c.number.result
    (first.1.1 ∙ ap (λ (bs : List ℕ). front ++ bs) (sym first.2))
    (last.1.1 ∙ ap (λ (bs : List ℕ). bs ++ back) (sym last.2))
    (rw c.as_bytes.ensures.value at c.number.ensures)
