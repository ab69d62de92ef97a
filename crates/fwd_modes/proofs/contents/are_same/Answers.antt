use Rattle.std.proofs.Common.{◌≡◌, sym, ap, ◌∙◌}
use lib.Pointwise.{bytes_decides}
use Rattle.std.specs.List.{concat}
use Rattle.fwd_modes.specs.Entries.{ends_of}
use Rattle.fwd_modes.proofs.EntryLemmas.{same_entries}
use Rattle.fwd_modes.proofs.contents.are_same.Goals as goal

pub returns-then-eq : goal.returns-then-eq
returns-then-eq c =
    let left = c.args.left.now.entries in
    let right = c.args.right.now.entries in
    let bytes : concat left ≡ concat right = sym c.entries.ensures.value ∙ (bytes_decides c.entries.result.now c.entries-2.result.now).0 (sym c.if-eq.ensures) ∙ c.entries-2.ensures.value in
    let decides = bytes_decides c.ends.result.now c.ends-then-eq.result.now in (
      (λ yes. same_entries left right bytes (sym c.ends.ensures ∙ decides.0 (sym c.eq-then-eq.ensures ∙ yes) ∙ c.ends-then-eq.ensures)),
      (λ same. c.eq-then-eq.ensures ∙ decides.1 (c.ends.ensures ∙ ap ends_of same ∙ sym c.ends-then-eq.ensures)),
    )
