use Rattle.std.proofs.Common.{rules, ◌≡◌, ◌++◌, ◌<◌, List, ℕ, [], ◌∷◌, length, ap, subst, ◌∙◌, sym, arith, length-append}
use Rattle.fwd_chunks.specs.Cells.{size_of}
use Rattle.fwd_chunks.specs.Parts.{entries_in}
use Rattle.fwd_chunks.specs.Rows.{joined, AreLong}
use Rattle.fwd_chunks.proofs.Packing.{size_append, size_joined}
use Rattle.fwd_chunks.proofs.Sending.{joined_push, long_push}
use Rattle.fwd_chunks.proofs.entry_slices.EntrySlices.extend.Goals as goal

pub invariant_of-self-2 : goal.invariant_of-self-2
invariant_of-self-2 c =
    let rows : List (List (List ℕ)) = c.self.inside.slices.items in
    let new : List (List ℕ) = entries_in c.args.part in
    let items : c.push.new.self.items ≡ rows ++ new ∷ [] = c.in_ok-push.ensures.items ∙ ap (λ r. rows ++ r ∷ []) c.in_ok-of.ensures in
    let all : joined c.push.new.self.items ≡ joined rows ++ new = ap joined items ∙ joined_push rows new in
    let some : 0 < length new = search rules in
    let inv = c.self.invariant in (
      omega (arith, inv.0, c.size.ensures.value, ap size_of all, size_append (joined rows) new),
      omega (arith, inv.1, c.len.ensures, ap length all, length-append (joined rows) new),
      omega (arith, inv.2, c.size.ensures.value, c.size.ensures.each, c.len.ensures),
      subst AreLong (sym items) (long_push rows new inv.3 (omega (arith, some, c.size.ensures.value, c.size.ensures.each, size_joined new))),
    )

pub returns-clause-ok : goal.returns-clause-ok
returns-clause-ok c =
    let rows : List (List (List ℕ)) = c.self.inside.slices.items in
    ap joined (c.in_ok-push.ensures.items ∙ ap (λ r. rows ++ r ∷ []) c.in_ok-of.ensures) ∙ joined_push rows (entries_in c.args.part) ∙ ap (λ rs. joined rs ++ entries_in c.args.part) c.self.view_is
