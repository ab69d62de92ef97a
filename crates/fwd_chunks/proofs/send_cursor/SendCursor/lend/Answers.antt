use Rattle.std.proofs.Common.{rules, ◌≡◌, ◌<◌, ◌++◌, List, ℕ, ◌∷◌, length, drop, ap, subst, sym, ◌∙◌, arith}
use Rattle.std.proofs.lemmas.Bool.Decides.{nat_tests}
use Rattle.std.specs.List.{concat}
use Rattle.fwd_chunks.specs.declared.write_slices.TheConstants.{PIECE_LIMIT}
use Rattle.fwd_chunks.specs.Rows.{joined, IsBegun, AreLong}
use Rattle.fwd_chunks.proofs.Lending.{GoesOn, goes_on, lent_full}
use Rattle.fwd_chunks.proofs.Sending.{rest_row, begun_first}
use Rattle.fwd_chunks.proofs.send_cursor.SendCursor.lend.Goals as goal

pub loop-slice-preserved : goal.loop-slice-preserved
loop-slice-preserved c =
    let all = c.args.self.now in
    let before = c.args.pieces in
    let l = c.loop-slice in
    let row : List (List ℕ) = c.in-Some.slice.now in
    let rows : List (List (List ℕ)) = c.in-Some.slices.now in
    let piece : List ℕ = c.split_at-in-Some.result.1.now in
    let rest : l.rest.now ≡ row ∷ rows = search rules in
    let begun : l.sent < length (concat row) = subst (IsBegun l.sent) rest l.invariant.begun in
    let long : AreLong (row ∷ rows) = subst AreLong rest l.invariant.long in
    let is : piece ≡ drop l.sent (concat row) = c.split_at-in-Some.ensures.back ∙ ap (drop l.sent) (c.bytes.ensures.value ∙ ap concat c.part.ensures.value) in
    let left : drop l.sent (concat (joined l.rest.now)) ≡ piece ++ concat (joined rows) =
    ap (λ rs. drop l.sent (concat (joined rs))) rest ∙ rest_row l.sent row rows (omega (arith, begun)) ∙ ap (λ bs. bs ++ concat (joined rows)) (sym is) in
    record {
      long = long.1;
      begun = begun_first rows long.1;
      goes = goes_on before l.lent c.with-lent.result all piece (concat (joined rows)) (subst (GoesOn before all l.lent) left l.invariant.goes) c.with-lent.ensures;
    }

pub returns-then-is_full : goal.returns-then-is_full
returns-then-is_full c =
    let l = c.loop-slice in
    let full : length l.lent ≡ PIECE_LIMIT = grind (arith, nat_tests, sym c.is_full.ensures.value ∙ c.if-is_full.true) in
    l.invariant.goes l.lent (lent_full l.lent (drop l.sent (concat (joined l.rest.now))) full)
