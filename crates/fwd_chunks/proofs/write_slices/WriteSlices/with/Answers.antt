use Rattle.std.proofs.Common.{◌≡◌, ◌<◌, List, ℕ, Bor, [], ◌∷◌, ◌++◌, length, map, arith, ap, sym, subst, ◌∙◌}
use Rattle.std.proofs.lemmas.Bool.Decides.{nat_tests}
use Rattle.std.proofs.lemmas.List.{map-append}
use Rattle.fwd_chunks.specs.declared.write_slices.TheConstants.{PIECE_LIMIT}
use Rattle.fwd_chunks.specs.Lending.{IsLent}
use Rattle.fwd_chunks.proofs.Lending.{lent_empty, lent_full, lent_piece}
use Rattle.fwd_chunks.proofs.write_slices.WriteSlices.with.Goals as goal
use Rattle.fwd_chunks.proofs.write_slices.WriteSlices.with.Goals.{then-is_empty-via-then-is_empty, then-is_empty-via-else-is_empty+then-is_full}

pub returns-then-is_empty : goal.returns-then-is_empty
returns-then-is_empty c = elim c.then-is_empty.branch [
  | then-is_empty-via-then-is_empty w ↦ (
      let none : length c.args.piece.now ≡ 0 = grind (arith, nat_tests, sym c.is_empty.ensures ∙ w.if-is_empty.true) in
      lent_empty c.args.self c.args.piece.now none)
  | then-is_empty-via-else-is_empty+then-is_full w ↦ (
      let full : length c.args.self ≡ PIECE_LIMIT = grind (arith, nat_tests, sym w.is_full.ensures.value ∙ w.if-is_full.true) in
      lent_full c.args.self c.args.piece.now full)
]

pub returns : goal.returns
returns c =
    let new : map (λ (piece : Bor (List ℕ)). piece.now) c.push.new.self.items ≡ c.args.self ++ c.args.piece.now ∷ [] =
    ap (map (λ (piece : Bor (List ℕ)). piece.now)) c.push.ensures.items
    ∙ map-append (λ (piece : Bor (List ℕ)). piece.now) c.self.inside.pieces.items (c.args.piece ∷ [])
    ∙ ap (λ ps. ps ++ c.args.piece.now ∷ []) c.self.view_is in
    let some : 0 < length c.args.piece.now = grind (arith, nat_tests, sym c.is_empty.ensures ∙ c.if-is_empty.false) in
    let place : length c.args.self < PIECE_LIMIT = grind (arith, nat_tests, c.is_full.ensures.few, sym c.is_full.ensures.value ∙ c.if-is_full.false) in
    subst (IsLent c.args.self c.args.piece.now) (sym new) (lent_piece c.args.self c.args.piece.now some place)
