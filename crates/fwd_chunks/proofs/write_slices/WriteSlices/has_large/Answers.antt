use Rattle.std.proofs.Common.{List, ℕ, Bor, length, nat_le, sym, ap, ◌∙◌}
use Rattle.std.specs.List.{list_any}
use Rattle.fwd_chunks.proofs.Lending.{any_map}
use Rattle.fwd_chunks.proofs.write_slices.WriteSlices.has_large.Goals as goal

pub returns : goal.returns
returns c =
    c.any_large.ensures
    ∙ ap (list_any (λ (piece : Bor (List ℕ)). nat_le c.args.least (length piece.now))) c.deref.ensures.0
    ∙ sym (any_map (λ (piece : List ℕ). nat_le c.args.least (length piece)) (λ (piece : Bor (List ℕ)). piece.now) c.self.inside.pieces.items)
    ∙ ap (list_any (λ (piece : List ℕ). nat_le c.args.least (length piece))) c.self.view_is
