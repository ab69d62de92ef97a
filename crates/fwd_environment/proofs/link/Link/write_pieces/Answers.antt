use Rattle.std.proofs.Common.{List, sym, subst, ap, ◌∙◌}
use Rattle.std.specs.List.{concat}
use Rattle.std.specs.Prelude.{option_copied}
use Rattle.fwd_chunks.specs.Lending.{AreSome}
use Rattle.fwd_environment.specs.Links.{Call, HasOffered}
use Rattle.fwd_environment.proofs.Offering.{first-piece, offers-all, offers-front}
use Rattle.fwd_environment.proofs.link.Link.write_pieces.Goals as goal

pub returns-clause-told : goal.returns-clause-told
returns-clause-told g c =
    let before : List Call = g.Self.Link.calls c.args.self.now in
    let after : List Call = g.Self.Link.calls c.write.new.self in
    let piece = c.in-Some.piece.now in
    let front = first-piece c.as_slice.result.now piece
    (sym (ap option_copied c.in-Some.is) ∙ c.first.ensures.value)
    (subst AreSome (sym c.as_slice.ensures) c.requires.each) in
    subst (λ pieces. HasOffered (concat pieces) before after c.write.result) c.as_slice.ensures
    (offers-front piece.now _ before after c.write.result front.0 (λ some. front.1)
    (offers-all piece.now before after c.write.result front.1 c.write.ensures.told c.write.ensures.within))
