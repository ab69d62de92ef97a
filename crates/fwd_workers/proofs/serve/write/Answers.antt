use Rattle.std.proofs.Common.{List}
use Rattle.fwd_environment.specs.Links.{Call}
use Rattle.fwd_environment.proofs.Offering.{offers-all, offers-front}
use Rattle.fwd_workers.proofs.serve.write.Goals as goal

pub returns-in-Piece : goal.returns-in-Piece
returns-in-Piece g c =
    let before : List Call = g.L.Link.calls c.args.link.now in
    let after : List Call = g.L.Link.calls c.write.new.self in
    offers-front c.out.result.now c.args.session.now.waiting before after c.write.result
    c.out.ensures.front c.out.ensures.some
    (offers-all c.out.result.now before after c.write.result (c.out.ensures.some c.requires.some)
    c.write.ensures.told c.write.ensures.within)
