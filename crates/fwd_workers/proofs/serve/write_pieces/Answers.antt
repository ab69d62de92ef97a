use Rattle.std.specs.List.{concat}
use Rattle.fwd_environment.proofs.Offering.{offers-front}
use Rattle.fwd_workers.proofs.serve.write_pieces.Goals as goal

pub returns-then-has_large : goal.returns-then-has_large
returns-then-has_large g c =
    offers-front (concat c.pieces-pieces.result) c.args.session.now.waiting (g.L.Link.calls c.args.link.now)
    (g.L.Link.calls c.write_pieces.new.self) c.write_pieces.result c.pieces-pieces.ensures.front
    c.pieces-pieces.ensures.some c.write_pieces.ensures.told
