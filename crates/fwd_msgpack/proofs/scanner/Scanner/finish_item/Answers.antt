use Rattle.fwd_msgpack.proofs.Pieces.{onward_further}
use Rattle.fwd_msgpack.proofs.scanner.Scanner.finish_item.Goals as goal

pub returns-clause-state : goal.returns-clause-state
returns-clause-state c = onward_further c.args.self.now c.finish_head-at.new.self c.finish_payload.new.self c.finish_head-at.result c.finish_payload.result c.args.piece.now c.finish_head-at.ensures.state c.finish_payload.ensures.state
