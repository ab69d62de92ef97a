use Rattle.std.proofs.Common.{sym, ap, ◌∙◌}
use Rattle.std.specs.Prelude.{is_some}
use Rattle.fwd_reader.specs.OpenConnections.{source_with}
use Rattle.fwd_reader.proofs.Telling.{own_id}
use Rattle.fwd_reader.proofs.Told.{delivered_on}
use Rattle.fwd_reader.proofs.connections.OpenConnection.answer.Goals as goal

pub returns-clause-delivered : goal.returns-clause-delivered
returns-clause-delivered g c = λ setting receipts given at stands.
    delivered_on c.answer-told.result c.with.result setting.output c.args.receipt.now c.with.ensures.1
    (c.answer-told.ensures.delivered setting receipts given at
    (own_id c.in-Source.source c.args.receipt.now.origin.conn
    (ap (λ k. is_some (source_with c.args.receipt.now.origin.conn k)) (sym c.in-Source.is) ∙ stands)))
