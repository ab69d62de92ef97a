use Rattle.std.proofs.Common.{length, refl, sym, ap, subst, ◌∙◌}
use Rattle.fwd_reader.specs.OpenConnections.{sources_in}
use Rattle.fwd_reader.proofs.Telling.{told_next, told_last}
use Rattle.fwd_reader.proofs.Told.{all_delivered, further, no_further, none_delivered, one_delivered, stands_still}
use Rattle.fwd_reader.proofs.connections.Connections.tell_all.Goals as goal

pub loop-receipt-init : goal.loop-receipt-init
loop-receipt-init g c = record {
  told = λ t told. told;
  onward = no_further c.args.reached.now;
  stand = λ id. refl;
  delivered = λ setting given. none_delivered c.args.reached.now setting.output (sources_in c.args.self.now);
}

pub loop-receipt-preserved : goal.loop-receipt-preserved
loop-receipt-preserved g c = record {
  told = λ t rest.
      c.loop-receipt.invariant.told t
      (told_next (sources_in c.loop-receipt.self) (sources_in c.tell.new.self) c.args.receipts.now
      c.loop-receipt.receipt-index c.receipt-item.result c.loop-receipt-test.true
      c.receipt-item.is c.tell.ensures.told t rest);
  onward = further c.args.reached.now c.loop-receipt.reached c.tell.new.reached c.loop-receipt.invariant.onward c.tell.ensures.onward;
  stand = λ id.
      stands_still id c.receipt-item.result (sources_in c.loop-receipt.self) (sources_in c.tell.new.self) c.tell.ensures.told
      ∙ c.loop-receipt.invariant.stand id;
  delivered = λ setting given.
      one_delivered c.loop-receipt.reached c.tell.new.reached setting.output (sources_in c.args.self.now) c.args.receipts.now
      c.loop-receipt.receipt-index c.receipt-item.result c.loop-receipt-test.true c.receipt-item.is
      (c.loop-receipt.invariant.delivered setting given) c.tell.ensures.onward
      (λ at there. c.tell.ensures.delivered setting c.args.receipts.now given at (c.loop-receipt.invariant.stand c.receipt-item.result.origin.conn ∙ there));
}

pub returns-clause-told : goal.returns-clause-told
returns-clause-told g c =
    c.loop-receipt.invariant.told (sources_in c.loop-receipt.self)
    (told_last (sources_in c.loop-receipt.self) c.args.receipts.now c.loop-receipt.receipt-index
    c.loop-receipt-test.false)

pub returns-clause-delivered : goal.returns-clause-delivered
returns-clause-delivered g c = λ setting given.
    all_delivered c.loop-receipt.reached setting.output (sources_in c.args.self.now) c.args.receipts.now
    c.loop-receipt.receipt-index c.loop-receipt-test.false (c.loop-receipt.invariant.delivered setting given)
