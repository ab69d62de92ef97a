use Rattle.std.proofs.Common.{◌≡◌, ℕ, List, drop, take}
use Rattle.std.specs.Prelude.{All, is_some}
use Rattle.fwd_history.specs.Histories.{Comes}
use Rattle.fwd_book.specs.History.{BookSetting}
use Rattle.fwd_output.specs.Paged.{AreGivenAfter}
use Rattle.fwd_reader.specs.OpenConnections.{sources_in}
use Rattle.fwd_reader.specs.Promises.{IsDeliveredTo}
use Rattle.fwd_reader.specs.Tellings.{Sources, AreTold}
use Rattle.fwd_reader.proofs.connections.Connections.tell_all.Given as goal

-- the first receipts were told, who stands stands still, and what those are of was delivered
abbrev pub invariant-loop-receipt : goal.invariant-loop-receipt
invariant-loop-receipt g l = record {
  told : (t : Sources) → AreTold (sources_in l.self) (drop l.receipt-index l.receipts) t
      → AreTold (sources_in l.fn.self) l.fn.receipts t;
  onward : Comes l.fn.reached l.reached;
  stand : (id : ℕ) → is_some (sources_in l.self id) ≡ is_some (sources_in l.fn.self id);
  delivered : (setting : BookSetting) → AreGivenAfter l.fn.given setting l.fn.receipts
      → All (IsDeliveredTo l.reached setting.output (sources_in l.fn.self)) (take l.receipt-index l.fn.receipts);
}
