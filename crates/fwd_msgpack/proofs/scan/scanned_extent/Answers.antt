use Rattle.std.proofs.Common.{sym, ap, ◌∙◌, inl, inr}
use Rattle.fwd_msgpack.specs.declared.scan.Stop.{Stop}
use Rattle.fwd_msgpack.specs.Extents.{stopped}
use Rattle.fwd_msgpack.specs.Scans.{verdict_of}
use Rattle.fwd_msgpack.proofs.Turns.{first_stopped}
use Rattle.fwd_msgpack.proofs.scan.scanned_extent.Goals as goal

pub returns-in-Whole : goal.returns-in-Whole
returns-in-Whole c = first_stopped _ _ c.args.bytes.now c.new-stack.result _ c.new-stack.ensures c.in-Whole.ensures.state

pub returns-in-InHead : goal.returns-in-InHead
returns-in-InHead c =
    let told = λ (s : Stop). verdict_of (stopped c.args.bytes.now c.scan_items.new.stack s) in
    let found = first_stopped _ _ c.args.bytes.now c.new-stack.result _ c.new-stack.ensures c.scan_items.ensures.state in
    elim c.in-InHead.is [
      | inl w ↦ sym (ap told w.1) ∙ found
      | inr w ↦ sym (ap told w.1) ∙ found
    ]

pub returns-in-Bad : goal.returns-in-Bad
returns-in-Bad c = first_stopped _ _ c.args.bytes.now c.new-stack.result _ c.new-stack.ensures c.in-Bad.ensures.state
