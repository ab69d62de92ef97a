use Rattle.std.proofs.Common.{rules, ◌≡◌, false, Some, length, refl, sym, ap, subst, ◌∙◌}
use Rattle.std.specs.BTreeMap as tree
use Rattle.std.specs.Ordering.{nat_cmp}
use Rattle.std.specs.VecDeque.{deque_capacity, deque_len}
use Rattle.slab.specs.Slab as slots
use Rattle.fwd_reader.specs.declared.connections.Connections.{Connections}
use Rattle.fwd_reader.specs.OpenConnections.{connection_at, connection_in}
use Rattle.fwd_reader.specs.Queues.{IsWritten}
use Rattle.fwd_reader.proofs.Queueing.{none_some, pushed, some_same, told_pushed, told_stays}
use Rattle.fwd_reader.proofs.Telling.{no_key, no_slot, no_slot_stands, none_stands, stands_there, told_there}
use Rattle.fwd_reader.proofs.connections.Connections.tell.Goals as goal

pub returns-in_default-clause-told : goal.returns-in_default-clause-told
returns-in_default-clause-told g c =
    no_key c.args.self.now c.args.receipt.now c.origin.result c.origin.ensures
    (sym c.in_default.ensures.value)

pub returns-in_default-get_mut-clause-told : goal.returns-in_default-get_mut-clause-told
returns-in_default-get_mut-clause-told g c =
    no_slot c.args.self.now c.args.receipt.now c.origin.result c.in-Some.key.now c.origin.ensures
    (sym c.in-Some.ensures.value) (sym c.in_default-get_mut.ensures.value)

pub returns-then-answer-clause-told : goal.returns-then-answer-clause-told
returns-then-answer-clause-told g c =
    told_there c.args.self.now c.args.receipt.now c.origin.result c.in-Some.key.now
    c.in-Some-get_mut.opened.now c.answer.new.self c.origin.ensures
    (sym c.in-Some.ensures.value) (sym c.in-Some-get_mut.ensures.value) c.answer.ensures.told

pub returns-else-answer-clause-told : goal.returns-else-answer-clause-told
returns-else-answer-clause-told g c =
    told_there c.args.self.now c.args.receipt.now c.origin.result c.in-Some.key.now
    c.in-Some-get_mut.opened.now c.answer.new.self c.origin.ensures
    (sym c.in-Some.ensures.value) (sym c.in-Some-get_mut.ensures.value) c.answer.ensures.told

pub returns-in_default-clause-written : goal.returns-in_default-clause-written
returns-in_default-clause-written g c = λ key there.
    absurd (none_some key (c.in_default.ensures.value
    ∙ ap (λ o. tree.get nat_cmp c.args.self.now.sources o.conn) c.origin.ensures ∙ there))

pub returns-in_default-get_mut-clause-written : goal.returns-in_default-get_mut-clause-written
returns-in_default-get_mut-clause-written g c = λ key there.
    subst
    (λ k. IsWritten (connection_at c.args.self.now k) k c.args.self.now c.args.self.now)
    (some_same c.in-Some.key.now key (c.in-Some.ensures.value
    ∙ ap (λ o. tree.get nat_cmp c.args.self.now.sources o.conn) c.origin.ensures ∙ there))
    (subst (λ o. IsWritten o c.in-Some.key.now c.args.self.now c.args.self.now)
    (ap connection_in c.in_default-get_mut.ensures.value) refl)

pub returns-then-answer-clause-written : goal.returns-then-answer-clause-written
returns-then-answer-clause-written g c = λ key there.
    let after : Connections _ = record c.args.self.now {
      opened = slots.with_value c.args.self.now.opened c.in-Some.key.now c.answer.new.self;
      writable = c.push_back.new.self;
    } in
    let count : deque_len c.args.self.now.writable ≡ length c.args.self.now.writable.items =
    search rules in
    subst (λ k. IsWritten (connection_at c.args.self.now k) k c.args.self.now after)
    (some_same c.in-Some.key.now key (c.in-Some.ensures.value
    ∙ ap (λ o. tree.get nat_cmp c.args.self.now.sources o.conn) c.origin.ensures ∙ there))
    (told_pushed c.args.self.now after c.in-Some.key.now c.in-Some-get_mut.opened.now
    c.answer.new.self c.answer.result (sym c.in-Some-get_mut.ensures.value) refl
    c.answer.ensures.queued (λ other. (c.answer.ensures.stays other).0) c.if-answer.true
    (pushed c.push_back.result (Some false) c.in-Some.key.now
    (deque_capacity c.args.self.now.writable) (deque_len c.args.self.now.writable)
    c.args.self.now.writable.items c.push_back.new.self.items refl c.push_back.ensures.items
    c.push_back.ensures.full count))

pub returns-else-answer-clause-written : goal.returns-else-answer-clause-written
returns-else-answer-clause-written g c = λ key there.
    let after : Connections _ = record c.args.self.now {
      opened = slots.with_value c.args.self.now.opened c.in-Some.key.now c.answer.new.self;
    } in
    subst (λ k. IsWritten (connection_at c.args.self.now k) k c.args.self.now after)
    (some_same c.in-Some.key.now key (c.in-Some.ensures.value
    ∙ ap (λ o. tree.get nat_cmp c.args.self.now.sources o.conn) c.origin.ensures ∙ there))
    (told_stays c.args.self.now after c.in-Some.key.now c.in-Some-get_mut.opened.now
    c.answer.new.self c.answer.result (sym c.in-Some-get_mut.ensures.value) refl
    c.answer.ensures.queued c.if-answer.false refl)

pub returns-then-answer-clause-delivered : goal.returns-then-answer-clause-delivered
returns-then-answer-clause-delivered g c = λ setting receipts given at stands.
    c.answer.ensures.delivered setting receipts given at
    (stands_there c.args.self.now c.args.receipt.now c.origin.result c.in-Some.key.now c.in-Some-get_mut.opened.now
    c.origin.ensures (sym c.in-Some.ensures.value) (sym c.in-Some-get_mut.ensures.value) stands)

pub returns-else-answer-clause-delivered : goal.returns-else-answer-clause-delivered
returns-else-answer-clause-delivered g c = λ setting receipts given at stands.
    c.answer.ensures.delivered setting receipts given at
    (stands_there c.args.self.now c.args.receipt.now c.origin.result c.in-Some.key.now c.in-Some-get_mut.opened.now
    c.origin.ensures (sym c.in-Some.ensures.value) (sym c.in-Some-get_mut.ensures.value) stands)

pub returns-in_default-clause-delivered : goal.returns-in_default-clause-delivered
returns-in_default-clause-delivered g c = λ setting receipts given at stands.
    absurd (none_stands c.args.self.now c.args.receipt.now c.origin.result c.origin.ensures (sym c.in_default.ensures.value) stands)

pub returns-in_default-get_mut-clause-delivered : goal.returns-in_default-get_mut-clause-delivered
returns-in_default-get_mut-clause-delivered g c = λ setting receipts given at stands.
    absurd (no_slot_stands c.args.self.now c.args.receipt.now c.origin.result c.in-Some.key.now c.origin.ensures
    (sym c.in-Some.ensures.value) (sym c.in_default-get_mut.ensures.value) stands)
