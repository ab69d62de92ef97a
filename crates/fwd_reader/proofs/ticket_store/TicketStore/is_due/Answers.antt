use Rattle.std.proofs.Common.{arith, ◌≡◌, [], true, ap, sym, ◌∙◌, length, deque_len}
use Rattle.fwd_reader.specs.Stores.{Stored}
use Rattle.fwd_reader.proofs.Blocks.{no_blocks, none_found}
use Rattle.fwd_reader.proofs.ticket_store.TicketStore.is_due.Goals as goal

pub returns-then-self-2-clause-due : goal.returns-then-self-2-clause-due
returns-then-self-2-clause-due c = λ some quiet.
    let late : c.args.self.now.late_due ≡ true =
    sym (ap (λ (s : Stored). s.late_due) c.self.view_is) ∙ c.if-self-2.true in
    let none : c.self.inside.late.items ≡ [] = no_blocks (λ block. block.items)
    c.self.inside.late.items c.self.invariant
    (ap (λ (s : Stored). s.late) c.self.view_is ∙ quiet.late late) in
    let count : deque_len c.self.inside.late ≡ 0 = omega (arith, ap length none) in
    none_found c.is_empty-then-self-2.result (deque_len c.self.inside.late) some
    c.is_empty-then-self-2.ensures count
