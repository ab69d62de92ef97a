use Rattle.std.proofs.Common.{◌≡◌, ◌%◌, length, sym, ap, ◌∙◌, vec_len}
use Rattle.fwd_failover.proofs.Rounds.{first_of_three}
use Rattle.fwd_output.proofs.server_order.ServerOrder.elsewhere.Goals as goal

-- the three looks, one after the other, are one look along the worker's order
pub returns : goal.returns
returns c = λ some.
    let a = c.self.inside in
    let counted : vec_len a.primaries ≡ length a.primaries.items = sym c.deref.ensures.len ∙ ap length c.deref.ensures.value in
    rw (← c.self.view_is, c.or-2.ensures, c.or.ensures, c.first.ensures, c.first-2.ensures, c.first-3.ensures)
    (rw (← c.self.view_is, c.split_at.ensures.front, c.split_at.ensures.back, c.deref.ensures.value, c.deref-2.ensures.value, c.len.ensures, counted, c.from.ensures)
    (first_of_three _
    (c.args.worker % length a.primaries.items) a.primaries.items a.standbys.items))
