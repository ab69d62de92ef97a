use Rattle.std.proofs.Common.{◌≡◌, ◌%◌, length, None, slice_index_or, sym, ap, ◌∙◌, vec_len}
use Rattle.std.specs.Prelude.{not, is_some}
use Rattle.fwd_failover.proofs.Rounds.{first_of_three}
use Rattle.fwd_failover.proofs.servers.Servers.trusted.Goals as goal

-- the three looks, one after the other, are one look along the worker's order
pub returns : goal.returns
returns c =
    let a = c.self.inside in
    let counted : vec_len a.primaries ≡ length a.primaries.items = sym c.deref.ensures.len ∙ ap length c.deref.ensures.value in
    rw (← c.self.view_is, c.or-2.ensures, c.or.ensures, c.first_trusted.ensures, c.first_trusted-2.ensures, c.first_trusted-3.ensures)
    (rw (← c.self.view_is, c.split_at.ensures.front, c.split_at.ensures.back, c.deref.ensures.value, c.deref-2.ensures.value, c.len.ensures, counted, c.from.ensures)
    (first_of_three (λ server. not (is_some (slice_index_or a.losses.items server None)))
    (c.args.worker % length a.primaries.items) a.primaries.items a.standbys.items))
