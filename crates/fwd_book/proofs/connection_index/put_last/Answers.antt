use Rattle.std.proofs.Common.{◌≡◌, Some, None, cond, sym, ◌∙◌}
use Rattle.std.specs.Prelude.{◌==◌}
use Rattle.fwd_book.specs.Links.{ends_at, with_last}
use Rattle.fwd_book.proofs.connection_index.put_last.Goals as goal

pub returns-clause-last : goal.returns-clause-last
returns-clause-last c = λ n.
    let none : ends_at c.args.ends.now.entries c.args.origin.conn ≡ None = sym c.in_default.ensures.value in
    let same : c.get_mut.follows.lender-at-none ≡ c.args.ends.now = c.get_mut.follows.holds-at-none in
    c.in-Ok.ensures.updates.0 n
    ∙ (λ i. cond (c.args.origin.conn == n) (Some (with_last c.args.origin.request c.args.slot (sym none i))) (ends_at (same i).entries n))
