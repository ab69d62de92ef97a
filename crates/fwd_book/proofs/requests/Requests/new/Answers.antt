use Rattle.std.proofs.Common.{sym, subst}
use Rattle.fwd_book.specs.Links.{AreKept}
use Rattle.fwd_book.proofs.Standing.{kept-nothing}
use Rattle.fwd_book.proofs.requests.Requests.new.Goals as goal

pub invariant_of-result : goal.invariant_of-result
invariant_of-result c =
    subst (AreKept c.new.result.kept c.new.result.ends.entries) (sym c.none.ensures)
    (kept-nothing c.new.result.kept c.new.result.ends.entries c.new.ensures.empty c.new.ensures.chained)
