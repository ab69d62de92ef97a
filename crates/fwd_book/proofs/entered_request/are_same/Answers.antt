use Rattle.std.proofs.Common.{sym, ◌∙◌}
use Rattle.std.proofs.lemmas.Slice.Eq.{slice_eq-Decides}
use Rattle.fwd_book.proofs.Facts.{apart, span-Decides}
use Rattle.fwd_book.proofs.entered_request.are_same.Goals as goal

pub returns-clause-same : goal.returns-clause-same
returns-clause-same c = λ yes. (slice_eq-Decides (λ a b. span-Decides a b) c.args.left.now c.args.right.now c.eq.result c.eq.ensures).0 yes

pub returns-clause-other : goal.returns-clause-other
returns-clause-other c = λ no same. apart (sym no ∙ (slice_eq-Decides (λ a b. span-Decides a b) c.args.left.now c.args.right.now c.eq.result c.eq.ensures).1 same)
