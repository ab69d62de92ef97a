use Rattle.std.proofs.Common.{◌++◌, subst}
use Rattle.fwd_chunks.specs.Lending.{IsLent}
use Rattle.fwd_chunks.proofs.Lending.{lent_both}
use Rattle.fwd_session.proofs.frame.Frame.lend.Goals as goal

pub returns : goal.returns
returns c =
    let f = c.self.inside in
    let before = c.args.pieces in
    let head : IsLent before f.head c.with-head.result = subst (λ bytes. IsLent before bytes c.with-head.result) c.as_slice.ensures c.with-head.ensures in
    let two = lent_both before c.with-head.result c.lend-entries.result f.head f.entries head c.lend-entries.ensures in
    let tail : IsLent c.lend-entries.result f.tail c.with.result = subst (λ bytes. IsLent c.lend-entries.result bytes c.with.result) c.as_slice-2.ensures c.with.ensures in
    subst (λ bytes. IsLent before bytes c.with.result) c.self.view_is (lent_both before c.lend-entries.result c.with.result (f.head ++ f.entries) f.tail two tail)
