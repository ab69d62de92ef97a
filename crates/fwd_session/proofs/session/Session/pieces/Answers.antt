use Rattle.std.proofs.Common.{[], ap, subst}
use Rattle.std.specs.List.{concat}
use Rattle.fwd_chunks.specs.Lending.{IsLent}
use Rattle.fwd_chunks.proofs.Lending.{lent_both, lent_front, lent_some, lent_each, lent_few}
use Rattle.fwd_session.specs.Live.{LiveSession}
use Rattle.fwd_session.proofs.session.Session.pieces.Goals as goal

-- the bytes that wait are lent
lent : (c : goal.After-lend) → IsLent [] c.args.self.now.waiting c.lend.result
lent c =
    let s = c.self.inside in
    let greeting : IsLent [] s.greeting c.with-greeting.result =
    subst (λ before. IsLent before s.greeting c.with-greeting.result) c.none.ensures (subst (λ bytes. IsLent c.none.result bytes c.with-greeting.result) c.as_slice.ensures c.with-greeting.ensures) in
    subst (λ bytes. IsLent [] bytes c.lend.result) (ap (λ (v : LiveSession). v.waiting) c.self.view_is)
    (lent_both [] c.with-greeting.result c.lend.result s.greeting (concat s.frames) greeting c.lend.ensures)

pub returns-clause-front : goal.returns-clause-front
returns-clause-front c = lent_front c.args.self.now.waiting c.lend.result (lent c)

pub returns-clause-some : goal.returns-clause-some
returns-clause-some c = lent_some c.args.self.now.waiting c.lend.result (lent c)

pub returns-clause-each : goal.returns-clause-each
returns-clause-each c = lent_each c.args.self.now.waiting c.lend.result (lent c)

pub returns-clause-few : goal.returns-clause-few
returns-clause-few c = lent_few c.args.self.now.waiting c.lend.result (lent c)
