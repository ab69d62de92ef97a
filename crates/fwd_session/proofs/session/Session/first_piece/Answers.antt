use Rattle.std.proofs.Common.{◌≡◌, ◌++◌, [], take, length, sym, ap, subst, ◌∙◌, append-nil}
use Rattle.std.specs.Prelude.{All}
use Rattle.std.specs.List.{concat}
use Rattle.fwd_session.specs.Live.{LiveSession}
use Rattle.fwd_session.proofs.Alone.{HasLeft, no_frame, no_bytes, take_none}
use Rattle.fwd_session.proofs.session.Session.first_piece.Goals as goal

pub returns-then-is_empty-clause-greeting : goal.returns-then-is_empty-clause-greeting
returns-then-is_empty-clause-greeting c none =
    let s = c.self.inside in
    let still = subst (λ (v : LiveSession). All HasLeft v.carried) (sym c.self.view_is) none in
    let unframed : s.frames ≡ [] = no_frame (length s.greeting) s.frames s.carried c.self.invariant.full c.self.invariant.queued still in
    let greeted : s.greeting ≡ [] = sym c.as_slice-greeting.ensures ∙ no_bytes c.as_slice-greeting.result.now (sym c.is_empty.ensures ∙ c.if-is_empty.true) in
    c.front.ensures.front
    ∙ ap (λ fs. take (length c.front.result.now) (concat fs)) unframed
    ∙ take_none (length c.front.result.now)
    ∙ ap (λ fs. concat fs) (sym unframed)
    ∙ ap (λ bs. bs ++ concat s.frames) (sym greeted)
    ∙ ap (λ (v : LiveSession). v.waiting) c.self.view_is

pub returns-else-is_empty-clause-greeting : goal.returns-else-is_empty-clause-greeting
returns-else-is_empty-clause-greeting c none =
    let s = c.self.inside in
    let still = subst (λ (v : LiveSession). All HasLeft v.carried) (sym c.self.view_is) none in
    let unframed : s.frames ≡ [] = no_frame (length s.greeting) s.frames s.carried c.self.invariant.full c.self.invariant.queued still in
    c.as_slice-greeting.ensures
    ∙ sym (append-nil s.greeting)
    ∙ ap (λ fs. s.greeting ++ concat fs) (sym unframed)
    ∙ ap (λ (v : LiveSession). v.waiting) c.self.view_is
