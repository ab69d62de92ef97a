use Rattle.std.proofs.Common.{rules, ◌≡◌, ◌≤◌, ◌<◌, List, ℕ, length, take, drop, slice_index_or, arith, sym, ap, ◌∙◌}
use Rattle.std.proofs.lemmas.Bool.Decides.{nat_tests}
use Rattle.fwd_session.specs.Flights.{unsent_after}
use Rattle.fwd_session.proofs.Unsent.{AreFull, same_first, unsent_popped, within_front}
use Rattle.fwd_session.proofs.outbox.Outbox.step.Goals as goal

pub returns-then-is_empty-2-clause-sent : goal.returns-then-is_empty-2-clause-sent
returns-then-is_empty-2-clause-sent c =
    let frames : List (List ℕ) = c.self.inside.frames.items in
    let f : List ℕ = c.index_mut.result.now in
    let g : List ℕ = c.step-step.new.self in
    let n = c.step-step.result in
    let full : AreFull frames = c.self.invariant.0 in
    let some : 0 < length frames = search rules in
    let first : slice_index_or frames 0 f ≡ f = sym c.index_mut.ensures.value in
    let sent : g ≡ drop n f = c.step-step.ensures.sent in
    let same : c.index.result.now ≡ f = same_first frames c.index.result.now f some (sym c.index.ensures) first in
    let front : length c.front-len.result.now ≤ length f = within_front c.front-len.result.now f (length c.front-len.result.now) (c.front-len.ensures.front ∙ ap (λ x. take (length c.front-len.result.now) x) same) in
    let le : n ≤ length f = omega (arith, c.step-step.ensures.within, c.min.ensures, front) in
    let left : c.index-2.result.now ≡ g = search rules in
    let none : length (drop n f) ≡ 0 = grind (arith, nat_tests, sym c.is_empty-2.ensures ∙ c.if-is_empty-2.true, ap length left, ap length sent) in
    c.drop_first.ensures ∙ unsent_popped n frames f g full some first le none ∙ ap (unsent_after n) c.self.view_is
