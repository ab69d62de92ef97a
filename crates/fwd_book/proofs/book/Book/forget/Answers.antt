use Rattle.std.proofs.Common.{rules, arith, ◌≡◌, ◌≤◌, ◌+◌, ℕ, suc, List, [], ◌∷◌, ◌++◌, take, sym, ap, ◌∙◌}
use Rattle.std.specs.Prelude.{is_some, slice_index_or, if◌then◌else◌}
use Rattle.std.proofs.lemmas.List.{take_all}
use Rattle.std.proofs.Math.Seq.{take-suc}
use Rattle.fwd_modes.specs.declared.origin.Origin.{Origin}
use Rattle.fwd_book.specs.History.{request_at}
use Rattle.fwd_book.specs.Live.{LiveBook, BookState, live_left, live_leaves, live_owed}
use Rattle.fwd_book.proofs.Keeping.{leaves-none, leaves-then, owed-none, owed-then}
use Rattle.fwd_book.proofs.book.Book.forget.Goals as goal
use Rattle.fwd_book.proofs.book.Book.forget.Goals.{then-leave_at, else-leave_at}

pub loop-origin-init : goal.loop-origin-init
loop-origin-init c = record {
  left = λ i. record { live = leaves-none c.args.self.now.live c.is_sound.ensures.kept i; ready = c.args.self.now.ready };
  count = owed-none c.args.self.now.live.requests;
  few = omega arith;
}

pub overflow_add-count : goal.overflow_add-count
overflow_add-count c = search rules

plain : (k : ℕ) → k ≡ k + 0
plain k = omega arith

pub loop-origin-preserved : goal.loop-origin-preserved
loop-origin-preserved c =
    let b : LiveBook = c.args.self.now.live in
    let d : Origin = record { conn = 0; request = 0 } in
    let at : ℕ = c.loop-origin.origin-index in
    let done : List Origin = take at c.args.origins.now in
    let o : Origin = slice_index_or c.args.origins.now at d in
    let one_more : at + 1 ≡ suc at = omega arith in
    let next : take (at + 1) c.args.origins.now ≡ done ++ o ∷ [] = ap (λ k. take k c.args.origins.now) one_more ∙ take-suc c.args.origins.now at d c.loop-origin-test.true in
    let owing : live_owed b (take (at + 1) c.args.origins.now) ≡ live_owed b done + (if is_some (request_at (live_left b done) o) then 1 else 0) = ap (live_owed b) next ∙ owed-then b.requests done o c.is_sound.ensures.sound.apart in
    let held : c.leave_at.result ≡ is_some (request_at (live_left b done) o) = c.leave_at.ensures.held ∙ ap (λ (s : BookState). is_some (request_at s.live.requests o)) c.loop-origin.invariant.left in
    let before : c.loop-origin.count ≡ live_owed b done = c.loop-origin.invariant.count in
    let few : c.loop-origin.count ≤ at = c.loop-origin.invariant.few in
    record {
      left =
          c.leave_at.ensures.left
          ∙ ap (λ (s : BookState). record { live = live_leaves s.live (o ∷ []); ready = s.ready }) c.loop-origin.invariant.left
          ∙ (λ i. record { live = (leaves-then b done o ∙ ap (live_leaves b) (sym next)) i; ready = c.args.self.now.ready });
      count = elim c.if-leave_at.branch [
        | then-leave_at w ↦ w.count-is ∙ ap (λ k. k + 1) before ∙ ap (λ a. live_owed b done + (if a then 1 else 0)) (sym w.if-leave_at.true ∙ held) ∙ sym owing
        | else-leave_at w ↦ w.count-is ∙ before ∙ plain (live_owed b done) ∙ ap (λ a. live_owed b done + (if a then 1 else 0)) (sym w.if-leave_at.false ∙ held) ∙ sym owing
      ];
      few = elim c.if-leave_at.branch [
        | then-leave_at w ↦ let is = w.count-is in omega (arith, is, few)
        | else-leave_at w ↦ let is = w.count-is in omega (arith, is, few)
      ];
    }

pub returns-clause-count : goal.returns-clause-count
returns-clause-count c =
    c.loop-origin.invariant.count ∙ ap (live_owed c.args.self.now.live) (take_all c.loop-origin.origin-index c.args.origins.now c.loop-origin-test.false)

pub returns-clause-left : goal.returns-clause-left
returns-clause-left c =
    c.loop-origin.invariant.left
    ∙ ap (λ os. record { live = live_leaves c.args.self.now.live os; ready = c.args.self.now.ready }) (take_all c.loop-origin.origin-index c.args.origins.now c.loop-origin-test.false)
