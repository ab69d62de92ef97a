use Rattle.std.proofs.Common.{arith, ◌≡◌, ◌<◌, ◌+◌, ℕ, suc, Bool, false, List, ◌∷◌, [], Some, take, sym, ap, subst, ◌∙◌}
use Rattle.std.specs.Prelude.{IfSome, IfNone, ◌||◌, slice_get}
use Rattle.std.specs.List.{list_any}
use Rattle.std.proofs.lemmas.List.Folds.{list_any-append}
use Rattle.slab.specs.Slab.{get}
use Rattle.fwd_book.specs.Slots.{has_origin, held_at}
use Rattle.fwd_book.specs.Links.{link_of}
use Rattle.fwd_book.proofs.Facts.{none_pass}
use Rattle.fwd_book.proofs.Chaining.{own_there, later_there}
use Rattle.fwd_book.proofs.Linking.{take_next, take_whole}
use Rattle.fwd_book.proofs.Standing.{none-above}
use Rattle.fwd_book.proofs.connection_index.ConnectionIndex.find_at.Goals as goal

pub returns-in_err-ends-clause-none : goal.returns-in_err-ends-clause-none
returns-in_err-ends-clause-none c = λ order chained within few.
    let p : ℕ → Bool = λ k. has_origin c.args.origin (held_at c.args.self.now.kept k) in
    let rs : List ℕ = order c.args.origin.conn in
    subst (λ o. IfNone o (list_any p rs ≡ false)) (sym c.from_residual.ensures)
    (none_pass p rs (none-above c.args.self.now.kept c.args.self.now.ends.entries order chained within c.args.origin
    (subst (λ o. IfSome o (λ e. e.greatest < c.args.origin.request)) c.in_err-ends.ensures.value tt)))

pub returns-then-ends-origin-clause-none : goal.returns-then-ends-origin-clause-none
returns-then-ends-origin-clause-none c = λ order chained within few.
    let p : ℕ → Bool = λ k. has_origin c.args.origin (held_at c.args.self.now.kept k) in
    none_pass p (order c.args.origin.conn) (none-above c.args.self.now.kept c.args.self.now.ends.entries order chained within c.args.origin
    (subst (λ o. IfSome o (λ e. e.greatest < c.args.origin.request)) c.in_ok-ends.ensures.value c.if-ends-origin.true))

pub returns-in_err-slot-clause-none : goal.returns-in_err-slot-clause-none
returns-in_err-slot-clause-none c = λ order chained within few.
    let p : ℕ → Bool = λ k. has_origin c.args.origin (held_at c.args.self.now.kept k) in
    let rs : List ℕ = order c.args.origin.conn in
    let so_far = c.loop.invariant order chained in
    subst (λ o. IfNone o (list_any p rs ≡ false)) (sym c.from_residual-in_err-slot.ensures)
    (sym (ap (list_any p) (take_whole rs c.loop.counter (sym so_far.1 ∙ c.in_err-slot.was))) ∙ so_far.0)

pub returns-in_err-next-clause-none : goal.returns-in_err-next-clause-none
returns-in_err-next-clause-none c = λ order chained within few.
    let so_far = c.loop.invariant order chained in
    absurd (own_there (get c.args.self.now.kept) (get c.args.self.now.kept) c.args.self.now.ends.entries c.args.self.now.ends.entries order chained c.args.origin.conn c.loop.counter c.in_ok-slot.slot (sym so_far.1 ∙ c.in_ok-slot.was) (ap (link_of c.args.origin.conn) (sym c.in_err-next.ensures)))

pub loop-preserved : goal.loop-preserved
loop-preserved c = λ order chained.
    let p : ℕ → Bool = λ k. has_origin c.args.origin (held_at c.args.self.now.kept k) in
    let rs : List ℕ = order c.args.origin.conn in
    let so_far = c.loop.invariant order chained in
    let at : slice_get rs c.loop.counter ≡ Some c.in_ok-slot.slot = sym so_far.1 ∙ c.in_ok-slot.was in
    let there : get c.args.self.now.kept c.in_ok-slot.slot ≡ Some c.in_ok-next.field-0.now = sym c.in_ok-next.ensures in
    let next : c.loop.counter + 1 ≡ suc c.loop.counter = omega arith in
    let other : p c.in_ok-slot.slot ≡ false = sym c.has_at-in-loop.ensures ∙ c.if-has_at-2.false in (
      ap (list_any p) (take_next rs c.loop.counter (c.loop.counter + 1) c.in_ok-slot.slot next at)
          ∙ list_any-append p (take c.loop.counter rs) (c.in_ok-slot.slot ∷ [])
          ∙ (λ i. so_far.0 i || (other i || false)),
      later_there (get c.args.self.now.kept) (get c.args.self.now.kept) c.args.self.now.ends.entries c.args.self.now.ends.entries order chained c.args.origin.conn c.loop.counter c.in_ok-slot.slot c.in_ok-next.field-0.now there at
          ∙ ap (slice_get rs) (sym next),
    )
