use Rattle.std.proofs.Common.{◌≡◌, Some, refl, sym, subst}
use Rattle.std.specs.Prelude.{IsSome, IfSome, option_map}
use Rattle.fwd_book.specs.declared.connection_index.Ends.{Ends}
use Rattle.fwd_book.specs.Links.{ends_at}
use Rattle.fwd_book.proofs.Standing.{greatest-written, greatest-left}
use Rattle.fwd_book.proofs.connection_index.leave_ends.Goals as goal

pub returns-in-None-None-clause-greatest : goal.returns-in-None-None-clause-greatest
returns-in-None-None-clause-greatest c = λ n.
    subst (λ o. IfSome o (λ e. option_map (λ (d : Ends). d.greatest) (ends_at c.args.ends.now.entries n) ≡ Some e.greatest)) (sym (c.swap_remove.ensures.updates.0 n))
    (greatest-left (ends_at c.args.ends.now.entries) c.args.conn n)

pub returns-in-Some-clause-greatest : goal.returns-in-Some-clause-greatest
returns-in-Some-clause-greatest c = λ n.
    let new : Ends = record { first = c.in-None-Some.first; last = c.in-Some.ends.now.last; greatest = c.in-Some.ends.now.greatest } in
    subst (λ o. IfSome o (λ e. option_map (λ (d : Ends). d.greatest) (ends_at c.args.ends.now.entries n) ≡ Some e.greatest))
    (sym (((c.get_mut.follows.holds new).3 (subst IsSome c.in-Some.ensures.value refl)).0 n))
    (greatest-written (ends_at c.args.ends.now.entries) c.args.conn n c.in-Some.ends.now new (sym c.in-Some.ensures.value) refl)

pub returns-in-Some-get_mut-clause-greatest : goal.returns-in-Some-get_mut-clause-greatest
returns-in-Some-get_mut-clause-greatest c = λ n.
    let new : Ends = record { first = c.in-Some-get_mut.ends.now.first; last = c.in-Some-None.last; greatest = c.in-Some-get_mut.ends.now.greatest } in
    subst (λ o. IfSome o (λ e. option_map (λ (d : Ends). d.greatest) (ends_at c.args.ends.now.entries n) ≡ Some e.greatest))
    (sym (((c.get_mut-in-Some-None.follows.holds new).3 (subst IsSome c.in-Some-get_mut.ensures.value refl)).0 n))
    (greatest-written (ends_at c.args.ends.now.entries) c.args.conn n c.in-Some-get_mut.ends.now new (sym c.in-Some-get_mut.ensures.value) refl)
