use Rattle.std.proofs.Common.{rules, arith, ◌<◌, Option, subst, ◌≡◌, ℕ, ◌%◌, length, max, None, slice_index_or, sym, ap, ◌∙◌, vec_len}
use Rattle.std.specs.Prelude.{IfSome}
use Rattle.fwd_base.specs.Tallies.{live_is_over}
use Rattle.fwd_failover.proofs.Rounds.{first_of_three}
use Rattle.fwd_failover.proofs.Orders.{choice_within}
use Rattle.fwd_failover.proofs.Histories.{looked_on, chosen_by}
use Rattle.fwd_failover.proofs.servers.Servers.choose.Goals as goal

-- the three looks, one after the other, are one look along the worker's order
pub returns-clause-choice : goal.returns-clause-choice
returns-clause-choice c =
    let a = c.self.inside in
    let counted : vec_len a.primaries ≡ length a.primaries.items = sym c.deref.ensures.len ∙ ap length c.deref.ensures.value in
    rw (← c.self.view_is, c.or-2.ensures, c.or.ensures, c.first_usable.ensures, c.first_usable-2.ensures, c.first_usable-3.ensures)
    (rw (c.split_at.ensures.front, c.split_at.ensures.back, c.deref.ensures.value, c.deref-2.ensures.value, c.len.ensures, counted, c.from.ensures, c.max-self-inside.ensures)
    (first_of_three (λ server. live_is_over a.retry.wait a.retry.max (slice_index_or a.losses.items server None) (max a.moment c.args.now))
    (c.args.worker % length a.primaries.items) a.primaries.items a.standbys.items))

pub returns-clause-after : goal.returns-clause-after
returns-clause-after c = search rules

pub returns-clause-history : goal.returns-clause-history
returns-clause-history c = λ s h shows. looked_on s h _ _ c.args.now (returns-clause-after c) shows

pub returns-clause-choice_by_history : goal.returns-clause-choice_by_history
returns-clause-choice_by_history c = λ s h shows. chosen_by s h c.args.self.now c.args.worker c.args.now c.or-2.result (rw (← c.self.view_is) (omega arith)) (returns-clause-choice c) shows

pub returns-clause-known : goal.returns-clause-known
returns-clause-known c =
    let P : Option ℕ → Type 0 = λ o. IfSome o (λ k. k < length c.args.self.now.losses) in
    subst P (sym (returns-clause-choice c))
    (choice_within (length c.args.self.now.losses) c.args.self.now c.args.worker (max c.args.self.now.moment c.args.now)
    (rw (← c.self.view_is) c.self.invariant.1) (rw (← c.self.view_is) c.self.invariant.2))
