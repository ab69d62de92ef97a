use Rattle.std.proofs.Common.{◌≡◌, ℕ, ◌<◌, length, Bool, true, false, refl, rules, sym, ap, ◌∙◌, subst}
use Rattle.std.specs.List.{All}
use Rattle.std.proofs.lemmas.List.{length-replicate}
use Rattle.fwd_failover.specs.Choices.{places}
use Rattle.fwd_failover.proofs.Numbers.{some_primary}
use Rattle.fwd_failover.proofs.Kept.{live-opening}
use Rattle.fwd_failover.proofs.Orders.{places_within}
use Rattle.fwd_failover.proofs.servers.Servers.new.Goals as goal

pub returns : goal.returns
returns c =
    let none = c.in_ok-vec.ensures.items_if_clones_equal (search rules) in
    rw (live-opening, c.in_ok-numbers_of.ensures, c.in_ok-numbers_of-2.ensures, none) refl

pub invariant_of-result : goal.invariant_of-result
invariant_of-result c =
    let none = c.in_ok-vec.ensures.items_if_clones_equal (search rules) in
    let count : length c.args.standby.now ≡ length c.in_ok-vec.field-0.items = sym (ap length none ∙ length-replicate _ _) in
    let within = λ (kind : Bool). subst (λ (n : ℕ). All (λ p. p < n) (places kind c.args.standby.now)) count (places_within kind c.args.standby.now) in
    rw (c.in_ok-numbers_of.ensures, c.in_ok-numbers_of-2.ensures) (some_primary c.args.standby.now c.requires.not_all_standby, within false, within true)
