use Rattle.std.proofs.Common.{arith, ◌≡◌, ◌-◌, ◌<◌, ◌≤◌, ◌+◌, ◌∙◌, true, Some, None, ℕ, sym, ap, subst, nat_lt}
use Rattle.std.specs.Prelude.{IfSome}
use Rattle.std.proofs.lemmas.Bool.Decides.{nat_tests}
use Rattle.fwd_source.specs.Live.{opened_source}
use Rattle.fwd_model.specs.Setups.{setup_of}
use Rattle.fwd_model.specs.Live.{is_above}
use Rattle.fwd_run.specs.Pages.{IdsKnown, NextId, last_source, page_count}
use Rattle.fwd_run.proofs.source_ids.SourceIds.accept.Goals as goal
use Rattle.fwd_run.proofs.source_ids.SourceIds.accept.Goals.{then-id-lt-LAST, else-id-lt-LAST}

rises : (n : ℕ) → nat_lt n (n + 1) ≡ true
rises n = grind (arith, nat_tests)

module _ (g : _) (c : goal.After-self-1 g) where
  bounds : (c.in_ok-id.id ≤ last_source) × (is_above c.in_ok-id.id c.self.inside.ids.last ≡ true)
      × (c.self.inside.pages ≡ (2049 + c.in_ok-id.id, page_count - 2049 - c.in_ok-id.id))
  bounds = subst (λ o. IfSome o (λ id. (id ≤ last_source) × (is_above id c.self.inside.ids.last ≡ true)
      × (c.self.inside.pages ≡ (2049 + id, page_count - 2049 - id)))) (c.in_ok-id.was) c.self.invariant.2

  accepted : (c.accept-source.result.id ≡ c.in_ok-id.id)
      × (c.accept-source.result.is ≡ Some (opened_source (setup_of c.self.invariant.0.0 c.self.invariant.1.0 c.in_ok-id.id c.args.nonce c.args.auth)))
      × (c.accept-source.new.self ≡ record c.self.inside.ids { last = Some c.in_ok-id.id })
  accepted = c.accept-source.ensures c.self.invariant.0.0 c.self.invariant.1.0 c.self.invariant.0.1 c.self.invariant.1.1 bounds.1

pub returns-clause-given : goal.returns-clause-given
returns-clause-given g c =
    ap (λ (n : NextId). n.next) (sym c.self.view_is) ∙ c.in_ok-id.was ∙ ap Some (sym (accepted g c).0)

pub returns-clause-rises : goal.returns-clause-rises
returns-clause-rises g c =
    let same = (accepted g c).0 in
    elim c.if-id-lt-LAST.branch [
      | then-id-lt-LAST w ↦ subst (λ o. IfSome o (λ next. c.accept-source.result.id < next)) (sym w.self-is) (omega (arith, same))
      | else-id-lt-LAST w ↦ subst (λ o. IfSome o (λ next. c.accept-source.result.id < next)) (sym w.self-is) tt
    ]

pub returns-clause-rest : goal.returns-clause-rest
returns-clause-rest g c = λ i. record {
  next = c.if-id-lt-LAST.self;
  security = (ap (λ (k : IdsKnown). k.security) (accepted g c).2 ∙ ap (λ (n : NextId). n.security) c.self.view_is) i;
  limits = (ap (λ (k : IdsKnown). k.limits) (accepted g c).2 ∙ ap (λ (n : NextId). n.limits) c.self.view_is) i;
}

pub invariant_of-self : goal.invariant_of-self
invariant_of-self g c = (
  (c.self.invariant.0.0, ap (λ (k : IdsKnown). k.security) (accepted g c).2 ∙ c.self.invariant.0.1),
  (c.self.invariant.1.0, ap (λ (k : IdsKnown). k.limits) (accepted g c).2 ∙ c.self.invariant.1.1),
  elim c.if-id-lt-LAST.branch [
    | then-id-lt-LAST w ↦
        (let next = λ (id : ℕ). (id ≤ last_source) × (is_above id c.accept-source.new.self.last ≡ true)
        × (c.take-page.new.self ≡ (2049 + id, page_count - 2049 - id)) in
        let page : c.take-page.new.self.0 ≡ 2049 + (c.in_ok-id.id + 1) =
        omega (arith, c.take-page.ensures.rest.0, ap (λ (p : ℕ × ℕ). p.0) (bounds g c).2) in
        let left : c.take-page.new.self.1 ≡ page_count - 2049 - (c.in_ok-id.id + 1) =
        omega (arith, c.take-page.ensures.rest.1, ap (λ (p : ℕ × ℕ). p.1) (bounds g c).2) in
        subst (λ o. IfSome o next) (sym w.self-is) (
          omega (arith, w.if-id-lt-LAST.true),
          ap (λ (k : IdsKnown). is_above (c.in_ok-id.id + 1) k.last) (accepted g c).2 ∙ rises c.in_ok-id.id,
          λ i. (page i, left i),
        ))
    | else-id-lt-LAST w ↦
        subst
        (λ o. IfSome o (λ id. (id ≤ last_source) × (is_above id c.accept-source.new.self.last ≡ true)
        × (c.take-page.new.self ≡ (2049 + id, page_count - 2049 - id))))
        (sym w.self-is) tt
  ],
)
