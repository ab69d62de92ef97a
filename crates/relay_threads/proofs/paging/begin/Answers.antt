use Rattle.std.proofs.Common.{◌≡◌, ◌∙◌, ◌++◌, ℕ, List, [], ◌∷◌, Some, refl, sym, ap, subst, length}
use Rattle.std.specs.Prelude.{slice_get}
use Rattle.fwd_run.specs.Pages.{IdsKnown, IsNew, with_trial}
use Rattle.fwd_run.specs.Runs.{RunEvent, limits_at, security_at}
use Rattle.relay_threads.proofs.paging.begin.Goals as goal

-- the last one stands behind the others
last-at : {X : Type 0} (xs : List X) (x : X) → slice_get (xs ++ x ∷ []) (length xs) ≡ Some x
last-at [] x = refl
last-at (y ∷ xs) x = last-at xs x

pub parts_of-requires-clause-begun : goal.parts_of-requires-clause-begun
parts_of-requires-clause-begun g c =
    let own = c.in-Some.own in
    let count = c.len-others.result in
    let at : slice_get c.in_ok-config.config.outputs count ≡ Some own =
    ap (λ xs. slice_get xs count) (sym c.into_vec-outputs.ensures ∙ c.in-Some.ensures.items)
    ∙ (ap (slice_get (c.pop.new.self.items ++ own ∷ [])) (c.len-others.ensures ∙ c.pop.new.self.ok.0) ∙ last-at c.pop.new.self.items own) in
    subst (λ past. IsNew past c.in_ok-config.config.run count (with_trial own)) (sym c.again.ensures)
    (c.open_run-reached.ensures.outputs count own at)

pub new-ids-requires-clause-security : goal.new-ids-requires-clause-security
new-ids-requires-clause-security g c = (
  c.in_ok-config.config.security,
  ap (λ (k : IdsKnown). k.security) c.new.ensures
      ∙ (ap (λ (p : ℕ × List RunEvent). security_at p.1) c.open_run-reached.ensures.page ∙ c.open_run-reached.ensures.security),
)

pub new-ids-requires-clause-limits : goal.new-ids-requires-clause-limits
new-ids-requires-clause-limits g c = (
  c.in_ok-config.config.limits,
  ap (λ (k : IdsKnown). k.limits) c.new.ensures
      ∙ (ap (λ (p : ℕ × List RunEvent). limits_at p.1) c.open_run-reached.ensures.page ∙ c.open_run-reached.ensures.limits),
)
