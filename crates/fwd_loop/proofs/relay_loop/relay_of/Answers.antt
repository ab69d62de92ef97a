use Rattle.std.proofs.Common.{◌≡◌, ◌∙◌, ◌+◌, ◌-◌, ◌*◌, ℕ, List, length, map, sym, ap, subst, arith}
use Rattle.std.specs.Prelude.{IfOk, slice_get}
use Rattle.fwd_config.specs.Configs.{parts_known}
use Rattle.fwd_pools.specs.Pools.{all_made_of, shown}
use Rattle.fwd_pools.specs.declared.worker_pools.RunOrigin.{RunOrigin}
use Rattle.fwd_run.specs.Pages.{IsNew, with_trial}
use Rattle.fwd_run.specs.Runs.{RunEvent, limits_at, security_at}
use Rattle.fwd_loop.specs.Loops.{LoopShown}
use Rattle.fwd_loop.proofs.Outputs.{few_at}
use Rattle.fwd_loop.proofs.relay_loop.relay_of.Goals as goal

pub pools_of-requires-clause-begun : goal.pools_of-requires-clause-begun
pools_of-requires-clause-begun g c = λ o config here.
    let there = ap (λ l. slice_get l o) (sym c.into_vec.ensures) ∙ here in
    let new = c.open_run-reached.ensures.outputs o config there in (
      subst (λ past. IsNew past c.args.parts.config.run o (with_trial config)) (sym c.again.ensures) new,
      few_at c.args.parts.config.outputs o config c.requires.workers there,
    )

pub pools_of-requires-clause-pages : goal.pools_of-requires-clause-pages
pools_of-requires-clause-pages g c =
    let first : c.take-ids.new.self.0 ≡ 1 =
    c.take-ids.ensures.rest.0 ∙ ap (λ (p : ℕ × ℕ). p.0 + 1) c.requires.pages in
    let left : c.take-ids.new.self.1 ≡ 18446744073709551614 =
    c.take-ids.ensures.rest.1 ∙ ap (λ (p : ℕ × ℕ). p.1 - 1) c.requires.pages in
    let count : length c.into_vec.result.items ≡ length c.args.parts.config.outputs =
    ap length c.into_vec.ensures in (first, omega (arith, left, count, c.requires.few))

pub source_ids-requires-clause-pages : goal.source_ids-requires-clause-pages
source_ids-requires-clause-pages g c =
    let first : c.take-ids.new.self.0 ≡ 1 =
    c.take-ids.ensures.rest.0 ∙ ap (λ (p : ℕ × ℕ). p.0 + 1) c.requires.pages in
    let left : c.take-ids.new.self.1 ≡ 18446744073709551614 =
    c.take-ids.ensures.rest.1 ∙ ap (λ (p : ℕ × ℕ). p.1 - 1) c.requires.pages in
    let count : length c.into_vec.result.items ≡ c.len-count.result =
    ap length c.into_vec.ensures ∙ sym c.len-count.ensures in
    let next : c.take-ids.new.self.0 + 32 * length c.into_vec.result.items ≡ 1 + 32 * c.len-count.result =
    omega (arith, first, count) in
    let rest : c.take-ids.new.self.1 - 32 * length c.into_vec.result.items ≡ 18446744073709551614 - 32 * c.len-count.result =
    omega (arith, left, count) in
    ap (λ (run : RunOrigin _). run.pages) c.in_ok-pools.ensures.run ∙ (λ i. (next i, rest i))

pub source_ids-requires-clause-security : goal.source_ids-requires-clause-security
source_ids-requires-clause-security g c = (
  c.args.parts.config.security,
  ap (λ (p : ℕ × List RunEvent). security_at p.1) c.open_run-reached.ensures.page
      ∙ c.open_run-reached.ensures.security,
)

pub source_ids-requires-clause-limits : goal.source_ids-requires-clause-limits
source_ids-requires-clause-limits g c = (
  c.args.parts.config.limits,
  ap (λ (p : ℕ × List RunEvent). limits_at p.1) c.open_run-reached.ensures.page
      ∙ c.open_run-reached.ensures.limits,
)

pub returns : goal.returns
returns g c =
    let made : map shown c.in_ok-pools.pools.outputs.items ≡ all_made_of (map parts_known c.args.parts.config.outputs) c.args.parts.hops.items =
    c.in_ok-pools.ensures.made ∙ ap (λ cs. all_made_of (map parts_known cs) c.args.parts.hops.items) c.into_vec.ensures in
    subst (λ (shown : LoopShown). IfOk c.loop_of.result (λ relay. relay ≡ shown))
    (λ i. record { outputs = made i; routes = c.args.parts.config.routes }) c.loop_of.ensures
