use Rattle.std.proofs.Common.{◌≡◌, ◌∙◌, ◌++◌, ◌∷◌, ◌+◌, [], suc, length, map, sym, ap, subst, arith}
use Rattle.std.specs.Prelude.{replicate, slice_get}
use Rattle.std.specs.Vec.Iter.{into_iter_items}
use Rattle.fwd_run.specs.Pages.{IsNew, with_trial}
use Rattle.fwd_config.specs.Configs.{parts_known}
use Rattle.fwd_pools.specs.Pools.{all_made_of, made_of, shown, threads_of}
use Rattle.fwd_pools.specs.declared.worker_pools.RunOrigin.{RunOrigin}
use Rattle.fwd_pools.proofs.Rows.{more_there, no_more, one_more}
use Rattle.fwd_pools.proofs.worker_pools.pools_of.Goals as goal

pub loop-config-init : goal.loop-config-init
loop-config-init g c =
    let rest = c.into_iter-config-iterator.ensures.into_iter_gives.0 in
    let hops = c.into_iter-hops.ensures.rest in
    let configs : length (into_iter_items c.into_iter-config-iterator.result) ≡ length c.args.configs.items = ap length rest in
    let none : length c.args.pools.outputs.items ≡ 0 = ap length c.requires.none in record {
      each = ap length hops ∙ c.requires.each ∙ sym configs;
      count = omega (arith, configs, none);
      made = λ i. map shown (c.requires.none i) ++ all_made_of (map parts_known (rest i)) (hops i);
      workers = λ i. c.requires.idle i ++ threads_of (none i) (map parts_known (rest i));
      run = no_more c.args.run.now (length c.args.pools.outputs.items) none;
      begun = λ o config here.
          let at = c.requires.begun o config (ap (λ l. slice_get l o) (sym rest) ∙ here) in
          let same : o ≡ length c.args.pools.outputs.items + o = omega (arith, none) in
          (subst (λ n. IsNew c.args.run.now.reached c.args.run.now.id n (with_trial config)) same at.0, at.1);
    }

pub add-requires-clause-few : goal.add-requires-clause-few
add-requires-clause-few g c =
    let here = ap (λ l. slice_get l 0) c.in-Some.ensures.steps.0 in
    (c.loop-config.invariant.begun 0 c.in-Some.config here).1

pub add-requires-clause-begun : goal.add-requires-clause-begun
add-requires-clause-begun g c =
    let here = ap (λ l. slice_get l 0) c.in-Some.ensures.steps.0 in
    let at = (c.loop-config.invariant.begun 0 c.in-Some.config here).0 in
    let number : c.len-number.result ≡ length c.loop-config.pools.outputs.items =
    c.len-number.ensures ∙ c.loop-config.pools.outputs.ok.0 in
    let same : length c.loop-config.pools.outputs.items + 0 ≡ c.len-number.result = omega (arith, number) in
    let new =
    subst (λ n. IsNew c.args.run.now.reached c.args.run.now.id n (with_trial c.in-Some.config)) same at in
    subst (λ (run : RunOrigin _). IsNew run.reached run.id c.len-number.result (with_trial c.in-Some.config))
    (sym c.loop-config.invariant.run) new

pub loop-config-preserved : goal.loop-config-preserved
loop-config-preserved g c =
    let before = c.loop-config.invariant in
    let outputs = c.loop-config.pools.outputs.items in
    let made = c.add.new.self.outputs.items in
    let workers = c.loop-config.pools.workers.items in
    let config = c.in-Some.config in
    let rest = into_iter_items c.next.new.self in
    let hops = into_iter_items c.next-in-loop-config.new.self in
    let items = c.in-Some.ensures.steps.0 in
    let nexts = c.in-Some-next.ensures.items in
    let number : c.len-number.result ≡ length outputs = c.len-number.ensures ∙ c.loop-config.pools.outputs.ok.0 in
    let left : length (into_iter_items c.loop-config.config-iterator) ≡ suc (length rest) = ap length items in
    let ways : length (into_iter_items c.loop-config.hops) ≡ suc (length hops) = ap length nexts in
    let count : length made ≡ length outputs + 1 = c.in_ok-add.ensures.count in record {
      each = omega (arith, left, ways, before.each);
      count = omega (arith, left, count, before.count);
      made = more_there (map shown outputs) (map shown made) (made_of (parts_known config) c.in-Some-next.next ∷ [])
          (all_made_of (map parts_known rest) hops) (all_made_of (map parts_known c.args.configs.items) c.args.hops.items)
          c.in_ok-add.ensures.made
          ((λ i. map shown outputs ++ all_made_of (map parts_known (sym items i)) (sym nexts i)) ∙ before.made);
      workers = more_there workers c.add.new.self.workers.items (replicate config.workers c.len-number.result)
          (threads_of (length made) (map parts_known rest)) (threads_of 0 (map parts_known c.args.configs.items))
          c.in_ok-add.ensures.workers
          ((λ i. workers ++ (replicate config.workers (number i) ++ threads_of (count i) (map parts_known rest)))
          ∙ ((λ i. workers ++ threads_of (length outputs) (map parts_known (sym items i))) ∙ before.workers));
      run = one_more c.args.run.now c.loop-config.run c.add.new.run (length outputs) (length made) before.run
          c.in_ok-add.ensures.run count;
      begun = λ o other here.
          let at = before.begun (suc o) other (ap (λ l. slice_get l (suc o)) items ∙ here) in
          let same : length outputs + suc o ≡ length made + o = omega (arith, count) in
          (subst (λ n. IsNew c.args.run.now.reached c.args.run.now.id n (with_trial other)) same at.0, at.1);
    }
