use Rattle.std.proofs.Common.{◌≡◌, ◌+◌, ◌∷◌, ◌++◌, [], take, length, ap, sym, ◌∙◌, arith}
use Rattle.std.proofs.lemmas.List.{length-append, take_more}
use Rattle.fwd_core.specs.Lanes.{new_live_lane, new_live_lanes}
use Rattle.fwd_core.proofs.OpeningLemmas.{new_lanes-length, new_lanes-more}
use Rattle.fwd_core.proofs.state.lanes_of.Goals as goal

pub loop-config-preserved : goal.loop-config-preserved
loop-config-preserved c =
    let at = c.loop-config.invariant in
    let run = c.args.run in
    let cs = c.args.configs.now in
    let i = c.loop-config.config-index in
    let x = c.config-item.result in
    let ls = c.loop-config.lanes.items in
    let taken : take (i + 1) cs ≡ take i cs ++ x ∷ [] = take_more cs i x c.loop-config-test.true ∙ ap (λ y. take i cs ++ y ∷ []) (sym c.config-item.is) in
    let lane = new_live_lane run (length ls) x in
    let place : c.len-place.result ≡ length ls = c.len-place.ensures ∙ c.loop-config.lanes.ok.0 in
    let pushed : c.push.new.self.items ≡ ls ++ lane ∷ [] =
    c.in_ok-push.ensures.items ∙ ap (λ l. ls ++ l ∷ []) (c.in_ok-new.ensures ∙ ap (λ n. new_live_lane run n x) place) in
    let long : length ls ≡ length (take i cs) = ap length at.all ∙ new_lanes-length run 0 (take i cs) in record {
      all = pushed ∙ ap (λ ms. ms ++ lane ∷ []) at.all ∙ sym (new_lanes-more run 0 (length ls) (take i cs) x (omega (arith, long)))
          ∙ ap (new_live_lanes run 0) (sym taken);
      count = omega (arith, at.count, ap length pushed, length-append ls (lane ∷ []));
    }
