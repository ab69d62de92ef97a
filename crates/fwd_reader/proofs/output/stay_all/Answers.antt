use Rattle.std.proofs.Common.{arith, ◌≡◌, ◌+◌, ◌++◌, ◌∷◌, [], suc, length, sym, ap, subst}
use Rattle.std.specs.Prelude.{All}
use Rattle.std.specs.Vec.Iter.{into_iter_items}
use Rattle.std.proofs.lemmas.List.{length_push}
use Rattle.std.proofs.lemmas.List.Elements.{All-head, All-nil, All-push, All-tail}
use Rattle.fwd_chunks.specs.TagCounts.{AddsUp}
use Rattle.fwd_reader.specs.Ends.{IsLast, IsTrueAfter}
use Rattle.fwd_reader.proofs.Ending.{one_stays}
use Rattle.fwd_reader.proofs.output.stay_all.Goals as goal

pub loop-ended-init : goal.loop-ended-init
loop-ended-init g c =
    let reached = c.args.reached.now in
    let none = c.in_ok-reports.ensures.items in
    let items = c.into_iter-ended-iterator.ensures.into_iter_gives.0 in
    let count : length c.in_ok-reports.reports.items ≡ 0 = ap length none in
    let all : length (into_iter_items c.into_iter-ended-iterator.result) ≡ length c.args.last.items = ap length items in
    record {
      count = omega (arith, count, all);
      left = subst (All (IsLast reached)) (sym items) c.requires;
      add_up = subst (All AddsUp) (sym none) (All-nil AddsUp);
      reached = subst (All (IsTrueAfter reached)) (sym none) (All-nil (IsTrueAfter reached));
    }

pub loop-ended-preserved : goal.loop-ended-preserved
loop-ended-preserved g c =
    let before = c.loop-ended.invariant in
    let reached = c.args.reached.now in
    let ended = c.in-Some.ended in
    let reports = c.loop-ended.reports.items in
    let rest = into_iter_items c.next.new.self in
    let items : into_iter_items c.loop-ended.ended-iterator ≡ ended ∷ rest = c.in-Some.ensures.steps.0 in
    let left : length (into_iter_items c.loop-ended.ended-iterator) ≡ suc (length rest) = ap length items in
    let lasts : All (IsLast reached) (ended ∷ rest) = subst (All (IsLast reached)) items before.left in
    let last : IsLast reached ended = All-head (IsLast reached) ended rest lasts in
    let longer : length (reports ++ ended.0 ∷ []) ≡ length reports + 1 = length_push reports ended.0 in
    let pushed : c.push.new.self.items ≡ reports ++ ended.0 ∷ [] = c.in_ok-push.ensures.items in
    let now : length c.push.new.self.items ≡ length (reports ++ ended.0 ∷ []) = ap length pushed in
    record {
      count = omega (arith, left, longer, now, before.count);
      left = All-tail (IsLast reached) ended rest lasts;
      add_up = subst (All AddsUp) (sym pushed) (All-push AddsUp reports ended.0 before.add_up last.adds_up);
      reached = subst (All (IsTrueAfter reached)) (sym pushed) (All-push (IsTrueAfter reached) reports ended.0 before.reached (one_stays reached ended last c.stays.ensures));
    }
