use Rattle.std.proofs.Common.{arith, ◌≡◌, ◌+◌, ◌++◌, ◌∷◌, [], suc, length, sym, ap, subst}
use Rattle.std.specs.Prelude.{All}
use Rattle.std.specs.Vec.Iter.{into_iter_items}
use Rattle.std.proofs.lemmas.List.{length_push}
use Rattle.fwd_history.specs.Histories.{Comes}
use Rattle.fwd_reader.specs.Ends.{IsLast}
use Rattle.fwd_reader.proofs.Ending.{one_ends}
use Rattle.fwd_reader.proofs.Told.{further}
use Rattle.fwd_reader.proofs.output.end_all.Goals as goal

pub loop-output-preserved : goal.loop-output-preserved
loop-output-preserved g c =
    let before = c.loop-output.invariant in
    let all = c.with-all.result in
    let ended = c.in_ok-ended.ended in
    let last = c.loop-output.last.items in
    let rest = into_iter_items c.next.new.self in
    let left : length (into_iter_items c.loop-output.output-iterator) ≡ suc (length rest) = ap length c.in-Some.ensures.steps.0 in
    let longer : length (last ++ ended ∷ []) ≡ length last + 1 = length_push last ended in
    let onward : Comes c.loop-output.all all = c.with-all.ensures.0 in
    let known : Comes ended.1.past all = subst (λ past. Comes past all) c.reached.ensures c.with-all.ensures.1 in
    let pushed : c.push.new.self.items ≡ last ++ ended ∷ [] = c.in_ok-push.ensures.items in
    let now : length c.push.new.self.items ≡ length (last ++ ended ∷ []) = ap length pushed in
    let each = one_ends c.loop-output.all all last ended onward before.each (record { adds_up = c.in_ok-ended.ensures.adds_up; report = c.in_ok-ended.ensures.report; onward = known }) in
    record {
      count = omega (arith, left, longer, now, before.count);
      each = subst (All (IsLast all)) (sym pushed) each;
      onward = further c.args.reached.now c.loop-output.all all before.onward onward;
    }
