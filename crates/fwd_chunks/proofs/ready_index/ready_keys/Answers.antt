use Rattle.std.proofs.Common.{◌<◌, ◌∷◌, [], ◌++◌, length, map, sym, ap, ◌∙◌, option_copied, arith}
use Rattle.std.proofs.lemmas.List.{append-nil}
use Rattle.std.specs.Prelude.{option_to_list}
use Rattle.fwd_chunks.specs.Slots.{ready_key}
use Rattle.fwd_chunks.proofs.Slotting.{keys-more}
use Rattle.fwd_chunks.proofs.ready_index.ready_keys.Goals as goal
use Rattle.fwd_chunks.proofs.ready_index.ready_keys.Goals.{in-Some+in_ok-push, in_default}

pub loop-place-preserved : goal.loop-place-preserved
loop-place-preserved c =
    let within : c.loop-place.place < length c.args.slab.now.slots = omega (arith, c.loop-place-test.true, c.len-place-end.ensures) in
    let next = keys-more (ready_key c.args.retry) c.args.slab.now.slots c.loop-place.place c.loop-place.keys.items within c.loop-place.invariant in
    elim c.match-get.branch [
      | in-Some+in_ok-push w ↦ ap (λ v. v.items) w.keys-is ∙ w.in_ok-push.ensures.items ∙ ap (λ k. c.loop-place.keys.items ++ k ∷ []) w.ready_key.ensures ∙ ap (λ o. c.loop-place.keys.items ++ map (ready_key c.args.retry) (option_to_list o)) (ap option_copied (sym w.in-Some.is) ∙ c.get.ensures) ∙ next
      | in_default w ↦ ap (λ v. v.items) w.keys-is ∙ sym (append-nil c.loop-place.keys.items) ∙ ap (λ o. c.loop-place.keys.items ++ map (ready_key c.args.retry) (option_to_list o)) (ap option_copied (sym w.in_default.is) ∙ c.get.ensures) ∙ next
    ]
