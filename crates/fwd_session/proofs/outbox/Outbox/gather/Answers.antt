use Rattle.std.proofs.Common.{rules, ◌≡◌, ◌+◌, ◌<◌, ◌++◌, List, ℕ, length, take, drop, ap, subst, sym, ◌∙◌, arith}
use Rattle.std.specs.List.{concat}
use Rattle.fwd_session.proofs.Gathering.{IsGathered, gathered_both, gathered_full, next_frame, frames_behind}
use Rattle.fwd_session.proofs.outbox.Outbox.gather.Goals as goal

pub loop-place-preserved : goal.loop-place-preserved
loop-place-preserved c =
    let frames : List (List ℕ) = c.self.inside.frames.items in
    let room = c.args.room.now in
    let l = c.loop-place in
    let frame : List ℕ = c.index.result.now in
    let there : l.place < length frames = omega (arith, c.loop-place-test.true, c.len-place-end.ensures, c.self.inside.frames.ok) in
    let front : c.split_at_mut.result.0.now ≡ take l.filled l.room = search rules in
    let rest : c.split_at_mut.result.1.now ≡ drop l.filled l.room = search rules in
    let new : IsGathered frame c.split_at_mut.result.1.now c.gather-filled.new.room c.gather-filled.result = record { most = c.gather-filled.ensures.count; is = c.gather-filled.ensures.bytes } in
    let both = gathered_both (concat (take l.place frames)) frame room l.room c.split_at_mut.result.0.now c.split_at_mut.result.1.now c.gather-filled.new.room l.filled c.gather-filled.result l.invariant.gathered front rest new in
    let next : concat (take l.place frames) ++ frame ≡ concat (take (l.place + 1) frames) =
    ap (λ f. concat (take l.place frames) ++ f) c.index.ensures ∙ sym (next_frame frames l.place frame there) in
    record {
      within = omega (arith, there);
      gathered = subst (λ bytes. IsGathered bytes room (c.split_at_mut.result.0.now ++ c.gather-filled.new.room) (l.filled + c.gather-filled.result)) next both;
    }

full : (c : goal.Then-filled-room)
    → IsGathered (concat c.args.self.now) c.args.room.now c.loop-place.room c.loop-place.filled
full c =
    let frames : List (List ℕ) = c.self.inside.frames.items in
    let l = c.loop-place in
    subst (λ bytes. IsGathered bytes c.args.room.now l.room l.filled) (sym (frames_behind frames l.place) ∙ ap concat c.self.view_is)
    (gathered_full (concat (take l.place frames)) (concat (drop l.place frames)) c.args.room.now l.room l.filled l.invariant.gathered (omega (arith, c.if-filled-room.true, l.auto.room)))

pub returns-then-filled-room-clause-count : goal.returns-then-filled-room-clause-count
returns-then-filled-room-clause-count c = (full c).most

pub returns-then-filled-room-clause-bytes : goal.returns-then-filled-room-clause-bytes
returns-then-filled-room-clause-bytes c = (full c).is
