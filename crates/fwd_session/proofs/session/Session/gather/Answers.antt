use Rattle.std.proofs.Common.{rules, ◌≡◌, ◌+◌, ◌++◌, take, drop, ap, ◌∙◌}
use Rattle.std.specs.List.{concat}
use Rattle.fwd_session.specs.Live.{LiveSession}
use Rattle.fwd_session.proofs.Gathering.{IsGathered, gathered_both}
use Rattle.fwd_session.proofs.session.Session.gather.Goals as goal

pub returns-clause-bytes : goal.returns-clause-bytes
returns-clause-bytes c =
    let s = c.self.inside in
    let room = c.args.room.now in
    let n = c.gather-filled.result in
    let m = c.gather.result in
    let greeting : IsGathered s.greeting room c.gather-filled.new.room n = record { most = c.gather-filled.ensures.count; is = c.gather-filled.ensures.bytes } in
    let front : c.split_at_mut.result.0.now ≡ take n c.gather-filled.new.room = search rules in
    let rest : c.split_at_mut.result.1.now ≡ drop n c.gather-filled.new.room = search rules in
    let frames : IsGathered (concat s.frames) c.split_at_mut.result.1.now c.gather.new.room m = record { most = c.gather.ensures.count; is = c.gather.ensures.bytes } in
    let both = gathered_both s.greeting (concat s.frames) room c.gather-filled.new.room c.split_at_mut.result.0.now c.split_at_mut.result.1.now c.gather.new.room n m greeting front rest frames in
    both.is ∙ ap (λ (v : LiveSession). take (n + m) v.waiting ++ drop (n + m) room) c.self.view_is
