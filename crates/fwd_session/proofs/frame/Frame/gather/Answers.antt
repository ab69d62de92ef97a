use Rattle.std.proofs.Common.{rules, ◌≡◌, ◌+◌, ◌++◌, take, drop, ap, ◌∙◌}
use Rattle.fwd_session.proofs.Gathering.{IsGathered, gathered_both}
use Rattle.fwd_session.proofs.frame.Frame.gather.Goals as goal

pub returns-clause-bytes : goal.returns-clause-bytes
returns-clause-bytes c =
    let f = c.self.inside in
    let room = c.args.room.now in
    let n = c.gather-head.result in
    let m = c.gather.result in
    let head : IsGathered f.head room c.gather-head.new.room n = record { most = c.gather-head.ensures.count; is = c.gather-head.ensures.bytes } in
    let front : c.split_at_mut.result.0.now ≡ take n c.gather-head.new.room = search rules in
    let rest : c.split_at_mut.result.1.now ≡ drop n c.gather-head.new.room = search rules in
    let entries : IsGathered f.entries c.split_at_mut.result.1.now c.gather.new.room m = record { most = c.gather.ensures.count; is = c.gather.ensures.bytes } in
    let two = gathered_both f.head f.entries room c.gather-head.new.room c.split_at_mut.result.0.now c.split_at_mut.result.1.now c.gather.new.room n m head front rest entries in
    let front-2 : c.split_at_mut-2.result.0.now ≡ take (n + m) (c.split_at_mut.result.0.now ++ c.gather.new.room) = search rules in
    let rest-2 : c.split_at_mut-2.result.1.now ≡ drop (n + m) (c.split_at_mut.result.0.now ++ c.gather.new.room) = search rules in
    let tail : IsGathered f.tail c.split_at_mut-2.result.1.now c.gather-2.new.room c.gather-2.result = record { most = c.gather-2.ensures.count; is = c.gather-2.ensures.bytes } in
    let all = gathered_both (f.head ++ f.entries) f.tail room (c.split_at_mut.result.0.now ++ c.gather.new.room) c.split_at_mut-2.result.0.now c.split_at_mut-2.result.1.now c.gather-2.new.room (n + m) c.gather-2.result two front-2 rest-2 tail in
    all.is ∙ ap (λ bytes. take (n + m + c.gather-2.result) bytes ++ drop (n + m + c.gather-2.result) room) c.self.view_is
