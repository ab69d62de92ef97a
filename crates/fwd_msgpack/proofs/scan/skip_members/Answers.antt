use Rattle.std.proofs.Common.{◌+◌, ◌-◌, drop, arith}
use Rattle.std.proofs.lemmas.List.{length-drop, length-take}
use Rattle.fwd_msgpack.proofs.Plains.{members_within}
use Rattle.fwd_msgpack.proofs.Turns.{behind_members}
use Rattle.fwd_msgpack.proofs.scan.skip_members.Goals as goal

pub returns-clause-same : goal.returns-clause-same
returns-clause-same c =
    let run = c.plain_items-items in
    let room = c.args.used + c.room_at-room.result - c.args.used in
    let rest = drop c.args.used c.args.bytes.now in
    let size = length-drop c.args.used c.args.bytes.now in
    let inside = c.room_at-room.ensures.inside in
    let len = run.ensures.fits in
    let members = members_within rest room run.result.0 run.result.1 run.ensures.members (omega (arith, len, length-take room rest)) (omega (arith, size, inside)) in
    rw c.end_values.ensures (behind_members _ _ c.args.bytes.now c.args.used c.args.stack.now run.result.0 run.result.1 members (omega (arith, run.ensures.most, c.innermost.ensures)) run.ensures.none
    (omega (arith, len, length-take room rest, c.room_at-room.ensures.fits)))
