use Rattle.std.proofs.Common.{sym}
use Rattle.fwd_msgpack.specs.Values.{bytes_of}
use Rattle.fwd_modes.specs.Readings.{kept}
use Rattle.fwd_modes.proofs.Fronting.{one_holds}
use Rattle.fwd_modes.proofs.front_request.one_at.Goals as goal

pub returns : goal.returns
returns c =
    let time = c.in_ok-time.time in
    let fields = c.in_ok-fields.fields in
    one_holds c.args.limits.depth c.args.bytes.now (bytes_of time.value) fields.bytes.now (kept c.in_ok-of_map.field-0)
    c.args.at time.end fields.end c.in_ok-time.ensures c.in_ok-fields.ensures.stand (c.tells_message.ensures c.if-not-tells_message.false) (sym c.in_ok-of_map.ensures)
