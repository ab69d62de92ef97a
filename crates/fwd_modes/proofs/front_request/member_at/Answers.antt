use Rattle.std.proofs.Common.{take, sym, ap, ◌∙◌}
use Rattle.std.proofs.lemmas.List.{take_rest}
use Rattle.fwd_msgpack.specs.Scans.{first_of}
use Rattle.fwd_msgpack.specs.Values.{bytes_of}
use Rattle.fwd_modes.proofs.Fronting.{stand_cut}
use Rattle.fwd_modes.proofs.front_request.member_at.Goals as goal

pub returns : goal.returns
returns c =
    let rest = take_rest c.args.bytes.now c.args.at in
    let len = c.in-Whole.len in
    stand_cut c.args.limits.bytes c.args.limits.depth c.args.bytes.now (bytes_of c.in-Whole.value) c.args.at len c.requires
    (ap (first_of c.args.limits.bytes c.args.limits.depth) (sym rest) ∙ sym c.in-Whole.ensures.verdict) (c.in-Whole.ensures.front ∙ ap (take len) rest)
