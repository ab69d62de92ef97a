use Rattle.std.proofs.Common.{◌∙◌}
use Rattle.fwd_msgpack.proofs.Parts.{some_row}
use Rattle.fwd_msgpack.proofs.Rows.{row_starts}
use Rattle.fwd_msgpack.proofs.Seen.{seen_whole}
use Rattle.fwd_msgpack.proofs.members.cut_len.Goals as goal

pub unreachable-requires : goal.unreachable-requires
unreachable-requires c =
    let row = c.args.row.now in
    let starts = row_starts row c.requires.row (some_row row c.requires.some) in
    let whole = seen_whole c.cut.result starts.0 (c.cut.ensures.verdict ∙ starts.1) in
    c.in_default.not-Whole whole.0 whole.1.0 whole.1.1
