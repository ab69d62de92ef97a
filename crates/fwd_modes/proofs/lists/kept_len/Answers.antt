use Rattle.std.proofs.Common.{sym, ◌∙◌}
use Rattle.fwd_msgpack.specs.Values.{bytes_of}
use Rattle.fwd_modes.proofs.Spelled.{pair_kept}
use Rattle.fwd_modes.proofs.lists.kept_len.Goals as goal

pub returns-in-Some : goal.returns-in-Some
returns-in-Some c = pair_kept c.args.limits.bytes c.args.limits.depth c.args.bytes.now (bytes_of c.in-Some.pair.first) c.in-Some.pair.len c.in-Some.ensures (sym c.is_time.ensures ∙ c.if-is_time.true)
