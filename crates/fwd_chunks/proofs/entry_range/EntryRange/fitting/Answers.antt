use Rattle.std.proofs.Common.{sym, ◌∙◌, arith}
use Rattle.fwd_chunks.specs.Parts.{entries_in}
use Rattle.fwd_chunks.proofs.Filling.{fitting-all}
use Rattle.fwd_chunks.proofs.entry_range.EntryRange.fitting.Goals as goal

pub returns-in-Some : goal.returns-in-Some
returns-in-Some c = c.len.ensures ∙ sym (fitting-all c.args.limit c.args.used (entries_in c.args.self) (omega (arith, c.if-size-room.true, c.size.ensures.value, c.in-Some.ensures.0, c.in-Some.ensures.1)))
