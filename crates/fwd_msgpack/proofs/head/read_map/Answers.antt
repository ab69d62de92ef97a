use Rattle.std.proofs.Common.{◌∙◌, refl, sym, arith}
use Rattle.std.specs.Int.{w16, w32}
use Rattle.fwd_msgpack.specs.declared.head.Head.TheVariants.{Map}
use Rattle.fwd_msgpack.specs.Heads.{row_of, named_rows}
use Rattle.fwd_msgpack.proofs.Readings.{read_whole, read_short}
use Rattle.fwd_msgpack.proofs.head.read_map.Goals as goal

pub returns-in-Some : goal.returns-in-Some
unfolding row_of named_rows
returns-in-Some c = rw c.from.ensures (read_whole w16 Map 0xde c.args.first c.args.rest.now c.in-Some.n refl c.in-222.is (sym c.in-Some.is ∙ c.u16_at.ensures))

pub returns-in-None : goal.returns-in-None
unfolding row_of named_rows
returns-in-None c = read_short w16 Map 0xde c.args.first c.args.rest.now refl c.in-222.is (sym c.in-None.is ∙ c.u16_at.ensures)

pub returns-in-Some-u32_at : goal.returns-in-Some-u32_at
unfolding row_of named_rows
returns-in-Some-u32_at c = read_whole w32 Map 0xdf c.args.first c.args.rest.now c.in-Some-u32_at.n refl (omega arith) (sym c.in-Some-u32_at.is ∙ c.u32_at.ensures)

pub returns-in-None-u32_at : goal.returns-in-None-u32_at
unfolding row_of named_rows
returns-in-None-u32_at c = read_short w32 Map 0xdf c.args.first c.args.rest.now refl (omega arith) (sym c.in-None-u32_at.is ∙ c.u32_at.ensures)
